use Rattle.layer_laws.proofs.StandingLaws.{out-in_space}
use Rattle.layer_laws.proofs.Placement.{out-placed, apart-share_no_byte, out-routed, route-short, out-aligned, open-as_fields, out-set_up}
use Rattle.layer_laws.proofs.standing.out_is_placed.Goals as goal

pub returns-clause-extent : goal.returns-clause-extent
returns-clause-extent c = out-placed

pub returns-clause-space : goal.returns-clause-space
returns-clause-space c = out-in_space

pub returns-clause-apart : goal.returns-clause-apart
returns-clause-apart c = apart-share_no_byte

pub returns-clause-routed : goal.returns-clause-routed
returns-clause-routed c = out-routed

pub returns-clause-route : goal.returns-clause-route
returns-clause-route c = route-short

pub returns-clause-aligned : goal.returns-clause-aligned
returns-clause-aligned c = out-aligned

pub returns-clause-open : goal.returns-clause-open
returns-clause-open c = open-as_fields

pub returns-clause-set_up : goal.returns-clause-set_up
returns-clause-set_up c = out-set_up
