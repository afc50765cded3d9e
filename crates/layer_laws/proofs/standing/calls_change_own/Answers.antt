use Rattle.layer_laws.proofs.StandingLaws.{allocated-changes_own, deallocated-changes_own, set_up-changes_own, torn-changes_own, changes-in_turn}
use Rattle.layer_laws.proofs.Placement.{write-changes_own, member-changes_own}
use Rattle.layer_laws.proofs.standing.calls_change_own.Goals as goal

pub returns-clause-allocate : goal.returns-clause-allocate
returns-clause-allocate c = allocated-changes_own

pub returns-clause-deallocate : goal.returns-clause-deallocate
returns-clause-deallocate c = deallocated-changes_own

pub returns-clause-set_up : goal.returns-clause-set_up
returns-clause-set_up c = set_up-changes_own

pub returns-clause-tear_down : goal.returns-clause-tear_down
returns-clause-tear_down c = torn-changes_own

pub returns-clause-write : goal.returns-clause-write
returns-clause-write c = write-changes_own

pub returns-clause-in_turn : goal.returns-clause-in_turn
returns-clause-in_turn c = changes-in_turn

pub returns-clause-member : goal.returns-clause-member
returns-clause-member c = member-changes_own
