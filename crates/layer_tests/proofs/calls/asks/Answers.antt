use Rattle.std.proofs.Common.{◌∙◌}
use Rattle.layer_laws.proofs.FurtherLaws.{owned-keeps}
use Rattle.layer_tests.proofs.calls.asks.Goals as goal

pub returns-clause-ready : goal.returns-clause-ready
returns-clause-ready g c =
    let k = owned-keeps _ _ _ _ _ (g.met.L.Layer.made c.args.layer.now) c.requires.ready.stands c.owns.ensures in
    record { stands = k.stands; opened = c.owns.ensures.opened ∙ c.requires.ready.opened }
