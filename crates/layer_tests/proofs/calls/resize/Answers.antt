use Rattle.std.proofs.Common.{◌∙◌}
use Rattle.layer_laws.proofs.StandingReallocated.{reallocated-keeps}
use Rattle.layer_tests.proofs.CallLaws.{resized-held}
use Rattle.layer_tests.proofs.calls.resize.Goals as goal

pub returns-clause-ready : goal.returns-clause-ready
returns-clause-ready g c =
    let k = reallocated-keeps _ _ _ _ _ _ _ _ (g.met.L.Layer.made c.args.layer.now) c.requires.ready.stands c.requires.held.out c.reallocate.ensures in
    record { stands = k.stands; opened = c.reallocate.ensures.opened ∙ c.requires.ready.opened }

pub returns-clause-held : goal.returns-clause-held
returns-clause-held g c =
    let k = reallocated-keeps _ _ _ _ _ _ _ _ (g.met.L.Layer.made c.args.layer.now) c.requires.ready.stands c.requires.held.out c.reallocate.ensures in
    resized-held _ _ _ _ _ _ _ _ c.requires.held k c.reallocate.ensures
