use Rattle.layer_tests.proofs.CallLaws.{set_up-ready}
use Rattle.layer_tests.proofs.calls.open.Goals as goal

pub returns-clause-ok : goal.returns-clause-ok
returns-clause-ok g c = set_up-ready _ _ _ _ _ _ (g.met.L.Layer.made c.args.layer.now) c.requires.waiting c.set_up.ensures
