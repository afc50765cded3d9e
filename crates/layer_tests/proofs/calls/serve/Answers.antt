use Rattle.layer_tests.proofs.CallLaws.{served-held}
use Rattle.layer_tests.proofs.calls.serve.Goals as goal

pub returns-clause-held : goal.returns-clause-held
returns-clause-held g c = served-held _ _ _ _ _ _ (g.met.L.Layer.made c.args.layer.now) (g.met.L.Layer.made c.allocate.new.self) c.requires c.allocate.ensures
