use Rattle.layer_tests.proofs.CallLaws.{torn-waits}
use Rattle.layer_tests.proofs.calls.close.Goals as goal

pub returns-clause-waiting : goal.returns-clause-waiting
returns-clause-waiting g c = torn-waits _ _ _ _ (g.met.L.Layer.made c.args.layer.now) c.requires c.tear_down.ensures
