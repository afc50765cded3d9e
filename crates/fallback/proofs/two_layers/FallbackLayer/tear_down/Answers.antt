use Rattle.fallback.proofs.Opening.{beside, torn-first, tears-both_down}
use Rattle.fallback.proofs.two_layers.FallbackLayer.tear_down.Goals as goal

pub tear_down-requires : goal.tear_down-requires
tear_down-requires g c =
    let l = c.args.self.now in
    (beside g.met.P.Layer.made g.met.F.Layer.made l c.args.space.now c.requires).first

pub tear_down-requires-2 : goal.tear_down-requires-2
tear_down-requires-2 g c =
    let l = c.args.self.now in
    (torn-first _ _ _ _ _ (beside g.met.P.Layer.made g.met.F.Layer.made l c.args.space.now c.requires) c.tear_down.ensures).second

pub returns : goal.returns
returns g c =
    let l = c.args.self.now in
    tears-both_down _ _ _ _ _ _ _ (beside g.met.P.Layer.made g.met.F.Layer.made l c.args.space.now c.requires) c.tear_down.ensures c.tear_down-2.ensures
