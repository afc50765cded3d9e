use Rattle.std.proofs.Common.{refl, ap, ◌+◌}
use Rattle.fallback.proofs.Opening.{beside, second-shut, set-first, set-second, refuses-first, refuses-second, sets-both_up}
use Rattle.fallback.proofs.two_layers.FallbackLayer.set_up.Goals as goal

pub set_up-requires-clause-stands : goal.set_up-requires-clause-stands
set_up-requires-clause-stands g c =
    let l = c.args.self.now in
    (beside g.met.P.Layer.made g.met.F.Layer.made l c.args.space.now c.requires.stands).first

pub returns-in-Err : goal.returns-in-Err
returns-in-Err g c =
    let l = c.args.self.now in
    refuses-first _ _ _ _ _ _ c.in-Err.refused _ (beside g.met.P.Layer.made g.met.F.Layer.made l c.args.space.now c.requires.stands) c.requires.shut refl c.in-Err.ensures

pub set_up-requires-2-clause-stands : goal.set_up-requires-2-clause-stands
set_up-requires-2-clause-stands g c =
    let l = c.args.self.now in
    (set-first _ _ _ _ _ _ _ (beside g.met.P.Layer.made g.met.F.Layer.made l c.args.space.now c.requires.stands) c.requires.shut c.set_up.ensures).second

pub tear_down-requires : goal.tear_down-requires
tear_down-requires g c =
    let l = c.args.self.now in
    set-second _ _ _ _ _ _ _ _ _ _ (beside g.met.P.Layer.made g.met.F.Layer.made l c.args.space.now c.requires.stands) c.requires.shut (second-shut l c.requires.shut) c.set_up.ensures c.set_up-2.ensures

pub returns-in-Err-set_up : goal.returns-in-Err-set_up
returns-in-Err-set_up g c =
    let l = c.args.self.now in
    refuses-second _ _ _ _ _ _ _ _ _ _ c.in_default.field-0 c.in-Err-set_up.refused _ (beside g.met.P.Layer.made g.met.F.Layer.made l c.args.space.now c.requires.stands) c.requires.shut (second-shut l c.requires.shut) (ap (λ n. c.in-Err-set_up.refused.node + n + 1) c.nodes.ensures) c.in_default.ensures c.in-Err-set_up.ensures c.tear_down.ensures

pub returns : goal.returns
returns g c =
    let l = c.args.self.now in
    sets-both_up _ _ _ _ _ _ _ _ c.in_default.field-0 (beside g.met.P.Layer.made g.met.F.Layer.made l c.args.space.now c.requires.stands) c.requires.shut (second-shut l c.requires.shut) c.in_default.ensures c.in_default-set_up.ensures
