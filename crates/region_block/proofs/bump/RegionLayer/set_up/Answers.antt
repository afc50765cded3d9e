use Rattle.std.proofs.Common.{◌∙◌, ap, ℕ, None, is_some, arith}
use Rattle.size_round.specs.Sizes.{up}
use Rattle.layer_laws.proofs.StandingLaws.{allocated-stands, set_up-stands}
use Rattle.region_block.proofs.Opening.{refused-by}
use Rattle.region_block.proofs.SettingUp.{no_bump, asked-granted, asked-refused}
use Rattle.region_block.proofs.Standing.{parent-stands}
use Rattle.region_block.proofs.bump.RegionLayer.set_up.Goals as goal

pub up-size-requires-clause-some : goal.up-size-requires-clause-some
up-size-requires-clause-some g c = let l = c.args.self.now in l.proper.align_some

pub up-size-requires-clause-fits : goal.up-size-requires-clause-fits
up-size-requires-clause-fits g c =
    let l = c.args.self.now in
    let z = l.proper in
    rw c.max.ensures (omega (arith, z.size_most, z.align_most, c.requires.need))

pub set_up-requires-clause-stands : goal.set_up-requires-clause-stands
set_up-requires-clause-stands g c =
    let l = c.args.self.now in
    parent-stands l.size l.align l.bump (g.P.Layer.model l.parent) c.args.space.now (g.met.P.Layer.made l.parent) l.together c.requires.stands

pub overflow_add-result : goal.overflow_add-result
overflow_add-result g c =
    let l = c.args.self.now in
    let t = g.P.Layer.model l.parent in
    let q = refused-by _ _ c.args.space.now _ c.in-Err.refused c.in-Err.ensures.answer in
    let made = g.met.P.Layer.made l.parent in
    let st = parent-stands l.size l.align l.bump t c.args.space.now made l.together c.requires.stands in
    let k = made.regular.taking.names_a_node _ c.args.space.now.cells c.in-Err.refused.node q.refused in
    let n = made.few in
    omega (arith, k, n)

pub allocate-requires-clause-stands : goal.allocate-requires-clause-stands
allocate-requires-clause-stands g c =
    let l = c.args.self.now in
    let t = g.P.Layer.model l.parent in
    set_up-stands t _ c.args.space.now _ _ _ (g.met.P.Layer.made l.parent)
    (parent-stands l.size l.align l.bump t c.args.space.now (g.met.P.Layer.made l.parent) l.together c.requires.stands)
    (l.together ∙ ap is_some (no_bump l.bump t l.size l.align c.requires.shut)) c.in-Ok.ensures

pub tear_down-requires : goal.tear_down-requires
tear_down-requires g c =
    let l = c.args.self.now in
    let t = g.P.Layer.model l.parent in
    let h = set_up-stands t (g.P.Layer.model c.set_up.new.self) c.args.space.now c.set_up.new.space _ _ (g.met.P.Layer.made l.parent)
    (parent-stands l.size l.align l.bump t c.args.space.now (g.met.P.Layer.made l.parent) l.together c.requires.stands)
    (l.together ∙ ap is_some (no_bump l.bump t l.size l.align c.requires.shut)) c.in-Ok.ensures in
    allocated-stands (g.P.Layer.model c.set_up.new.self) _ c.set_up.new.space _ _ None (g.met.P.Layer.made c.set_up.new.self) h c.in-Ok.ensures.opened c.in-None.ensures

pub returns-in-Some : goal.returns-in-Some
returns-in-Some g c =
    let l = c.args.self.now in
    let t = g.P.Layer.model l.parent in
    let b = no_bump l.bump t l.size l.align c.requires.shut in
    asked-granted l.size l.align c.args.need c.up-size.result c.parent_need.result l.bump t (g.P.Layer.model c.set_up.new.self) (g.P.Layer.model c.allocate.new.self)
    c.args.space.now c.set_up.new.space c.allocate.new.space c.in-Ok.field-0 _ c.in-Some.chunk b
    (record { chunk = c.up-size.ensures ∙ ap (λ (n : ℕ). up n l.align) c.max.ensures; parent = c.parent_need.ensures; fits = c.if-size-gt-LIMIT.false })
    (g.met.P.Layer.made l.parent) (g.met.P.Layer.made c.set_up.new.self)
    (parent-stands l.size l.align l.bump t c.args.space.now (g.met.P.Layer.made l.parent) l.together c.requires.stands) (l.together ∙ ap is_some b)
    c.in-Ok.ensures c.in-Some.ensures

pub returns-in-None : goal.returns-in-None
returns-in-None g c =
    let l = c.args.self.now in
    let t = g.P.Layer.model l.parent in
    let b = no_bump l.bump t l.size l.align c.requires.shut in
    let s = parent-stands l.size l.align l.bump t c.args.space.now (g.met.P.Layer.made l.parent) l.together c.requires.stands in
    let k = set_up-stands t (g.P.Layer.model c.set_up.new.self) c.args.space.now c.set_up.new.space _ _ (g.met.P.Layer.made l.parent) s (l.together ∙ ap is_some b) c.in-Ok.ensures in
    asked-refused l.size l.align c.args.need c.up-size.result c.parent_need.result l.bump t (g.P.Layer.model c.set_up.new.self) (g.P.Layer.model c.allocate.new.self) (g.P.Layer.model c.tear_down.new.self)
    c.args.space.now c.set_up.new.space c.allocate.new.space c.tear_down.new.space c.in-Ok.field-0 b
    (record { chunk = c.up-size.ensures ∙ ap (λ (n : ℕ). up n l.align) c.max.ensures; parent = c.parent_need.ensures; fits = c.if-size-gt-LIMIT.false })
    (g.met.P.Layer.made l.parent) (g.met.P.Layer.made c.set_up.new.self) s (l.together ∙ ap is_some b)
    (allocated-stands (g.P.Layer.model c.set_up.new.self) (g.P.Layer.model c.allocate.new.self) c.set_up.new.space c.allocate.new.space c.up-size.result None (g.met.P.Layer.made c.set_up.new.self) k c.in-Ok.ensures.opened c.in-None.ensures)
    c.in-Ok.ensures c.in-None.ensures c.tear_down.ensures
