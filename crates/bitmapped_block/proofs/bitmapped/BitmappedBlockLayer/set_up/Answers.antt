use Rattle.std.proofs.Common.{◌≡◌, refl, sym, ◌∙◌, ap, subst, ℕ, ◌+◌, ◌*◌, None, Some, is_some, arith}
use Rattle.layer_rules.specs.Rules.{Rules}
use Rattle.layer_laws.proofs.StandingLaws.{allocated-gives, allocated-stands, out-in_space, set_up-stands}
use Rattle.bitmapped_block.specs.declared.bitmapped.Bitmap.{Bitmap}
use Rattle.bitmapped_block.specs.BitmapProper.{IsProper}
use Rattle.bitmapped_block.specs.BitmapSizes.{IsSized}
use Rattle.bitmapped_block.proofs.SettingUp.{bitmap_in, no_bitmap, is-served, asked-granted, asked-refused}
use Rattle.bitmapped_block.proofs.Standing.{here, parent-stands}
use Rattle.bitmapped_block.proofs.bitmapped.BitmappedBlockLayer.set_up.Goals as goal

pub allocate-requires-clause-stands : goal.allocate-requires-clause-stands
allocate-requires-clause-stands g c =
    let l = c.args.self.now in
    let t = g.P.Layer.model l.parent in
    let m = c.args.space.now in
    set_up-stands t _ m _ _ _ (g.met.P.Layer.made l.parent) (parent-stands l.unit l.count l.bitmap t m (here g.met.P.Layer.made l m c.requires.stands))
    (l.together ∙ ap is_some (no_bitmap l.bitmap t l.unit l.count c.requires.shut)) c.in-Ok.ensures

pub overflow_add-bitmap : goal.overflow_add-bitmap
overflow_add-bitmap g c =
    let l = c.args.self.now in
    let t = g.P.Layer.model l.parent in
    let m = c.args.space.now in
    let h = set_up-stands t (g.P.Layer.model c.set_up.new.self) m c.set_up.new.space _ _ (g.met.P.Layer.made l.parent) (parent-stands l.unit l.count l.bitmap t m (here g.met.P.Layer.made l m c.requires.stands))
    (l.together ∙ ap is_some (no_bitmap l.bitmap t l.unit l.count c.requires.shut)) c.in-Ok.ensures in
    let s = is-served l.unit c.max-count.result c.front-front.result _ (g.P.Layer.model c.set_up.new.self) (g.P.Layer.model c.allocate.new.self) c.set_up.new.space c.allocate.new.space c.in-Some.chunk refl c.front-front.ensures
    c.if-size-gt-LIMIT.false (g.met.P.Layer.made c.set_up.new.self) (g.met.P.Layer.made c.allocate.new.self) h c.in-Ok.ensures.opened c.in-Some.ensures in
    omega (arith, s.base)

pub clear-requires : goal.clear-requires
clear-requires g c =
    let l = c.args.self.now in
    let t = g.P.Layer.model l.parent in
    let m = c.args.space.now in
    let h = set_up-stands t (g.P.Layer.model c.set_up.new.self) m c.set_up.new.space _ _ (g.met.P.Layer.made l.parent) (parent-stands l.unit l.count l.bitmap t m (here g.met.P.Layer.made l m c.requires.stands))
    (l.together ∙ ap is_some (no_bitmap l.bitmap t l.unit l.count c.requires.shut)) c.in-Ok.ensures in
    let s = is-served l.unit c.max-count.result c.front-front.result c.row.result (g.P.Layer.model c.set_up.new.self) (g.P.Layer.model c.allocate.new.self) c.set_up.new.space c.allocate.new.space c.in-Some.chunk c.row.ensures c.front-front.ensures
    c.if-size-gt-LIMIT.false (g.met.P.Layer.made c.set_up.new.self) (g.met.P.Layer.made c.allocate.new.self) h c.in-Ok.ensures.opened c.in-Some.ensures in
    s.words

pub invariant_of-self-in-Some : goal.invariant_of-self-in-Some
invariant_of-self-in-Some g c =
    let l = c.args.self.now in
    let t = g.P.Layer.model l.parent in
    let m = c.args.space.now in
    let h = set_up-stands t (g.P.Layer.model c.set_up.new.self) m c.set_up.new.space _ _ (g.met.P.Layer.made l.parent) (parent-stands l.unit l.count l.bitmap t m (here g.met.P.Layer.made l m c.requires.stands))
    (l.together ∙ ap is_some (no_bitmap l.bitmap t l.unit l.count c.requires.shut)) c.in-Ok.ensures in
    let s = is-served l.unit c.max-count.result c.front-front.result _ (g.P.Layer.model c.set_up.new.self) (g.P.Layer.model c.allocate.new.self) c.set_up.new.space c.allocate.new.space c.in-Some.chunk refl c.front-front.ensures
    c.if-size-gt-LIMIT.false (g.met.P.Layer.made c.set_up.new.self) (g.met.P.Layer.made c.allocate.new.self) h c.in-Ok.ensures.opened c.in-Some.ensures in
    record {
      proper = subst (λ (e : Rules). IsProper l.unit l.count e) (sym (c.in-Some.ensures.frame.rules ∙ c.in-Ok.ensures.frame.rules)) l.proper;
      together = c.in-Some.ensures.opened ∙ c.in-Ok.ensures.opened;
      sized = λ b e. let q : bitmap_in c.in-Some.chunk c.max-count.result c.front-front.result ≡ b = cc in subst (λ (b : Bitmap). IsSized l.unit b) q s.sized;
    }

pub tear_down-requires : goal.tear_down-requires
tear_down-requires g c =
    let l = c.args.self.now in
    let t = g.P.Layer.model l.parent in
    let m = c.args.space.now in
    let h = set_up-stands t (g.P.Layer.model c.set_up.new.self) m c.set_up.new.space _ _ (g.met.P.Layer.made l.parent) (parent-stands l.unit l.count l.bitmap t m (here g.met.P.Layer.made l m c.requires.stands))
    (l.together ∙ ap is_some (no_bitmap l.bitmap t l.unit l.count c.requires.shut)) c.in-Ok.ensures in
    allocated-stands (g.P.Layer.model c.set_up.new.self) _ c.set_up.new.space _ _ None (g.met.P.Layer.made c.set_up.new.self) h c.in-Ok.ensures.opened c.in-None.ensures

pub returns-in-Some : goal.returns-in-Some
returns-in-Some g c =
    let l = c.args.self.now in
    let t = g.P.Layer.model l.parent in
    let m = c.args.space.now in
    let e = no_bitmap l.bitmap t l.unit l.count c.requires.shut in
    let least = l.proper.size.unit_least in
    asked-granted l.unit l.count c.args.need c.max-count.result c.front-front.result c.parent_need.result l.bitmap c.row.result t (g.P.Layer.model c.set_up.new.self) (g.P.Layer.model c.allocate.new.self) m c.set_up.new.space c.allocate.new.space c.clear.new.space
    c.in-Ok.field-0 _ c.in-Some.chunk (omega (arith, least)) e c.row.ensures (record { many = c.max-count.ensures; room = c.front-front.ensures; parent = c.parent_need.ensures; fits = c.if-size-gt-LIMIT.false })
    (g.met.P.Layer.made l.parent) (g.met.P.Layer.made c.set_up.new.self) (g.met.P.Layer.made c.allocate.new.self) (parent-stands l.unit l.count l.bitmap t m (here g.met.P.Layer.made l m c.requires.stands)) (l.together ∙ ap is_some e)
    c.in-Ok.ensures c.in-Some.ensures c.clear.ensures

pub returns-in-None : goal.returns-in-None
returns-in-None g c =
    let l = c.args.self.now in
    let t = g.P.Layer.model l.parent in
    let m = c.args.space.now in
    let e = no_bitmap l.bitmap t l.unit l.count c.requires.shut in
    asked-refused l.unit l.count c.args.need c.max-count.result c.front-front.result c.parent_need.result l.bitmap t (g.P.Layer.model c.set_up.new.self) (g.P.Layer.model c.allocate.new.self) (g.P.Layer.model c.tear_down.new.self)
    m c.set_up.new.space c.allocate.new.space c.tear_down.new.space c.in-Ok.field-0 e (record { many = c.max-count.ensures; room = c.front-front.ensures; parent = c.parent_need.ensures; fits = c.if-size-gt-LIMIT.false })
    (g.met.P.Layer.made l.parent) (g.met.P.Layer.made c.set_up.new.self) (parent-stands l.unit l.count l.bitmap t m (here g.met.P.Layer.made l m c.requires.stands)) (l.together ∙ ap is_some e) c.in-Ok.ensures c.in-None.ensures c.tear_down.ensures
