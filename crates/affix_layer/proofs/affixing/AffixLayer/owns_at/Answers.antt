use Rattle.std.proofs.Common.{◌≡◌, sym, ap, ◌∙◌, ◌<◌, false, ◌&&◌, nat_le, get_or, length, arith}
use Rattle.std.proofs.lemmas.Grind.{get_or_default_zero}
use Rattle.layer_rules.specs.declared.Asked.{Asked}
use Rattle.layer_rules.specs.Offering.{is_served_size}
use Rattle.layer_laws.specs.Lawful.{yes_if}
use Rattle.layer_laws.specs.HandingModel.{open_if, keeps_nothing}
use Rattle.layer_laws.proofs.HandingPaths.{hand-walks}
use Rattle.affix_rules.specs.AffixRules.{affix_handing, affix_rules}
use Rattle.affix_layer.proofs.Standing.{set-some}
use Rattle.affix_layer.proofs.affixing.AffixLayer.owns_at.Goals as goal

pub returns-then-from-len : goal.returns-then-from-len
unfolding affix_rules
returns-then-from-len g c =
    let l = c.args.self.now in
    let inside : c.args.from < length c.args.path.now = omega (arith, c.if-from-len.true, c.len.ensures.len) in
    let step : c.at.result ≡ 0 = omega (arith, c.if-at-gt0.false) in
    let first : get_or c.args.path.now c.args.from 0 ≡ 0 = sym (get_or_default_zero c.args.path.now c.args.from c.at.result inside) ∙ sym c.at.ensures ∙ step in
    let no : (is_served_size c.args.b.len && nat_le l.prefix c.args.b.place) ≡ false = sym c.can_have.ensures ∙ c.if-can_have.false in
    c.yes_if.ensures ∙ (ap (λ (a : Asked). yes_if false a) c.owns_at-then-from-len.ensures
    ∙ sym (hand-walks (affix_handing l.prefix l.suffix) keeps_nothing (open_if l.is_set) (g.P.Layer.model l.parent) c.args.path.now c.args.from c.args.b _ (g.met.P.Layer.made l.parent) (l.together ∙ set-some l.is_set) inside first no))
