use Rattle.std.proofs.Common.{◌≡◌, sym, ap, ◌∙◌, ◌<◌, ◌⊎◌, inl, inr, false, get_or, length, arith}
use Rattle.std.proofs.lemmas.Grind.{get_or_default_zero}
use Rattle.size_round.specs.Sizes.{limit}
use Rattle.layer_rules.specs.declared.Asked.{Asked}
use Rattle.layer_laws.specs.Lawful.{yes_if}
use Rattle.quantizer.proofs.Asking.{walks-on}
use Rattle.quantizer.proofs.quantizing.QuantizerLayer.owns_at.Goals as goal
use Rattle.quantizer.proofs.quantizing.QuantizerLayer.owns_at.Goals.{then-b-eq0-via-then-b-eq0, then-b-eq0-via-else-b-eq0+then-b-gt-LIMIT}

pub returns-then-b-eq0 : goal.returns-then-b-eq0
returns-then-b-eq0 g c =
    let l = c.args.self.now in
    let inside : c.args.from < length c.args.path.now = omega (arith, c.if-from-len.true, c.len.ensures.len) in
    let step : c.at.result ≡ 0 = omega (arith, c.if-at-gt0.false) in
    let first : get_or c.args.path.now c.args.from 0 ≡ 0 = sym (get_or_default_zero c.args.path.now c.args.from c.at.result inside) ∙ sym c.at.ensures ∙ step in
    let no : (c.args.b.len ≡ 0) ⊎ (limit < c.args.b.len) = elim c.then-b-eq0.branch [ then-b-eq0-via-then-b-eq0 w ↦ inl w.if-b-eq0.true | then-b-eq0-via-else-b-eq0+then-b-gt-LIMIT w ↦ inr w.if-b-gt-LIMIT.true ] in
    c.yes_if.ensures ∙ (ap (λ (a : Asked). yes_if false a) c.owns_at.ensures
    ∙ sym (walks-on (g.R.Rounding.kind l.rounding) (g.P.Layer.model l.parent) c.args.path.now c.args.from c.args.b _ (g.met.P.Layer.made l.parent) inside first no))
