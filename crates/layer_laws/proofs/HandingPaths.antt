-- What stands at a path's end below a layer that hands its blocks down, and can't have the block: it goes by the path alone.
use Rattle.std.proofs.Common.{◌≡◌, refl, ap, sym, ◌∙◌, ℕ, suc, ◌+◌, ◌<◌, false, ◌&&◌, List, ◌∷◌, [], length, drop, get_or, Option, Some, None, is_some, arith}
use Rattle.std.proofs.Math.Seq.{drop-cons}
use Rattle.layer_rules.specs.declared.Block.{Block}
use Rattle.layer_rules.specs.Fields.{Kept, are_open}
use Rattle.layer_rules.specs.Handing.{Handing, handing_rules}
use Rattle.layer_rules.specs.Layering.{LayerModel, kept_state}
use Rattle.layer_rules.specs.Offering.{is_served_size}
use Rattle.layer_rules.specs.Rules.{Rules, owns_along}
use Rattle.layer_rules.specs.State.{State, child}
use Rattle.layer_laws.specs.HandingModel.{hand_model}
use Rattle.layer_laws.specs.Lawful.{IsMade, yes_if}
use Rattle.layer_laws.proofs.StandingLaws.{made-shut}

-- what is kept of the parent
kept-below : {A : Type 0} → (form : Rules → Handing) (kept : A → Kept) (o : Option A) (t : LayerModel) → IsMade t.rules → are_open t.fields ≡ is_some o → child (kept_state (hand_model form kept o t)) 0 ≡ kept_state t
unfolding handing_rules
kept-below form kept (Some x) t l e = refl
kept-below form kept None t l e = sym (made-shut t.rules l t.fields [] e)

-- The parent is asked whether it has any block, and a yes is a no.
pub hand-walks : {A : Type 0} → (form : Rules → Handing) (kept : A → Kept) (o : Option A) (t : LayerModel) (path : List ℕ) (from : ℕ) (b c : Block) → IsMade t.rules → are_open t.fields ≡ is_some o → from < length path → get_or path from 0 ≡ 0
    → (is_served_size b.len && (form t.rules).fits b) ≡ false
    → owns_along (handing_rules (form t.rules) t.rules) (drop from path) b (kept_state (hand_model form kept o t)) ≡ yes_if false (owns_along t.rules (drop (from + 1) path) c (kept_state t))
unfolding handing_rules
hand-walks form kept o t path from b c l e inside first lacks =
    let h = form t.rules in
    let s = child (kept_state (hand_model form kept o t)) 0 in
    let n : suc from ≡ from + 1 = omega arith in
    let rest = drop (from + 1) path in
    let step : drop from path ≡ 0 ∷ rest = drop-cons path from 0 inside ∙ ap (λ x. x ∷ drop (suc from) path) first ∙ ap (λ i. 0 ∷ drop i path) n in
    ap (λ (p : List ℕ). owns_along (handing_rules h t.rules) p b (kept_state (hand_model form kept o t))) step
    ∙ (ap (λ x. t.rules.owns_at rest x (h.down b) s) lacks
    ∙ (l.regular.owning.by_path rest (h.down b) c s
    ∙ (l.regular.owning.along rest false c s ∙ ap (λ (s : State). yes_if false (owns_along t.rules rest c s)) (kept-below form kept o t l e))))
