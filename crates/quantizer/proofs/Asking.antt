-- What a quantizer answers at a path's end about a block that no layer has.
use Rattle.std.proofs.Common.{◌≡◌, refl, ℕ, ◌+◌, ◌<◌, Bool, true, false, ◌&&◌, List, length, drop, get_or, is_some, ◌⊎◌, inl, inr, arith}
use Rattle.std.proofs.lemmas.Bool.Decides.{nat_tests}
use Rattle.size_round.specs.Sizes.{RoundingKind, limit}
use Rattle.layer_rules.specs.declared.Block.{Block}
use Rattle.layer_rules.specs.Fields.{are_open}
use Rattle.layer_rules.specs.Layering.{LayerModel, kept_state}
use Rattle.layer_rules.specs.Offering.{is_served_size}
use Rattle.layer_rules.specs.Rules.{owns_along}
use Rattle.layer_laws.specs.HandingModel.{open_if, keeps_nothing}
use Rattle.layer_laws.proofs.HandingPaths.{hand-walks}
use Rattle.layer_laws.specs.Lawful.{IsMade, yes_if}
use Rattle.quantize_rules.specs.QuantizeRules.{quantize_handing, quantize_rules}
use Rattle.quantizer.specs.QuantizerModel.{quantizer_model}

some-if : (b : Bool) → b ≡ is_some (open_if b)
some-if true = refl
some-if false = refl

unserved : (n : ℕ) → (n ≡ 0) ⊎ (limit < n) → (is_served_size n && true) ≡ false
unserved n (inl z) = grind (arith, nat_tests, z)
unserved n (inr z) = grind (arith, nat_tests, z)

pub walks-on : (kind : RoundingKind) (t : LayerModel) (path : List ℕ) (from : ℕ) (b c : Block) → IsMade t.rules → from < length path → get_or path from 0 ≡ 0 → (b.len ≡ 0) ⊎ (limit < b.len)
    → owns_along (quantize_rules kind t.rules) (drop from path) b (kept_state (quantizer_model kind t)) ≡ yes_if false (owns_along t.rules (drop (from + 1) path) c (kept_state t))
unfolding quantize_rules
walks-on kind t path from b c l inside first z = hand-walks (quantize_handing kind) keeps_nothing (open_if (are_open t.fields)) t path from b c l (some-if (are_open t.fields)) inside first (unserved b.len z)
