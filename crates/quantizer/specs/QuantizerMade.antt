-- What holds of every layer that is made holds of a quantizer over such a parent.
use Rattle.std.proofs.Common.{◌≡◌, true}
use Rattle.size_round.specs.Sizes.{is_proper_kind}
use Rattle.quantize_rules.specs.QuantizeRules.{quantize_handing, quantize_rules}
use Rattle.quantize_rules.proofs.QuantizeLawful.{quantize-hands}
use Rattle.layer_laws.specs.Lawful.{IsMade}
use Rattle.layer_laws.proofs.HandingStands.{hand-made}
use Rattle.layer_core.specs.declared.Layer.{Ghosts}
use Rattle.size_round.specs.declared.rounding.Rounding.{Ghosts as RoundingGhosts}
use Rattle.quantizer.specs.declared.quantizing.Quantizer.{Quantizer}
use Rattle.quantizer.specs.QuantizerModel.{quantizer_of}

pub quantizer_made : {P R : Type 0} {G : Ghosts P} {H : RoundingGhosts R} → ((p : P) → IsMade (G.model p).rules) → ((r : R) → is_proper_kind (H.kind r) ≡ true) → (l : Quantizer P R G H) → IsMade (quantizer_of G.model H.kind l).rules
unfolding quantize_rules
quantizer_made {P} {R} {G} {H} made proper l =
    let e = (G.model l.parent).rules in
    let kind = H.kind l.rounding in
    let below = made l.parent in
    hand-made (quantize_handing kind e) e (quantize-hands kind e (proper l.rounding) below.regular.telling) l.proper.few l.proper.depth below
