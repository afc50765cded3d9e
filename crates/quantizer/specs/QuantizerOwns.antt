-- A quantizer says who owns a block where its parent does.
use Rattle.std.proofs.Common.{◌≡◌, true}
use Rattle.quantize_rules.specs.QuantizeRules.{quantize_rules}
use Rattle.layer_rules.specs.Handing.{handing_rules}
use Rattle.layer_core.specs.declared.Layer.{Ghosts}
use Rattle.size_round.specs.declared.rounding.Rounding.{Ghosts as RoundingGhosts}
use Rattle.quantizer.specs.declared.quantizing.Quantizer.{Quantizer}
use Rattle.quantizer.specs.QuantizerModel.{quantizer_of}

pub quantizer_owns : {P R : Type 0} {G : Ghosts P} {H : RoundingGhosts R} → ((p : P) → (G.model p).rules.offers.owns ≡ true) → (l : Quantizer P R G H) → (quantizer_of G.model H.kind l).rules.offers.owns ≡ true
unfolding quantize_rules handing_rules
quantizer_owns owning l = owning l.parent
