-- A quantizer that is set up is its form over its parent, which is set up too.
use Rattle.std.proofs.Common.{◌≡◌, ap, sym, subst, Bool, true, false, Some}
use Rattle.size_round.specs.Sizes.{RoundingKind, is_proper_kind}
use Rattle.layer_rules.specs.Fields.{Fields, are_open}
use Rattle.layer_rules.specs.Layering.{LayerModel, IsSetUp}
use Rattle.layer_laws.specs.Lawful.{IsMade}
use Rattle.layer_laws.specs.HandsDown.{HandsDown}
use Rattle.layer_laws.specs.HandingModel.{hand_fields, hand_model, open_if, keeps_nothing}
use Rattle.quantize_rules.specs.QuantizeRules.{quantize_handing, quantize_rules}
use Rattle.quantize_rules.proofs.QuantizeLawful.{quantize-hands}
use Rattle.quantizer.specs.QuantizerModel.{quantizer_model}

-- what contracts see of an open quantizer
abbrev pub opened_model : RoundingKind → LayerModel → LayerModel
opened_model kind t = hand_model (quantize_handing kind) keeps_nothing (Some tt) t

open-case : (b : Bool) (parent : Fields) → are_open (hand_fields keeps_nothing (open_if b) parent) ≡ true → b ≡ true
open-case true parent h = h
open-case false parent h = absurd (cc)

pub parent-open : (kind : RoundingKind) (t : LayerModel) → IsSetUp (quantizer_model kind t) → IsSetUp t
parent-open kind t h = open-case (are_open t.fields) t.fields h

pub as-opened : (kind : RoundingKind) (t : LayerModel) → IsSetUp t → quantizer_model kind t ≡ opened_model kind t
unfolding quantize_rules
as-opened kind t h = let model : Bool → LayerModel = λ b. record { rules = quantize_rules kind t.rules; fields = hand_fields keeps_nothing (open_if b) t.fields } in ap model h

-- what is said of the form before and after a call is said of the quantizer
pub over-opened : (P : LayerModel → LayerModel → Type 0) (kind : RoundingKind) (t t' : LayerModel) → IsSetUp t → IsSetUp t' → P (opened_model kind t) (opened_model kind t') → P (quantizer_model kind t) (quantizer_model kind t')
over-opened P kind t t' h g x = subst (λ T. P T (quantizer_model kind t')) (sym (as-opened kind t h)) (subst (λ T. P (opened_model kind t) T) (sym (as-opened kind t' g)) x)

pub hands : (kind : RoundingKind) (t : LayerModel) → is_proper_kind kind ≡ true → IsMade t.rules → HandsDown (quantize_handing kind t.rules) t.rules
hands kind t k l = quantize-hands kind t.rules k l.regular.telling
