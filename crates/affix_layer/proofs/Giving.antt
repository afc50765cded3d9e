-- What `deallocate` of an affix does.
use Rattle.std.proofs.Common.{refl, ℕ, Bool, true, false}
use Rattle.space_core.specs.Memory.{Memory}
use Rattle.layer_rules.specs.declared.Block.{Block}
use Rattle.layer_rules.specs.Layering.{LayerModel, IsSetUp, IsOutOf, Deallocates}
use Rattle.layer_laws.proofs.HandingCalls.{hand-deallocated}
use Rattle.affix_rules.specs.AffixRules.{affix_down, affix_handing, affix_rules}
use Rattle.affix_rules.proofs.AffixLawful.{affix-hands}
use Rattle.layer_laws.specs.HandingModel.{keeps_nothing}
use Rattle.affix_layer.specs.AffixModel.{affix_model}
use Rattle.affix_layer.specs.AffixBytes.{KeepsOtherAffixes}
use Rattle.affix_layer.proofs.Standing.{IsHere, affixed-of, apart-below, carried-still}

pub gives-back : (prefix suffix : ℕ) (u : Bool) (t t' : LayerModel) (m m' : Memory) (b : Block) (r : Bool) → IsHere prefix suffix u t m → IsSetUp (affix_model prefix suffix u t) → IsOutOf (affix_model prefix suffix u t) m b → Deallocates t t' m m' (affix_down prefix suffix b) r
    → Deallocates (affix_model prefix suffix u t) (affix_model prefix suffix u t') m m' b r
unfolding affix_rules
gives-back prefix suffix false t t' m m' b r h p o a = absurd (cc)
gives-back prefix suffix true t t' m m' b r h p o a = hand-deallocated (affix_handing prefix suffix) keeps_nothing tt tt t t' m m' b r (affix-hands prefix suffix t.rules h.made.regular.telling) o refl a

pub gives-round : (prefix suffix : ℕ) (u : Bool) (t t' : LayerModel) (m m' : Memory) (b : Block) (r : Bool) → IsHere prefix suffix u t m → IsSetUp (affix_model prefix suffix u t) → IsOutOf (affix_model prefix suffix u t) m b → Deallocates t t' m m' (affix_down prefix suffix b) r
    → KeepsOtherAffixes prefix suffix (affix_model prefix suffix u t) m m' b true
gives-round prefix suffix false t t' m m' b r h p o a c q z = absurd (cc)
gives-round prefix suffix true t t' m m' b r h p o a c q z =
    let x = affixed-of prefix suffix true t m b h o in
    let y = affixed-of prefix suffix true t m c h q in
    carried-still prefix suffix c m.bytes m'.bytes y.fits y.room a.frame.size (a.others (affix_down prefix suffix c) y.below (apart-below prefix suffix t m b c x.fits y.fits (z refl))).bytes
