-- An affix says who owns a block where its parent does.
use Rattle.std.proofs.Common.{◌≡◌, true}
use Rattle.affix_rules.specs.AffixRules.{affix_rules}
use Rattle.layer_rules.specs.Handing.{handing_rules}
use Rattle.layer_core.specs.declared.Layer.{Ghosts}
use Rattle.affix_layer.specs.declared.affixing.Affix.{Affix}
use Rattle.affix_layer.specs.AffixModel.{affix_of}

pub affix_owning : {P : Type 0} {G : Ghosts P} → ((p : P) → (G.model p).rules.offers.owns ≡ true) → (l : Affix P G) → (affix_of G.model l).rules.offers.owns ≡ true
unfolding affix_rules handing_rules
affix_owning owning l = owning l.parent
