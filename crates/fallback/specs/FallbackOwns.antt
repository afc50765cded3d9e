-- A fallback says who owns a block where its second does, since its primary says so always.
use Rattle.std.proofs.Common.{◌≡◌, true}
use Rattle.std.proofs.lemmas.Bool.{and_from}
use Rattle.layer_core.specs.declared.Layer.{Ghosts}
use Rattle.fallback_rules.specs.FallbackRules.{fallback_rules}
use Rattle.fallback.specs.declared.two_layers.Fallback.{Fallback}
use Rattle.fallback.specs.FallbackModel.{fallback_of}

pub fallback_owns : {P F : Type 0} {G : Ghosts P} {H : Ghosts F} → ((f : F) → (H.model f).rules.offers.owns ≡ true) → (l : Fallback P F G H) → (fallback_of G.model H.model l).rules.offers.owns ≡ true
unfolding fallback_rules
fallback_owns owning l = and_from _ _ l.proper.owns (owning l.second)
