-- A quota says who owns a block where its parent does.
use Rattle.std.proofs.Common.{◌≡◌, true}
use Rattle.quota_rules.specs.QuotaRules.{quota_rules}
use Rattle.layer_rules.specs.Handing.{handing_rules}
use Rattle.layer_core.specs.declared.Layer.{Ghosts}
use Rattle.quota.specs.declared.limit.Quota.{Quota}
use Rattle.quota.specs.QuotaModel.{quota_of}

pub quota_owning : {P : Type 0} {G : Ghosts P} → ((p : P) → (G.model p).rules.offers.owns ≡ true) → (l : Quota P G) → (quota_of G.model l).rules.offers.owns ≡ true
unfolding quota_rules handing_rules
quota_owning owning l = owning l.parent
