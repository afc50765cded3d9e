-- What holds of every layer that is made holds of a quota over such a parent.
use Rattle.quota_rules.specs.QuotaRules.{quota_handing, quota_rules}
use Rattle.quota_rules.proofs.QuotaLawful.{quota-hands}
use Rattle.layer_laws.specs.Lawful.{IsMade}
use Rattle.layer_laws.proofs.HandingStands.{hand-made}
use Rattle.layer_core.specs.declared.Layer.{Ghosts}
use Rattle.quota.specs.declared.limit.Quota.{Quota}
use Rattle.quota.specs.QuotaModel.{quota_of}

pub quota_made : {P : Type 0} {G : Ghosts P} → ((p : P) → IsMade (G.model p).rules) → (l : Quota P G) → IsMade (quota_of G.model l).rules
unfolding quota_rules
quota_made {P} {G} made l =
    let e = (G.model l.parent).rules in
    let below = made l.parent in
    hand-made (quota_handing l.most e) e (quota-hands l.most e below.regular.telling) l.proper.few l.proper.depth below
