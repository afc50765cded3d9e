use Rattle.std.proofs.Common.{refl, ℕ, Option, Some, None}
use Rattle.space_core.specs.Memory.{Memory}
use Rattle.quota_rules.specs.QuotaRules.{quota_handing, quota_rules}
use Rattle.layer_rules.specs.Layering.{LayerModel, IsSetUp, DeallocatesAll}
use Rattle.layer_laws.proofs.HandingCalls.{hand-deallocated_all}
use Rattle.quota.specs.QuotaModel.{kept_used, quota_model}
use Rattle.quota.proofs.limit.QuotaLayer.deallocate_all.Goals as goal

emptied-parent : (most : ℕ) (o : Option ℕ) (t t' : LayerModel) (m m' : Memory) → IsSetUp (quota_model most o t) → DeallocatesAll t t' m m' → DeallocatesAll (quota_model most o t) (quota_model most (Some 0) t') m m'
unfolding quota_rules
emptied-parent most None t t' m m' u a = absurd (cc)
emptied-parent most (Some used) t t' m m' u a = hand-deallocated_all (quota_handing most) kept_used used 0 t t' m m' refl a

pub returns : goal.returns
returns g c =
    let l = c.args.self.now in
    emptied-parent l.most l.used (g.P.Layer.model l.parent) (g.P.Layer.model c.deallocate_all.new.self) c.args.space.now c.deallocate_all.new.space c.requires.opened c.deallocate_all.ensures
