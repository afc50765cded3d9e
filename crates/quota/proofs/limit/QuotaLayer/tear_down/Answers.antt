use Rattle.quota_rules.specs.QuotaRules.{quota_handing, quota_rules}
use Rattle.layer_laws.proofs.HandingCalls.{hand-torn_down}
use Rattle.quota.specs.QuotaModel.{kept_used}
use Rattle.quota.proofs.limit.QuotaLayer.tear_down.Goals as goal

pub returns : goal.returns
unfolding quota_rules
returns g c =
    let l = c.args.self.now in
    hand-torn_down (quota_handing l.most) kept_used l.used (g.P.Layer.model l.parent) (g.P.Layer.model c.tear_down.new.self) c.args.space.now c.tear_down.new.space c.tear_down.ensures
