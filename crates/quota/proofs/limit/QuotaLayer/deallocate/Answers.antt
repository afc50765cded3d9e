use Rattle.std.proofs.Common.{ap, sym, subst, Some, true, false, refl}
use Rattle.quota_rules.specs.QuotaRules.{used_own, quota_handing, quota_rules}
use Rattle.quota_rules.proofs.QuotaLawful.{quota-hands}
use Rattle.layer_rules.specs.Layering.{Deallocates, IsOutOf}
use Rattle.layer_laws.proofs.HandingCalls.{hand-deallocated}
use Rattle.quota.specs.QuotaModel.{kept_used, quota_model}
use Rattle.quota.proofs.limit.QuotaLayer.deallocate.Goals as goal

pub returns-then-not-deallocate : goal.returns-then-not-deallocate
unfolding quota_rules
returns-then-not-deallocate g c =
    let l = c.args.self.now in
    let t = g.P.Layer.model l.parent in
    let t' = g.P.Layer.model c.deallocate.new.self in
    let m = c.args.space.now in
    subst (λ o. Deallocates (quota_model l.most o t) (quota_model l.most o t') m c.deallocate.new.space c.args.b false) (sym c.in-Some.is)
    (hand-deallocated (quota_handing l.most) kept_used c.in-Some.used c.in-Some.used t t' m c.deallocate.new.space c.args.b false (quota-hands l.most t.rules (g.met.P.Layer.made l.parent).regular.telling)
    (subst (λ o. IsOutOf (quota_model l.most o t) m c.args.b) c.in-Some.is c.requires.out) refl c.if-not-deallocate.ensures)

pub returns : goal.returns
unfolding quota_rules
returns g c =
    let l = c.args.self.now in
    let t = g.P.Layer.model l.parent in
    let t' = g.P.Layer.model c.deallocate.new.self in
    let m = c.args.space.now in
    subst (λ o. Deallocates (quota_model l.most o t) (quota_model l.most (Some c.saturating_sub.result) t') m c.deallocate.new.space c.args.b true) (sym c.in-Some.is)
    (hand-deallocated (quota_handing l.most) kept_used c.in-Some.used c.saturating_sub.result t t' m c.deallocate.new.space c.args.b true (quota-hands l.most t.rules (g.met.P.Layer.made l.parent).regular.telling)
    (subst (λ o. IsOutOf (quota_model l.most o t) m c.args.b) c.in-Some.is c.requires.out) (ap used_own c.saturating_sub.ensures) c.if-not-deallocate.ensures)
