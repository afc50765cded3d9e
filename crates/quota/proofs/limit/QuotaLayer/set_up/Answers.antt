use Rattle.std.proofs.Common.{◌≡◌, refl, true, nat_le, arith}
use Rattle.std.proofs.lemmas.Bool.Decides.{nat_tests}
use Rattle.quota_rules.specs.QuotaRules.{quota_handing, quota_rules}
use Rattle.layer_laws.proofs.HandingCalls.{hand-set_up, hand-refused}
use Rattle.quota.specs.QuotaModel.{kept_used}
use Rattle.quota.proofs.limit.QuotaLayer.set_up.Goals as goal

pub returns-in-Ok : goal.returns-in-Ok
unfolding quota_rules
returns-in-Ok g c =
    let l = c.args.self.now in
    let p : nat_le c.args.need l.most ≡ true = grind (arith, nat_tests, c.if-need-self.false) in
    hand-set_up (quota_handing l.most) kept_used l.used 0 (g.P.Layer.model l.parent) (g.P.Layer.model c.set_up.new.self) c.args.space.now c.set_up.new.space c.args.need _ p refl c.in-Ok.ensures

pub returns-in-Err : goal.returns-in-Err
unfolding quota_rules
returns-in-Err g c =
    let l = c.args.self.now in
    let p : nat_le c.args.need l.most ≡ true = grind (arith, nat_tests, c.if-need-self.false) in
    hand-refused (quota_handing l.most) kept_used l.used (g.P.Layer.model l.parent) (g.P.Layer.model c.set_up.new.self) c.args.space.now c.set_up.new.space c.args.need c.in-Err.refused _ c.requires.shut p refl c.in-Err.ensures
