use Rattle.std.proofs.Common.{◌≡◌, refl, sym, subst, ℕ, ◌≤◌, ◌+◌, ◌-◌, Bool, true, false, nat_le, arith, Option, Some}
use Rattle.std.proofs.lemmas.Bool.Decides.{nat_tests}
use Rattle.size_round.specs.Sizes.{limit}
use Rattle.space_core.specs.Memory.{Memory}
use Rattle.quota_rules.specs.QuotaRules.{charged, quota_handing, quota_rules}
use Rattle.quota_rules.proofs.QuotaLawful.{quota-hands}
use Rattle.layer_rules.specs.declared.Block.{Block}
use Rattle.layer_rules.specs.Layering.{LayerModel, IsOutOf, Expands}
use Rattle.layer_laws.specs.Lawful.{IsMade}
use Rattle.layer_laws.proofs.StandingLaws.{out-in_space}
use Rattle.layer_laws.proofs.HandingChanges.{hand-expanded}
use Rattle.quota.specs.QuotaMade.{quota_made}
use Rattle.quota.specs.QuotaModel.{kept_used, quota_of, quota_model}
use Rattle.quota.proofs.limit.QuotaLayer.expand.Goals as goal

pub overflow_sub-b : goal.overflow_sub-b
overflow_sub-b g c =
    let x = out-in_space (quota_of g.P.Layer.model c.args.self.now) c.args.space.now c.args.b.now (quota_made g.met.P.Layer.made c.args.self.now) c.requires.stands c.requires.out in
    omega (arith, x, c.requires.stands.memory.sizes, c.requires.stands.memory.cells)

-- what the parent answered, within the quota
grown-parent : (most : ℕ) (o : Option ℕ) (used : ℕ) (t t' : LayerModel) (m m' : Memory) (b c : Block) (delta : ℕ) (r : Bool) → o ≡ Some used → IsMade t.rules → IsOutOf (quota_model most o t) m b → 1 ≤ delta → b.len + delta ≤ limit → delta ≤ most - used
    → Expands t t' m m' b c delta r → Expands (quota_model most o t) (quota_model most (Some (charged r delta used)) t') m m' b c delta r
unfolding quota_rules
grown-parent most o used t t' m m' b c delta r q l out some short fits a =
    let z : nat_le (used + delta) most ≡ true = grind (arith, nat_tests) in
    subst (λ o. IsOutOf (quota_model most o t) m b → Expands (quota_model most o t) (quota_model most (Some (charged r delta used)) t') m m' b c delta r) (sym q)
    (λ out. subst (λ g. Expands (quota_model most (Some used) t) (quota_model most (Some (charged r delta used)) t') m m' b g delta r) (sym a.block)
    (hand-expanded (quota_handing most) kept_used used (charged r delta used) t t' m m' b c delta delta r (quota-hands most t.rules l.regular.telling) out
    (record { expands = refl; some = some; most = short; admits = z; lacks = refl; lacks_some = some }) refl (λ done. record { clean = λ x. x; marked = λ x. x }) a)) out

pub returns-then-not-expand : goal.returns-then-not-expand
returns-then-not-expand g c =
    let l = c.args.self.now in
    let t = g.P.Layer.model l.parent in
    let t' = g.P.Layer.model c.expand.new.self in
    subst (λ o. Expands (quota_model l.most l.used t) (quota_model l.most o t') c.args.space.now c.expand.new.space c.args.b.now c.expand.new.b c.args.delta false) (sym c.in-Some.is)
    (grown-parent l.most l.used c.in-Some.used t t' c.args.space.now c.expand.new.space c.args.b.now c.expand.new.b c.args.delta false c.in-Some.is (g.met.P.Layer.made l.parent) c.requires.out
    (omega (arith, c.if-delta-eq0.false)) (omega (arith, c.if-delta-b.false, c.if-delta-eq0.false)) c.if-delta-self.false c.if-not-expand.ensures)

pub returns : goal.returns
returns g c =
    let l = c.args.self.now in
    grown-parent l.most l.used c.in-Some.used (g.P.Layer.model l.parent) (g.P.Layer.model c.expand.new.self) c.args.space.now c.expand.new.space c.args.b.now c.expand.new.b c.args.delta true c.in-Some.is (g.met.P.Layer.made l.parent) c.requires.out
    (omega (arith, c.if-delta-eq0.false)) (omega (arith, c.if-delta-b.false, c.if-delta-eq0.false)) c.if-delta-self.false c.if-not-expand.ensures
