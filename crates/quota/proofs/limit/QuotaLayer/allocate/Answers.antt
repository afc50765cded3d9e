use Rattle.std.proofs.Common.{◌≡◌, refl, sym, subst, ℕ, ◌≤◌, ◌+◌, ◌-◌, true, nat_le, arith, Option, Some, None, is_some, option_map}
use Rattle.std.proofs.lemmas.Bool.Decides.{nat_tests}
use Rattle.size_round.specs.Sizes.{limit}
use Rattle.space_core.specs.Memory.{Memory}
use Rattle.quota_rules.specs.QuotaRules.{charged, quota_handing, quota_rules}
use Rattle.quota_rules.proofs.QuotaLawful.{quota-hands}
use Rattle.layer_rules.specs.declared.Block.{Block}
use Rattle.layer_rules.specs.Fields.{are_open}
use Rattle.layer_rules.specs.Layering.{LayerModel, Stands, Allocates}
use Rattle.layer_laws.specs.Lawful.{IsMade}
use Rattle.layer_laws.proofs.HandingCalls.{hand-allocated}
use Rattle.quota.specs.QuotaModel.{kept_used, quota_model}
use Rattle.quota.proofs.limit.QuotaLayer.allocate.Goals as goal

-- what the parent answered, within the quota
asked-parent : (most : ℕ) (o : Option ℕ) (used : ℕ) (t t' : LayerModel) (m m' : Memory) (n : ℕ) (r : Option Block) → o ≡ Some used → IsMade t.rules → are_open t.fields ≡ is_some o → Stands (quota_model most o t) m → 1 ≤ n → n ≤ limit → n ≤ most - used
    → Allocates t t' m m' n r → Allocates (quota_model most o t) (quota_model most (Some (charged (is_some r) n used)) t') m m' n r
unfolding quota_rules
asked-parent most o used t t' m m' n r q l e st some short fits a =
    let z : nat_le (used + n) most ≡ true = grind (arith, nat_tests) in
    subst (λ o. Stands (quota_model most o t) m → are_open t.fields ≡ is_some o → Allocates (quota_model most o t) (quota_model most (Some (charged (is_some r) n used)) t') m m' n r) (sym q)
    (λ st e. as-answered r (hand-allocated (quota_handing most) kept_used used (charged (is_some r) n used) t t' m m' n r (quota-hands most t.rules l.regular.telling) l e st some short z refl (λ b y. refl) a)) st e
  where
    as-answered : (o : Option Block) → Allocates (quota_model most (Some used) t) (quota_model most (Some (charged (is_some o) n used)) t') m m' n (option_map (λ b. b) o) → Allocates (quota_model most (Some used) t) (quota_model most (Some (charged (is_some o) n used)) t') m m' n o
    as-answered None h = h
    as-answered (Some b) h = h

pub returns-in-Some-allocate : goal.returns-in-Some-allocate
unfolding quota_rules
returns-in-Some-allocate g c =
    let l = c.args.self.now in
    asked-parent l.most l.used c.in-Some.used (g.P.Layer.model l.parent) (g.P.Layer.model c.allocate.new.self) c.args.space.now c.allocate.new.space c.args.n (Some c.in-Some-allocate.b) c.in-Some.is (g.met.P.Layer.made l.parent) l.together c.requires.stands
    (omega (arith, c.if-n-eq0.false)) c.if-n-gt-LIMIT.false c.if-n-self.false c.in-Some-allocate.ensures

pub returns-in-None-allocate : goal.returns-in-None-allocate
unfolding quota_rules
returns-in-None-allocate g c =
    let l = c.args.self.now in
    let t' = g.P.Layer.model c.allocate.new.self in
    subst (λ o. Allocates (quota_model l.most l.used (g.P.Layer.model l.parent)) (quota_model l.most o t') c.args.space.now c.allocate.new.space c.args.n None) (sym c.in-Some.is)
    (asked-parent l.most l.used c.in-Some.used (g.P.Layer.model l.parent) t' c.args.space.now c.allocate.new.space c.args.n None c.in-Some.is (g.met.P.Layer.made l.parent) l.together c.requires.stands
    (omega (arith, c.if-n-eq0.false)) c.if-n-gt-LIMIT.false c.if-n-self.false c.in-None-allocate.ensures)
