use Rattle.std.proofs.Common.{◌≡◌, refl, ℕ, Bool, true, arith, Option, Some, None, is_some}
use Rattle.std.proofs.lemmas.Bool.Decides.{nat_tests}
use Rattle.quota_rules.specs.QuotaRules.{quota_handing, quota_rules}
use Rattle.layer_rules.specs.declared.Block.{Block}
use Rattle.layer_rules.specs.Fields.{are_open}
use Rattle.layer_rules.specs.Layering.{LayerModel, IsSetUp, Owns}
use Rattle.layer_rules.specs.Offering.{is_served_size}
use Rattle.layer_laws.specs.Lawful.{IsMade}
use Rattle.layer_laws.proofs.HandingChanges.{hand-owned}
use Rattle.quota.specs.QuotaModel.{kept_used, quota_model}
use Rattle.quota.proofs.limit.QuotaLayer.owns.Goals as goal

owned-parent : (most : ℕ) (o : Option ℕ) (t t' : LayerModel) (b : Block) (r : Bool) → IsMade t.rules → are_open t.fields ≡ is_some o → IsSetUp (quota_model most o t) → is_served_size b.len ≡ true → Owns t t' b r → Owns (quota_model most o t) (quota_model most o t') b r
unfolding quota_rules
owned-parent most None t t' b r l e u p a = absurd (cc)
owned-parent most (Some used) t t' b r l e u p a = hand-owned (quota_handing most) kept_used used used t t' b r l e p refl refl a

pub returns : goal.returns
returns g c =
    let l = c.args.self.now in
    let p : is_served_size c.args.b.len ≡ true = grind (arith, nat_tests, c.if-b-eq0.false, c.if-b-gt-LIMIT.false) in
    owned-parent l.most l.used (g.P.Layer.model l.parent) (g.P.Layer.model c.owns.new.self) c.args.b c.owns.result (g.met.P.Layer.made l.parent) l.together c.requires.opened p c.owns.ensures
