-- An affix that stands: what holds of its parent, and of a block that is out of it.
use Rattle.std.proofs.Common.{◌≡◌, refl, ◌∙◌, ℕ, ◌+◌, ◌≤◌, Bool, true, false, arith, is_some, length, List}
use Rattle.std.proofs.Common.{nat_le}
use Rattle.std.proofs.lemmas.Bool.Decides.{nat_tests}
use Rattle.space_core.specs.Memory.{Memory}
use Rattle.size_round.specs.Sizes.{limit}
use Rattle.layer_rules.specs.declared.Block.{Block}
use Rattle.layer_rules.specs.Blocks.{end_of}
use Rattle.layer_rules.specs.Fields.{are_open}
use Rattle.layer_rules.specs.Handing.{handing_rules}
use Rattle.layer_rules.specs.Layering.{LayerModel, state_of, Stands, IsSetUp, IsOutOf, AreApartIn, KeepsBytes, Stays}
use Rattle.layer_laws.proofs.HandingParts.{out-hand, apart-hand}
use Rattle.layer_laws.proofs.HandingStands as Kit
use Rattle.layer_laws.specs.Lawful.{IsMade}
use Rattle.layer_laws.proofs.StandingLaws.{out-in_space}
use Rattle.layer_core.specs.declared.Layer.{Ghosts}
use Rattle.affix_rules.specs.AffixRules.{affix_down, affix_handing, affix_rules}
use Rattle.affix_layer.specs.declared.affixing.Affix.{Affix}
use Rattle.layer_laws.specs.HandingModel.{open_if, keeps_nothing}
use Rattle.affix_layer.specs.AffixModel.{affix_model, affix_of}
use Rattle.affix_layer.specs.AffixBytes.{CarriesAffixes, open_place}
use Rattle.affix_layer.proofs.Bytes.{same-range}

-- what each call knows of the affix that it is made on
pub record IsHere (prefix suffix : ℕ) (u : Bool) (t : LayerModel) (m : Memory) : Type 0 where
  pub made : IsMade t.rules
  pub together : are_open t.fields ≡ u
  pub stands : Stands (affix_model prefix suffix u t) m

pub here : {P : Type 0} {G : Ghosts P} → ((p : P) → IsMade (G.model p).rules) → (l : Affix P G) (m : Memory) → Stands (affix_of G.model l) m → IsHere l.prefix l.suffix l.is_set (G.model l.parent) m
here made l m h = record { made = made l.parent; together = l.together; stands = h }

pub set-some : (u : Bool) → u ≡ is_some (open_if u)
set-some true = refl
set-some false = refl

pub parent-stands : (prefix suffix : ℕ) (u : Bool) (t : LayerModel) (m : Memory) → IsHere prefix suffix u t m → Stands t m
unfolding affix_rules
parent-stands prefix suffix u t m h = Kit.parent-stands (affix_handing prefix suffix) keeps_nothing (open_if u) t m h.made (h.together ∙ set-some u) h.stands

-- the affix is open, and so is its parent
pub open-set : (prefix suffix : ℕ) (u : Bool) (t : LayerModel) → IsSetUp (affix_model prefix suffix u t) → u ≡ true
open-set prefix suffix true t h = refl
open-set prefix suffix false t h = absurd (cc)

-- ---- a block that is out

-- it has its affixes round it, and with these it is out of the parent
pub record IsAffixed (prefix suffix : ℕ) (t : LayerModel) (m : Memory) (b : Block) : Type 0 where
  pub some : 1 ≤ b.len
  pub fits : prefix ≤ b.place
  pub below : IsOutOf t m (affix_down prefix suffix b)
  pub room : end_of b + suffix ≤ length m.bytes
  pub most : b.len ≤ limit

fits-place : (prefix : ℕ) (b : Block) → nat_le prefix b.place ≡ true → prefix ≤ b.place
fits-place prefix b h = grind (arith, nat_tests)

pub place-fits : (prefix : ℕ) (b : Block) → prefix ≤ b.place → nat_le prefix b.place ≡ true
place-fits prefix b h = grind (arith, nat_tests)

-- a closed affix has no block out
pub shut-none : (prefix suffix : ℕ) (t : LayerModel) (m : Memory) (b : Block) → IsOutOf (affix_model prefix suffix false t) m b → ⊥
unfolding affix_rules handing_rules
shut-none prefix suffix t m b o = let x = out-hand (affix_handing prefix suffix t.rules) t.rules b (state_of (affix_model prefix suffix false t) m) m.cells o in absurd (cc (x.is_set))

pub affixed-of : (prefix suffix : ℕ) (u : Bool) (t : LayerModel) (m : Memory) (b : Block) → IsHere prefix suffix u t m → IsOutOf (affix_model prefix suffix u t) m b → IsAffixed prefix suffix t m b
unfolding affix_rules handing_rules
affixed-of prefix suffix false t m b h o = absurd (shut-none prefix suffix t m b o)
affixed-of prefix suffix true t m b h o =
    let x = out-hand (affix_handing prefix suffix t.rules) t.rules b (state_of (affix_model prefix suffix true t) m) m.cells o in
    let p = parent-stands prefix suffix true t m h in
    let f = fits-place prefix b x.fits in
    let r = out-in_space t m (affix_down prefix suffix b) h.made p x.below in
    record { some = x.some; fits = f; below = x.below; room = omega (arith, r, f); most = omega (arith, r, f, p.memory.sizes, p.memory.cells) }

-- two that are apart are so with their affixes
pub apart-below : (prefix suffix : ℕ) (t : LayerModel) (m : Memory) (b c : Block) → prefix ≤ b.place → prefix ≤ c.place → AreApartIn (affix_model prefix suffix true t) m b c → AreApartIn t m (affix_down prefix suffix b) (affix_down prefix suffix c)
unfolding affix_rules handing_rules
apart-below prefix suffix t m b c f g a =
    let p = place-fits prefix b f in
    let q = place-fits prefix c g in
    let x = apart-hand (affix_handing prefix suffix t.rules) t.rules (state_of (affix_model prefix suffix true t) m) b c p q (record { either = a.either }) in
    record { either = x.either }

-- where its parent keeps it, what a caller wrote round it stays
pub carried-still : (prefix suffix : ℕ) (b : Block) (old new : List ℕ) → prefix ≤ b.place → end_of b + suffix ≤ length old → length new ≡ length old → KeepsBytes old new (affix_down prefix suffix b).place (end_of (affix_down prefix suffix b)) → CarriesAffixes prefix suffix old new b b
carried-still prefix suffix b old new f r n k = record {
  in_front = same-range new old (open_place prefix b) b.place (open_place prefix b) b.place (omega (arith, n)) (omega arith) refl (λ i z. k.at (open_place prefix b + i) (omega arith) (omega arith));
  behind = same-range new old (end_of b) (end_of b + suffix) (end_of b) (end_of b + suffix) (omega (arith, n)) r refl (λ i z. k.at (end_of b + i) (omega arith) (omega arith));
}

-- what stays through one call stays through the next
pub then-stays : (t t' t'' : LayerModel) (m k w : Memory) (b : Block) → Stays t t' m k b → Stays t' t'' k w b → Stays t t'' m w b
then-stays t t' t'' m k w b x y = record { bytes = record { at = λ i p q. y.bytes.at i p q ∙ x.bytes.at i p q }; clean = λ z. y.clean (x.clean z); marked = λ z. y.marked (x.marked z) }

pub then-carries : (prefix suffix : ℕ) (old mid new : List ℕ) (b c d : Block) → CarriesAffixes prefix suffix old mid b c → CarriesAffixes prefix suffix mid new c d → CarriesAffixes prefix suffix old new b d
then-carries prefix suffix old mid new b c d x y = record { in_front = y.in_front ∙ x.in_front; behind = y.behind ∙ x.behind }
