-- What remains of a layer through its own calls, and through calls of a layer beside it.
use Rattle.std.proofs.Common.{◌≡◌, refl, ◌∙◌, ℕ, ◌≤◌, Bool, true, Option}
use Rattle.size_round.specs.Sizes.{is_power_of_two}
use Rattle.space_core.specs.Memory.{Memory}
use Rattle.layer_rules.specs.declared.Block.{Block}
use Rattle.layer_rules.specs.Layering.{LayerModel, Stands, IsSetUp, IsOutOf, AreApartIn, Allocates, AlignedAllocates, Expands, Reallocates, Deallocates, DeallocatesAll}
use Rattle.layer_rules.specs.Rules.{Rules, IsBeside}
use Rattle.layer_laws.specs.Lawful.{IsMade, Any}
use Rattle.layer_laws.specs.Standing.{Writes, ChangesOwn}
use Rattle.layer_laws.proofs.FurtherLaws.{aligned_allocated-keeps}
use Rattle.layer_laws.proofs.Placement.{others-stand, others-keep_out, others-keep_bytes, others-keep_clean, others-keep_marked, write-keeps}
use Rattle.layer_laws.proofs.StandingLaws.{allocated-stands, allocated-keeps_out, deallocated-stands, deallocated-keeps_out, expanded-stands, expanded-keeps_out, all_deallocated-stands}
use Rattle.layer_laws.proofs.StandingReallocated.{reallocated-keeps}
use Rattle.layer_laws.proofs.Writing.{write-stays}
use Rattle.fallback.specs.MovingAcross.{Remains}

-- ---- a layer beside another

pub remains-beside : (e : Rules) (u : LayerModel) (m m' : Memory) → IsMade u.rules → Stands u m → IsBeside e u.rules → ChangesOwn e m m' → Remains u u m m' Any
remains-beside e u m m' l h b k = record {
  rules = refl;
  opened = refl;
  stands = others-stand e u m m' l h b k;
  out = λ c o x. others-keep_out e u m m' l h b k c o;
  stays = λ c o x. record {
    bytes = record { at = others-keep_bytes e u m m' l h b k c o };
    clean = others-keep_clean e u m m' l h b k c o;
    marked = others-keep_marked e u m m' l h b k c o;
  };
}

-- ---- its own calls

pub remains-allocated : (t t' : LayerModel) (m m' : Memory) (n : ℕ) (r : Option Block) → IsMade t.rules → Stands t m → IsSetUp t → Allocates t t' m m' n r → Remains t t' m m' Any
remains-allocated t t' m m' n r l h u a = record {
  rules = a.frame.rules;
  opened = a.opened;
  stands = allocated-stands t t' m m' n r l h u a;
  out = λ c o x. allocated-keeps_out t t' m m' n r l h u a c o;
  stays = λ c o x. a.others c o;
}

pub remains-aligned : (t t' : LayerModel) (m m' : Memory) (n k : ℕ) (r : Option Block) → IsMade t.rules → Stands t m → IsSetUp t → is_power_of_two k ≡ true → k ≤ 4096 → AlignedAllocates t t' m m' n k r → Remains t t' m m' Any
remains-aligned t t' m m' n k r l h u p q a =
    let w = aligned_allocated-keeps t t' m m' n k r l h u p q a in
    record { rules = a.frame.rules; opened = a.opened; stands = w.stands; out = λ c o x. w.out c o; stays = λ c o x. a.others c o }

pub remains-deallocated : (t t' : LayerModel) (m m' : Memory) (b : Block) (r : Bool) → IsMade t.rules → Stands t m → IsOutOf t m b → Deallocates t t' m m' b r → Remains t t' m m' (λ c. AreApartIn t m b c)
remains-deallocated t t' m m' b r l h o a = record {
  rules = a.frame.rules;
  opened = a.opened;
  stands = deallocated-stands t t' m m' b r l h o a;
  out = λ c p x. deallocated-keeps_out t t' m m' b r l h o a c p x;
  stays = λ c p x. a.others c p x;
}

pub remains-expanded : (t t' : LayerModel) (m m' : Memory) (b b' : Block) (delta : ℕ) (r : Bool) → IsMade t.rules → Stands t m → IsOutOf t m b → Expands t t' m m' b b' delta r → Remains t t' m m' (λ c. r ≡ true → AreApartIn t m b c)
remains-expanded t t' m m' b b' delta r l h o a = record {
  rules = a.frame.rules;
  opened = a.opened;
  stands = expanded-stands t t' m m' b b' delta r l h o a;
  out = λ c p x. expanded-keeps_out t t' m m' b b' delta r l h o a c p x;
  stays = λ c p x. a.others c p x;
}

pub remains-reallocated : (t t' : LayerModel) (m m' : Memory) (b b' : Block) (n : ℕ) (r : Bool) → IsMade t.rules → Stands t m → IsOutOf t m b → Reallocates t t' m m' b b' n r → Remains t t' m m' (λ c. r ≡ true → AreApartIn t m b c)
remains-reallocated t t' m m' b b' n r l h o a =
    let w = reallocated-keeps t t' m m' b b' n r l h o a in
    record { rules = a.frame.rules; opened = a.opened; stands = w.stands; out = λ c p x. w.out c p x; stays = λ c p x. a.others c p x }

pub remains-emptied : (t t' : LayerModel) (m m' : Memory) → IsMade t.rules → Stands t m → IsSetUp t → DeallocatesAll t t' m m' → Remains t t' m m' (λ c. ⊥)
remains-emptied t t' m m' l h u a =
    record { rules = a.frame.rules; opened = a.opened; stands = all_deallocated-stands t t' m m' l h u a; out = λ c o x. absurd x; stays = λ c o x. absurd x }

-- a holder writes into one of its blocks
pub remains-written : (t : LayerModel) (m m' : Memory) (b : Block) → IsMade t.rules → Stands t m → IsOutOf t m b → Writes b m m' → Remains t t m m' (λ c. AreApartIn t m b c)
remains-written t m m' b l h o k =
    let w = write-keeps t m m' b l h o k in
    record { rules = refl; opened = refl; stands = w.stands; out = λ c p x. w.out c p; stays = λ c p x. write-stays t m m' b l h o k c p x }

-- ---- one after another

pub remains-then : (t t' t'' : LayerModel) (m m' m'' : Memory) (Kind Later : Block → Type 0) → Remains t t' m m' Kind → Remains t' t'' m' m'' Later → ((c : Block) → IsOutOf t m c → Kind c → Later c) → Remains t t'' m m'' Kind
remains-then t t' t'' m m' m'' Kind Later h k up = record {
  rules = k.rules ∙ h.rules;
  opened = k.opened ∙ h.opened;
  stands = k.stands;
  out = λ c o x. k.out c (h.out c o x) (up c o x);
  stays = λ c o x.
      let one = h.stays c o x in
      let two = k.stays c (h.out c o x) (up c o x) in
      record { bytes = record { at = λ i p q. two.bytes.at i p q ∙ one.bytes.at i p q }; clean = λ z. two.clean (one.clean z); marked = λ z. two.marked (one.marked z) };
}

-- of fewer blocks
pub remains-fewer : (t t' : LayerModel) (m m' : Memory) (Kind Fewer : Block → Type 0) → Remains t t' m m' Kind → ((c : Block) → Fewer c → Kind c) → Remains t t' m m' Fewer
remains-fewer t t' m m' Kind Fewer h up =
    record { rules = h.rules; opened = h.opened; stands = h.stands; out = λ c o x. h.out c o (up c x); stays = λ c o x. h.stays c o (up c x) }
