-- Standing: what callers may rest on where a block gets another length.
use Rattle.std.proofs.Common.{◌≡◌, refl, sym, ap, subst, ◌∙◌, ℕ, ◌≤◌, Bool, true, arith, inl, inr, ◌⊎◌}
use Rattle.space_core.specs.Cells.{Cells}
use Rattle.space_core.specs.Memory.{Memory}
use Rattle.layer_rules.specs.declared.Block.{Block}
use Rattle.layer_rules.specs.After.{After, Reallocated, moved_to, emptied, unmoved}
use Rattle.layer_rules.specs.Layering.{LayerModel, state_of, Stands, IsOutOf, AreApartIn, ReallocatesBy, reallocated, is_done, block_after}
use Rattle.layer_rules.specs.Blocks.{is_apart}
use Rattle.layer_rules.specs.Rules.{AreApart}
use Rattle.layer_laws.proofs.Apart.{apart-moved}
use Rattle.layer_laws.specs.Lawful.{IsReallocated, IsMovedApart, OnlyOwnChanged}
use Rattle.layer_laws.specs.Standing.{ReallocateKeeps, ReallocateLeaves, extent_of}
use Rattle.layer_laws.proofs.StandingLaws.{keeping, sound-again, out-again, extent-again, apart-again, route-again, changes-from}

-- what a rule answered, as callers see it
pub record HasBlockAfter (t : LayerModel) (m : Memory) (b b' : Block) (n : ℕ) (r : Bool) (rule : After Reallocated) : Type 0 where
  pub len : r ≡ true → b'.len ≡ n
  pub out : 1 ≤ b'.len → t.rules.is_out b' rule.state rule.cells ≡ true
  pub fresh : 1 ≤ b'.len → (c : Block) → IsOutOf t m c → AreApartIn t m b c → AreApart t.rules rule.state b' c
  pub place : 1 ≤ b'.len → (b'.place ≡ b.place) ⊎ IsMovedApart t.rules (state_of t m) rule.state b b'

block-after : (t : LayerModel) (m : Memory) (b : Block) (n : ℕ) (a : Reallocated) (rule : After Reallocated) → rule.answer ≡ a → IsOutOf t m b → IsReallocated t.rules (state_of t m) m.cells b n rule
    → HasBlockAfter t m b (block_after b a) n (is_done a) rule
block-after t m b n (moved_to c) rule q o g = record { len = λ d. g.len c q; out = λ l. g.out c q; fresh = λ l. g.fresh c q; place = λ l. g.place c q }
block-after t m b n emptied rule q o g = record { len = λ d. sym (g.some q); out = λ l. absurd (omega arith); fresh = λ l. absurd (omega arith); place = λ l. absurd (omega arith) }
block-after t m b n unmoved rule q o g = record {
  len = λ d. absurd (cc);
  out = λ l. g.stays b o (λ d. absurd (let z : is_done unmoved ≡ true = subst (λ a. is_done a ≡ true) q d in cc));
  fresh = λ l c p a. apart-moved t.rules (state_of t m) rule.state b c (g.extents b o (undone b)) (g.extents c p (undone c)) a;
  place = λ l. inl refl;
}
  where
    undone : (c : Block) → is_done rule.answer ≡ true → AreApartIn t m b c
    undone c d = absurd (let z : is_done unmoved ≡ true = subst (λ a. is_done a ≡ true) q d in cc)

-- whatever the rule is by which this is done
pub reallocated_by-keeps : (t t' : LayerModel) (m m' : Memory) (b b' : Block) (n : ℕ) (r : Bool) (rule : After Reallocated) → Stands t m → IsOutOf t m b → IsReallocated t.rules (state_of t m) m.cells b n rule → ReallocatesBy rule t t' m m' b b' r
    → ReallocateKeeps t t' m m' b b' n r
reallocated_by-keeps t t' m m' b b' n r rule h o g a =
    let x : HasBlockAfter t m b b' n r rule = subst (λ k. HasBlockAfter t m b k n r rule) (sym a.block) (subst (λ d. HasBlockAfter t m b (block_after b rule.answer) n d rule) (sym a.answer) (block-after t m b n rule.answer rule refl o g)) in
    record {
      stands = sound-again t t' m m' h a.frame rule.state rule.cells a.state a.cells g.settled;
      len = x.len;
      gives = λ l. out-again t t' m m' rule.state rule.cells b' a.frame a.state a.cells (x.out l);
      apart = λ l c p z. apart-again t t' m m' rule.state b' c a.frame a.state (x.fresh l c p z);
      place = λ l. elim (x.place l) [
        | inl k ↦ inl k
        | inr k ↦ inr (subst (λ y. is_apart y (extent_of t m b) ≡ true) (sym (ap (λ e. e.extent b' (state_of t' m')) a.frame.rules ∙ ap (λ s. t.rules.extent b' s) a.state)) k.either)
      ];
      out = λ c p z. out-again t t' m m' rule.state rule.cells c a.frame a.state a.cells (g.stays c p (λ d. z (a.answer ∙ d)));
      extents = λ c p z. extent-again t t' m m' rule.state c a.frame a.state (g.extents c p (λ d. z (a.answer ∙ d)));
      routes = λ c p z. route-again t t' m m' rule.state c a.frame a.state (g.routes c p (λ d. z (a.answer ∙ d)));
      changes_own = changes-from t t' m m' a.frame (subst (λ (new : Cells). OnlyOwnChanged t.rules m.cells new) (sym a.cells) g.table);
    }

pub reallocated-keeps : ReallocateLeaves
reallocated-keeps t t' m m' b b' n r l h o a =
    let w = keeping t m l h in
    reallocated_by-keeps t t' m m' b b' n r (reallocated t m b n) h o (w.reallocated n b (state_of t m) m.cells (w.out_open b (state_of t m) m.cells o) h.sound.settled o) a
