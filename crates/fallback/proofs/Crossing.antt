-- A block moves from its holder to the layer beside it.
use Rattle.std.proofs.Common.{◌≡◌, refl, sym, ap, subst, ◌∙◌, ℕ, ◌+◌, ◌≤◌, Bool, true, false, arith, inl, min, Option, Some, None}
use Rattle.space_core.specs.Memory.{Memory}
use Rattle.space_core.specs.Words.{IsCopied}
use Rattle.layer_rules.specs.declared.Block.{Block}
use Rattle.layer_rules.specs.After.{After, Placed, moved_to, unmoved}
use Rattle.layer_rules.specs.Layering.{LayerModel, state_of, Stands, IsSetUp, IsOutOf, IsMarkedOf, AreApartIn, Allocates, Deallocates, allocated, deallocated, block_in, is_done, block_after}
use Rattle.layer_rules.specs.Rules.{IsBeside}
use Rattle.layer_laws.specs.Lawful.{IsMade, Any}
use Rattle.layer_laws.specs.Standing.{Writes, ChangesOwn}
use Rattle.layer_laws.proofs.Placement.{member-changes_own, others-keep_state, write-keeps, write-changes_own}
use Rattle.layer_laws.proofs.StandingLaws.{allocated-stands, allocated-gives, allocated-changes_own, answered, deallocated-changes_own, changes-in_turn}
use Rattle.fallback.specs.MovingAcross.{Remains, AfterBoth, then_given, moved_across, MovesAcross}
use Rattle.fallback.proofs.Pairs.{flip-beside}
use Rattle.fallback.proofs.Remaining.{remains-beside, remains-allocated, remains-deallocated, remains-written, remains-then, remains-fewer}

-- what is asked: both are made and stand open, side by side, and the block is out of the first and marked
pub record CanMove (t u : LayerModel) (m : Memory) (b : Block) : Type 0 where
  pub made_holder : IsMade t.rules
  pub made_other : IsMade u.rules
  pub beside : IsBeside t.rules u.rules
  pub holder : Stands t m
  pub other : Stands u m
  pub other_open : IsSetUp u
  pub out : IsOutOf t m b
  pub marked : IsMarkedOf t m b

-- ---- the other layer was asked

asked-changes : (t u u' : LayerModel) (m m' : Memory) (b : Block) (n : ℕ) (r : Option Block) → CanMove t u m b → Allocates u u' m m' n r → ChangesOwn u.rules m m'
asked-changes t u u' m m' b n r h a = allocated-changes_own u u' m m' n r h.made_other h.other h.other_open a

-- so the holder remains
pub holder-remains : (t u u' : LayerModel) (m m' : Memory) (b : Block) (n : ℕ) (r : Option Block) → CanMove t u m b → Allocates u u' m m' n r → Remains t t m m' Any
holder-remains t u u' m m' b n r h a = remains-beside u.rules t m m' h.made_holder h.holder (flip-beside t.rules u.rules h.beside) (asked-changes t u u' m m' b n r h a)

refused-answer : (o : Option Placed) → None ≡ block_in o → o ≡ None
refused-answer None e = refl
refused-answer (Some p) e = absurd (cc)

-- it refused
pub stays-unmoved : (t u u' : LayerModel) (m m' : Memory) (b : Block) (n : ℕ) → CanMove t u m b → Allocates u u' m m' n None → MovesAcross t t u u' m m' b b n false
stays-unmoved t u u' m m' b n h a =
    let rule = allocated u m n in
    let s = state_of t m in
    let e : moved_across t u m b n ≡ record { answer = unmoved; holder = s; other = rule.state; cells = rule.cells } = ap (λ o. then_given o t.rules b s rule.state rule.cells) (refused-answer rule.answer a.answer) in
    let ch = asked-changes t u u' m m' b n None h a in
    record {
      answer = sym (ap (λ (x : AfterBoth). is_done x.answer) e);
      block = sym (ap (λ (x : AfterBoth). block_after b x.answer) e);
      holder_state = others-keep_state u.rules t m m' h.made_holder h.holder (flip-beside t.rules u.rules h.beside) ch ∙ sym (ap (λ (x : AfterBoth). x.holder) e);
      other_state = a.state ∙ sym (ap (λ (x : AfterBoth). x.other) e);
      cells = a.cells ∙ sym (ap (λ (x : AfterBoth). x.cells) e);
      holder = remains-fewer t t m m' Any _ (holder-remains t u u' m m' b n None h a) (λ c z. tt);
      other = remains-allocated u u' m m' n None h.made_other h.other h.other_open a;
      changes = λ g x y. member-changes_own u.rules g m m' y ch;
      carried = λ z. absurd (cc);
      len = λ z. absurd (cc);
      out = λ z. absurd (cc);
      clean = λ z. absurd (cc);
    }

-- ---- it served a block, and the bytes were copied there

-- what was copied lies in the new block
pub copied-inside : (m m' w : Memory) (b c : Block) (n k : ℕ) → c.len ≡ n → k ≤ n → IsCopied m'.bytes w.bytes b.place c.place k → w ≡ record m' { bytes = w.bytes } → Writes c m' w
copied-inside m m' w b c n k q l p e =
    record { cells = ap (λ (x : Memory). x.cells) e; leaves = ap (λ (x : Memory). x.leaves) e; bytes = record { length_same = p.size; below = λ i x. p.below i x; above = λ i x. p.above i (omega (arith, q)) } }

-- what stands then
pub record IsCopiedAcross (t u' : LayerModel) (m m' w : Memory) (b c : Block) : Type 0 where
  pub made : IsMade u'.rules
  pub rules_beside : IsBeside u'.rules t.rules
  pub served : Stands u' m'
  pub new_out : IsOutOf u' m' c
  pub inside : Writes c m' w
  pub holder : Remains t t m w Any
  pub state : state_of t w ≡ state_of t m

pub copied-across : (t u u' : LayerModel) (m m' w : Memory) (b c : Block) (n k : ℕ) → CanMove t u m b → Allocates u u' m m' n (Some c) → k ≤ n → IsCopied m'.bytes w.bytes b.place c.place k → w ≡ record m' { bytes = w.bytes } → IsCopiedAcross t u' m m' w b c
copied-across t u u' m m' w b c n k h a l p e =
    let made = subst IsMade (sym a.frame.rules) h.made_other in
    let back : IsBeside u'.rules t.rules = subst (λ e. IsBeside e t.rules) (sym a.frame.rules) (flip-beside t.rules u.rules h.beside) in
    let s = allocated-stands u u' m m' n (Some c) h.made_other h.other h.other_open a in
    let g = allocated-gives u u' m m' n c h.made_other h.other h.other_open a in
    let i = copied-inside m m' w b c n k g.len l p e in
    let wrote = write-changes_own u' m' w c made s g.out i in
    let one = holder-remains t u u' m m' b n (Some c) h a in
    record {
      made = made;
      rules_beside = back;
      served = s;
      new_out = g.out;
      inside = i;
      holder = remains-then t t t m m' w Any Any one (remains-beside u'.rules t m' w h.made_holder one.stands back wrote) (λ c o z. tt);
      state = others-keep_state u'.rules t m' w h.made_holder one.stands back wrote ∙ others-keep_state u.rules t m m' h.made_holder h.holder (flip-beside t.rules u.rules h.beside) (asked-changes t u u' m m' b n (Some c) h a);
    }

-- ---- the old block was given back

pub moves : (t t' u u' : LayerModel) (m m' w z : Memory) (b c : Block) (n k : ℕ) (r : Bool) → CanMove t u m b → Allocates u u' m m' n (Some c) → k ≡ min n b.len → IsCopied m'.bytes w.bytes b.place c.place k → w ≡ record m' { bytes = w.bytes }
    → Deallocates t t' w z b r → MovesAcross t t' u u' m z b c n true
moves t t' u u' m m' w z b c n k r h a q p e f =
    let x = copied-across t u u' m m' w b c n k h a (rw q (omega arith)) p e in
    let rule = allocated u m n in
    let y = answered c rule.answer a.answer in
    let gone = t.rules.deallocate b (state_of t m) rule.cells in
    let row : moved_across t u m b n ≡ record { answer = moved_to y.0.block; holder = gone.state; other = rule.state; cells = gone.cells } = ap (λ o. then_given o t.rules b (state_of t m) rule.state rule.cells) y.1 in
    let same : deallocated t w b ≡ gone = ap (λ s. t.rules.deallocate b s w.cells) x.state ∙ ap (λ c. t.rules.deallocate b (state_of t m) c) (x.inside.cells ∙ a.cells) in
    let b_out = x.holder.out b h.out tt in
    let wrote = write-keeps u' m' w c x.made x.served x.new_out x.inside in
    let last = deallocated-changes_own t t' w z b r h.made_holder x.holder.stands b_out f in
    let ahead = flip-beside u'.rules t.rules x.rules_beside in
    let beside = remains-beside t.rules u' w z x.made wrote.stands ahead last in
    let g = allocated-gives u u' m m' n c h.made_other h.other h.other_open a in
    let c_out = wrote.out c x.new_out in
    let clean = wrote.clean c x.new_out (inl refl) (a.made c refl) in
    record {
      answer = sym (ap (λ (x : AfterBoth). is_done x.answer) row);
      block = sym y.2 ∙ sym (ap (λ (x : AfterBoth). block_after b x.answer) row);
      holder_state = f.state ∙ ap (λ (x : After Bool). x.state) same ∙ sym (ap (λ (x : AfterBoth). x.holder) row);
      other_state = others-keep_state t.rules u' w z x.made wrote.stands ahead last ∙ wrote.state ∙ a.state ∙ sym (ap (λ (x : AfterBoth). x.other) row);
      cells = f.cells ∙ ap (λ (x : After Bool). x.cells) same ∙ sym (ap (λ (x : AfterBoth). x.cells) row);
      holder = remains-then t t t' m w z _ _ (remains-fewer t t m w Any _ x.holder (λ c z. tt)) (remains-deallocated t t' w z b r h.made_holder x.holder.stands b_out f)
          (λ c o far. let v = far refl in record { either = rw x.state v.either });
      other = remains-then u u' u' m m' z Any (λ d. AreApartIn u' m' c d) (remains-allocated u u' m m' n (Some c) h.made_other h.other h.other_open a)
          (remains-then u' u' u' m' w z _ Any (remains-written u' m' w c x.made x.served x.new_out x.inside) beside (λ d o far. tt)) (λ d o v. g.fresh d o);
      changes = λ e up_t up_u.
          let one = member-changes_own u.rules e m m' up_u (asked-changes t u u' m m' b n (Some c) h a) in
          let two = member-changes_own u.rules e m' w up_u (subst (λ e. ChangesOwn e m' w) a.frame.rules (write-changes_own u' m' w c x.made x.served x.new_out x.inside)) in
          changes-in_turn e m w z (changes-in_turn e m m' w one two) (member-changes_own t.rules e w z up_t last);
      carried = λ done i l. (beside.stays c c_out tt).bytes.at (c.place + i) (omega arith) (omega (arith, g.len)) ∙ p.there i (omega (arith, q)) ∙ ((holder-remains t u u' m m' b n (Some c) h a).stays b h.out tt).bytes.at (b.place + i) (omega arith) (omega arith);
      len = λ done. g.len;
      out = λ done. beside.out c c_out tt;
      clean = λ done. (beside.stays c c_out tt).clean clean;
    }
