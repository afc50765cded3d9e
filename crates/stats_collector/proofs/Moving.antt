-- A block gets another length by its parent, counted.
use Rattle.std.proofs.Common.{◌≡◌, ◌≢◌, refl, sym, ap, subst, ◌∙◌, ℕ, ◌≤◌, ◌||◌, Bool, true, false, arith, Option, Some, is_some, nat_eq, nat_lt}
use Rattle.std.proofs.lemmas.Bool.Decides.{nat_tests}
use Rattle.size_round.specs.Sizes.{limit}
use Rattle.space_core.specs.Memory.{Memory}
use Rattle.layer_rules.specs.declared.Block.{Block}
use Rattle.layer_rules.specs.declared.Stats.{Stats}
use Rattle.layer_rules.specs.After.{After, after, Reallocated, moved_to, emptied, unmoved}
use Rattle.layer_rules.specs.Fields.{kept_stats, are_open}
use Rattle.layer_rules.specs.Handing.{count_reallocation, hand_deallocate, hand_move, hand_reallocation, handing_rules, shown_by}
use Rattle.layer_rules.specs.Layering.{LayerModel, state_of, Stands, IsOutOf, Reallocates, ReallocatesBy, reallocated, is_done, block_after}
use Rattle.layer_rules.specs.Reallocating.{reallocated_unless}
use Rattle.layer_rules.specs.State.{stats_own, open_with, one_child}
use Rattle.layer_laws.proofs.HandingCalls.{frame-open}
use Rattle.layer_laws.proofs.HandingParts.{out-hand, apart-hand}
use Rattle.layer_laws.proofs.HandingStands.{parent-stands, out-below}
use Rattle.layer_laws.specs.Lawful.{IsMade}
use Rattle.layer_laws.proofs.StandingLaws.{keeping}
use Rattle.stats_rules.specs.Counting.{count_failed_reallocate, count_reallocate}
use Rattle.stats_rules.specs.StatsRules.{count_reallocated, slack_of, stats_handing, stats_rules}
use Rattle.stats_collector.specs.CollectorModel.{collector_model}

-- ---- what the rule does

-- the parent's reallocation, with its answer counted
by_parent : LayerModel → Memory → Block → (n : ℕ) → Stats → After Reallocated
by_parent t m b n x =
    let r = reallocated t m b n in after r.answer (open_with (stats_own (count_reallocated n (slack_of t.rules) b r.answer x)) (one_child r.state)) r.cells

shown-same : (a : Reallocated) → shown_by (λ b. b) a ≡ a
shown-same (moved_to b) = refl
shown-same emptied = refl
shown-same unmoved = refl

goes-by_parent : (x : Stats) (t : LayerModel) (m : Memory) (b : Block) (n : ℕ) → n ≢ b.len → 1 ≤ n → n ≤ limit → reallocated (collector_model (Some x) t) m b n ≡ by_parent t m b n x
unfolding by_parent stats_rules handing_rules
goes-by_parent x t m b n q l k =
    let h = stats_handing t.rules in
    let s = state_of (collector_model (Some x) t) m in
    let r = reallocated t m b n in
    let p : nat_eq n b.len ≡ false = grind (arith, nat_tests) in
    let z : nat_eq n 0 ≡ false = grind (arith, nat_tests) in
    let y : nat_lt limit n ≡ false = grind (arith, nat_tests) in
    let give = hand_deallocate h t.rules.deallocate in
    let move = hand_move h t.rules n in
    let counted = λ (a : Reallocated). after a (open_with (stats_own (count_reallocated n (slack_of t.rules) b a x)) (one_child r.state)) r.cells in
    let row = λ (u v w : Bool). count_reallocation h n b (reallocated_unless u v w give move b s m.cells) in
    ap (λ u. hand_reallocation h (u || nat_eq n 0) n give move b s m.cells) p
    ∙ (ap (λ u. hand_reallocation h u n give move b s m.cells) z
    ∙ (ap (λ u. row u (nat_eq n 0) (nat_lt limit n)) p
    ∙ (ap (λ u. row false u (nat_lt limit n)) z
    ∙ (ap (λ u. row false false u) y
    ∙ ap counted (shown-same r.answer)))))

-- ---- what a call does by it

by-parent : (x x' : Stats) (t t' : LayerModel) (m m' : Memory) (b c : Block) (n : ℕ) (r : Bool) → IsMade t.rules → IsOutOf (collector_model (Some x) t) m b → x' ≡ count_reallocated n (slack_of t.rules) b (reallocated t m b n).answer x
    → Reallocates t t' m m' b c n r → ReallocatesBy (by_parent t m b n x) (collector_model (Some x) t) (collector_model (Some x') t') m m' b c r
unfolding by_parent stats_rules handing_rules
by-parent x x' t t' m m' b c n r l o counted a =
    let h = stats_handing t.rules in
    let T = collector_model (Some x) t in
    let row = reallocated t m b n in
    record {
      frame = frame-open stats_handing kept_stats (Some x) x' t t' m m' a.frame;
      opened = refl;
      answer = a.answer;
      block = a.block;
      state = ap (λ k. open_with (stats_own k) (one_child (state_of t' m'))) counted ∙ ap (λ s. open_with (stats_own (count_reallocated n (slack_of t.rules) b row.answer x)) (one_child s)) a.state;
      cells = a.cells;
      carried = λ some. let k = a.carried some in record { bytes = k.bytes; clean = k.clean; marked = k.clean };
      others = λ d p z.
          let y = out-hand h t.rules b (state_of T m) m.cells o in
          let v = out-hand h t.rules d (state_of T m) m.cells p in
          let k = a.others d v.below (λ done. let far = z done in let e = apart-hand h t.rules (state_of T m) b d y.fits v.fits (record { either = far.either }) in record { either = e.either }) in
          record { bytes = k.bytes; clean = k.clean; marked = k.clean };
    }

moves : (x x' : Stats) (t t' : LayerModel) (m m' : Memory) (b c : Block) (n : ℕ) (r : Bool) → IsMade t.rules → IsOutOf (collector_model (Some x) t) m b → n ≢ b.len → 1 ≤ n → n ≤ limit → x' ≡ count_reallocated n (slack_of t.rules) b (reallocated t m b n).answer x
    → Reallocates t t' m m' b c n r → Reallocates (collector_model (Some x) t) (collector_model (Some x') t') m m' b c n r
moves x x' t t' m m' b c n r l o q some short counted a =
    subst (λ rule. ReallocatesBy rule (collector_model (Some x) t) (collector_model (Some x') t') m m' b c r) (sym (goes-by_parent x t m b n q some short)) (by-parent x x' t t' m m' b c n r l o counted a)

-- ---- refused, and done

undone : (a : Reallocated) → false ≡ is_done a → a ≡ unmoved
undone (moved_to c) e = absurd (cc)
undone emptied e = absurd (cc)
undone unmoved e = refl

pub refused : (o : Option Stats) (x x' : Stats) (t t' : LayerModel) (m m' : Memory) (b c : Block) (n : ℕ) → o ≡ Some x → IsMade t.rules → IsOutOf (collector_model o t) m b → n ≢ b.len → 1 ≤ n → n ≤ limit → x' ≡ count_failed_reallocate x
    → Reallocates t t' m m' b c n false → Reallocates (collector_model o t) (collector_model (Some x') t') m m' b c n false
refused o x x' t t' m m' b c n e l out q some short counted a =
    let k = undone (reallocated t m b n).answer a.answer in
    subst (λ o. IsOutOf (collector_model o t) m b → Reallocates (collector_model o t) (collector_model (Some x') t') m m' b c n false) (sym e)
    (λ out. moves x x' t t' m m' b c n false l out q some short (counted ∙ ap (λ a. count_reallocated n (slack_of t.rules) b a x) (sym k)) a) out

counted-done : (x : Stats) (b c : Block) (n : ℕ) (slack : ℕ → ℕ) (a : Reallocated) → true ≡ is_done a → (a ≡ emptied → ⊥) → c ≡ block_after b a → count_reallocate (nat_eq b.place c.place) b.len n (slack b.len) (slack n) x ≡ count_reallocated n slack b a x
counted-done x b c n slack (moved_to d) e f q = ap (λ (k : Block). count_reallocate (nat_eq b.place k.place) b.len n (slack b.len) (slack n) x) q
counted-done x b c n slack emptied e f q = absurd (f refl)
counted-done x b c n slack unmoved e f q = absurd (cc)

-- of at least one byte there is a block then
pub done : (o : Option Stats) (x x' : Stats) (t t' : LayerModel) (m m' : Memory) (b c : Block) (n : ℕ) → o ≡ Some x → IsMade t.rules → are_open t.fields ≡ is_some o → Stands (collector_model o t) m → IsOutOf (collector_model o t) m b → n ≢ b.len → 1 ≤ n → n ≤ limit
    → x' ≡ count_reallocate (nat_eq b.place c.place) b.len n (slack_of t.rules b.len) (slack_of t.rules n) x → Reallocates t t' m m' b c n true → Reallocates (collector_model o t) (collector_model (Some x') t') m m' b c n true
unfolding stats_rules
done o x x' t t' m m' b c n e l together stands out q some short counted a =
    let st = parent-stands stats_handing kept_stats o t m l together stands in
    let below = out-below stats_handing kept_stats o x t m b e out in
    let w = keeping t m l st in
    let g = w.reallocated n b (state_of t m) m.cells (w.out_open b (state_of t m) m.cells below) st.sound.settled below in
    let k = counted-done x b c n (slack_of t.rules) (reallocated t m b n).answer a.answer (λ z. let y = g.some z in omega arith) a.block in
    subst (λ o. IsOutOf (collector_model o t) m b → Reallocates (collector_model o t) (collector_model (Some x') t') m m' b c n true) (sym e)
    (λ out. moves x x' t t' m m' b c n true l out q some short (counted ∙ k) a) out
