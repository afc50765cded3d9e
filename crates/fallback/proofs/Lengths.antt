-- A block gets another length: from its holder, or where that refuses as a new block of the other layer.
use Rattle.std.proofs.Common.{◌≡◌, ◌≢◌, refl, sym, ap, ap₂, subst, ◌∙◌, ℕ, ◌+◌, ◌<◌, ◌≤◌, Bool, true, false, arith, get_or, min, nat_eq, nat_lt, option_map, Option, Some, None}
use Rattle.std.proofs.lemmas.Bool.Decides.{nat_tests}
use Rattle.size_round.specs.Sizes.{limit}
use Rattle.space_core.specs.Cells.{Cells}
use Rattle.space_core.specs.Memory.{Memory}
use Rattle.layer_rules.specs.declared.Block.{Block}
use Rattle.layer_rules.specs.After.{After, after, Change, change_child, Placed, from_child, Serve, Reallocated, moved_to, emptied, unmoved, Reallocate}
use Rattle.layer_rules.specs.Allocating.{serve_member}
use Rattle.layer_rules.specs.Layering.{LayerModel, state_of, kept_state, Stands, IsOutOf, IsCleanOf, IsMarkedOf, AreApartIn, Stays, Carries, Reallocates, ReallocatesBy, reallocated, is_done, block_after}
use Rattle.layer_rules.specs.Reallocating.{reallocated_unless, asked_to_reallocate, then_give, either_reallocate}
use Rattle.layer_rules.specs.Rules.{Rules, IsLeaf, IsBeside}
use Rattle.layer_rules.specs.State.{State, child}
use Rattle.layer_laws.specs.Lawful.{IsMade, Any}
use Rattle.layer_laws.specs.Standing.{ChangesOwn, extent_of}
use Rattle.layer_laws.proofs.Placement.{member-changes_own, others-keep_state}
use Rattle.layer_laws.proofs.StandingLaws.{changes-in_turn}
use Rattle.layer_laws.proofs.StandingReallocated.{reallocated-keeps}
use Rattle.fallback_rules.specs.FallbackRules.{or_other, reallocate_or_other, fallback_deallocate, fallback_rules}
use Rattle.fallback.proofs.Holders.{pair_of}
use Rattle.layer_laws.proofs.MembersLawful.{in-left, in-right}
use Rattle.fallback.specs.FallbackModel.{fallback_model}
use Rattle.fallback.specs.MovingAcross.{Remains, AfterBoth, then_given, moved_across, MovesAcross}
use Rattle.fallback.proofs.Pairs.{ArePaired, open_pair, flip-beside, held-first, held-not, apart-first, apart-second, clean-first, clean-second, marked-clean, paired-again, pair-stays, pair-frames, changes-first, changes-second, as-open, holds-now, out-open, out-by_first, out-by_second}
use Rattle.fallback.proofs.Remaining.{remains-beside, remains-reallocated, remains-then, remains-fewer}

-- ---- what the rule does

-- a length that is another one, of some bytes, and up to the limit goes to the form itself
another : (n : ℕ) (give : Change) (move : Reallocate) (b : Block) (s : State) (cells : Cells) → n ≢ b.len → 1 ≤ n → n ≤ limit → asked_to_reallocate n give move b s cells ≡ move b s cells
another n give move b s cells q l k =
    let x : nat_eq n b.len ≡ false = grind (arith, nat_tests) in
    let y : nat_eq n 0 ≡ false = grind (arith, nat_tests) in
    let z : nat_lt limit n ≡ false = grind (arith, nat_tests) in
    ap (λ u. reallocated_unless u (nat_eq n 0) (nat_lt limit n) give move b s cells) x ∙ ap (λ u. reallocated_unless false u (nat_lt limit n) give move b s cells) y ∙ ap (λ u. reallocated_unless false false u give move b s cells) z

-- the holder, and then the other one
either : LayerModel → LayerModel → (n : ℕ) → Bool → Reallocate
either p f n q =
    either_reallocate q (reallocate_or_other 0 (p.rules.reallocate n) 1 (f.rules.allocate n) p.rules.deallocate) (reallocate_or_other 1 (f.rules.reallocate n) 0 (p.rules.allocate n) f.rules.deallocate)

goes-by_holder : (p f : LayerModel) (m : Memory) (b : Block) (n : ℕ) (q : Bool) → n ≢ b.len → 1 ≤ n → n ≤ limit → p.rules.holds b (state_of p m) ≡ q → reallocated (open_pair p f) m b n ≡ either p f n q b (state_of (open_pair p f) m) m.cells
unfolding fallback_rules either
goes-by_holder p f m b n q u l k e =
    let s = state_of (open_pair p f) m in
    another n (fallback_deallocate p.rules f.rules) (λ b s. either p f n (p.rules.holds b (child s 0)) b s) b s m.cells u l k ∙ ap (λ q. either p f n q b s m.cells) e

-- the holder did it
done-row : (serve : Serve) (give : Change) (b : Block) (x : Reallocated) (s : State) (cells : Cells) → true ≡ is_done x → or_other serve give b (after x s cells) ≡ after x s cells
done-row serve give b (moved_to c) s cells e = refl
done-row serve give b emptied s cells e = refl
done-row serve give b unmoved s cells e = absurd (cc)

undone : (a : Reallocated) → false ≡ is_done a → a ≡ unmoved
undone (moved_to c) e = absurd (cc)
undone emptied e = absurd (cc)
undone unmoved e = refl

-- it didn't
undone-row : (serve : Serve) (give : Change) (b : Block) (x : Reallocated) (s : State) (cells : Cells) → false ≡ is_done x → or_other serve give b (after x s cells) ≡ then_give give b (serve s cells)
undone-row serve give b (moved_to c) s cells e = absurd (cc)
undone-row serve give b emptied s cells e = absurd (cc)
undone-row serve give b unmoved s cells e = refl

-- both states as those of a pair, whichever is the holder
first_gave : AfterBoth → After Reallocated
first_gave k = after k.answer (pair_of k.holder k.other) k.cells

second_gave : AfterBoth → After Reallocated
second_gave k = after k.answer (pair_of k.other k.holder) k.cells

across-first : (p : Rules) (b : Block) (a : State) (o : Option Placed) (c : State) (cells : Cells)
    → then_give (change_child 0 p.deallocate) b (after (option_map (from_child (λ d. d) 1) o) (pair_of a c) cells) ≡ first_gave (then_given o p b a c cells)
unfolding first_gave
across-first p b a None c cells = refl
across-first p b a (Some q) c cells = refl

across-second : (f : Rules) (b : Block) (a : State) (o : Option Placed) (c : State) (cells : Cells)
    → then_give (change_child 1 f.deallocate) b (after (option_map (from_child (λ d. d) 0) o) (pair_of a c) cells) ≡ second_gave (then_given o f b c a cells)
unfolding second_gave
across-second f b a None c cells = refl
across-second f b a (Some q) c cells = refl

-- ---- the holder did it

first-done : (p p' f : LayerModel) (m m' : Memory) (b b' : Block) (n : ℕ) → ArePaired p f m → p.rules.holds b (state_of p m) ≡ true → IsOutOf p m b → n ≢ b.len → 1 ≤ n → n ≤ limit → Reallocates p p' m m' b b' n true
    → Reallocates (open_pair p f) (open_pair p' f) m m' b b' n true
unfolding fallback_rules either
first-done p p' f m m' b b' n h q o u l k a =
    let w = reallocated-keeps p p' m m' b b' n true h.made_first h.first o a in
    let x = remains-reallocated p p' m m' b b' n true h.made_first h.first o a in
    let y = remains-beside p.rules f m m' h.made_second h.second h.apart w.changes_own in
    let later = paired-again p p' f f m m' _ _ h x y in
    let r = reallocated p m b n in
    let e : reallocated (open_pair p f) m b n ≡ after r.answer (pair_of r.state (state_of f m)) r.cells = goes-by_holder p f m b n true u l k q ∙ done-row (serve_member (λ c. c) 1 (f.rules.allocate n)) (change_child 0 p.rules.deallocate) b r.answer (pair_of r.state (state_of f m)) r.cells a.answer in
    let old = clean-first p f m b q in
    subst (λ rule. ReallocatesBy rule (open_pair p f) (open_pair p' f) m m' b b' true) (sym e)
    (record {
      frame = pair-frames p p' f f m m' _ _ x y (changes-first p.rules f.rules m m' w.changes_own);
      opened = refl;
      answer = a.answer;
      block = a.block;
      state = ap₂ pair_of a.state (others-keep_state p.rules f m m' h.made_second h.second h.apart w.changes_own);
      cells = a.cells;
      carried = λ some.
          let new = clean-first p' f m' b' (held-first p' f m' b' later (w.gives some)) in
          let z = a.carried some in
          record { bytes = z.bytes; clean = λ v. new ∙ z.clean (sym old ∙ v); marked = λ v. marked-clean p' f m' b' ∙ new ∙ z.clean (sym old ∙ sym (marked-clean p f m b) ∙ v) };
      others = λ c out z. pair-stays p p' f f m m' _ _ c h x y out (λ below done. apart-first p f m b c q (held-first p f m c h below) (z done)) (λ below. tt);
    })

second-done : (p f f' : LayerModel) (m m' : Memory) (b b' : Block) (n : ℕ) → ArePaired p f m → p.rules.holds b (state_of p m) ≡ false → IsOutOf f m b → n ≢ b.len → 1 ≤ n → n ≤ limit → Reallocates f f' m m' b b' n true
    → Reallocates (open_pair p f) (open_pair p f') m m' b b' n true
unfolding fallback_rules either
second-done p f f' m m' b b' n h q o u l k a =
    let back = flip-beside p.rules f.rules h.apart in
    let w = reallocated-keeps f f' m m' b b' n true h.made_second h.second o a in
    let x = remains-beside f.rules p m m' h.made_first h.first back w.changes_own in
    let y = remains-reallocated f f' m m' b b' n true h.made_second h.second o a in
    let later = paired-again p p f f' m m' _ _ h x y in
    let r = reallocated f m b n in
    let e : reallocated (open_pair p f) m b n ≡ after r.answer (pair_of (state_of p m) r.state) r.cells = goes-by_holder p f m b n false u l k q ∙ done-row (serve_member (λ c. c) 0 (p.rules.allocate n)) (change_child 1 f.rules.deallocate) b r.answer (pair_of (state_of p m) r.state) r.cells a.answer in
    let old = clean-second p f m b q in
    subst (λ rule. ReallocatesBy rule (open_pair p f) (open_pair p f') m m' b b' true) (sym e)
    (record {
      frame = pair-frames p p f f' m m' _ _ x y (changes-second p.rules f.rules m m' w.changes_own);
      opened = refl;
      answer = a.answer;
      block = a.block;
      state = ap₂ pair_of (others-keep_state f.rules p m m' h.made_first h.first back w.changes_own) a.state;
      cells = a.cells;
      carried = λ some.
          let new = clean-second p f' m' b' (held-not p f' m' b' later (w.gives some)) in
          let z = a.carried some in
          record { bytes = z.bytes; clean = λ v. new ∙ z.clean (sym old ∙ v); marked = λ v. marked-clean p f' m' b' ∙ new ∙ z.clean (sym old ∙ sym (marked-clean p f m b) ∙ v) };
      others = λ c out z. pair-stays p p f f' m m' _ _ c h x y out (λ below. tt) (λ below done. apart-second p f m b c q (held-not p f m c h below) (z done));
    })

pub reallocates-first : (p p' f : LayerModel) (m m' : Memory) (b b' : Block) (n : ℕ) (r : Bool) → ArePaired p f m → true ≡ p.rules.holds b (kept_state p) → IsOutOf (fallback_model p f) m b → n ≢ b.len → 1 ≤ n → n ≤ limit → r ≡ true → Reallocates p p' m m' b b' n r
    → Reallocates (fallback_model p f) (fallback_model p' f) m m' b b' n r
reallocates-first p p' f m m' b b' n r h e o u l k q a =
    subst (λ r. Reallocates (fallback_model p f) (fallback_model p' f) m m' b b' n r) (sym q)
    (as-open (λ t t'. Reallocates t t' m m' b b' n true) p p' f f h.first_open (a.opened ∙ h.first_open)
    (first-done p p' f m m' b b' n h (holds-now p m b true h.made_first e) (out-by_first p f m b h e o) u l k (subst (λ r. Reallocates p p' m m' b b' n r) q a)))

pub reallocates-second : (p f f' : LayerModel) (m m' : Memory) (b b' : Block) (n : ℕ) (r : Bool) → ArePaired p f m → false ≡ p.rules.holds b (kept_state p) → IsOutOf (fallback_model p f) m b → n ≢ b.len → 1 ≤ n → n ≤ limit → r ≡ true → Reallocates f f' m m' b b' n r
    → Reallocates (fallback_model p f) (fallback_model p f') m m' b b' n r
reallocates-second p f f' m m' b b' n r h e o u l k q a =
    subst (λ r. Reallocates (fallback_model p f) (fallback_model p f') m m' b b' n r) (sym q)
    (as-open (λ t t'. Reallocates t t' m m' b b' n true) p p f f' h.first_open h.first_open
    (second-done p f f' m m' b b' n h (holds-now p m b false h.made_first e) (out-by_second p f m b h e o) u l k (subst (λ r. Reallocates f f' m m' b b' n r) q a)))

-- ---- the holder refused

-- what stands then of the holder t and of the layer u beside it
pub record IsRefused (t t' u : LayerModel) (m m' : Memory) (b b' : Block) (n : ℕ) : Type 0 where
  pub block : b' ≡ b
  pub answer : false ≡ is_done (reallocated t m b n).answer
  pub rules : t'.rules ≡ t.rules
  pub state : state_of t' m' ≡ (reallocated t m b n).state
  pub cells : m'.cells ≡ (reallocated t m b n).cells
  pub changes : ChangesOwn t.rules m m'
  pub holder : Remains t t' m m' Any
  pub other : Remains u u m m' Any
  pub other_state : state_of u m' ≡ state_of u m
  pub extents : (c : Block) → IsOutOf t m c → extent_of t' m' c ≡ extent_of t m c

refused : (t t' u : LayerModel) (m m' : Memory) (b b' : Block) (n : ℕ) → IsMade t.rules → IsMade u.rules → IsBeside t.rules u.rules → Stands t m → Stands u m → IsOutOf t m b → Reallocates t t' m m' b b' n false → IsRefused t t' u m m' b b' n
refused t t' u m m' b b' n l k beside s v o a =
    let w = reallocated-keeps t t' m m' b b' n false l s o a in
    record {
      block = a.block ∙ ap (block_after b) (undone (reallocated t m b n).answer a.answer);
      answer = a.answer;
      rules = a.frame.rules;
      state = a.state;
      cells = a.cells;
      changes = w.changes_own;
      holder = remains-fewer t t' m m' _ Any (remains-reallocated t t' m m' b b' n false l s o a) (λ c z done. absurd (cc));
      other = remains-beside t.rules u m m' k v beside w.changes_own;
      other_state = others-keep_state t.rules u m m' k v beside w.changes_own;
      extents = λ c out. w.extents c out (λ done. absurd (cc));
    }

pub refused-first : (p p' f : LayerModel) (m m' : Memory) (b b' : Block) (n : ℕ) (r : Bool) → ArePaired p f m → true ≡ p.rules.holds b (kept_state p) → IsOutOf (fallback_model p f) m b → r ≡ false → Reallocates p p' m m' b b' n r → IsRefused p p' f m m' b b' n
refused-first p p' f m m' b b' n r h e o q a =
    refused p p' f m m' b b' n h.made_first h.made_second h.apart h.first h.second (out-by_first p f m b h e o) (subst (λ r. Reallocates p p' m m' b b' n r) q a)

pub refused-second : (p f f' : LayerModel) (m m' : Memory) (b b' : Block) (n : ℕ) (r : Bool) → ArePaired p f m → false ≡ p.rules.holds b (kept_state p) → IsOutOf (fallback_model p f) m b → r ≡ false → Reallocates f f' m m' b b' n r → IsRefused f f' p m m' b b' n
refused-second p f f' m m' b b' n r h e o q a =
    refused f f' p m m' b b' n h.made_second h.made_first (flip-beside p.rules f.rules h.apart) h.second h.first (out-by_second p f m b h e o) (subst (λ r. Reallocates f f' m m' b b' n r) q a)

-- the block is out of the holder still, and marked
pub still-out : (t t' u : LayerModel) (m m' : Memory) (b b' : Block) (n : ℕ) → IsRefused t t' u m m' b b' n → IsOutOf t m b → IsOutOf t' m' b'
still-out t t' u m m' b b' n x o = subst (λ c. IsOutOf t' m' c) (sym x.block) (x.holder.out b o tt)

pub still-marked : (t t' u : LayerModel) (m m' : Memory) (b b' : Block) (n : ℕ) → IsRefused t t' u m m' b b' n → IsOutOf t m b → IsMarkedOf t m b → IsMarkedOf t' m' b'
still-marked t t' u m m' b b' n x o k = subst (λ c. IsMarkedOf t' m' c) (sym x.block) ((x.holder.stays b o tt).marked k)

-- ---- and then the block moved, or not

-- what the rule does then, in what the refusal left
abbrev pub crossing : (holder other : LayerModel) → Memory → Block → (n : ℕ) → AfterBoth
crossing t u m b n =
    let r = reallocated t m b n in
    let s = u.rules.allocate n (state_of u m) r.cells in
    then_given s.answer t.rules b r.state s.state s.cells

-- both calls as one
record Crosses (t t' u u' : LayerModel) (m w : Memory) (b b' : Block) (n : ℕ) (r : Bool) : Type 0 where
  pub refused : false ≡ is_done (reallocated t m b n).answer
  pub answer : r ≡ is_done (crossing t u m b n).answer
  pub block : b' ≡ block_after b (crossing t u m b n).answer
  pub holder_state : state_of t' w ≡ (crossing t u m b n).holder
  pub other_state : state_of u' w ≡ (crossing t u m b n).other
  pub cells : w.cells ≡ (crossing t u m b n).cells
  pub holder : Remains t t' m w (λ c. r ≡ true → AreApartIn t m b c)
  pub other : Remains u u' m w Any
  pub changes : (e : Rules) → ((x : ℕ) → IsLeaf t.rules x → IsLeaf e x) → ((x : ℕ) → IsLeaf u.rules x → IsLeaf e x) → ChangesOwn e m w
  pub carried : r ≡ true → (i : ℕ) → i < min b.len n → get_or w.bytes (b'.place + i) 0 ≡ get_or m.bytes (b.place + i) 0
  pub len : r ≡ true → b'.len ≡ n
  pub out : r ≡ true → IsOutOf u' w b'
  pub clean : r ≡ true → IsCleanOf u' w b'

crosses : (t t' t'' u u' : LayerModel) (m m' w : Memory) (b b' b'' : Block) (n : ℕ) (r : Bool) → IsRefused t t' u m m' b b' n → IsOutOf t m b → MovesAcross t' t'' u u' m' w b' b'' n r → Crosses t t'' u u' m w b b'' n r
crosses t t' t'' u u' m m' w b b' b'' n r x o moved =
    let a = subst (λ d. MovesAcross t' t'' u u' m' w d b'' n r) x.block moved in
    let serve = λ (s : State) (c : Cells). u.rules.allocate n s c in
    let gave = λ (e : Rules) (s o : State) (c : Cells). let k = serve o c in then_given k.answer e b s k.state k.cells in
    let rule : moved_across t' u m' b n ≡ crossing t u m b n =
    ap (λ e. gave e (state_of t' m') (state_of u m') m'.cells) x.rules ∙ ap (λ s. gave t.rules s (state_of u m') m'.cells) x.state
    ∙ ap (λ o. gave t.rules (reallocated t m b n).state o m'.cells) x.other_state ∙ ap (λ c. gave t.rules (reallocated t m b n).state (state_of u m) c) x.cells in
    record {
      refused = x.answer;
      answer = a.answer ∙ ap (λ (k : AfterBoth). is_done k.answer) rule;
      block = a.block ∙ ap (λ (k : AfterBoth). block_after b k.answer) rule;
      holder_state = a.holder_state ∙ ap (λ (k : AfterBoth). k.holder) rule;
      other_state = a.other_state ∙ ap (λ (k : AfterBoth). k.other) rule;
      cells = a.cells ∙ ap (λ (k : AfterBoth). k.cells) rule;
      holder = remains-then t t' t'' m m' w (λ c. r ≡ true → AreApartIn t m b c) (λ c. r ≡ true → AreApartIn t' m' b c) (remains-fewer t t' m m' Any _ x.holder (λ c z. tt)) a.holder
          (λ c out far done. let z = far done in record { either = rw (x.extents b o, x.extents c out) z.either });
      other = remains-then u u u' m m' w Any Any x.other a.other (λ c out z. tt);
      changes = λ e up_t up_u. changes-in_turn e m m' w (member-changes_own t.rules e m m' up_t x.changes) (a.changes e (λ y l. up_t y (subst (λ g. IsLeaf g y) x.rules l)) up_u);
      carried = λ done i l. a.carried done i l ∙ (x.holder.stays b o tt).bytes.at (b.place + i) (omega arith) (omega (arith, l));
      len = a.len;
      out = a.out;
      clean = a.clean;
    }

-- the bytes and what is round them, of a block that moved and of one that did not
carries : (T T' : LayerModel) (m w : Memory) (b b' : Block) (n : ℕ) (r : Bool) (x : Reallocated) → r ≡ is_done x → b' ≡ block_after b x → (r ≡ true → (i : ℕ) → i < min b.len n → get_or w.bytes (b'.place + i) 0 ≡ get_or m.bytes (b.place + i) 0)
    → (r ≡ true → b'.len ≡ n) → (r ≡ true → IsCleanOf T' w b' × IsMarkedOf T' w b') → (r ≡ false → Stays T T' m w b) → Carries T T' m w b b' (min b.len b'.len)
carries T T' m w b b' n true x e q carried len round stays =
    let l = len refl in
    record { bytes = λ i k. carried refl i (omega (arith, k, l)); clean = λ z. (round refl).0; marked = λ z. (round refl).1 }
carries T T' m w b b' n false x e q carried len round stays =
    let same : b' ≡ b = q ∙ ap (block_after b) (undone x e) in
    let k = stays refl in
    subst (λ (d : Block). Carries T T' m w b d (min b.len d.len)) (sym same) (record { bytes = λ i l. k.bytes.at (b.place + i) (omega arith) (omega (arith, l)); clean = k.clean; marked = k.marked })

first-crosses : (p p' f f' : LayerModel) (m w : Memory) (b b' : Block) (n : ℕ) (r : Bool) → ArePaired p f m → p.rules.holds b (state_of p m) ≡ true → IsOutOf (open_pair p f) m b → n ≢ b.len → 1 ≤ n → n ≤ limit → Crosses p p' f f' m w b b' n r
    → Reallocates (open_pair p f) (open_pair p' f') m w b b' n r
unfolding fallback_rules either first_gave
first-crosses p p' f f' m w b b' n r h q o u l k a =
    let T = open_pair p f in
    let T' = open_pair p' f' in
    let x = reallocated p m b n in
    let s = f.rules.allocate n (state_of f m) x.cells in
    let cross = crossing p f m b n in
    let e : reallocated T m b n ≡ after cross.answer (pair_of cross.holder cross.other) cross.cells =
    goes-by_holder p f m b n true u l k q ∙ undone-row (serve_member (λ c. c) 1 (f.rules.allocate n)) (change_child 0 p.rules.deallocate) b x.answer (pair_of x.state (state_of f m)) x.cells a.refused ∙ across-first p.rules b x.state s.answer s.state s.cells in
    let later = paired-again p p' f f' m w _ _ h a.holder a.other in
    let stays = λ (c : Block) (out : IsOutOf T m c) (far : r ≡ true → AreApartIn T m b c).
    pair-stays p p' f f' m w _ _ c h a.holder a.other out (λ below done. apart-first p f m b c q (held-first p f m c h below) (far done)) (λ below. tt) in
    let clean = λ (done : r ≡ true). clean-second p' f' w b' (held-not p' f' w b' later (a.out done)) ∙ a.clean done in
    subst (λ rule. ReallocatesBy rule T T' m w b b' r) (sym e)
    (record {
      frame = pair-frames p p' f f' m w _ _ a.holder a.other (a.changes (fallback_rules p.rules f.rules) (λ t y. in-left p.rules.leaf_tags f.rules.leaf_tags t y) (λ t y. in-right p.rules.leaf_tags f.rules.leaf_tags t y));
      opened = refl;
      answer = a.answer;
      block = a.block;
      state = ap₂ pair_of a.holder_state a.other_state;
      cells = a.cells;
      carried = λ some. carries T T' m w b b' n r cross.answer a.answer a.block a.carried a.len (λ done. (clean done, marked-clean p' f' w b' ∙ clean done)) (λ undone. stays b o (λ done. absurd (cc)));
      others = stays;
    })

second-crosses : (p p' f f' : LayerModel) (m w : Memory) (b b' : Block) (n : ℕ) (r : Bool) → ArePaired p f m → p.rules.holds b (state_of p m) ≡ false → IsOutOf (open_pair p f) m b → n ≢ b.len → 1 ≤ n → n ≤ limit → Crosses f f' p p' m w b b' n r
    → Reallocates (open_pair p f) (open_pair p' f') m w b b' n r
unfolding fallback_rules either second_gave
second-crosses p p' f f' m w b b' n r h q o u l k a =
    let T = open_pair p f in
    let T' = open_pair p' f' in
    let x = reallocated f m b n in
    let s = p.rules.allocate n (state_of p m) x.cells in
    let cross = crossing f p m b n in
    let e : reallocated T m b n ≡ after cross.answer (pair_of cross.other cross.holder) cross.cells =
    goes-by_holder p f m b n false u l k q ∙ undone-row (serve_member (λ c. c) 0 (p.rules.allocate n)) (change_child 1 f.rules.deallocate) b x.answer (pair_of (state_of p m) x.state) x.cells a.refused ∙ across-second f.rules b s.state s.answer x.state s.cells in
    let later = paired-again p p' f f' m w _ _ h a.other a.holder in
    let stays = λ (c : Block) (out : IsOutOf T m c) (far : r ≡ true → AreApartIn T m b c).
    pair-stays p p' f f' m w _ _ c h a.other a.holder out (λ below. tt) (λ below done. apart-second p f m b c q (held-not p f m c h below) (far done)) in
    let clean = λ (done : r ≡ true). clean-first p' f' w b' (held-first p' f' w b' later (a.out done)) ∙ a.clean done in
    subst (λ rule. ReallocatesBy rule T T' m w b b' r) (sym e)
    (record {
      frame = pair-frames p p' f f' m w _ _ a.other a.holder (a.changes (fallback_rules p.rules f.rules) (λ t y. in-right p.rules.leaf_tags f.rules.leaf_tags t y) (λ t y. in-left p.rules.leaf_tags f.rules.leaf_tags t y));
      opened = refl;
      answer = a.answer;
      block = a.block;
      state = ap₂ pair_of a.other_state a.holder_state;
      cells = a.cells;
      carried = λ some. carries T T' m w b b' n r cross.answer a.answer a.block a.carried a.len (λ done. (clean done, marked-clean p' f' w b' ∙ clean done)) (λ undone. stays b o (λ done. absurd (cc)));
      others = stays;
    })

pub moves-to_second : (p p' p'' f f' : LayerModel) (m m' w : Memory) (b b' b'' : Block) (n : ℕ) (q r : Bool) → ArePaired p f m → true ≡ p.rules.holds b (kept_state p) → IsOutOf (fallback_model p f) m b → n ≢ b.len → 1 ≤ n → n ≤ limit → q ≡ false → Reallocates p p' m m' b b' n q
    → MovesAcross p' p'' f f' m' w b' b'' n r → Reallocates (fallback_model p f) (fallback_model p'' f') m w b b'' n r
moves-to_second p p' p'' f f' m m' w b b' b'' n q r h e o u l k z a c =
    as-open (λ t t'. Reallocates t t' m w b b'' n r) p p'' f f' h.first_open (c.holder.opened ∙ a.opened ∙ h.first_open)
    (first-crosses p p'' f f' m w b b'' n r h (holds-now p m b true h.made_first e) (out-open p f m b h.first_open o) u l k
    (crosses p p' p'' f f' m m' w b b' b'' n r (refused-first p p' f m m' b b' n q h e o z a) (out-by_first p f m b h e o) c))

pub moves-to_first : (p p' f f' f'' : LayerModel) (m m' w : Memory) (b b' b'' : Block) (n : ℕ) (q r : Bool) → ArePaired p f m → false ≡ p.rules.holds b (kept_state p) → IsOutOf (fallback_model p f) m b → n ≢ b.len → 1 ≤ n → n ≤ limit → q ≡ false → Reallocates f f' m m' b b' n q
    → MovesAcross f' f'' p p' m' w b' b'' n r → Reallocates (fallback_model p f) (fallback_model p' f'') m w b b'' n r
moves-to_first p p' f f' f'' m m' w b b' b'' n q r h e o u l k z a c =
    as-open (λ t t'. Reallocates t t' m w b b'' n r) p p' f f'' h.first_open (c.other.opened ∙ h.first_open)
    (second-crosses p p' f f'' m w b b'' n r h (holds-now p m b false h.made_first e) (out-open p f m b h.first_open o) u l k
    (crosses f f' f'' p p' m m' w b b' b'' n r (refused-second p f f' m m' b b' n q h e o z a) (out-by_second p f m b h e o) c))
