-- The general form of reallocating, from a layer's own calls: a block is moved, at once or where it could not grow.
use Rattle.std.proofs.Common.{◌≡◌, ◌≢◌, sym, ap, subst, ◌∙◌, ℕ, ◌≤◌, ◌<◌, ◌+◌, ◌-◌, ◌/◌, ◌&&◌, ◌⊎◌, inl, inr, Bool, true, false, arith, get_or, min, refl, Option, Some, None, nat_eq, nat_lt}
use Rattle.std.proofs.lemmas.Bool.Decides.{nat_tests}
use Rattle.size_round.specs.Sizes.{limit}
use Rattle.space_core.specs.Cells.{cell_size}
use Rattle.space_core.specs.Memory.{Memory}
use Rattle.space_core.specs.Words.{IsCopied}
use Rattle.layer_rules.specs.declared.Block.{Block}
use Rattle.layer_rules.specs.Blocks.{end_of, is_apart, with_len}
use Rattle.layer_rules.specs.After.{After, after, answering, Reallocated, moved_to, unmoved}
use Rattle.layer_rules.specs.Reallocating.{reallocated_unless, move_to, or_move, expand_or_move, general_reallocate}
use Rattle.layer_rules.specs.Rules.{Rules, IsLeaf}
use Rattle.layer_rules.specs.Layering.{LayerModel, state_of, Stands, IsSetUp, IsOutOf, IsCleanOf, IsMarkedOf, AreApartIn, ForeignKept, Stays, Allocates, Deallocates, Expands, ReallocatesBy, ReallocatesGenerally, MovesBlock, allocated, deallocated, expanded, reallocated_generally, moved}
use Rattle.layer_laws.specs.Lawful.{IsMade}
use Rattle.layer_laws.specs.Standing.{Writes, ChangesOwn}
use Rattle.layer_laws.proofs.StandingLaws.{framing, allocated-stands, allocated-gives, allocated-keeps_out, allocated-keeps_extents, allocated-changes_own, answered, deallocated-stands, deallocated-changes_own, changes-in_turn}
use Rattle.layer_laws.proofs.Placement.{apart-share_no_byte, write-keeps, write-changes_own}

-- ---- the general form, step by step

-- a length that is neither of these goes to the form itself
past-guards : (t : LayerModel) (m : Memory) (b : Block) (n : ℕ) → n ≢ b.len → 1 ≤ n → n ≤ limit → reallocated_generally t m b n ≡ general_reallocate n t.rules.offers t.rules.expand (t.rules.allocate n) t.rules.deallocate b (state_of t m) m.cells
past-guards t m b n q l k =
    let p : nat_eq n b.len ≡ false = grind (arith, nat_tests) in
    let z : nat_eq n 0 ≡ false = grind (arith, nat_tests) in
    let y : nat_lt limit n ≡ false = grind (arith, nat_tests) in
    let give = t.rules.deallocate in
    let go = general_reallocate n t.rules.offers t.rules.expand (t.rules.allocate n) t.rules.deallocate in
    ap (λ x. reallocated_unless x (nat_eq n 0) (nat_lt limit n) give go b (state_of t m) m.cells) p ∙ (ap (λ x. reallocated_unless false x (nat_lt limit n) give go b (state_of t m) m.cells) z ∙ ap (λ x. reallocated_unless false false x give go b (state_of t m) m.cells) y)

-- the row that goes on from growing
grown-row : (t : LayerModel) (m : Memory) (b : Block) (n : ℕ) → n ≢ b.len → 1 ≤ n → n ≤ limit → (nat_lt b.len n && t.rules.offers.expand) ≡ true
    → reallocated_generally t m b n ≡ or_move n (t.rules.allocate n) t.rules.deallocate b (expanded t m b (n - b.len))
grown-row t m b n q l k x = past-guards t m b n q l k ∙ ap (λ x. expand_or_move x n t.rules.expand (t.rules.allocate n) t.rules.deallocate b (state_of t m) m.cells) x

answer-of : (e : Rules) (b : Block) (n : ℕ) (r : After Bool) (q : Bool) → r.answer ≡ q
    → or_move n (e.allocate n) e.deallocate b r ≡ elim q as (λ _. After Reallocated) [ true ↦ after (moved_to (with_len b n)) r.state r.cells | false ↦ move_to (e.allocate n) e.deallocate b r.state r.cells ]
answer-of e b n r q h = ap (λ q. elim q as (λ _. After Reallocated) [ true ↦ after (moved_to (with_len b n)) r.state r.cells | false ↦ move_to (e.allocate n) e.deallocate b r.state r.cells ]) h

-- what stands once a new block was served and the old bytes were copied there
pub record IsCopiedTo (t t' : LayerModel) (m m' w : Memory) (b c : Block) : Type 0 where
  pub inside : Writes c m' w
  pub stands : Stands t' w
  pub state : state_of t' w ≡ state_of t' m'
  pub out : IsOutOf t' w b
  pub marked : IsMarkedOf t' w b
  pub new_out : IsOutOf t' w c
  pub apart : AreApartIn t' w b c

flip-apart : (t : LayerModel) (m : Memory) (b c : Block) → AreApartIn t m b c → AreApartIn t m c b
flip-apart t m b c a = record { either = flip (t.rules.extent b (state_of t m)) (t.rules.extent c (state_of t m)) a.either }
  where
    flip : (x y : Block) → is_apart x y ≡ true → is_apart y x ≡ true
    flip x y h = grind (arith, nat_tests)

-- blocks that were apart are so after a request
still-apart : (t t' : LayerModel) (m m' : Memory) (n : ℕ) (r : Option Block) (b c : Block) → IsMade t.rules → Stands t m → IsSetUp t → Allocates t t' m m' n r → IsOutOf t m b → IsOutOf t m c → AreApartIn t m b c → AreApartIn t' m' b c
still-apart t t' m m' n r b c l h u a o p x =
    record { either = rw (allocated-keeps_extents t t' m m' n r l h u a b o, allocated-keeps_extents t t' m m' n r l h u a c p) x.either }

pub same-made : (t t' : LayerModel) → t'.rules ≡ t.rules → IsMade t.rules → IsMade t'.rules
same-made t t' q l = subst IsMade (sym q) l

pub copied-to : (t t' : LayerModel) (m m' w : Memory) (b c : Block) (n k : ℕ) → IsMade t.rules → Stands t m → IsSetUp t → IsOutOf t m b → IsMarkedOf t m b → Allocates t t' m m' n (Some c) → k ≤ n → IsCopied m'.bytes w.bytes b.place c.place k → w ≡ record m' { bytes = w.bytes } → IsCopiedTo t t' m m' w b c
copied-to t t' m m' w b c n k l h u o y a z p e =
    let l' = same-made t t' a.frame.rules l in
    let g = allocated-gives t t' m m' n c l h u a in
    let s = allocated-stands t t' m m' n (Some c) l h u a in
    let b_out = allocated-keeps_out t t' m m' n (Some c) l h u a b o in
    let far = g.fresh b o in
    let i : Writes c m' w = record { cells = ap (λ (x : Memory). x.cells) e; leaves = ap (λ (x : Memory). x.leaves) e; bytes = record { length_same = p.size; below = λ i x. p.below i x; above = λ i x. p.above i (omega (arith, g.len)) } } in
    let k = write-keeps t' m' w c l' s g.out i in
    record {
      inside = i;
      stands = k.stands;
      state = k.state;
      out = k.out b b_out;
      marked = k.marked b b_out (inr far) ((a.others b o).marked y);
      new_out = k.out c g.out;
      apart = let f = flip-apart t' m' c b far in record { either = rw k.state f.either };
    }

-- what stays through the copy
stays-copied : (t t' : LayerModel) (m m' w : Memory) (b c d : Block) (n : ℕ) → IsMade t.rules → Stands t m → IsSetUp t → IsOutOf t m d → Allocates t t' m m' n (Some c) → IsCopiedTo t t' m m' w b c → Stays t t' m w d
stays-copied t t' m m' w b c d n l h u o a x =
    let l' = same-made t t' a.frame.rules l in
    let g = allocated-gives t t' m m' n c l h u a in
    let s = allocated-stands t t' m m' n (Some c) l h u a in
    let d_out = allocated-keeps_out t t' m m' n (Some c) l h u a d o in
    let far = g.fresh d o in
    let y = apart-share_no_byte t' m' c d l' s g.out d_out far in
    let k = a.others d o in
    let v = write-keeps t' m' w c l' s g.out x.inside in
    record {
      bytes = record { at = λ i p q. untouched i y p q ∙ k.bytes.at i p q };
      clean = λ z. v.clean d d_out (inr far) (k.clean z);
      marked = λ z. v.marked d d_out (inr far) (k.marked z);
    }
  where
    side : (i : ℕ) → is_apart c d ≡ true → d.place ≤ i → i < end_of d → (i < c.place) ⊎ (end_of c ≤ i)
    side i y p q = grind (arith, nat_tests)

    untouched : (i : ℕ) → is_apart c d ≡ true → d.place ≤ i → i < end_of d → get_or w.bytes i 0 ≡ get_or m'.bytes i 0
    untouched i y p q = elim (side i y p q) [ inl z ↦ x.inside.bytes.below i z | inr z ↦ x.inside.bytes.above i z ]

changes-of : (t t' t'' : LayerModel) (m m' w m'' : Memory) (b c : Block) (n : ℕ) (r : Bool) → IsMade t.rules → Stands t m → IsSetUp t → IsOutOf t m b → Allocates t t' m m' n (Some c) → IsCopiedTo t t' m m' w b c → Deallocates t' t'' w m'' b r → ChangesOwn t.rules m m''
changes-of t t' t'' m m' w m'' b c n r l h u o a x f =
    let l' = same-made t t' a.frame.rules l in
    let g = allocated-gives t t' m m' n c l h u a in
    let s = allocated-stands t t' m m' n (Some c) l h u a in
    let one = allocated-changes_own t t' m m' n (Some c) l h u a in
    let two = subst (λ e. ChangesOwn e m' w) a.frame.rules (write-changes_own t' m' w c l' s g.out x.inside) in
    let three = subst (λ e. ChangesOwn e w m'') a.frame.rules (deallocated-changes_own t' t'' w m'' b r l' x.stands x.out f) in
    changes-in_turn t.rules m m' m'' one (changes-in_turn t.rules m' w m'' two three)

-- the old block is given back after the copy
pub done-move : (t t' t'' : LayerModel) (m m' w m'' : Memory) (b c : Block) (n k : ℕ) (r : Bool) → IsMade t.rules → Stands t m → IsSetUp t → IsOutOf t m b → Allocates t t' m m' n (Some c) → k ≡ min n b.len → IsCopied m'.bytes w.bytes b.place c.place k
    → IsCopiedTo t t' m m' w b c → Deallocates t' t'' w m'' b r → MovesBlock t t'' m m'' b c n true
done-move t t' t'' m m' w m'' b c n k r l h u o a q p x f =
    let g = allocated-gives t t' m m' n c l h u a in
    let l' = same-made t t' a.frame.rules l in
    let s = allocated-stands t t' m m' n (Some c) l h u a in
    let y = answered c (allocated t m n).answer a.answer in
    let gone = t.rules.deallocate b (allocated t m n).state (allocated t m n).cells in
    let e : moved t m b n ≡ answering (λ given. moved_to y.0.block) gone = ap (λ x. elim x as (λ _. After Reallocated) [ None ↦ after unmoved (allocated t m n).state (allocated t m n).cells | Some p ↦ answering (λ given. moved_to p.block) (t.rules.deallocate b (allocated t m n).state (allocated t m n).cells) ]) y.1 in
    let same : deallocated t' w b ≡ gone =
    ap (λ (e : Rules). e.deallocate b (state_of t' w) w.cells) a.frame.rules ∙ (ap (λ s. t.rules.deallocate b s w.cells) (x.state ∙ a.state) ∙ ap (λ z. t.rules.deallocate b (allocated t m n).state z) (x.inside.cells ∙ a.cells)) in
    let l'' = same-made t' t'' f.frame.rules l' in
    let again = deallocated-stands t' t'' w m'' b r l' x.stands x.out f in
    let ch = changes-of t t' t'' m m' w m'' b c n r l h u o a x f in
    let kept = f.others c x.new_out x.apart in
    let first = a.others b o in
    let wrote = write-keeps t' m' w c l' s g.out x.inside in
    let is_clean : IsCleanOf t'' m'' c = kept.clean (wrote.clean c g.out (inl refl) (a.made c refl)) in
    subst (λ rule. ReallocatesBy rule t t'' m m'' b c true) (sym e)
    (record {
      frame = record {
        rules = f.frame.rules ∙ a.frame.rules;
        image = f.frame.image;
        memory = f.frame.memory;
        size = f.frame.size ∙ (x.inside.bytes.length_same ∙ a.frame.size);
        leaves = f.frame.leaves ∙ (x.inside.leaves ∙ a.frame.leaves);
        foreign = ch.foreign;
      };
      opened = f.opened ∙ a.opened;
      answer = refl;
      block = sym y.2;
      state = f.state ∙ ap (λ (z : After Bool). z.state) same;
      cells = f.cells ∙ ap (λ (z : After Bool). z.cells) same;
      carried = λ some. record {
        bytes = λ i z. kept.bytes.at (c.place + i) (omega arith) (omega (arith, g.len)) ∙ (p.there i (omega (arith, g.len)) ∙ first.bytes.at (b.place + i) (omega arith) (omega arith));
        clean = λ z. is_clean;
        marked = λ z. (framing t'' m'' l'' again).marked c (state_of t'' m'') m''.bytes is_clean;
      };
      others = λ d d_out far.
          let near = far refl in
          let one = stays-copied t t' m m' w b c d n l h u d_out a x in
          let v = still-apart t t' m m' n (Some c) b d l h u a o d_out near in
          let two = f.others d (wrote.out d (allocated-keeps_out t t' m m' n (Some c) l h u a d d_out)) (record { either = rw x.state v.either }) in
          record { bytes = record { at = λ i p q. two.bytes.at i p q ∙ one.bytes.at i p q }; clean = λ z. two.clean (one.clean z); marked = λ z. two.marked (one.marked z) };
    })

-- cells of others keep their bytes through both
then-foreign : (t t' : LayerModel) (m m' m'' : Memory) → t'.rules ≡ t.rules → ChangesOwn t.rules m m' → ForeignKept t'.rules m' m'' → ForeignKept t.rules m m''
then-foreign t t' m m' m'' q ch f = record {
  at = λ i a z. elim (ch.cells (i / cell_size)) [
    | inl e ↦ f.at i (λ w. a (sym e ∙ w)) (λ w. z (subst (λ k. IsLeaf t.rules k) e (subst (λ k. IsLeaf k (get_or m'.cells.tags (i / cell_size) 0)) q w))) ∙ ch.foreign.at i a z
    | inr w ↦ elim w.0 [ inl v ↦ absurd (a v) | inr v ↦ absurd (z v) ]
  ];
}

-- it was moved after growing was refused
pub of-grown_then_moved : (t t' t'' : LayerModel) (m m' m'' : Memory) (b b' b'' : Block) (n : ℕ) (r : Bool) → b.len < n → n ≤ limit → t.rules.offers.expand ≡ true → IsOutOf t m b → ChangesOwn t.rules m m'
    → ((c : Block) → IsOutOf t m c → IsOutOf t' m' c) → ((c : Block) → IsOutOf t m c → AreApartIn t m b c → AreApartIn t' m' b c) → Expands t t' m m' b b' (n - b.len) false → MovesBlock t' t'' m' m'' b' b'' n r → ReallocatesGenerally t t'' m m'' b b'' n r
of-grown_then_moved t t' t'' m m' m'' b b' b'' n r l k x o ch outs aparts a f =
    let y : (nat_lt b.len n && t.rules.offers.expand) ≡ true = grind (arith, nat_tests) in
    let q : n ≢ b.len = omega arith in
    let bb : b' ≡ b = a.block in
    let f : MovesBlock t' t'' m' m'' b b'' n r = subst (λ d. MovesBlock t' t'' m' m'' d b'' n r) bb f in
    let same : moved t' m' b n ≡ move_to (t.rules.allocate n) t.rules.deallocate b (expanded t m b (n - b.len)).state (expanded t m b (n - b.len)).cells =
    ap (λ (e : Rules). move_to (e.allocate n) e.deallocate b (state_of t' m') m'.cells) a.frame.rules ∙ (ap (λ s. move_to (t.rules.allocate n) t.rules.deallocate b s m'.cells) a.state ∙ ap (λ z. move_to (t.rules.allocate n) t.rules.deallocate b (expanded t m b (n - b.len)).state z) a.cells) in
    let e = same ∙ sym (grown-row t m b n q (omega arith) k y ∙ answer-of t.rules b n (expanded t m b (n - b.len)) false (sym a.answer)) in
    let first = a.others b o (λ z. absurd (cc)) in
    subst (λ rule. ReallocatesBy rule t t'' m m'' b b'' r) e
    (record {
      frame = record { rules = f.frame.rules ∙ a.frame.rules; image = f.frame.image; memory = f.frame.memory; size = f.frame.size ∙ a.frame.size; leaves = f.frame.leaves ∙ a.frame.leaves; foreign = then-foreign t t' m m' m'' a.frame.rules ch f.frame.foreign };
      opened = f.opened ∙ a.opened;
      answer = f.answer;
      block = f.block;
      state = f.state;
      cells = f.cells;
      carried = λ some. let g = f.carried some in record { bytes = λ i z. g.bytes i z ∙ first.bytes.at (b.place + i) (omega arith) (omega arith); clean = λ z. g.clean (first.clean z); marked = λ z. g.marked (first.marked z) };
      others = λ c out far.
          let one = a.others c out (λ z. absurd (cc)) in
          let w = f.others c (outs c out) (λ z. aparts c out (far z)) in
          record { bytes = record { at = λ i p q. w.bytes.at i p q ∙ one.bytes.at i p q }; clean = λ z. w.clean (one.clean z); marked = λ z. w.marked (one.marked z) };
    })
