-- What calls of an open region leave: one that is refused, and one that moves the position.
use Rattle.std.proofs.Common.{◌≡◌, ◌≢◌, Bool, refl, sym, ap, subst, ℕ, ◌+◌, ◌≤◌, ◌<◌, ◌⊎◌, ◌&&◌, true, false, [], Option, Some, None, max, nat_le, nat_eq, nat_lt, arith}
use Rattle.std.proofs.lemmas.Bool.Decides.{nat_tests}
use Rattle.size_round.specs.Sizes.{limit, up}
use Rattle.space_core.specs.Memory.{Memory}
use Rattle.layer_rules.specs.declared.Block.{Block}
use Rattle.layer_rules.specs.After.{After, after, Placed, placed, refuse}
use Rattle.layer_rules.specs.Blocks.{block, end_of, with_len}
use Rattle.layer_rules.specs.Layering.{LayerModel, state_of, Stands, Frames, block_in, aligned_allocated, AlignedAllocates, expanded, Expands}
use Rattle.layer_laws.proofs.StandingLaws.{unless-refuses}
use Rattle.region_rules.specs.RegionRules.{region_rules, region_allocate, region_aligned, region_expand}
use Rattle.region_block.specs.declared.bump.Bump.{Bump}
use Rattle.region_block.specs.RegionModel.{region_model}
use Rattle.region_block.proofs.Standing.{region-full}

-- the bump at another position
abbrev with_position : Bump → ℕ → Bump
with_position b p = record { chunk = b.chunk; position = p }

nothing-moved : (t : LayerModel) (m : Memory) → Stands t m → Frames t t m m
nothing-moved t m h = record { rules = refl; image = h.image; memory = h.memory; size = refl; leaves = refl; foreign = record { at = λ i a z. refl } }

position-moved : (size align p : ℕ) (b : Bump) (t : LayerModel) (m : Memory) → Stands (region_model size align (Some b) t) m → Frames (region_model size align (Some b) t) (region_model size align (Some (with_position b p)) t) m m
unfolding region_rules
position-moved size align p b t m h = record { rules = refl; image = h.image; memory = h.memory; size = refl; leaves = refl; foreign = record { at = λ i a z. refl } }

-- ---- a request at a multiple

aligned-none : (t : LayerModel) (m : Memory) (n a : ℕ) → Stands t m → aligned_allocated t m n a ≡ refuse (state_of t m) m.cells → AlignedAllocates t t m m n a None
aligned-none t m n a h q =
    record {
      frame = nothing-moved t m h;
      opened = refl;
      answer = ap (λ (x : After (Option Placed)). block_in x.answer) (sym q);
      state = ap (λ (x : After (Option Placed)). x.state) (sym q);
      cells = ap (λ (x : After (Option Placed)). x.cells) (sym q);
      others = λ b o. record { bytes = record { at = λ i x y. refl }; clean = λ x. x; marked = λ x. x };
      made = λ b e. absurd (cc);
    }

no_room-aligned : (size align n a : ℕ) (b : Bump) (t : LayerModel) (m : Memory) → end_of b.chunk < up b.position (max a align) + up n align
    → aligned_allocated (region_model size align (Some b) t) m n a ≡ refuse (state_of (region_model size align (Some b) t) m) m.cells
unfolding region_rules
no_room-aligned size align n a b t m h =
    let s = state_of (region_model size align (Some b) t) m in
    let q : nat_le (up b.position (max a align) + up n align) (end_of b.chunk) ≡ false = grind (arith, nat_tests, h) in
    unless-refuses (nat_eq n 0) (nat_lt limit n) (region_aligned align n a) s m.cells (region-full (up b.position (max a align)) (up n align) n s m.cells q)

-- where the place and the size that were computed don't fit, all is as before
pub aligned-refused : (size align n a p k : ℕ) (o : Option Bump) (b : Bump) (t : LayerModel) (m : Memory) → o ≡ Some b → p ≡ up b.position (max a align) → k ≡ up n align → end_of b.chunk < p + k → Stands (region_model size align o t) m
    → AlignedAllocates (region_model size align o t) (region_model size align o t) m m n a None
aligned-refused size align n a p k o b t m q ep ek r h =
    aligned-none (region_model size align o t) m n a h
    (subst (λ (z : Option Bump). aligned_allocated (region_model size align z t) m n a ≡ refuse (state_of (region_model size align z t) m) m.cells) (sym q)
    (no_room-aligned size align n a b t m (rw (ep, ek) at r)))

room-aligned : (size align n a : ℕ) (b : Bump) (t : LayerModel) (m : Memory) → 1 ≤ n → n ≤ limit → up b.position (max a align) + up n align ≤ end_of b.chunk
    → aligned_allocated (region_model size align (Some b) t) m n a
    ≡ after (Some (placed (block (up b.position (max a align)) n) [])) (state_of (region_model size align (Some (with_position b (up b.position (max a align) + up n align))) t) m) m.cells
unfolding region_rules
room-aligned size align n a b t m l u h =
    let z : nat_eq n 0 ≡ false = grind (arith, nat_tests, l) in
    let y : nat_lt limit n ≡ false = grind (arith, nat_tests, u) in
    let q : nat_le (up b.position (max a align) + up n align) (end_of b.chunk) ≡ true = grind (arith, nat_tests, h) in
    rw (z, y, q, region_allocate) refl

aligned-some : (size align n a p : ℕ) (b : Bump) (t : LayerModel) (m : Memory) (c : Block) → Stands (region_model size align (Some b) t) m
    → aligned_allocated (region_model size align (Some b) t) m n a ≡ after (Some (placed c [])) (state_of (region_model size align (Some (with_position b p)) t) m) m.cells
    → AlignedAllocates (region_model size align (Some b) t) (region_model size align (Some (with_position b p)) t) m m n a (Some c)
unfolding region_rules
aligned-some size align n a p b t m c h q =
    record {
      frame = position-moved size align p b t m h;
      opened = refl;
      answer = ap (λ (x : After (Option Placed)). block_in x.answer) (sym q);
      state = ap (λ (x : After (Option Placed)). x.state) (sym q);
      cells = ap (λ (x : After (Option Placed)). x.cells) (sym q);
      others = λ b o. record { bytes = record { at = λ i x y. refl }; clean = λ x. x; marked = λ x. x };
      made = λ b e. refl;
    }

-- where they fit, the block stands there, and the position behind it
pub aligned-served : (size align n a p k : ℕ) (o : Option Bump) (b : Bump) (t : LayerModel) (m : Memory) → o ≡ Some b → p ≡ up b.position (max a align) → k ≡ up n align → 1 ≤ n → n ≤ limit → p + k ≤ end_of b.chunk
    → Stands (region_model size align o t) m → AlignedAllocates (region_model size align o t) (region_model size align (Some (with_position b (p + k))) t) m m n a (Some (block p n))
aligned-served size align n a p k o b t m q ep ek l u r h =
    subst (λ (z : Option Bump). AlignedAllocates (region_model size align z t) (region_model size align (Some (with_position b (p + k))) t) m m n a (Some (block p n))) (sym q)
    (rw (ep, ek) (aligned-some size align n a (up b.position (max a align) + up n align) b t m (block (up b.position (max a align)) n) (subst (λ (z : Option Bump). Stands (region_model size align z t) m) q h)
    (room-aligned size align n a b t m l u (rw (ep, ek) at r))))

-- ---- a block is to grow

-- a growth that is refused
grown-none : (t : LayerModel) (m : Memory) (b : Block) (delta : ℕ) → Stands t m → expanded t m b delta ≡ after false (state_of t m) m.cells → Expands t t m m b b delta false
grown-none t m b delta h q =
    record {
      frame = nothing-moved t m h;
      opened = refl;
      answer = ap (λ (x : After Bool). x.answer) (sym q);
      block = refl;
      state = ap (λ (x : After Bool). x.state) (sym q);
      cells = ap (λ (x : After Bool). x.cells) (sym q);
      carried = record { bytes = λ i x. refl; clean = λ x. x; marked = λ x. x };
      others = λ c o z. record { bytes = record { at = λ i x y. refl }; clean = λ x. x; marked = λ x. x };
    }

-- past the limit none grows
pub grown-too_long : (size align delta : ℕ) (o : Option Bump) (t : LayerModel) (m : Memory) (c : Block) → 1 ≤ delta → limit < c.len + delta → Stands (region_model size align o t) m
    → Expands (region_model size align o t) (region_model size align o t) m m c c delta false
unfolding region_rules
grown-too_long size align delta o t m c l u h =
    let z : nat_eq delta 0 ≡ false = grind (arith, nat_tests, l) in
    let y : nat_lt limit (c.len + delta) ≡ true = grind (arith, nat_tests, u) in
    grown-none (region_model size align o t) m c delta h (rw (z, y) refl)

-- a growth within the limit is refused where the block isn't the last one, or the chunk has no room
stuck : (size align delta : ℕ) (b : Bump) (t : LayerModel) (m : Memory) (c : Block) → (nat_eq (c.place + up c.len align) b.position && nat_le (c.place + up (c.len + delta) align) (end_of b.chunk)) ≡ false → 1 ≤ delta → c.len + delta ≤ limit
    → expanded (region_model size align (Some b) t) m c delta ≡ after false (state_of (region_model size align (Some b) t) m) m.cells
unfolding region_rules
stuck size align delta b t m c q l u =
    let z : nat_eq delta 0 ≡ false = grind (arith, nat_tests, l) in
    let y : nat_lt limit (c.len + delta) ≡ false = grind (arith, nat_tests, u) in
    rw (z, y, q, region_expand) refl

-- the same for the numbers that were computed
pub grown-refused : (size align delta k p : ℕ) (o : Option Bump) (b : Bump) (t : LayerModel) (m : Memory) (c : Block) → o ≡ Some b → (k ≢ b.position) ⊎ (end_of b.chunk < p) → k ≡ c.place + up c.len align → p ≡ c.place + up (c.len + delta) align
    → 1 ≤ delta → c.len + delta ≤ limit → Stands (region_model size align o t) m → Expands (region_model size align o t) (region_model size align o t) m m c c delta false
grown-refused size align delta k p o b t m c q r ek ep l u h =
    let n : (nat_eq (c.place + up c.len align) b.position && nat_le (c.place + up (c.len + delta) align) (end_of b.chunk)) ≡ false = rw (← ek, ← ep) (grind (arith, nat_tests, r)) in
    grown-none (region_model size align o t) m c delta h
    (subst (λ (z : Option Bump). expanded (region_model size align z t) m c delta ≡ after false (state_of (region_model size align z t) m) m.cells) (sym q) (stuck size align delta b t m c n l u))

-- the last block grows as far as its chunk has room
grows : (size align delta : ℕ) (b : Bump) (t : LayerModel) (m : Memory) (c : Block) → (nat_eq (c.place + up c.len align) b.position && nat_le (c.place + up (c.len + delta) align) (end_of b.chunk)) ≡ true → 1 ≤ delta → c.len + delta ≤ limit
    → expanded (region_model size align (Some b) t) m c delta ≡ after true (state_of (region_model size align (Some (with_position b (c.place + up (c.len + delta) align))) t) m) m.cells
unfolding region_rules
grows size align delta b t m c q l u =
    let z : nat_eq delta 0 ≡ false = grind (arith, nat_tests, l) in
    let y : nat_lt limit (c.len + delta) ≡ false = grind (arith, nat_tests, u) in
    rw (z, y, q, region_expand) refl

grown-some : (size align delta p : ℕ) (b : Bump) (t : LayerModel) (m : Memory) (c : Block) → Stands (region_model size align (Some b) t) m
    → expanded (region_model size align (Some b) t) m c delta ≡ after true (state_of (region_model size align (Some (with_position b p)) t) m) m.cells
    → Expands (region_model size align (Some b) t) (region_model size align (Some (with_position b p)) t) m m c (with_len c (c.len + delta)) delta true
unfolding region_rules
grown-some size align delta p b t m c h q =
    record {
      frame = position-moved size align p b t m h;
      opened = refl;
      answer = ap (λ (x : After Bool). x.answer) (sym q);
      block = refl;
      state = ap (λ (x : After Bool). x.state) (sym q);
      cells = ap (λ (x : After Bool). x.cells) (sym q);
      carried = record { bytes = λ i x. refl; clean = λ x. x; marked = λ x. x };
      others = λ c o z. record { bytes = record { at = λ i x y. refl }; clean = λ x. x; marked = λ x. x };
    }

pub grown : (size align delta k p : ℕ) (o : Option Bump) (b : Bump) (t : LayerModel) (m : Memory) (c : Block) → o ≡ Some b → k ≡ b.position → p ≤ end_of b.chunk → k ≡ c.place + up c.len align → p ≡ c.place + up (c.len + delta) align
    → 1 ≤ delta → c.len + delta ≤ limit → Stands (region_model size align o t) m → Expands (region_model size align o t) (region_model size align (Some (with_position b p)) t) m m c (with_len c (c.len + delta)) delta true
grown size align delta k p o b t m c q last room ek ep l u h =
    let y : (nat_eq (c.place + up c.len align) b.position && nat_le (c.place + up (c.len + delta) align) (end_of b.chunk)) ≡ true = rw (← ek, ← ep) (grind (arith, nat_tests, last, room)) in
    subst (λ (z : Option Bump). Expands (region_model size align z t) (region_model size align (Some (with_position b p)) t) m m c (with_len c (c.len + delta)) delta true) (sym q)
    (rw ep (grown-some size align delta (c.place + up (c.len + delta) align) b t m c (subst (λ (z : Option Bump). Stands (region_model size align z t) m) q h) (grows size align delta b t m c y l u)))
