-- A leaf is regular and, where its tag is not 0, lawful.
use Rattle.std.proofs.Common.{◌≡◌, refl, sym, ap, subst, ◌∙◌, ℕ, zero, suc, ◌≤◌, ◌<◌, ◌+◌, ◌-◌, ◌*◌, ◌/◌, ◌%◌, ◌⊎◌, inl, inr, Bool, true, false, arith, List, [], ◌∷◌, get_or, length, length-drop, drop, map, max, Option, Some, None, nat_eq, nat_lt, cond}
use Rattle.std.proofs.lemmas.Bool.Decides.{nat_tests}
use Rattle.std.proofs.lemmas.List.{get_or-drop, length-map}
use Rattle.size_round.specs.Sizes.{limit, ceil_div}
use Rattle.size_round.specs.SizeMeanings.{IsMultiple}
use Rattle.space_core.specs.Runs.{put_run}
use Rattle.space_core.proofs.CellRuns.{length-put_run, starts_free-length, tagged-inside}
use Rattle.space_core.specs.Cells.{Cells, free_tag, taken_cells, cell_size, cells_with, cell_at, cells_touched, tag_cells, least_cells, cell_behind, more_cells, has_room_behind}
use Rattle.space_core.specs.Memory.{most_cells}
use Rattle.layer_rules.specs.declared.Block.{Block}
use Rattle.layer_rules.specs.Blocks.{block, end_of, is_apart, with_len}
use Rattle.layer_rules.specs.State.{State, open_with, nothing, no_children, is_open}
use Rattle.layer_rules.specs.After.{After, after, placed, Placed, refuse, opened as open_as}
use Rattle.layer_rules.specs.Allocating.{asked_for, served_unless}
use Rattle.layer_rules.specs.Owning.{is_plausible}
use Rattle.layer_rules.specs.Rules.{IsLeaf, IsSettled, AreApart, HasSomeTags}
use Rattle.layer_rules.specs.Testing.{is_bare}
use Rattle.layer_rules.specs.Units.{touched_block}
use Rattle.leaf_rules.specs.MemRules.{has_cells, mem_allocate, mem_expand, mem_offers, mem_rules}
use Rattle.leaf_rules.specs.LeafMeanings.{IsOutCells, OutOfLeaf, MemIsLawful}
use Rattle.leaf_rules.proofs.MemPaths.{mem-paths}
use Rattle.layer_laws.proofs.CellRooms.{multiple_from_rest, least_cells_are_least}
use Rattle.layer_laws.proofs.Runs.{starts_free-at, free-cell, starts_taken-at, starts_taken-from, put_run-below, put_run-above, put_run-in, first_run-found}
use Rattle.layer_laws.proofs.Tables.{tag-in_range}
use Rattle.layer_laws.proofs.Reallocated.{asked-same, generally-reallocated}
use Rattle.layer_laws.proofs.Takings.{TakesOwn, takes-refuse}
use Rattle.layer_laws.proofs.Tests.{opened, settle, some-byte, some-open, settled-moved, takes-none}
use Rattle.layer_laws.proofs.Steps.{refuse-good, asked-good, kept-short, asked-grown, asked-aligned, same-told}
use Rattle.layer_laws.specs.Lawful.{IsOwnTag, OnlyOwnCells, IsGood, Good, Freeing, IsGrown, Growing, OnlyFreed, Emptying, Covering, Routing, Aligning, OutTags, SettledTags, Opens, KeepingLaws, PlacingLaws, FramingLaws, OpeningLaws, HoldingLaws, AtMultiple, AlignedGood}
use Rattle.layer_laws.proofs.TornDown.{freed-cell}

-- ---- what the tests say

-- the test of a tag fails where there is no cell, if the tag is not 0
with-tag : (tag c : ℕ) (T : List ℕ) → get_or (map (λ t. nat_eq t tag) T) c false ≡ true → get_or T c 0 ≡ tag
with-tag tag c [] h = absurd (cc)
with-tag tag zero (t ∷ T) h = grind (arith, nat_tests)
with-tag tag (suc c) (t ∷ T) h = with-tag tag c T h

has-tag : (tag c : ℕ) (T : List ℕ) → 1 ≤ tag → get_or T c 0 ≡ tag → get_or (map (λ t. nat_eq t tag) T) c false ≡ true
has-tag tag c [] h e = absurd (omega arith)
has-tag tag zero (t ∷ T) h e = grind (arith, nat_tests)
has-tag tag (suc c) (t ∷ T) h e = has-tag tag c T h e

pub out-mem : (tag : ℕ) (b : Block) (s : State) (cells : Cells) → (mem_rules tag).is_out b s cells ≡ true → IsOutCells tag b s cells
unfolding mem_rules
out-mem tag b s cells o =
    let h : has_cells tag b cells ≡ true = grind (arith, nat_tests) in
    record {
      is_set = grind (arith, nat_tests);
      some = grind (arith, nat_tests);
      aligned = grind (arith, nat_tests);
      tagged = λ c x y.
          let k = c - cell_at b.place in
          let e : cell_at b.place + k ≡ c = omega arith in
          let z = starts_taken-at (cells_touched b.place b.len) (drop (cell_at b.place) (cells_with tag cells)) k h (omega arith) in
          with-tag tag c cells.tags (rw (get_or-drop (cell_at b.place) (cells_with tag cells) k false, e) at z);
    }

pub mem-out : (tag : ℕ) (b : Block) (s : State) (cells : Cells) → 1 ≤ tag → IsOutCells tag b s cells → (mem_rules tag).is_out b s cells ≡ true
unfolding mem_rules
mem-out tag b s cells t o =
    let h : has_cells tag b cells ≡ true = starts_taken-from (cells_touched b.place b.len) (drop (cell_at b.place) (cells_with tag cells)) (λ k l.
    rw get_or-drop (has-tag tag (cell_at b.place + k) cells.tags t (o.tagged (cell_at b.place + k) (omega arith) (omega arith)))) in
    grind (arith, nat_tests, o.is_set, o.some, o.aligned, h)

-- ---- runs of free cells

pub runs-meet : (a b c d : ℕ) → a < b → c < d → ((i : ℕ) → a ≤ i → i < b → c ≤ i → i < d → ⊥) → (b ≤ c) ⊎ (d ≤ a)
runs-meet a b c d x y h = elim (which a b c d x y) [ inl l ↦ inl l | inr o ↦ elim o [ inl l ↦ inr l | inr o ↦ elim o [ inl l ↦ absurd (h a (omega arith) (omega arith) (omega arith) (omega arith)) | inr l ↦ absurd (h c (omega arith) (omega arith) (omega arith) (omega arith)) ] ] ]
  where
    which : (a b c d : ℕ) → a < b → c < d → (b ≤ c) ⊎ (d ≤ a) ⊎ ((c ≤ a) × (a < d)) ⊎ ((a ≤ c) × (c < b))
    which a b c d h k = grind arith

pub three : (lo hi i : ℕ) → (i < lo) ⊎ (hi ≤ i) ⊎ ((lo ≤ i) × (i < hi))
three lo hi i = grind arith

-- a run of free cells
pub record IsFreeCells (cells : Cells) (i k : ℕ) : Type 0 where
  pub free : (c : ℕ) → i ≤ c → c < i + k → get_or cells.tags c 0 ≡ 0
  pub inside : i + k ≤ length cells.tags

pub found-free : (n a : ℕ) (cells : Cells) (i : ℕ) → 1 ≤ n → least_cells n a cells ≡ Some i → IsFreeCells cells i (ceil_div n cell_size)
found-free n a cells i l e =
    let f = first_run-found (λ i. nat_eq ((cell_size * i) % max a cell_size) 0) (ceil_div n cell_size) 0 (taken_cells cells) i e in
    let z : i - 0 ≡ i = omega arith in
    let free = rw z at f.free in
    let m = starts_free-length (ceil_div n cell_size) (drop i (taken_cells cells)) free in
    record {
      free = λ c x y. let k = c - i in let q : i + k ≡ c = omega arith in free-cell cells.tags c (rw (get_or-drop i (taken_cells cells) k true, q) at (starts_free-at (ceil_div n cell_size) (drop i (taken_cells cells)) k free (omega arith)));
      inside = let d : length (drop i (taken_cells cells)) ≡ length cells.tags - i = rw length-drop (rw length-map refl) in omega arith;
    }

tag-stays : (tag i k : ℕ) (cells : Cells) (c : ℕ) → IsFreeCells cells i k → get_or cells.tags c 0 ≡ tag → get_or (put_run tag i k cells.tags) c 0 ≡ tag
tag-stays tag i k cells c f e =
    elim (three i (i + k) c) [
      | inl l ↦ put_run-below tag i k cells.tags c 0 l ∙ e
      | inr o ↦ elim o [ inl l ↦ put_run-above tag i k cells.tags c 0 l ∙ e | inr l ↦ put_run-in tag i k cells.tags c 0 l.0 l.1 (omega (arith, f.inside)) ]
    ]

table-changes : (tag i k : ℕ) (cells : Cells) (c : ℕ) → IsFreeCells cells i k → (get_or (put_run tag i k cells.tags) c 0 ≡ get_or cells.tags c 0) ⊎ ((get_or cells.tags c 0 ≡ 0) × (get_or (put_run tag i k cells.tags) c 0 ≡ tag))
table-changes tag i k cells c f =
    elim (three i (i + k) c) [
      | inl l ↦ inl (put_run-below tag i k cells.tags c 0 l)
      | inr o ↦ elim o [ inl l ↦ inl (put_run-above tag i k cells.tags c 0 l) | inr l ↦ inr (f.free c l.0 l.1, put_run-in tag i k cells.tags c 0 l.0 l.1 (omega (arith, f.inside))) ]
    ]

-- the run is taken for the leaf, and no other cell changes
pub takes-run : (tag i k : ℕ) (cells : Cells) → IsFreeCells cells i k → OnlyOwnCells (mem_rules tag) cells (tag_cells tag i k cells)
unfolding mem_rules
takes-run tag i k cells f = record {
  count = length-put_run tag i k cells.tags;
  each = λ c. elim (table-changes tag i k cells c f) as (λ _. IsOwnTag (mem_rules tag) (get_or cells.tags c 0) (get_or (tag_cells tag i k cells).tags c 0)) [ inl z ↦ inl z | inr z ↦ inr (z.0, inl z.1) ];
}

multiple-of_cell : (i : ℕ) → (cell_size * i) % 64 ≡ 0
multiple-of_cell i = omega arith

cells-apart : (i n : ℕ) (b : Block) → 1 ≤ n → 1 ≤ b.len → b.place % 64 ≡ 0 → (i + ceil_div n cell_size ≤ b.place / 64) ⊎ ((b.place + b.len + 63) / 64 ≤ i) → is_apart (touched_block 64 0 (block (cell_size * i) n)) (touched_block 64 0 b) ≡ true
cells-apart i n b z l a (inl x) = grind (arith, nat_tests)
cells-apart i n b z l a (inr x) = grind (arith, nat_tests)

-- ---- a request

-- what a request leaves where the least run of cells is found, or not
abbrev pub Served : (tag n : ℕ) → State → Cells → Option ℕ → After (Option Placed)
Served tag n s cells o =
    elim o [
      | None ↦ refuse s cells
      | Some i ↦ after (Some (placed (block (cell_size * i) n) [])) s (tag_cells tag i (ceil_div n cell_size) cells)
    ]

mem-serves-good : (tag n i : ℕ) (s : State) (cells : Cells) → 1 ≤ tag → 1 ≤ n → is_open s ≡ true → IsSettled (mem_rules tag) s cells → IsFreeCells cells i (ceil_div n cell_size)
    → IsGood (mem_rules tag) s cells n (after (Some (placed (block (cell_size * i) n) [])) s (tag_cells tag i (ceil_div n cell_size) cells))
unfolding mem_rules
mem-serves-good tag n i s cells w l o h f =
    let k = ceil_div n cell_size in
    let T = cells.tags in
    let in_run = λ (c : ℕ) (x : i ≤ c) (y : c < i + k). put_run-in tag i k T c 0 x y (omega (arith, f.inside)) in
    let keeps = λ (c : ℕ) (e : get_or T c 0 ≡ tag). tag-stays tag i k cells c f e in
    record {
      is_set = o;
      settled = settle s (tag ∷ []) (tag_cells tag i k cells) (is_bare s) o (opened s (tag ∷ []) cells (is_bare s) o h);
      extents = λ b x. refl;
      routes = λ b x. refl;
      stays = λ b x. let y = out-mem tag b s cells x in mem-out tag b s (tag_cells tag i k cells) w (record { is_set = o; some = y.some; aligned = y.aligned; tagged = λ c p q. keeps c (y.tagged c p q) });
      len = λ p e. let z : placed (block (cell_size * i) n) [] ≡ p = cc in sym (ap (λ (p : Placed). p.block.len) z);
      out = λ p e. let z : placed (block (cell_size * i) n) [] ≡ p = cc in subst (λ (p : Placed). (mem_rules tag).is_out p.block s (tag_cells tag i k cells) ≡ true) z
          (mem-out tag (block (cell_size * i) n) s (tag_cells tag i k cells) w (record { is_set = o; some = l; aligned = multiple-of_cell i; tagged = λ c p q. in_run c (omega arith) (omega arith) }));
      found = λ p e. let z : placed (block (cell_size * i) n) [] ≡ p = cc in sym (ap (λ (p : Placed). p.route) (sym z));
      fresh = λ p e b x. let z : placed (block (cell_size * i) n) [] ≡ p = cc in subst (λ (p : Placed). AreApart (mem_rules tag) s p.block b) z
          (let y = out-mem tag b s cells x in
          let m = runs-meet i (i + k) (b.place / 64) ((b.place + b.len + 63) / 64) (omega arith) (omega (arith, y.some))
          (λ c p q u v. let zero_there = f.free c p q in let tag_there = y.tagged c (omega arith) (omega (arith, y.aligned)) in omega arith) in
          record { either = cells-apart i n b l y.some y.aligned m });
    }

mem-case : (tag n : ℕ) (s : State) (cells : Cells) (o : Option ℕ) → 1 ≤ tag → 1 ≤ n → is_open s ≡ true → IsSettled (mem_rules tag) s cells → ((i : ℕ) → o ≡ Some i → IsFreeCells cells i (ceil_div n cell_size))
    → IsGood (mem_rules tag) s cells n (Served tag n s cells o)
mem-case tag n s cells None w l o h f = refuse-good (mem_rules tag) n s cells o h
mem-case tag n s cells (Some i) w l o h f = mem-serves-good tag n i s cells w l o h (f i refl)

-- the cells that are found are free
mem-found : (tag n a : ℕ) (s : State) (cells : Cells) → 1 ≤ tag → 1 ≤ n → is_open s ≡ true → IsSettled (mem_rules tag) s cells → IsGood (mem_rules tag) s cells n (mem_allocate tag n a s cells)
mem-found tag n a s cells w l o h = mem-case tag n s cells (least_cells n a cells) w l o h (λ i e. found-free n a cells i l e)

pub mem-good : (tag : ℕ) → 1 ≤ tag → Good (mem_rules tag)
unfolding mem_rules
mem-good tag w n s cells o h = asked-good (mem_rules tag) n (mem_allocate tag n 1) s cells o h (λ l m. mem-found tag n 1 s cells w l o h)

mem-at_multiple : (tag n a : ℕ) (s : State) (cells : Cells) (o : Option ℕ) → ((i : ℕ) → o ≡ Some i → IsMultiple (cell_size * i) a)
    → AtMultiple a (elim o as (λ _. After (Option Placed)) [ None ↦ refuse s cells | Some i ↦ after (Some (placed (block (cell_size * i) n) [])) s (tag_cells tag i (ceil_div n cell_size) cells) ]).answer
mem-at_multiple tag n a s cells None f p z = absurd (cc)
mem-at_multiple tag n a s cells (Some i) f p z = let y : placed (block (cell_size * i) n) [] ≡ p = cc in subst (λ (p : Placed). IsMultiple p.block.place a) y (f i refl)

mem-aligned_good : (tag : ℕ) → 1 ≤ tag → AlignedGood (mem_rules tag)
unfolding mem_rules
mem-aligned_good tag w n a s cells p k o h =
    asked-aligned (mem_rules tag) n a (mem_allocate tag n a) s cells o h (λ l m. record {
      good = mem-found tag n a s cells w l o h;
      aligned = mem-at_multiple tag n a s cells (least_cells n a cells) (λ i e. (least_cells_are_least n a cells i p e).aligned);
    })

-- the cells that it takes
case-takes : (tag n : ℕ) (s : State) (cells : Cells) (o : Option ℕ) → ((i : ℕ) → o ≡ Some i → IsFreeCells cells i (ceil_div n cell_size)) → OnlyOwnCells (mem_rules tag) cells (Served tag n s cells o).cells
case-takes tag n s cells None f = takes-none (mem_rules tag) cells
case-takes tag n s cells (Some i) f = takes-run tag i (ceil_div n cell_size) cells (f i refl)

some-takes : (tag n a : ℕ) (s : State) (cells : Cells) → 1 ≤ n → OnlyOwnCells (mem_rules tag) cells (mem_allocate tag n a s cells).cells
some-takes tag n a s cells l = case-takes tag n s cells (least_cells n a cells) (λ i e. found-free n a cells i l e)

unless-takes : (tag n a : ℕ) (x y : Bool) → nat_eq n 0 ≡ x → TakesOwn (mem_rules tag) (served_unless x y (mem_allocate tag n a))
unless-takes tag n a true y e = takes-refuse (mem_rules tag)
unless-takes tag n a false true e = takes-refuse (mem_rules tag)
unless-takes tag n a false false e = λ s cells. some-takes tag n a s cells (grind (arith, nat_tests))

pub mem-takes : (tag n a : ℕ) → TakesOwn (mem_rules tag) (asked_for n (mem_allocate tag n a))
mem-takes tag n a = unless-takes tag n a (nat_eq n 0) (nat_lt limit n) refl

-- ---- a block is given back

outside : (b c : Block) (i : ℕ) → 1 ≤ b.len → 1 ≤ c.len → is_apart (touched_block 64 0 b) (touched_block 64 0 c) ≡ true → cell_at c.place ≤ i → i < cell_at c.place + cells_touched c.place c.len → (i < cell_at b.place) ⊎ (cell_at b.place + cells_touched b.place b.len ≤ i)
outside b c i l m a x y = grind (arith, nat_tests)

mem-freed : (tag : ℕ) → 1 ≤ tag → Freeing (mem_rules tag)
unfolding mem_rules
mem-freed tag w b s cells o h x =
    let y = out-mem tag b s cells x in
    let i = cell_at b.place in
    let k = cells_touched b.place b.len in
    record {
      is_set = o;
      settled = settle s (tag ∷ []) (tag_cells 0 i k cells) (is_bare s) o (opened s (tag ∷ []) cells (is_bare s) o h);
      extents = λ c p a. refl;
      routes = λ c p a. refl;
      stays = λ c p a.
          let z = out-mem tag c s cells p in
          mem-out tag c s (tag_cells 0 i k cells) w (record {
            is_set = o;
            some = z.some;
            aligned = z.aligned;
            tagged = λ j u v.
                elim (outside b c j y.some z.some a.either u v) [ inl l ↦ put_run-below 0 i k cells.tags j 0 l ∙ z.tagged j u v | inr l ↦ put_run-above 0 i k cells.tags j 0 l ∙ z.tagged j u v ];
          });
      table = λ j. elim (three i (i + k) j) [
        | inl l ↦ inl (put_run-below 0 i k cells.tags j 0 l)
        | inr q ↦ elim q [ inl l ↦ inl (put_run-above 0 i k cells.tags j 0 l) | inr l ↦ let e = y.tagged j l.0 l.1 in inr (put_run-in 0 i k cells.tags j 0 l.0 l.1 (tag-in_range cells.tags j (omega arith)), inl e) ]
      ];
    }

-- ---- a block grows

-- the cells behind a block of a leaf are free
behind-free : (tag : ℕ) (b : Block) (delta : ℕ) (s : State) (cells : Cells) → 1 ≤ tag → (mem_rules tag).is_out b s cells ≡ true → has_room_behind b.place b.len delta cells ≡ true → IsFreeCells cells (cell_behind b.place b.len) (more_cells b.place b.len delta)
behind-free tag b delta s cells w x f =
    let i = cell_behind b.place b.len in
    let k = more_cells b.place b.len delta in
    let y = out-mem tag b s cells x in
    let l = starts_free-length k (drop i (taken_cells cells)) f in
    let d : length (drop i (taken_cells cells)) ≡ length cells.tags - i = rw length-drop (rw length-map refl) in
    let e = y.tagged (i - 1) (omega (arith, y.some, y.aligned)) (omega (arith, y.some, y.aligned)) in
    let z = tag-in_range cells.tags (i - 1) (omega arith) in
    record {
      free = λ c u v. let j = c - i in let q : i + j ≡ c = omega arith in free-cell cells.tags c (rw (get_or-drop i (taken_cells cells) j true, q) at (starts_free-at k (drop i (taken_cells cells)) j f (omega arith)));
      inside = omega arith;
    }

longer-apart : (b c : Block) (delta : ℕ) → 1 ≤ b.len → 1 ≤ c.len → b.place % 64 ≡ 0 → is_apart (touched_block 64 0 b) (touched_block 64 0 c) ≡ true
    → (cell_behind b.place b.len + more_cells b.place b.len delta ≤ c.place / 64) ⊎ ((c.place + c.len + 63) / 64 ≤ cell_behind b.place b.len) → is_apart (touched_block 64 0 (with_len b (b.len + delta))) (touched_block 64 0 c) ≡ true
longer-apart b c delta u v a x (inl y) = grind (arith, nat_tests)
longer-apart b c delta u v a x (inr y) = grind (arith, nat_tests)

-- free cells and cells with a tag do not meet
tagged-beside : (cells : Cells) (i k p q tag : ℕ) → 1 ≤ tag → p < q → IsFreeCells cells i k → ((c : ℕ) → p ≤ c → c < q → get_or cells.tags c 0 ≡ tag) → (i + k ≤ p) ⊎ (q ≤ i) ⊎ (k ≡ 0)
tagged-beside cells i zero p q tag w l f t = inr (inr refl)
tagged-beside cells i (suc k) p q tag w l f t =
    elim (runs-meet i (i + suc k) p q (omega arith) l (λ c x y u v. let a = f.free c x y in let b = t c u v in omega arith)) [ inl z ↦ inl z | inr z ↦ inr (inl z) ]

mem-grows : (tag : ℕ) (b : Block) (delta : ℕ) (s : State) (cells : Cells) → 1 ≤ tag → is_open s ≡ true → IsSettled (mem_rules tag) s cells → (mem_rules tag).is_out b s cells ≡ true → IsFreeCells cells (cell_behind b.place b.len) (more_cells b.place b.len delta)
    → IsGrown (mem_rules tag) s cells b delta (after true s (tag_cells tag (cell_behind b.place b.len) (more_cells b.place b.len delta) cells))
unfolding mem_rules
mem-grows tag b delta s cells w o h x f =
    let i = cell_behind b.place b.len in
    let k = more_cells b.place b.len delta in
    let T = cells.tags in
    let new = tag_cells tag i k cells in
    let y = out-mem tag b s cells x in
    record {
      is_set = o;
      settled = settle s (tag ∷ []) new (is_bare s) o (opened s (tag ∷ []) cells (is_bare s) o h);
      extents = λ c p a. refl;
      routes = λ c p a. refl;
      stays = λ c p a. let z = out-mem tag c s cells p in mem-out tag c s new w (record { is_set = o; some = z.some; aligned = z.aligned; tagged = λ j u v. tag-stays tag i k cells j f (z.tagged j u v) });
      out = mem-out tag (with_len b (b.len + delta)) s new w (record {
        is_set = o;
        some = omega (arith, y.some);
        aligned = y.aligned;
        tagged = λ j u v. elim (three i (i + k) j) [
          | inl l ↦ put_run-below tag i k T j 0 l ∙ y.tagged j u (omega (arith, y.aligned))
          | inr q ↦ elim q [ inl l ↦ absurd (omega (arith, y.aligned, y.some)) | inr l ↦ put_run-in tag i k T j 0 l.0 l.1 (omega (arith, f.inside)) ]
        ];
      });
      found = refl;
      fresh = λ c p a.
          let z = out-mem tag c s cells p in
          let d = tagged-beside cells i k (cell_at c.place) (cell_at c.place + cells_touched c.place c.len) tag w (omega (arith, z.some)) f z.tagged in
          record {
            either = elim d [
              | inl l ↦ longer-apart b c delta y.some z.some y.aligned a.either (inl l)
              | inr q ↦ elim q [ inl l ↦ longer-apart b c delta y.some z.some y.aligned a.either (inr (omega arith)) | inr l ↦ same-cells b c y.some y.aligned l a.either ]
            ];
          };
      table = takes-run tag i k cells f;
    }
  where
    same-cells : (b c : Block) → 1 ≤ b.len → b.place % 64 ≡ 0 → more_cells b.place b.len delta ≡ 0 → is_apart (touched_block 64 0 b) (touched_block 64 0 c) ≡ true → is_apart (touched_block 64 0 (with_len b (b.len + delta))) (touched_block 64 0 c) ≡ true
    same-cells b c s a z h = grind (arith, nat_tests)

mem-grow-case : (tag : ℕ) (b : Block) (delta : ℕ) (s : State) (cells : Cells) (q : Bool) → has_room_behind b.place b.len delta cells ≡ q → 1 ≤ tag → is_open s ≡ true → IsSettled (mem_rules tag) s cells → (mem_rules tag).is_out b s cells ≡ true
    → IsGrown (mem_rules tag) s cells b delta (after q s (cond q (tag_cells tag (cell_behind b.place b.len) (more_cells b.place b.len delta) cells) cells))
mem-grow-case tag b delta s cells true q w o h x = mem-grows tag b delta s cells w o h x (behind-free tag b delta s cells w x q)
mem-grow-case tag b delta s cells false q w o h x = kept-short (mem_rules tag) s cells b delta o h x

mem-grown : (tag : ℕ) → 1 ≤ tag → Growing (mem_rules tag)
unfolding mem_rules
mem-grown tag w delta b s cells o h x =
    asked-grown (mem_rules tag) delta (mem_expand tag delta) b s cells o h x (λ l m. mem-grow-case tag b delta s cells (has_room_behind b.place b.len delta cells) refl w o h x)

-- ---- all blocks are taken back

freed-one : (tag : ℕ) (cells : Cells) → OnlyFreed (IsLeaf (mem_rules tag)) cells (free_tag tag cells)
unfolding mem_rules
freed-one tag cells c = elim (freed-cell tag cells.tags c) [ inl z ↦ inl z.0 | inr z ↦ inr (z.0, inl z.1) ]

none-tagged : (tag : ℕ) (cells : Cells) (c : ℕ) → 1 ≤ tag → get_or (free_tag tag cells).tags c 0 ≡ tag → ⊥
none-tagged tag cells c w e = elim (freed-cell tag cells.tags c) [ inl z ↦ z.1 (sym z.0 ∙ e) | inr z ↦ absurd (omega (arith, z.0)) ]

mem-emptied : (tag : ℕ) → 1 ≤ tag → Emptying (mem_rules tag)
unfolding mem_rules
mem-emptied tag w s cells o h =
    let new = free_tag tag cells in
    record {
      is_set = o;
      settled = settle s (tag ∷ []) new (is_bare s) o (opened s (tag ∷ []) cells (is_bare s) o h);
      none = λ b x. let y = out-mem tag b s new x in none-tagged tag cells (cell_at b.place) w (y.tagged (cell_at b.place) (omega arith) (omega (arith, y.some)));
      table = freed-one tag cells;
    }

-- ---- where blocks lie

mem-covers : (tag : ℕ) → Covering (mem_rules tag)
unfolding mem_rules
mem-covers tag b s cells h o =
    let x = out-mem tag b s cells o in
    record { some = omega (arith, x.some); from = omega (arith, x.some); upto = omega (arith, x.some); leaf = λ i a c. inl (x.tagged (i / 64) (omega (arith, x.some)) (omega (arith, x.some))) }

-- a block in a Space has a place and a length in range
plausible : (b : Block) → 1 ≤ b.len → end_of b ≤ 64 * most_cells → is_plausible b ≡ true
plausible b h k = grind (arith, nat_tests)

mem-routed : (tag : ℕ) → Routing (mem_rules tag)
unfolding mem_rules
mem-routed tag b s cells m h o =
    let t : has_cells tag b cells ≡ true = grind (arith, nat_tests) in
    let x = out-mem tag b s cells o in
    let r = tagged-inside tag b.place b.len cells t x.some in
    plausible b x.some (omega (arith, x.some))

mem-aligned : (tag : ℕ) → Aligning (mem_rules tag)
unfolding mem_rules
mem-aligned tag b s cells h o = multiple_from_rest b.place 64 (out-mem tag b s cells o).aligned

mem-out_tags : (tag : ℕ) → 1 ≤ tag → OutTags (mem_rules tag)
unfolding mem_rules
mem-out_tags tag w b s old new k o =
    let x = out-mem tag b s old o in
    mem-out tag b s new w (record { is_set = x.is_set; some = x.some; aligned = x.aligned; tagged = λ c y z. k.at c (inl (x.tagged c y z)) ∙ x.tagged c y z })

mem-some : (tag : ℕ) → 1 ≤ tag → HasSomeTags (mem_rules tag)
unfolding mem_rules
mem-some tag w = record { least = λ t l. elim l [ inl e ↦ subst (λ k. 1 ≤ k) (sym e) w | inr x ↦ absurd x ] }

mem-settled_tags : (tag : ℕ) → 1 ≤ tag → SettledTags (mem_rules tag)
unfolding mem_rules
mem-settled_tags tag w s old new k h = settled-moved (mem_rules tag) s old new (is_bare s) (is_bare s) (mem-some tag w) k (λ o x. x) h

-- ---- the families

pub mem-keeping : (tag : ℕ) → 1 ≤ tag → KeepingLaws (mem_rules tag)
unfolding mem_rules
mem-keeping tag w =
    let some = λ (b : Block) (s : State) (cells : Cells) (o : (mem_rules tag).is_out b s cells ≡ true). some-byte _ _ b.len o in
    record {
      out_some = some;
      out_open = λ b s cells o. some-open (is_open s) _ _ o;
      good = mem-good tag w;
      freed = mem-freed tag w;
      grown = mem-grown tag w;
      emptied = mem-emptied tag w;
      reallocated = generally-reallocated (mem_rules tag) mem_offers (record { some = some; takes = λ n. mem-takes tag n 1; gives = λ b s cells. length-put_run 0 (cell_at b.place) (cells_touched b.place b.len) cells.tags; good = mem-good tag w; freed = mem-freed tag w; grown = mem-grown tag w });
      same_length = λ b s cells. asked-same _ _ b s cells;
      aligned = mem-aligned_good tag w;
      owned = λ b s cells h. same-told (mem_rules tag) s cells h;
    }

pub mem-placing : (tag : ℕ) → 1 ≤ tag → PlacingLaws (mem_rules tag)
mem-placing tag w = record { covers = mem-covers tag; routed = mem-routed tag; aligned = mem-aligned tag; out_tags = mem-out_tags tag w; settled_tags = mem-settled_tags tag w }

pub mem-framing : (tag : ℕ) → FramingLaws (mem_rules tag)
unfolding mem_rules
mem-framing tag = record {
  own_framed = λ fs old new cells h i k. record { state = refl; image = refl; clean = λ c o z w. w; marked = λ c o z w. w };
  framed = λ fs old new cells b h i o k. record { state = refl; image = refl; clean = λ c o z w. w; marked = λ c o z w. w };
  marked = λ b s bytes h. h;
}

mem-opens : (tag : ℕ) → Opens (mem_rules tag)
unfolding mem_rules
mem-opens tag need cells o n q = let z : open_as (open_with nothing no_children) cells ≡ o = cc in subst (λ o. IsSettled (mem_rules tag) o.state o.cells) z refl

pub mem-opening : (tag : ℕ) → OpeningLaws (mem_rules tag)
unfolding mem_rules
mem-opening tag = record { closed_settled = λ cells. refl; closed_image = λ bytes. refl; opens = mem-opens tag }

-- a leaf holds no block, and offers no owns
pub mem-holding : (tag : ℕ) → HoldingLaws (mem_rules tag)
unfolding mem_rules
mem-holding tag = record { out_held = λ offered b s cells h o. absurd (cc); own = λ b s cells h o. absurd (cc) }

pub mem_is_lawful : MemIsLawful
mem_is_lawful tag w = record { keeping = mem-keeping tag w; placing = mem-placing tag w; framing = mem-framing tag; opening = mem-opening tag; holding = mem-holding tag; paths = mem-paths tag (mem-holding tag) }

-- ---- what out means

pub out_of_leaf : OutOfLeaf
out_of_leaf tag b s cells w = (out-mem tag b s cells, mem-out tag b s cells w)
