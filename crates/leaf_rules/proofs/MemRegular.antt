-- A leaf is regular, whatever its tag.
use Rattle.std.proofs.Common.{◌≡◌, refl, ℕ, Bool, true, false, arith, Option, Some, None, is_none, cond}
use Rattle.size_round.specs.Sizes.{up}
use Rattle.size_round.proofs.UpLeast.{enough_times}
use Rattle.space_core.specs.Cells.{Cells, cell_size, cell_at, cells_touched, tag_cells, least_cells, cell_behind, more_cells, has_room_behind}
use Rattle.space_core.proofs.CellRuns.{length-put_run}
use Rattle.layer_laws.proofs.Tables.{count-free_tag}
use Rattle.layer_rules.specs.After.{after}
use Rattle.layer_rules.specs.Allocating.{asked_for}
use Rattle.layer_rules.specs.Expanding.{asked_to_expand}
use Rattle.layer_rules.specs.State.{State, open_with, nothing, no_children, is_open}
use Rattle.leaf_rules.specs.MemRules.{mem_allocate, mem_expand, mem_deallocate, mem_offers, mem_rules}
use Rattle.leaf_rules.specs.LeafMeanings.{MemIsRegular}
use Rattle.leaf_rules.proofs.MemLawful.{Served, mem-takes}
use Rattle.layer_laws.proofs.GoodSizes.{served-enough, unserved-zero, unserved-above, power-alignment}
use Rattle.layer_laws.specs.Lawful.{TellingLaws, ReadingLaws, RefusingLaws, TailLaws, OpennessLaws, OwningLaws, TakingLaws, KeptOnNone, KeepsOnNone, KeptOnFalse, KeepsOnFalse, RefusedLaws, UnrangedLaws}
use Rattle.layer_laws.proofs.Reallocations.{keeps-asked_to_expand, keeps-asked_to_reallocate, keeps-general_reallocate}
use Rattle.layer_laws.proofs.Requests.{keeps-asked_for, is_refusal, none-asked_for}
use Rattle.layer_laws.proofs.StayingOpen.{StaysOpen, StaysOpenBy, stays-asked_for, stays-asked_to_expand, stays-asked_to_reallocate, stays-general_reallocate, sets-open}
use Rattle.layer_laws.proofs.Takings.{took-opened}
use Rattle.layer_laws.proofs.Tests.{set-up-opens}
use Rattle.layer_laws.proofs.Unranged.{refused-refusing, unranged-regular}
use Rattle.layer_laws.proofs.Paths.{along-at_no_child}

-- ---- telling and reading

mem-telling : (tag : ℕ) → TellingLaws (mem_rules tag)
unfolding mem_rules
mem-telling tag = record {
  enough = λ n. served-enough (λ m. up m cell_size) n (enough_times n cell_size (omega arith));
  of_nothing = unserved-zero (λ m. up m cell_size);
  above_limit = unserved-above (λ m. up m cell_size);
  aligned = power-alignment cell_size (6, refl) (omega arith);
  facts_count = λ s cells. refl;
  numbers_count = λ fs. refl;
  route_depth = λ b s. omega arith;
}

mem-reading : (tag : ℕ) → ReadingLaws (mem_rules tag)
unfolding mem_rules
mem-reading tag = record {
  opens_as_fields = λ fs bytes. set-up-opens fs nothing no_children;
  read = λ fs x y. refl;
  holds = λ b s. refl;
  route = λ b s. refl;
  routed = λ b s. refl;
  extent = λ b s. refl;
  owns_at = λ path possible b s. refl;
  owned = λ b s. refl;
  owns = λ b s. refl;
}

-- ---- refusing

case-kept : (tag n : ℕ) (s : State) (cells : Cells) (o : Option ℕ) → KeptOnNone s cells (Served tag n s cells o)
case-kept tag n s cells None h = (refl, refl)
case-kept tag n s cells (Some i) h = absurd (cc)

allocate-keeps : (tag n a : ℕ) → KeepsOnNone (mem_allocate tag n a)
allocate-keeps tag n a s cells = case-kept tag n s cells (least_cells n a cells)

case-none : (tag n : ℕ) (s : State) (cells : Cells) (o : Option ℕ) → is_refusal (Served tag n s cells o) ≡ is_none o
case-none tag n s cells None = refl
case-none tag n s cells (Some i) = refl

allocate-none : (tag n a : ℕ) (s : State) (cells : Cells) → is_refusal (mem_allocate tag n a s cells) ≡ is_none (least_cells n a cells)
allocate-none tag n a s cells = case-none tag n s cells (least_cells n a cells)

case-shut : (s : State) (cells new : Cells) (q : Bool) → KeptOnFalse s cells (after q s (cond q new cells))
case-shut s cells new true h = absurd (cc)
case-shut s cells new false h = (refl, refl)

expand-keeps : (tag delta : ℕ) → KeepsOnFalse (mem_expand tag delta)
expand-keeps tag delta b s cells =
    case-shut s cells (tag_cells tag (cell_behind b.place b.len) (more_cells b.place b.len delta) cells) (has_room_behind b.place b.len delta cells)

mem-refused : (tag : ℕ) → RefusedLaws (mem_rules tag)
unfolding mem_rules
mem-refused tag =
    let allocates = λ (n a : ℕ). keeps-asked_for n (mem_allocate tag n a) (allocate-keeps tag n a) in
    let expands = λ (d : ℕ). keeps-asked_to_expand d (mem_expand tag d) (expand-keeps tag d) in
    record {
      allocate = λ n. allocates n 1;
      aligned_allocate = allocates;
      expand = expands;
      reallocate = λ n. keeps-asked_to_reallocate n mem_deallocate _ (keeps-general_reallocate n mem_offers (λ d. asked_to_expand d (mem_expand tag d)) (asked_for n (mem_allocate tag n 1)) mem_deallocate expands (allocates n 1));
      free_tails = λ s cells h. refl;
      refuses_uncounted = λ n s t cells e. refl;
      refuses_aligned_uncounted = λ n a s t cells e. refl;
      free_tails_uncounted = λ s t e. refl;
    }

mem-refusing : (tag : ℕ) → RefusingLaws (mem_rules tag)
unfolding mem_rules
mem-refusing tag =
    refused-refusing (mem_rules tag) (mem-refused tag)
    (λ n s cells t. none-asked_for n (mem_allocate tag n 1) s cells (is_none (least_cells n 1 cells)) (λ l m. allocate-none tag n 1 s cells))
    (λ n a s cells. none-asked_for n (mem_allocate tag n a) s cells (is_none (least_cells n a cells)) (λ l m. allocate-none tag n a s cells))

mem-tails : (tag : ℕ) → TailLaws (mem_rules tag)
unfolding mem_rules
mem-tails tag = record { shut = refl; allocate = λ n s cells h. refl; set_up = λ need cells o q. refl }

-- ---- openness

case-open : (tag n : ℕ) (s : State) (cells : Cells) (o : Option ℕ) → is_open (Served tag n s cells o).state ≡ is_open s
case-open tag n s cells None = refl
case-open tag n s cells (Some i) = refl

allocate-stays : (tag n a : ℕ) → StaysOpen (mem_allocate tag n a)
allocate-stays tag n a s cells = case-open tag n s cells (least_cells n a cells)

expand-stays : (tag delta : ℕ) → StaysOpenBy (mem_expand tag delta)
expand-stays tag delta b s cells = refl

deallocate-stays : StaysOpenBy mem_deallocate
deallocate-stays b s cells = refl

mem-openness : (tag : ℕ) → OpennessLaws (mem_rules tag)
unfolding mem_rules
mem-openness tag =
    let allocates = λ (n a : ℕ). stays-asked_for n (mem_allocate tag n a) (allocate-stays tag n a) in
    let expands = λ (d : ℕ). stays-asked_to_expand d (mem_expand tag d) (expand-stays tag d) in
    record {
      allocate = λ n. allocates n 1;
      aligned_allocate = allocates;
      expand = expands;
      reallocate = λ n. stays-asked_to_reallocate n mem_deallocate _ deallocate-stays (stays-general_reallocate n mem_offers (λ d. asked_to_expand d (mem_expand tag d)) (asked_for n (mem_allocate tag n 1)) mem_deallocate expands (allocates n 1) deallocate-stays);
      deallocate = deallocate-stays;
      deallocate_all = λ s cells. refl;
      owns = λ b s. refl;
      set_up = λ need cells o q. sets-open nothing no_children cells o q;
    }

-- ---- owning and taking

mem-owning : (tag : ℕ) → OwningLaws (mem_rules tag)
unfolding mem_rules
mem-owning tag = record { answer = λ b s. refl; rest = λ b s. refl; not_owned = λ b s h. refl; open_holds = λ b s h. absurd (cc); held_size = λ b s h. absurd (cc); holds_uncounted = λ b s t q. refl; along = λ path possible b s. along-at_no_child false path possible; by_path = λ path b c s. refl }

mem-taking : (tag : ℕ) → TakingLaws (mem_rules tag)
unfolding mem_rules
mem-taking tag = record {
  allocate = λ n. mem-takes tag n 1;
  aligned_allocate = mem-takes tag;
  set_up = λ need cells o q. took-opened (mem_rules tag) (open_with nothing no_children) cells o q;
  deallocate_count = λ b s cells. length-put_run 0 (cell_at b.place) (cells_touched b.place b.len) cells.tags;
  deallocate_all_count = λ s cells. count-free_tag tag cells;
  names_a_node = λ need cells k q. absurd (cc);
}

-- ---- all of them

pub mem-unranged : (tag : ℕ) → UnrangedLaws (mem_rules tag)
mem-unranged tag = record { reading = mem-reading tag; refused = mem-refused tag; tails = mem-tails tag; openness = mem-openness tag; owning = mem-owning tag; taking = mem-taking tag }

pub mem_is_regular : MemIsRegular
mem_is_regular tag = unranged-regular (mem_rules tag) (mem-unranged tag) (mem-telling tag) (mem-refusing tag)
