-- A replay of calls by the rules alone, for worked examples: blocks go by names, and no bytes are kept.
use Rattle.std.specs.Prelude.{ℕ, ◌+◌, Bool, true, false, not, List, [], ◌∷◌, Option, Some, None, Ok, Err, length, replicate, nat_eq, filter, sum_by}
use Rattle.space_core.specs.Cells.{Cells}
use Rattle.layer_rules.specs.declared.Asked.{Asked}
use Rattle.layer_rules.specs.declared.Block.{Block}
use Rattle.layer_rules.specs.declared.Fact.{Fact}
use Rattle.layer_rules.specs.After.{After, Placed, Opening, Reallocated, moved_to, emptied, unmoved}
use Rattle.layer_rules.specs.Blocks.{no_block, with_len}
use Rattle.layer_rules.specs.Rules.{Rules, owns_along}
use Rattle.layer_rules.specs.State.{State, closed}

-- one call; a block goes by the number that it was first given
pub data Call : Type 0 where
  allocate : (name n : ℕ) → Call
  aligned_allocate : (name n align : ℕ) → Call
  expand : (name delta : ℕ) → Call
  reallocate : (name n : ℕ) → Call
  deallocate : (name : ℕ) → Call
  deallocate_all : Call
  owns : (name : ℕ) → Call
  owns_at : (name : ℕ) (path : List ℕ) → Call
  good_alloc_size : (n : ℕ) → Call

-- what a call answers: a place, no block, true or false, a block that is gone, who owns it, a size, or nothing to tell
pub data Reported : Type 0 where
  at : (place : ℕ) → Reported
  none : Reported
  said : Bool → Reported
  gone : Reported
  asked : Asked → Reported
  size : ℕ → Reported
  done : Reported

-- the named blocks, the state and the table
pub record Run : Type 0 where
  pub live : List (ℕ × Block)
  pub state : State
  pub cells : Cells

-- these three as a run
abbrev pub run_of : List (ℕ × Block) → State → Cells → Run
run_of live s cells = record { live = live; state = s; cells = cells }

-- the block of a name, and no block where it has none
abbrev pub block_of : ℕ → List (ℕ × Block) → Block
block_of name [] = no_block
block_of name (x ∷ xs) = elim (nat_eq name x.0) [ true ↦ x.1 | false ↦ block_of name xs ]

-- the blocks of all other names
abbrev pub without : ℕ → List (ℕ × Block) → List (ℕ × Block)
without name live = filter (λ x. not (nat_eq name x.0)) live

-- the name's block is this one
abbrev pub with_block : ℕ → Block → List (ℕ × Block) → List (ℕ × Block)
with_block name b live = (name, b) ∷ without name live

-- what is answered, and what stands then: after a request, an expansion and a reallocation
abbrev pub after_allocate : ℕ → List (ℕ × Block) → After (Option Placed) → Reported × Run
after_allocate name live x = elim x.answer [
  | None ↦ (none, run_of live x.state x.cells)
  | Some q ↦ (at q.block.place, run_of (with_block name q.block live) x.state x.cells)
]

abbrev pub after_expand : (name delta : ℕ) → Block → List (ℕ × Block) → After Bool → Reported × Run
after_expand name delta b live x = elim x.answer [
  | true ↦ (said true, run_of (with_block name (with_len b (b.len + delta)) live) x.state x.cells)
  | false ↦ (said false, run_of live x.state x.cells)
]

abbrev pub after_reallocate : ℕ → List (ℕ × Block) → After Reallocated → Reported × Run
after_reallocate name live x = elim x.answer [
  | moved_to b ↦ (at b.place, run_of (with_block name b live) x.state x.cells)
  | emptied ↦ (gone, run_of (without name live) x.state x.cells)
  | unmoved ↦ (said false, run_of live x.state x.cells)
]

-- one call by the rules
abbrev pub call : Rules → Call → Run → Reported × Run
call e (allocate name n) x = after_allocate name x.live (e.allocate n x.state x.cells)
call e (aligned_allocate name n align) x = after_allocate name x.live (e.aligned_allocate n align x.state x.cells)
call e (expand name delta) x = let b = block_of name x.live in after_expand name delta b x.live (e.expand delta b x.state x.cells)
call e (reallocate name n) x = after_reallocate name x.live (e.reallocate n (block_of name x.live) x.state x.cells)
call e (deallocate name) x = let y = e.deallocate (block_of name x.live) x.state x.cells in (said y.answer, run_of (without name x.live) y.state y.cells)
call e deallocate_all x = let y = e.deallocate_all x.state x.cells in (done, run_of [] y.state y.cells)
call e (owns name) x = let y = e.owns (block_of name x.live) x.state in (said y.owned, run_of x.live y.state x.cells)
call e (owns_at name path) x = (asked (owns_along e path (block_of name x.live) x.state), x)
call e (good_alloc_size n) x = (size (e.good_alloc_size n), x)

-- these calls in a row
unfoldable pub calls : Rules → List Call → Run → List Reported × Run
calls e [] x = ([], x)
calls e (c ∷ cs) x = let y = call e c x in let w = calls e cs y.1 in (y.0 ∷ w.0, w.1)

-- so many cells, all free
abbrev pub empty_table : ℕ → Cells
empty_table n = record { tags = replicate n 0 }

-- what stands when it is set up
abbrev pub first_run_of : Opening → Run
first_run_of (Err node) = run_of [] closed (empty_table 0)
first_run_of (Ok x) = run_of [] x.state x.cells

-- the last lines of a report: the live blocks, the bytes asked and taken up, and the fact of each node
abbrev pub totals : Rules → Run → List ℕ
totals e x = length x.live ∷ sum_by (λ y. y.1.len) x.live ∷ sum_by (λ y. (e.extent y.1 x.state).len) x.live ∷ []

-- the answers, the totals and the facts of a replay over so many cells
unfoldable pub replay : Rules → ℕ → List Call → List Reported × List ℕ × List Fact
unfolding calls
replay e cells cs =
    let y = calls e cs (first_run_of (e.set_up 0 (empty_table cells))) in
    (y.0, totals e y.1, e.facts y.1.state y.1.cells)

-- the state after these calls
unfoldable pub state_after : Rules → ℕ → List Call → State
unfolding calls
state_after e cells cs = (calls e cs (first_run_of (e.set_up 0 (empty_table cells)))).1.state

-- the same without the facts
abbrev pub answers_and_totals : List Reported × List ℕ × List Fact → List Reported × List ℕ
answers_and_totals x = (x.0, x.1)
