-- Reallocating: what the forms share of how a block gets another length; the general form among it.
use Rattle.layer_rules.specs.After.{After, Change, Placed, Reallocate, Reallocated, Serve, after, answering, emptied, in_child, moved_to, unmoved}
use Rattle.layer_rules.specs.Blocks.{with_len}
use Rattle.layer_rules.specs.State.{child}
use Rattle.layer_rules.specs.declared.Block.{Block}
use Rattle.layer_rules.specs.declared.Offers.{Offers}
use Rattle.size_round.specs.Sizes.{limit}
use Rattle.std.specs.Prelude.{Bool, None, Option, Some, false, nat_eq, nat_lt, true, ℕ, ◌&&◌, ◌-◌}

-- the same place with the new length
abbrev pub in_place : ℕ → Reallocate
in_place n b s cells = after (moved_to (with_len b n)) s cells

-- what the kinds of length do in every layer: the same length, none, one above the limit, and any other
abbrev pub reallocated_unless : (same empty too_long : Bool) (give : Change) → Reallocate → Reallocate
reallocated_unless true empty too_long give reallocate b s cells = after (moved_to b) s cells
reallocated_unless false true too_long give reallocate b s cells = answering (λ gone. emptied) (give b s cells)
reallocated_unless false false true give reallocate b s cells = after unmoved s cells
reallocated_unless false false false give reallocate b s cells = reallocate b s cells

abbrev pub asked_to_reallocate : (n : ℕ) (give : Change) → Reallocate → Reallocate
asked_to_reallocate n give reallocate b = reallocated_unless (nat_eq n b.len) (nat_eq n 0) (nat_lt limit n) give reallocate b

-- the old block is given back, whatever the answer
abbrev pub then_give : Change → Block → After (Option Placed) → After Reallocated
then_give give b r =
    elim r.answer [
      | None ↦ after unmoved r.state r.cells
      | Some p ↦ answering (λ given. moved_to p.block) (give b r.state r.cells)
    ]

-- a new block is served, and the old one given back
abbrev pub move_to : (serve : Serve) (give : Change) → Reallocate
move_to serve give b s cells = then_give give b (serve s cells)

-- where growing was not done, the block is moved
abbrev pub or_move : (n : ℕ) (serve : Serve) (give : Change) → Block → After Bool → After Reallocated
or_move n serve give b r =
    elim r.answer [ true ↦ after (moved_to (with_len b n)) r.state r.cells | false ↦ move_to serve give b r.state r.cells ]

-- the general form: expand where that is offered and the length rises, else move
abbrev pub expand_or_move : (tries : Bool) (n : ℕ) (expand_by : ℕ → Change) (serve : Serve) (give : Change) → Reallocate
expand_or_move true n expand_by serve give b s cells = or_move n serve give b (expand_by (n - b.len) b s cells)
expand_or_move false n expand_by serve give b s cells = move_to serve give b s cells

abbrev pub general_reallocate : (n : ℕ) → Offers → (expand_by : ℕ → Change) (serve : Serve) (give : Change) → Reallocate
general_reallocate n offered expand_by serve give b = expand_or_move (nat_lt b.len n && offered.expand) n expand_by serve give b

abbrev pub shown_as : ℕ → Reallocated → Reallocated
shown_as n (moved_to b) = moved_to (with_len b n)
shown_as n emptied = emptied
shown_as n unmoved = unmoved

abbrev pub reallocate_child : ℕ → Reallocate → Reallocate
reallocate_child i reallocate b s cells = in_child s i (reallocate b (child s i) cells)

-- the first of two where the test is true, and else the second
abbrev pub either_reallocate : Bool → Reallocate → Reallocate → Reallocate
either_reallocate true c d = c
either_reallocate false c d = d

-- the parent's reallocation of the block as it sees it, shown with n bytes
abbrev pub reallocate_parent : (n : ℕ) (shown : Block → Block) → Reallocate → Reallocate
reallocate_parent n shown parent b s cells = answering (shown_as n) (reallocate_child 0 parent (shown b) s cells)
