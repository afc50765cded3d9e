-- Setting up: how a layer is opened, over its parent or over members, where a block of the size that is needed is to be asked of it first.
use Rattle.layer_rules.specs.After.{After, Opened, Opening, Placed, Serve, opened}
use Rattle.layer_rules.specs.Fields.{Fields, are_open}
use Rattle.layer_rules.specs.State.{Own, State, States, child_and, closed, one_child, open_with}
use Rattle.layer_rules.specs.declared.Block.{Block}
use Rattle.size_round.specs.Sizes.{limit}
use Rattle.space_core.specs.Cells.{Cells}
use Rattle.std.specs.Prelude.{Err, None, Ok, Option, Result, Some, cond, false, nat_eq, nat_le, true, ℕ, ◌+◌}

-- a refusal of a child, whose first node has this number
abbrev pub then_open : (node : ℕ) → Opening → (Opened → Opening) → Opening
then_open node (Err k) next = Err (node + k)
then_open node (Ok o) next = next o

-- the parent's need: 0 where nothing is needed
abbrev pub need_of : (need size : ℕ) → ℕ
need_of need size = cond (nat_eq need 0) 0 size

-- the layer refuses by itself what is above the limit
abbrev pub within_limit : ℕ → Opening → Opening
within_limit size o = elim (nat_le size limit) [ true ↦ o | false ↦ Err 0 ]

abbrev pub chunk_given : (own : Block → Own) → After (Option Placed) → Opening
chunk_given own r = elim r.answer [ None ↦ Err 0 | Some p ↦ Ok (opened (open_with (own p.block) (one_child r.state)) r.cells) ]

-- the parent is opened, and then asked for the chunk
abbrev pub open_chunk : (size : ℕ) (own : Block → Own) (parent : Opening) (serve : Serve) → Opening
open_chunk size own parent serve = within_limit size (then_open 1 parent (λ o. chunk_given own (serve o.state o.cells)))

abbrev pub open_parent : Own → Opening → Opening
open_parent own parent = then_open 1 parent (λ o. Ok (opened (open_with own (one_child o.state)) o.cells))

abbrev pub open_group : Own → Result (States × Cells) ℕ → Opening
open_group own (Err k) = Err k
open_group own (Ok p) = Ok (opened (open_with own p.0) p.1)

-- a member was opened, and then those behind it
abbrev pub then_members : (node : ℕ) → Opening → (Cells → Result (States × Cells) ℕ) → Result (States × Cells) ℕ
then_members node (Err k) rest = Err (node + k)
then_members node (Ok o) rest = elim (rest o.cells) [ Err k ↦ Err k | Ok p ↦ Ok (child_and o.state p.0, p.1) ]

-- the need of the member i, where the member k gets it
abbrev pub need_at : (k need i : ℕ) → ℕ
need_at k need i = cond (nat_eq i k) need 0

abbrev pub if_set_up : Fields → State → State
if_set_up fs s = elim (are_open fs) [ true ↦ s | false ↦ closed ]
