-- What stands after a call: its answer, the layer's state and the table of cells; and what each kind of call is as a rule.
use Rattle.layer_rules.specs.State.{State, child, with_child}
use Rattle.layer_rules.specs.declared.Block.{Block}
use Rattle.space_core.specs.Cells.{Cells}
use Rattle.std.specs.Prelude.{Bool, List, None, Option, Result, option_map, ℕ, ◌∷◌}

pub record After (A : Type 0) : Type 0 where
  pub answer : A
  pub state : State
  pub cells : Cells

abbrev pub after : {A : Type 0} → A → State → Cells → After A
after x s cells = record { answer = x; state = s; cells = cells }

-- what a child's call leaves, seen from its parent
abbrev pub in_child : {A : Type 0} → State → ℕ → After A → After A
in_child s i r = after r.answer (with_child s i r.state) r.cells

-- the same with another answer
abbrev pub answering : {A B : Type 0} → (A → B) → After A → After B
answering f r = after (f r.answer) r.state r.cells

-- a new block, with the route to the layer that served it
pub record Placed : Type 0 where
  pub block : Block
  pub route : List ℕ

abbrev pub placed : Block → List ℕ → Placed
placed b steps = record { block = b; route = steps }

-- What a layer does with one request: it serves a block, or none.
abbrev pub Serve : Type 0
Serve = State → Cells → After (Option Placed)

abbrev pub refuse : Serve
refuse s cells = after None s cells

-- a block that the child i served, as the parent hands it out
abbrev pub from_child : (shown : Block → Block) → ℕ → Placed → Placed
from_child shown i p = placed (shown p.block) (i ∷ p.route)

-- the child i serves
abbrev pub serve_below : (shown : Block → Block) → ℕ → Serve → State → State → Cells → After (Option Placed)
serve_below shown i serve s t cells = in_child s i (answering (option_map (from_child shown i)) (serve t cells))

-- an open layer and the table that it was opened in
pub record Opened : Type 0 where
  pub state : State
  pub cells : Cells

abbrev pub opened : State → Cells → Opened
opened s cells = record { state = s; cells = cells }

-- Opening answers the node that refused, counted from the layer itself as 0.
abbrev pub Opening : Type 0
Opening = Result Opened ℕ

-- what a call on a block does, with true or false for an answer
abbrev pub Change : Type 0
Change = Block → State → Cells → After Bool

abbrev pub say : Bool → Change
say answer b s cells = after answer s cells

-- a call of the child i, on the block that it sees
abbrev pub change_child : ℕ → Change → Change
change_child i change b s cells = in_child s i (change b (child s i) cells)

-- the block that stands then, no block after a reallocation to 0 bytes, or a refusal that leaves the block
pub data Reallocated : Type 0 where
  moved_to : Block → Reallocated
  emptied : Reallocated
  unmoved : Reallocated

abbrev pub Reallocate : Type 0
Reallocate = Block → State → Cells → After Reallocated

abbrev pub stay : Reallocate
stay b s cells = after unmoved s cells

-- the answer of `owns`, and the state that stands then
pub record Reply : Type 0 where
  pub owned : Bool
  pub state : State

abbrev pub reply : Bool → State → Reply
reply held s = record { owned = held; state = s }

abbrev pub Owning : Type 0
Owning = Block → State → Reply
