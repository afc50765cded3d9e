-- Asked: what words ask for.
use Rattle.std.specs.Prelude.{ℕ, ◌≡◌, List, Option, Some, None, IsOk, IsErr, ⊤}
use Rattle.layer_rules.specs.After.{Opening}
use Rattle.layer_rules.specs.Rules.{Rules}
use Rattle.space_core.specs.Cells.{Cells}
use Rattle.space_core.specs.Memory.{fresh_memory}
use Rattle.expr_reader.specs.declared.fault.ExprFault.{ExprFault}
use Rattle.expr_reader.specs.Answers.{IsAccepted, HasFault}
use Rattle.shapes.specs.RulesOf.{rules_of}
use Rattle.expr_builder.specs.ShapeOf.{shape_of}
use Rattle.expr_reader.specs.Trees.{Tree as Expression}
use Rattle.play_core.specs.Command.{Command, check, replay, command_of, expression_in}

-- Nothing, since they are no command; the fault of their expression; what stands in it; or a run of a trace, on a heap of
-- its layers over so many cells.
pub data Asked : Type 0 where
  Nothing : Asked
  Refused : (fault : ExprFault) → Asked
  Checks : Expression → Asked
  Replays : Expression → (cells : ℕ) → Asked

-- a command asks for this
abbrev pub CommandAsks : Command → Asked → Type 0
CommandAsks command Nothing = ⊥
CommandAsks command (Refused fault) = HasFault (expression_in command) fault
CommandAsks (check text) (Checks e) = IsAccepted text e
CommandAsks (check text) (Replays e count) = ⊥
CommandAsks (replay text cells) (Checks e) = ⊥
CommandAsks (replay text cells) (Replays e count) = IsAccepted text e × (count ≡ cells)

abbrev pub MayAsk : Option Command → Asked → Type 0
MayAsk None asked = asked ≡ Nothing
MayAsk (Some command) asked = CommandAsks command asked

-- The words ask for this.
abbrev pub Asks : (words : List (List ℕ)) → Asked → Type 0
Asks words asked = MayAsk (command_of words) asked

-- All words ask for one thing, and for no other.
abbrev pub AllWordsAskOnce : Type 0
AllWordsAskOnce = (words : List (List ℕ)) → (asked : Asked) × Asks words asked × ((other : Asked) → Asks words other → other ≡ asked)

-- ---- the heap of a replay

-- the root that an expression stands for: its leaves are the first of the Space
abbrev pub root_of : Expression → Rules
root_of e = rules_of (shape_of e 0)

-- a table of so many free cells
abbrev pub free_cells : (count : ℕ) → Cells
free_cells count = let m = fresh_memory count 0 in m.cells

-- what opening the root gives there, with nothing asked of it first
abbrev pub opening_of : Expression → (cells : ℕ) → Opening
opening_of e cells = (root_of e).set_up 0 (free_cells cells)

-- the words ask for a trace to be run on a root that is granted, or refused
abbrev pub IsGranted : (words : List (List ℕ)) → Type 0
IsGranted words = (e : Expression) × (cells : ℕ) × Asks words (Replays e cells) × IsOk (opening_of e cells)

abbrev pub IsOpeningRefused : (words : List (List ℕ)) → Type 0
IsOpeningRefused words = (e : Expression) × (cells : ℕ) × Asks words (Replays e cells) × IsErr (opening_of e cells)

-- the words are a command whose expression is in fault
abbrev pub IsExpressionFault : (words : List (List ℕ)) → Type 0
IsExpressionFault words = (fault : ExprFault) × Asks words (Refused fault)

-- what the input is, where the words ask for a trace to be run: what the source has left
abbrev pub IsInput : Asked → (left : Option (List ℕ)) (input : List ℕ) → Type 0
IsInput (Replays e cells) left input = left ≡ Some input
IsInput _ left input = ⊤
