-- Ran: what the run of a whole trace did, by its status.
use Rattle.std.specs.Prelude.{◌≡◌, ◌⊎◌, ℕ, ◌+◌, ◌≤◌, true, List, Some, length}
use Rattle.layer_rules.specs.Rules.{Rules}
use Rattle.heap_core.specs.Performing.{Run}
use Rattle.play_core.specs.declared.Status.{Status}
use Rattle.play_core.specs.declared.Status.TheVariants.{Good, Usage, Expression, Trace, ReadFault, WriteFault, OpeningRefused, NoMemory}
use Rattle.play_core.specs.Devices.{Reading, Writing, PutsAll, Fails, Took, ReadFails, MayBe}
use Rattle.play_core.specs.Lines.{Cut}
use Rattle.trace_text.specs.Grammar.{most_bytes}
use Rattle.play_core.specs.Outcome.{most_input}
use Rattle.play_core.specs.Told.{Piece, BreaksOff, EndsBehind, text_of, told, answers_from}

-- The pieces answer the lines that are whole in these bytes, of which none is in fault. What follows isn't too long yet, and neither is
-- the input.
pub record AnswersWhole (root : Rules) (run : Run) (bytes : List ℕ) (pieces : List Piece) (now : Run) : Type 0 where
  pub lines : List (List ℕ)
  pub rest : List ℕ
  pub cut : Cut bytes lines rest
  pub answers : answers_from root 0 run lines ≡ Some (pieces, now)
  pub short : length rest ≤ most_bytes
  pub within : length bytes ≤ most_input

-- the input was read to its end, and all that it is told was written
pub record Completed (root : Rules) (run now : Run) (r r' : Reading) (w w' : Writing) : Type 0 where
  pub bytes : List ℕ
  pub pieces : List Piece
  pub taken : Took r r' bytes
  pub ended : r'.finished ≡ true
  pub few : length bytes ≤ most_input
  pub put : PutsAll w w' (text_of pieces)
  pub tells : told root run bytes ≡ record { status = Good; pieces = pieces; run = now }

-- a line was in fault: whatever the rest of the input is, this is what it is told, and no byte was taken behind the one with which it is
-- too much
pub record Stopped (root : Rules) (run now : Run) (r r' : Reading) (w w' : Writing) : Type 0 where
  pub bytes : List ℕ
  pub pieces : List Piece
  pub taken : Took r r' bytes
  pub few : length bytes ≤ most_input + 1
  pub put : PutsAll w w' (text_of pieces)
  pub tells : (input : List ℕ) → MayBe r'.finished bytes input → told root run input ≡ record { status = Trace; pieces = pieces; run = now }

-- the source failed: the answers to the whole lines of what was taken were written
pub record CutShort (root : Rules) (run now : Run) (r r' : Reading) (w w' : Writing) : Type 0 where
  pub bytes : List ℕ
  pub pieces : List Piece
  pub failed : ReadFails r r' bytes
  pub put : PutsAll w w' (text_of pieces)
  pub answers : AnswersWhole root run bytes pieces now

-- the sink failed: whatever the rest of the input is, a part of what it is told was written, up to within a piece or behind one
pub record BrokenOff (root : Rules) (run now : Run) (r r' : Reading) (w w' : Writing) : Type 0 where
  pub bytes : List ℕ
  pub text : List ℕ
  pub taken : Took r r' bytes
  pub few : length bytes ≤ most_input + 1
  pub failed : Fails w w' text
  pub tells : (input : List ℕ) → MayBe r'.finished bytes input → BreaksOff (told root run input) text now ⊎ EndsBehind run (told root run input) text now

-- what a trace did that led from one run to another, by its status
abbrev pub Ran : Rules → (run now : Run) (r r' : Reading) (w w' : Writing) → Status → Type 0
Ran root run now r r' w w' Good = Completed root run now r r' w w'
Ran root run now r r' w w' Trace = Stopped root run now r r' w w'
Ran root run now r r' w w' ReadFault = CutShort root run now r r' w w'
Ran root run now r r' w w' WriteFault = BrokenOff root run now r r' w w'
Ran root run now r r' w w' Usage = ⊥
Ran root run now r r' w w' Expression = ⊥
Ran root run now r r' w w' OpeningRefused = ⊥
Ran root run now r r' w w' NoMemory = ⊥
