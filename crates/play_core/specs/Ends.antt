-- Ends: what a part of a run leaves, by how it ended.
use Rattle.std.specs.Prelude.{◌≡◌, ℕ, ◌<◌, List, ◌∷◌, ◌++◌, length, take, Option, Some, None, Result, Ok, Err}
use Rattle.layer_rules.specs.Rules.{Rules}
use Rattle.layer_rules.specs.Layering.{LayerModel}
use Rattle.space_core.specs.Memory.{Memory}
use Rattle.heap_core.specs.declared.heap.Heap.{Heap}
use Rattle.heap_core.specs.Heap.{heap_model, heap_table}
use Rattle.heap_core.specs.Holding.{run_in, Held}
use Rattle.heap_core.specs.Performing.{Run}
use Rattle.source_sink.specs.declared.Failed.{Failed}
use Rattle.trace_text.specs.Text.{answer_text, fault_text}
use Rattle.play_core.specs.declared.Status.{Status}
use Rattle.play_core.specs.declared.Status.TheVariants.{Good, Usage, Expression, Trace, ReadFault, WriteFault, OpeningRefused, NoMemory}
use Rattle.play_core.specs.declared.Step.{Step}
use Rattle.play_core.specs.Devices.{Writing, PutsAll, PutsPart, Fails}
use Rattle.play_core.specs.Lines.{joined}
use Rattle.play_core.specs.Outcome.{Outcome, Answers, Silent, Stops}
use Rattle.play_core.specs.Told.{Told, Piece, BreaksOff, text_of, after, reported}
use Rattle.play_core.specs.Place.{Place, Leads, told_at}
use Rattle.play_core.specs.declared.Step.TheVariants as step

-- the rules of a heap's root, the run that it holds in a Space, and that it holds
abbrev pub rules_at : {L : Type 0} → (L → LayerModel) → Heap L → Rules
rules_at model heap = (heap_model model heap).rules

abbrev pub run_at : {L : Type 0} → (L → LayerModel) → Heap L → Memory → Run
run_at model heap m = run_in (heap_model model heap) (heap_table heap) m

abbrev pub HeldAt : {L : Type 0} → (L → LayerModel) → Heap L → Memory → Type 0
HeldAt model heap m = Held (heap_model model heap) (heap_table heap) m

-- a fault's line was put, or the sink failed within it
abbrev pub StopPut : (old new : Writing) (text : List ℕ) → Step → Type 0
StopPut old new text step.Goes = ⊥
StopPut old new text step.SinkFailed = PutsPart old new text
StopPut old new text step.Stops = PutsAll old new text

-- an answer was put, or the sink failed within it
abbrev pub AnswerPut : (old new : Writing) (text : List ℕ) → Step → Type 0
AnswerPut old new text step.Goes = PutsAll old new text
AnswerPut old new text step.SinkFailed = PutsPart old new text
AnswerPut old new text step.Stops = ⊥

-- nothing is to be done
abbrev pub Quiet : (run now : Run) (old new : Writing) → Step → Type 0
Quiet run now old new step.Goes = (now ≡ run) × (new ≡ old)
Quiet run now old new step.Stops = ⊥
Quiet run now old new step.SinkFailed = ⊥

-- one line, by what it does
abbrev pub Stepped : Outcome → (number : ℕ) (run now : Run) (old new : Writing) → Step → Type 0
Stepped (Answers call answer next) number run now old new end = (now ≡ next) × AnswerPut old new (answer_text call answer) end
Stepped Silent number run now old new end = Quiet run now old new end
Stepped (Stops fault) number run now old new end = (now ≡ run) × StopPut old new (fault_text number fault) end

-- one byte, by what it does
abbrev pub ByteStepped : Option Outcome → (number : ℕ) (run now : Run) (old new : Writing) → Step → Type 0
ByteStepped None number run now old new end = Quiet run now old new end
ByteStepped (Some o) number run now old new end = Stepped o number run now old new end

-- Bytes were taken, from p to q, by how that ended. What stands to the right of it holds whatever bytes follow.
abbrev pub Fed : Rules → Place → (bytes : List ℕ) → Place → (old new : Writing) → Step → Type 0
Fed root p bytes q old new step.Goes = (pieces : List Piece) × PutsAll old new (text_of pieces) × Leads root p bytes pieces q
Fed root p bytes q old new step.Stops = (pieces : List Piece) × PutsAll old new (text_of pieces)
    × ((rest : List ℕ) → told_at root p (bytes ++ rest) ≡ record { status = Trace; pieces = pieces; run = q.run })
Fed root p bytes q old new step.SinkFailed = (text : List ℕ) × Fails old new text × ((rest : List ℕ) → BreaksOff (told_at root p (bytes ++ rest)) text q.run)

-- the last line was performed, by how that ended, where this is what is told from there on
abbrev pub Lasts : Rules → Told → (now : Run) (old new : Writing) → Step → Type 0
Lasts root all now old new step.Goes = (pieces : List Piece) × PutsAll old new (text_of pieces) × (all ≡ after pieces (reported root now))
Lasts root all now old new step.Stops = (pieces : List Piece) × PutsAll old new (text_of pieces) × (all ≡ record { status = Trace; pieces = pieces; run = now })
Lasts root all now old new step.SinkFailed = (text : List ℕ) × Fails old new text × BreaksOff all text now

-- lines were put, each as a piece, up to within one
pub record PutsLines (old new : Writing) (lines : List (List ℕ)) : Type 0 where
  pub front : List (List ℕ)
  pub line : List ℕ
  pub back : List (List ℕ)
  pub count : ℕ
  pub lines_are : lines ≡ front ++ line ∷ back
  pub within : count < length line
  pub fails : Fails old new (joined front ++ take count line)

-- lines were put, each as a piece, or the sink failed within one
abbrev pub LinesPut : (old new : Writing) (lines : List (List ℕ)) → Result (Unit {0}) Failed → Type 0
LinesPut old new lines (Ok done) = PutsAll old new (joined lines)
LinesPut old new lines (Err failed) = PutsLines old new lines

-- all of this was told, by how that ended
abbrev pub Finishes : Told → (now : Run) (old new : Writing) → Status → Type 0
Finishes all now old new Good = (pieces : List Piece) × PutsAll old new (text_of pieces) × (all ≡ record { status = Good; pieces = pieces; run = now })
Finishes all now old new Trace = (pieces : List Piece) × PutsAll old new (text_of pieces) × (all ≡ record { status = Trace; pieces = pieces; run = now })
Finishes all now old new WriteFault = (text : List ℕ) × Fails old new text × BreaksOff all text now
Finishes all now old new Usage = ⊥
Finishes all now old new Expression = ⊥
Finishes all now old new ReadFault = ⊥
Finishes all now old new OpeningRefused = ⊥
Finishes all now old new NoMemory = ⊥
