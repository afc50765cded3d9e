-- Told: the whole text that an input gets, piece by piece, and the status.
use Rattle.std.specs.Prelude.{◌≡◌, ℕ, ◌+◌, ◌<◌, List, [], ◌∷◌, ◌++◌, length, map, take, Option, Some, None}
use Rattle.std.specs.List.{flat_map}
use Rattle.std.specs.Option.{option_map}
use Rattle.layer_rules.specs.Rules.{Rules}
use Rattle.heap_core.specs.declared.Call.{Call}
use Rattle.heap_core.specs.declared.Answer.{Answer}
use Rattle.heap_core.specs.Performing.{Run}
use Rattle.trace_text.specs.declared.TraceFault.{TraceFault}
use Rattle.trace_text.specs.Text.{answer_text, fault_text}
use Rattle.play_core.specs.declared.Status.{Status}
use Rattle.play_core.specs.declared.Status.TheVariants.{Good, Trace}
use Rattle.play_core.specs.Lines.{lines_of}
use Rattle.play_core.specs.Outcome.{Outcome, Answers, Silent, Stops, outcome}
use Rattle.play_core.specs.ReportText.{report_of}

-- a call and its answer
pub record Exchange : Type 0 where
  pub call : Call
  pub answer : Answer

-- a piece of text, the run that stands when it is put, and what it answers, if it is an answer
pub record Piece : Type 0 where
  pub text : List ℕ
  pub run : Run
  pub exchange : Option Exchange

-- an answer, after which this run stands
abbrev pub answer_piece : Call → Answer → (next : Run) → Piece
answer_piece call answer next =
    record { text = answer_text call answer; run = next; exchange = Some (record { call = call; answer = answer }) }

-- a line of a report, or of a fault
abbrev pub line_piece : Run → (line : List ℕ) → Piece
line_piece run line = record { text = line; run = run; exchange = None }

-- the pieces joined
abbrev pub text_of : List Piece → List ℕ
text_of pieces = flat_map (λ piece. piece.text) pieces

-- what is told: the status, the pieces, and the run that stands in the end
pub record Told : Type 0 where
  pub status : Status
  pub pieces : List Piece
  pub run : Run

-- what is told at the end of an input: the report
abbrev pub reported : Rules → Run → Told
reported root run = record { status = Good; pieces = map (line_piece run) (report_of root run); run = run }

-- the same with pieces before it
abbrev pub after : List Piece → Told → Told
after pieces t = record { status = t.status; pieces = pieces ++ t.pieces; run = t.run }

-- a line in fault ends the text
abbrev pub stopped : (number : ℕ) → TraceFault → Run → Told
stopped number fault run = record { status = Trace; pieces = line_piece run (fault_text number fault) ∷ []; run = run }

-- what is told from a line on, by what the line does
abbrev pub told_on : (number : ℕ) → Run → Outcome → (rest : Run → Told) → Told
told_on number run (Answers call answer next) rest = after (answer_piece call answer next ∷ []) (rest next)
told_on number run Silent rest = rest run
told_on number run (Stops fault) rest = stopped number fault run

-- what lines are told, of which the first has this number, and so many bytes before it
abbrev pub told_from : Rules → (number before : ℕ) → Run → (lines : List (List ℕ)) → Told
told_from root number before run [] = reported root run
told_from root number before run (line ∷ lines) =
    told_on number run (outcome root before run line) (λ next. told_from root (number + 1) (before + length line) next lines)

-- what an input is told, from this run
abbrev pub told : Rules → Run → (input : List ℕ) → Told
told root run input = told_from root 1 0 run (lines_of input)

-- the answers from a line on, by what the line does in a run
abbrev pub answers_on : Run → Outcome → (rest : Run → Option (List Piece × Run)) → Option (List Piece × Run)
answers_on run (Answers call answer next) rest = option_map (λ r. (answer_piece call answer next ∷ r.0, r.1)) (rest next)
answers_on run Silent rest = rest run
answers_on run (Stops fault) rest = None

-- the answers to lines and the run after them, where none is in fault
abbrev pub answers_from : Rules → (before : ℕ) → Run → (lines : List (List ℕ)) → Option (List Piece × Run)
answers_from root before run [] = Some ([], run)
answers_from root before run (line ∷ lines) =
    answers_on run (outcome root before run line) (λ next. answers_from root (before + length line) next lines)

-- the run that stands behind these pieces: that of the last, or the start where there is none
abbrev pub run_after : (start : Run) → List Piece → Run
run_after start [] = start
run_after start (piece ∷ pieces) = run_after piece.run pieces

-- The text ends behind some of the pieces, and this run stands there.
pub record EndsBehind (start : Run) (t : Told) (text : List ℕ) (run : Run) : Type 0 where
  pub front : List Piece
  pub back : List Piece
  pub pieces : t.pieces ≡ front ++ back
  pub text_is : text ≡ text_of front
  pub run_is : run ≡ run_after start front

-- The text breaks off within a piece, and this run stands when that piece is put.
pub record BreaksOff (t : Told) (text : List ℕ) (run : Run) : Type 0 where
  pub front : List Piece
  pub piece : Piece
  pub back : List Piece
  pub count : ℕ
  pub pieces : t.pieces ≡ front ++ piece ∷ back
  pub within : count < length piece.text
  pub text_is : text ≡ text_of front ++ take count piece.text
  pub run_is : run ≡ piece.run
