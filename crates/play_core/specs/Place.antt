-- Place: how far a trace has come.
use Rattle.std.specs.Prelude.{◌≡◌, ℕ, ◌+◌, ◌≤◌, List, ◌∷◌, [], ◌++◌, length, take, Option, Some, None, nat_eq, nat_lt, if◌then◌else◌}
use Rattle.layer_rules.specs.Rules.{Rules}
use Rattle.heap_core.specs.Performing.{Run}
use Rattle.trace_text.specs.declared.LineFault.TheVariants.{TooLong}
use Rattle.trace_text.specs.declared.TraceFault.TheVariants.{Line as LineIn, TooMuchInput}
use Rattle.trace_text.specs.Grammar.{line_call, most_bytes}
use Rattle.play_core.specs.declared.reader.Reader.{Reader}
use Rattle.play_core.specs.Lines.{Cut, IsOpen, joined, lines_of}
use Rattle.play_core.specs.Outcome.{Outcome, Stops, most_input, read_outcome}
use Rattle.play_core.specs.Told.{Told, Piece, told_from, answers_from}

-- the number of the line that comes, how many bytes stand before it, its beginning, and the run that stands
pub record Place : Type 0 where
  pub number : ℕ
  pub before : ℕ
  pub begun : List ℕ
  pub run : Run

-- where a reader is
abbrev pub place_of : Reader → Run → Place
place_of reader run = record { number = reader.number; before = reader.before; begun = reader.begun.items; run = run }

-- the start of an input
abbrev pub start_of : Run → Place
start_of run = record { number = 1; before = 0; begun = []; run = run }

-- what the rest of an input is told from there
abbrev pub told_at : Rules → Place → (rest : List ℕ) → Told
told_at root p rest = told_from root p.number p.before p.run (lines_of (p.begun ++ rest))

-- These bytes lead from p to q, and these pieces answer the lines that are whole then.
pub record Leads (root : Rules) (p : Place) (bytes : List ℕ) (pieces : List Piece) (q : Place) : Type 0 where
  pub lines : List (List ℕ)
  pub cut : Cut (p.begun ++ bytes) lines q.begun
  pub answers : answers_from root p.before p.run lines ≡ Some (pieces, q.run)
  pub number : q.number ≡ p.number + length lines
  pub before : q.before ≡ p.before + length (joined lines)
  pub short : length q.begun ≤ most_bytes

-- what the next byte does, where it ends the line or the trace
unfoldable pub fed : Rules → Place → (byte : ℕ) → Option Outcome
fed root p b =
    if nat_lt most_input (p.before + length p.begun + 1) then Some (Stops TooMuchInput) else
    (if nat_eq b 10 then Some (read_outcome root p.run (line_call p.begun)) else
    (if nat_eq (length p.begun) most_bytes then Some (Stops (LineIn TooLong)) else None))

-- where it leads
unfoldable pub fed_place : Place → (byte : ℕ) → (next : Run) → Place
fed_place p b next =
    if nat_eq b 10 then record { number = p.number + 1; before = p.before + length p.begun + 1; begun = []; run = next } else
    record { number = p.number; before = p.before; begun = p.begun ++ b ∷ []; run = next }

-- The bytes begin with this line and its newline, and it can be taken at once: no byte of it was taken before, and neither the line nor
-- the input is too long with it.
pub record BeginsLine (reader : Reader) (bytes line : List ℕ) : Type 0 where
  pub first : take (length line + 1) bytes ≡ line ++ 10 ∷ []
  pub is_open : IsOpen line
  pub fresh : reader.begun.items ≡ []
  pub short : length line ≤ most_bytes
  pub within : reader.before + length line + 1 ≤ most_input
