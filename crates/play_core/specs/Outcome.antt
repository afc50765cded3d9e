-- Outcome: what one line of a trace does.
use Rattle.std.specs.Prelude.{ℕ, ◌+◌, ◌&&◌, nat_lt, nat_le, List, length, Option, Some, None, Result, Ok, Err, if◌then◌else◌}
use Rattle.layer_rules.specs.Rules.{Rules}
use Rattle.heap_core.specs.declared.Call.{Call}
use Rattle.heap_core.specs.declared.Answer.{Answer}
use Rattle.heap_core.specs.declared.CallFault.{CallFault}
use Rattle.heap_core.specs.Performing.{Run, performed}
use Rattle.trace_text.specs.declared.LineFault.{LineFault}
use Rattle.trace_text.specs.declared.LineFault.TheVariants.{TooLong}
use Rattle.trace_text.specs.declared.TraceFault.{TraceFault}
use Rattle.trace_text.specs.declared.TraceFault.TheVariants.{Line as LineIn, Call as CallIn, TooMuchInput}
use Rattle.trace_text.specs.Grammar.{line_call, most_bytes}
use Rattle.play_core.specs.Lines.{body_of}

-- the most bytes of an input
abbrev pub most_input : ℕ
most_input = 16777216

-- A line's call has this answer, and then this run stands. Or the line is no call, or it is in fault, and nothing changes.
pub data Outcome : Type 0 where
  Answers : (call : Call) (answer : Answer) (next : Run) → Outcome
  Silent : Outcome
  Stops : (fault : TraceFault) → Outcome

-- of a call that was performed
abbrev pub call_outcome : Call → Result Answer CallFault → (next : Run) → Outcome
call_outcome call (Ok answer) next = Answers call answer next
call_outcome call (Err fault) next = Stops (CallIn fault)

-- of a line that was read
abbrev pub read_outcome : Rules → Run → Result (Option Call) LineFault → Outcome
read_outcome root run (Ok (Some call)) = call_outcome call (performed root call run).0 (performed root call run).1
read_outcome root run (Ok None) = Silent
read_outcome root run (Err fault) = Stops (LineIn fault)

-- Of a line, with its newline, before which so many bytes stand. A line is too long with its 257th byte, and the input
-- with byte 16,777,217, whichever comes first.
unfoldable pub outcome : Rules → (before : ℕ) → Run → (line : List ℕ) → Outcome
outcome root before run line =
    if nat_lt most_bytes (length (body_of line)) && nat_le (before + 257) most_input then Stops (LineIn TooLong) else
    (if nat_lt most_input (before + length line) then Stops TooMuchInput else
    read_outcome root run (line_call (body_of line)))
