-- Laws: what reading and printing have to do with each other, and with how a call is spelled.
use Rattle.std.specs.Prelude.{ℕ, ◌≡◌, ◌<◌, ◌≤◌, ◌↔◌, List, Some, None, Ok, Err, length}
use Rattle.heap_core.specs.Performing.{IsCall}
use Rattle.heap_core.specs.declared.Call.{Call}
use Rattle.trace_text.specs.declared.LineFault.TheVariants.{TooLong}
use Rattle.trace_text.specs.Grammar.{line_call, most_bytes}
use Rattle.trace_text.specs.Spelling.{IsSayable, IsSilent, Spells, words_of}
use Rattle.trace_text.specs.Text.{call_text}

-- what is printed of a call is read as that call
abbrev pub PrintedIsRead : Type 0
PrintedIsRead = (call : Call) → IsSayable call → line_call (call_text call) ≡ Ok (Some call)

-- a line is read as a call exactly where it spells the call
abbrev pub ReadIsSpelled : Type 0
ReadIsSpelled = (line : List ℕ) (call : Call) → (line_call line ≡ Ok (Some call)) ↔ Spells line call

-- a call that is read has its numbers in range, and meets the condition of calls
abbrev pub ReadIsSayable : Type 0
ReadIsSayable = (line : List ℕ) (call : Call) → line_call line ≡ Ok (Some call) → IsCall call × IsSayable call

-- a line is no call exactly where it has no field or is a comment, and isn't too long
abbrev pub SilentIsPassed : Type 0
SilentIsPassed = (line : List ℕ) → (line_call line ≡ Ok None) ↔ ((length line ≤ most_bytes) × IsSilent (words_of line))

-- a line is too long exactly with more than 256 bytes
abbrev pub LongIsRefused : Type 0
LongIsRefused = (line : List ℕ) → (line_call line ≡ Err TooLong) ↔ (most_bytes < length line)
