-- Text: what is written of a call, of an answer and of a fault.
use Rattle.std.specs.Prelude.{ℕ, ◌/◌, ◌%◌, List, [], ◌∷◌, ◌++◌, codes, map, if◌then◌else◌}
use Rattle.std.specs.Char.{digit_char}
use Rattle.std.specs.Fmt.{decimal}
use Rattle.std.specs.List.{flat_map, join_with_byte}
use Rattle.heap_core.specs.declared.Call.{Call}
use Rattle.heap_core.specs.declared.Call.TheVariants.{Allocate, Aligned, Expand, Reallocate, Free, FreeAll, Owns, OwnsAt, Good, Write, Read}
use Rattle.heap_core.specs.declared.Answer.{Answer}
use Rattle.heap_core.specs.declared.Answer.TheVariants.{Placed, Null, Said, Moved, Gone, Size, Done, Bytes}
use Rattle.heap_core.specs.declared.CallFault.{CallFault}
use Rattle.heap_core.specs.declared.CallFault.TheVariants.{NameLive, NameNotLive, TooManyLive, OutOfBlock, NotOffered, NotServing, NoSuchLayer}
use Rattle.trace_text.specs.declared.LineFault.{LineFault}
use Rattle.trace_text.specs.declared.LineFault.TheVariants.{TooLong, BadLine, NumberTooLarge}
use Rattle.trace_text.specs.declared.TraceFault.{TraceFault}
use Rattle.trace_text.specs.declared.TraceFault.TheVariants.{Line as LineIn, Call as CallIn, TooMuchInput}
use Rattle.trace_text.specs.Parts.{Part, parts_of, letter, name, number, alignment, count, path, octets}

-- ---- calls

-- two digits of lower case
abbrev pub byte_text : ℕ → List ℕ
byte_text byte = digit_char (byte / 16) ∷ digit_char (byte % 16) ∷ []

abbrev pub octets_text : List ℕ → List ℕ
octets_text bytes = flat_map byte_text bytes

-- the steps with a point between each two
abbrev pub path_text : List ℕ → List ℕ
path_text steps = join_with_byte 46 (map decimal steps)

-- the field of a part
abbrev pub part_text : Part → List ℕ
part_text (letter b) = b ∷ []
part_text (name n) = decimal n
part_text (number n) = decimal n
part_text (alignment n) = decimal n
part_text (count n) = decimal n
part_text (path steps) = path_text steps
part_text (octets bytes) = octets_text bytes

-- the line that says a call, without its newline: its parts with a space between each two
unfoldable pub call_text : Call → List ℕ
call_text call = join_with_byte 32 (map part_text (parts_of call))

-- ---- answers

-- a letter, a space and a number
abbrev pub named : (initial n : ℕ) → List ℕ
named initial n = initial ∷ 32 ∷ decimal n

-- what stands in front of an answer: the call's letter, and the name, path or size that it asks about
abbrev pub asked_text : Call → List ℕ
asked_text (Allocate n size) = named 97 n
asked_text (Aligned n size align) = named 108 n
asked_text (Expand n delta) = named 101 n
asked_text (Reallocate n size) = named 114 n
asked_text (Free n) = named 102 n
asked_text FreeAll = 122 ∷ []
asked_text (Owns n) = named 111 n
asked_text (OwnsAt n steps) = named 112 n ++ 32 ∷ path_text steps
asked_text (Good size) = named 103 size
asked_text (Write n offset bytes) = named 119 n
asked_text (Read n offset len) = named 100 n

-- the most bytes that stand there: a number has at most 20 digits, and a path at most 168 bytes
abbrev pub most_asked : Call → ℕ
most_asked (OwnsAt n steps) = 191
most_asked _ = 22

-- a space, and that a call was done
abbrev pub done_text : Call → List ℕ
done_text FreeAll = codes " done"
done_text _ = codes " ok"

-- a space, and the answer of a call
abbrev pub said_text : Call → Answer → List ℕ
said_text call (Placed place) = 32 ∷ decimal place
said_text call Null = codes " null"
said_text call (Said said) = if said then codes " true" else codes " false"
said_text call (Moved place) = codes " true " ++ decimal place
said_text call Gone = codes " gone"
said_text call (Size size) = 32 ∷ decimal size
said_text call Done = done_text call
said_text call (Bytes bytes) = 32 ∷ octets_text bytes

-- the line that answers a call, with its newline
unfoldable pub answer_text : Call → Answer → List ℕ
answer_text call answer = asked_text call ++ said_text call answer ++ 10 ∷ []

-- ---- faults

-- what the fault of a line is called
abbrev pub line_fault_words : LineFault → List ℕ
line_fault_words TooLong = codes "too long"
line_fault_words (BadLine column) = codes "bad line at column " ++ decimal column
line_fault_words (NumberTooLarge column) = codes "number too large at column " ++ decimal column

-- what the fault of a call is called
abbrev pub call_fault_words : CallFault → List ℕ
call_fault_words NameLive = codes "name is live"
call_fault_words NameNotLive = codes "name is not live"
call_fault_words TooManyLive = codes "too many live blocks"
call_fault_words OutOfBlock = codes "outside the block"
call_fault_words NotOffered = codes "not offered"
call_fault_words NotServing = codes "not serving"
call_fault_words NoSuchLayer = codes "no such layer"

-- what a fault is called
abbrev pub fault_words : TraceFault → List ℕ
fault_words (LineIn fault) = line_fault_words fault
fault_words (CallIn fault) = call_fault_words fault
fault_words TooMuchInput = codes "too much input"

-- the line that tells a fault of the line with this number, with its newline
unfoldable pub fault_text : (row : ℕ) → TraceFault → List ℕ
fault_text row fault = codes "line " ++ decimal row ++ codes ": " ++ fault_words fault ++ 10 ∷ []
