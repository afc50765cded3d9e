-- Spelling: which lines say a call, told by the parts of the call and not by how a line is read.
use Rattle.std.specs.Prelude.{ℕ, ◌≡◌, ◌+◌, ◌*◌, ◌≤◌, ◌<◌, true, not, ⊤, List, [], ◌∷◌, length}
use Rattle.std.specs.Char.{digit_value}
use Rattle.std.specs.List.{AllByRecursion, AllZip, filter, slice_split}
use Rattle.std.specs.Str.Parse.{IsNumeral, digits_value}
use Rattle.size_round.specs.Sizes.{is_power_of_two}
use Rattle.heap_core.specs.declared.Call.{Call}
use Rattle.trace_text.specs.Fields.{is_blank}
use Rattle.trace_text.specs.Grammar.{is_empty, is_point, most_bytes, most_name, most_number}
use Rattle.trace_text.specs.Parts.{Part, parts_of, letter, name, number, alignment, count, path, octets}

-- the texts of a line's fields: what stands between blanks and isn't empty
abbrev pub words_of : (line : List ℕ) → List (List ℕ)
words_of line = filter (λ text. not (is_empty text)) (slice_split is_blank line)

-- ---- numbers and bytes in digits

-- the text is digits, at least one, and this is the number that they stand for
abbrev pub SpellsNumber : (text : List ℕ) (n : ℕ) → Type 0
SpellsNumber text n = IsNumeral 10 text × (digits_value 10 text ≡ n)

-- the text spells a name
abbrev pub SpellsName : (text : List ℕ) (n : ℕ) → Type 0
SpellsName text n = SpellsNumber text n × (n ≤ most_name)

-- two digits, and the byte that they stand for
pub record SpellsByte (high low byte : ℕ) : Type 0 where
  pub high_is : digit_value high < 16
  pub low_is : digit_value low < 16
  pub value : 16 * digit_value high + digit_value low ≡ byte

-- two digits a byte
abbrev pub SpellsBytes : (text bytes : List ℕ) → Type 0
SpellsBytes [] [] = ⊤
SpellsBytes [] (byte ∷ bytes) = ⊥
SpellsBytes (high ∷ []) bytes = ⊥
SpellsBytes (high ∷ low ∷ text) [] = ⊥
SpellsBytes (high ∷ low ∷ text) (byte ∷ bytes) = SpellsByte high low byte × SpellsBytes text bytes

-- ---- parts and calls

-- the text of a field spells a part
abbrev pub IsSpelled : (text : List ℕ) → Part → Type 0
IsSpelled text (letter b) = text ≡ b ∷ []
IsSpelled text (name n) = SpellsName text n
IsSpelled text (number n) = SpellsNumber text n × (n ≤ most_number)
IsSpelled text (alignment n) = SpellsNumber text n × (is_power_of_two n ≡ true) × (n ≤ 4096)
IsSpelled text (count n) = SpellsNumber text n × (1 ≤ n) × (n ≤ 64)
IsSpelled text (path steps) = AllZip SpellsName (slice_split is_point text) steps × (length steps ≤ 8)
IsSpelled text (octets bytes) = SpellsBytes text bytes × (1 ≤ length bytes) × (length bytes ≤ 64)

-- the line isn't too long, and its fields spell the call's parts in order
unfoldable pub Spells : (line : List ℕ) → Call → Type 0
Spells line call = (length line ≤ most_bytes) × AllZip IsSpelled (words_of line) (parts_of call)

-- the line has no field, or the first begins with `#`
abbrev pub IsSilent : (words : List (List ℕ)) → Type 0
IsSilent [] = ⊤
IsSilent ([] ∷ words) = ⊥
IsSilent ((b ∷ bs) ∷ words) = b ≡ 35

-- ---- calls that some line says

-- what a part may be
abbrev pub IsSayablePart : Part → Type 0
IsSayablePart (letter b) = ⊤
IsSayablePart (name n) = n ≤ most_name
IsSayablePart (number n) = n ≤ most_number
IsSayablePart (alignment n) = (is_power_of_two n ≡ true) × (n ≤ 4096)
IsSayablePart (count n) = (1 ≤ n) × (n ≤ 64)
IsSayablePart (path steps) = AllByRecursion (λ n. n ≤ most_name) steps × (1 ≤ length steps) × (length steps ≤ 8)
IsSayablePart (octets bytes) = AllByRecursion (λ b. b < 256) bytes × (1 ≤ length bytes) × (length bytes ≤ 64)

-- The numbers of the call are in range: an alignment is a power of two up to 4,096, and from 1 to 64 bytes are read.
-- A path has from 1 to 8 steps, and from 1 to 64 bytes are written.
abbrev pub IsSayable : Call → Type 0
IsSayable call = AllByRecursion IsSayablePart (parts_of call)
