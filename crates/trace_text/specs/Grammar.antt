-- Grammar: which call a line says, or which fault it has. The first field that is not as it should be decides.
use Rattle.std.specs.Prelude.{ℕ, ◌+◌, ◌-◌, ◌*◌, ◌%◌, ◌^◌, Bool, true, false, not, ◌&&◌, nat_eq, nat_le, List, [], ◌∷◌, drop, length, map, Option, Some, None, Result, Ok, Err, if◌then◌else◌}
use Rattle.std.specs.Char.{digit_value, is_ascii_digit, is_ascii_hexdigit}
use Rattle.std.specs.List.{list_all, slice_split}
use Rattle.std.specs.Str.Parse.{digits_value}
use Rattle.size_round.specs.Sizes.{is_between, is_power_of_two}
use Rattle.heap_core.specs.declared.Call.{Call}
use Rattle.heap_core.specs.declared.Call.TheVariants.{Allocate, Aligned, Expand, Reallocate, Free, FreeAll, Owns, OwnsAt, Good, Write, Read}
use Rattle.trace_text.specs.declared.LineFault.{LineFault}
use Rattle.trace_text.specs.declared.LineFault.TheVariants.{TooLong, BadLine, NumberTooLarge}
use Rattle.trace_text.specs.Fields.{Field, Left, whole}

-- the greatest name, which is the greatest step of a path
abbrev pub most_name : ℕ
most_name = 2 ^ 32 - 1

-- the greatest of all other numbers
abbrev pub most_number : ℕ
most_number = 2 ^ 64 - 1

-- ---- what a field may be, by its column and its text

abbrev pub is_empty : List ℕ → Bool
is_empty [] = true
is_empty (b ∷ bs) = false

-- at least one digit, and nothing else
abbrev pub is_numeral : (text : List ℕ) → Bool
is_numeral text = not (is_empty text) && list_all is_ascii_digit text

-- a number that is at most so large
unfoldable pub number_to : (most column : ℕ) (text : List ℕ) → Result ℕ LineFault
number_to most column text =
    if is_numeral text then (if nat_le (digits_value 10 text) most then Ok (digits_value 10 text) else Err (NumberTooLarge column)) else Err (BadLine column)

abbrev pub name_in : (column : ℕ) (text : List ℕ) → Result ℕ LineFault
name_in = number_to most_name

abbrev pub number_in : (column : ℕ) (text : List ℕ) → Result ℕ LineFault
number_in = number_to most_number

-- a number that passes a test
abbrev pub passing : (test : ℕ → Bool) (column : ℕ) → Result ℕ LineFault → Result ℕ LineFault
passing test column (Ok n) = if test n then Ok n else Err (BadLine column)
passing test column (Err fault) = Err fault

abbrev pub is_alignment : ℕ → Bool
is_alignment n = is_power_of_two n && nat_le n 4096

abbrev pub alignment_in : (column : ℕ) (text : List ℕ) → Result ℕ LineFault
alignment_in column text = passing is_alignment column (number_in column text)

-- how many bytes are read
abbrev pub count_in : (column : ℕ) (text : List ℕ) → Result ℕ LineFault
count_in column text = passing (is_between 1 64) column (number_in column text)

-- the steps of a path stand between points
abbrev pub is_point : (byte : ℕ) → Bool
is_point byte = nat_eq byte 46

abbrev pub steps_of : (text : List ℕ) → List (List ℕ)
steps_of text = slice_split is_point text

abbrev pub is_step : (text : List ℕ) → Bool
is_step text = nat_le (digits_value 10 text) most_name

-- up to eight steps, each of digits
abbrev pub is_path : (text : List ℕ) → Bool
is_path text = nat_le (length (steps_of text)) 8 && list_all is_numeral (steps_of text)

-- a path, of which no step is too large
unfoldable pub path_in : (column : ℕ) (text : List ℕ) → Result (List ℕ) LineFault
path_in column text =
    if is_path text
    then (if list_all is_step (steps_of text) then Ok (map (digits_value 10) (steps_of text)) else Err (NumberTooLarge column))
    else Err (BadLine column)

-- the bytes of hexadecimal digits, two a byte
abbrev pub octets_of : (digits : List ℕ) → List ℕ
octets_of [] = []
octets_of (high ∷ []) = []
octets_of (high ∷ low ∷ digits) = (16 * digit_value high + digit_value low) ∷ octets_of digits

-- from 1 to 64 pairs of hexadecimal digits
abbrev pub has_octets : (text : List ℕ) → Bool
has_octets text = list_all is_ascii_hexdigit text && nat_eq (length text % 2) 0 && is_between 2 128 (length text)

-- bytes, two digits of either case each
unfoldable pub octets_in : (column : ℕ) (text : List ℕ) → Result (List ℕ) LineFault
octets_in column text =
    if has_octets text then Ok (octets_of text) else Err (BadLine column)

-- ---- fields in a row

-- what the first of these fields says; where there is none, the column behind the line is told
abbrev pub next_of : {A : Type 0} → (read : (column : ℕ) (text : List ℕ) → Result A LineFault) → (end : ℕ) → List Field → Result A LineFault
next_of read end [] = Err (BadLine end)
next_of read end (f ∷ fs) = read f.column f.text

-- what the first field that is left says
abbrev pub next : {A : Type 0} → (read : (column : ℕ) (text : List ℕ) → Result A LineFault) → Left → Result A LineFault
next read left = next_of read left.end left.fields

-- what is left behind the first field
abbrev pub behind : Left → Left
behind left = record { fields = drop 1 left.fields; end = left.end }

-- what is made of a value, or the fault
abbrev pub on_ok : {A R : Type 0} → Result A LineFault → (go : A → Result R LineFault) → Result R LineFault
on_ok (Ok x) go = go x
on_ok (Err fault) go = Err fault

-- a field is read, and then what stands behind it
abbrev pub field_then : {A R : Type 0} → (read : (column : ℕ) (text : List ℕ) → Result A LineFault) → Left → (go : A → Left → Result R LineFault) → Result R LineFault
field_then read left go = on_ok (next read left) (λ x. go x (behind left))

-- this is said where there is no field
abbrev pub end_of : {R : Type 0} → List Field → R → Result R LineFault
end_of [] x = Ok x
end_of (f ∷ fs) x = Err (BadLine f.column)

-- nothing is left of the line, and then this is said
abbrev pub end_then : {R : Type 0} → Left → R → Result R LineFault
end_then left x = end_of left.fields x

-- ---- the calls, by what stands behind their letters

abbrev pub allocate_line : Left → Result Call LineFault
allocate_line left = field_then name_in left (λ name left. field_then number_in left (λ size left. end_then left (Allocate name size)))

abbrev pub aligned_line : Left → Result Call LineFault
aligned_line left =
    field_then name_in left (λ name left. field_then number_in left (λ size left. field_then alignment_in left (λ align left.
    end_then left (Aligned name size align))))

abbrev pub expand_line : Left → Result Call LineFault
expand_line left = field_then name_in left (λ name left. field_then number_in left (λ delta left. end_then left (Expand name delta)))

abbrev pub reallocate_line : Left → Result Call LineFault
reallocate_line left = field_then name_in left (λ name left. field_then number_in left (λ size left. end_then left (Reallocate name size)))

abbrev pub free_line : Left → Result Call LineFault
free_line left = field_then name_in left (λ name left. end_then left (Free name))

abbrev pub free_all_line : Left → Result Call LineFault
free_all_line left = end_then left FreeAll

abbrev pub owns_line : Left → Result Call LineFault
owns_line left = field_then name_in left (λ name left. end_then left (Owns name))

abbrev pub owns_at_line : Left → Result Call LineFault
owns_at_line left = field_then name_in left (λ name left. field_then path_in left (λ path left. end_then left (OwnsAt name path)))

abbrev pub good_line : Left → Result Call LineFault
good_line left = field_then number_in left (λ size left. end_then left (Good size))

abbrev pub write_line : Left → Result Call LineFault
write_line left =
    field_then name_in left (λ name left. field_then number_in left (λ offset left. field_then octets_in left (λ bytes left.
    end_then left (Write name offset bytes))))

abbrev pub read_line : Left → Result Call LineFault
read_line left =
    field_then name_in left (λ name left. field_then number_in left (λ offset left. field_then count_in left (λ len left.
    end_then left (Read name offset len))))

-- the byte of a text that has one alone, and 0 of any other
abbrev pub letter_of : (text : List ℕ) → ℕ
letter_of (b ∷ []) = b
letter_of _ = 0

-- the call of a letter: the first field, and what is left behind it
unfoldable pub letter_call : Field → Left → Result Call LineFault
letter_call f left =
    let letter = letter_of f.text in
    if nat_eq letter 97 then allocate_line left
    else (if nat_eq letter 108 then aligned_line left
    else (if nat_eq letter 101 then expand_line left
    else (if nat_eq letter 114 then reallocate_line left
    else (if nat_eq letter 102 then free_line left
    else (if nat_eq letter 122 then free_all_line left
    else (if nat_eq letter 111 then owns_line left
    else (if nat_eq letter 112 then owns_at_line left
    else (if nat_eq letter 103 then good_line left
    else (if nat_eq letter 119 then write_line left
    else (if nat_eq letter 100 then read_line left
    else Err (BadLine f.column)))))))))))

-- ---- lines

-- a comment begins with `#`
abbrev pub is_comment : (text : List ℕ) → Bool
is_comment [] = false
is_comment (b ∷ bs) = nat_eq b 35

-- the call that the fields of a line say, where there are any and they are no comment
abbrev pub fields_call : (end : ℕ) → List Field → Result (Option Call) LineFault
fields_call end [] = Ok None
fields_call end (f ∷ fs) =
    if is_comment f.text then Ok None
    else on_ok (letter_call f (record { fields = fs; end = end })) (λ call. Ok (Some call))

-- the most bytes of a line, without its newline
abbrev pub most_bytes : ℕ
most_bytes = 256

-- what a line says
unfoldable pub line_call : (line : List ℕ) → Result (Option Call) LineFault
line_call line = if nat_le (length line) most_bytes then fields_call (whole line).end (whole line).fields else Err TooLong
