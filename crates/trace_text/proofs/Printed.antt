-- Printed: the text of a call that a line can say spells it.
use Rattle.std.proofs.Common.{◌≡◌, ℕ, suc, ◌+◌, ◌*◌, ◌/◌, ◌%◌, ◌^◌, ◌<◌, ◌≤◌, Bool, true, false, not, List, [], ◌∷◌, length, map, Ok, refl, ◌∙◌, ap, arith, decimal, length-append}
use Rattle.std.proofs.lemmas.Bool.Decides.{nat_tests}
use Rattle.std.proofs.lemmas.Fmt.{decimal_is_IsNumeral, decimal_nonempty, length-decimal-le}
use Rattle.std.proofs.lemmas.List.Elements.{All-append, All-cons}
use Rattle.std.proofs.lemmas.List.Splits.{length-slice_split, slice_split_at, slice_split_none}
use Rattle.std.proofs.lemmas.Str.Parse.{digit_from_value}
use Rattle.std.specs.Char.{digit_char, digit_value}
use Rattle.std.specs.List.{All, AllByRecursion, AllZip, filter, join_with_byte, slice_split}
use Rattle.std.specs.Str.Parse.{AllDigits}
use Rattle.heap_core.specs.Performing.{IsCall}
use Rattle.heap_core.specs.declared.Call.{Call}
use Rattle.heap_core.specs.declared.Call.TheVariants.{Allocate, Aligned, Expand, Reallocate, Free, FreeAll, Owns, OwnsAt, Good, Write, Read}
use Rattle.trace_text.specs.Fields.{Field, is_blank}
use Rattle.trace_text.specs.Grammar.{is_empty, is_point, letter_call, most_bytes, most_name, most_number}
use Rattle.trace_text.specs.Laws.{PrintedIsRead, ReadIsSayable}
use Rattle.trace_text.specs.Parts.{Part, parts_of, letter, name, number, alignment, count, path, octets}
use Rattle.trace_text.specs.Spelling.{IsSayable, IsSayablePart, IsSpelled, SpellsByte, SpellsBytes, SpellsName, SpellsNumber, Spells, words_of}
use Rattle.trace_text.specs.Text.{call_text, octets_text, part_text, path_text}
use Rattle.trace_text.proofs.Rows.{left, letter_says, texts}
use Rattle.trace_text.proofs.WholeLines.{line_reads, line_says}

-- ---- bytes that pass no test

abbrev Clear : (test : ℕ → Bool) → List ℕ → Type 0
Clear test text = All (λ b. test b ≡ false) text

clear_digits : (test : ℕ → Bool) → ((b : ℕ) → digit_value b < 10 → test b ≡ false) → (ds : List ℕ) → AllDigits 10 ds → Clear test ds
clear_digits test clear [] digits = λ k d lt. absurd (omega arith)
clear_digits test clear (b ∷ bs) digits = All-cons (λ c. test c ≡ false) b bs (clear b digits.0) (clear_digits test clear bs digits.1)

no_blank : (b : ℕ) → digit_value b < 10 → is_blank b ≡ false
no_blank b lt = grind (arith, nat_tests, digit_from_value b lt)

no_point : (b : ℕ) → digit_value b < 10 → is_point b ≡ false
no_point b lt = grind (arith, nat_tests, digit_from_value b lt)

clear_decimal : (test : ℕ → Bool) → ((b : ℕ) → digit_value b < 10 → test b ≡ false) → (n : ℕ) → n < 2 ^ 64 → Clear test (decimal n)
clear_decimal test clear n small = clear_digits test clear (decimal n) (decimal_is_IsNumeral n small).0.1

-- ---- pieces that are joined, and cut again

split_join : (test : ℕ → Bool) (c : ℕ) (first : List ℕ) (rest : List (List ℕ)) → test c ≡ true → Clear test first → AllByRecursion (Clear test) rest
    → slice_split test (join_with_byte c (first ∷ rest)) ≡ first ∷ rest
split_join test c first [] is clear all = slice_split_none test first clear
split_join test c first (next ∷ rest) is clear all =
    slice_split_at test first c (join_with_byte c (next ∷ rest)) clear is ∙ ap (λ (ts : List (List ℕ)). first ∷ ts) (split_join test c next rest is all.0 all.1)

-- a text that is a field
record IsWord (text : List ℕ) : Type 0 where
  some : is_empty text ≡ false
  clear : Clear is_blank text

clear_words : (texts : List (List ℕ)) → AllByRecursion IsWord texts → AllByRecursion (Clear is_blank) texts
clear_words [] all = tt
clear_words (text ∷ texts) all = (all.0.clear, clear_words texts all.1)

kept : (texts : List (List ℕ)) → AllByRecursion IsWord texts → filter (λ text. not (is_empty text)) texts ≡ texts
kept [] all = refl
kept (text ∷ texts) all = rw all.0.some (ap (λ (ts : List (List ℕ)). text ∷ ts) (kept texts all.1))

words_join : (texts : List (List ℕ)) → AllByRecursion IsWord texts → words_of (join_with_byte 32 texts) ≡ texts
words_join [] all = refl
words_join (text ∷ texts) all =
    ap (filter (λ text. not (is_empty text))) (split_join is_blank 32 text texts refl all.0.clear (clear_words texts all.1)) ∙ kept (text ∷ texts) all

-- ---- numbers

filled : (text : List ℕ) → 0 < length text → is_empty text ≡ false
filled [] some = absurd (omega arith)
filled (b ∷ bs) some = refl

number_word : (n : ℕ) → n ≤ most_number → IsWord (decimal n)
number_word n le = record { some = filled (decimal n) (decimal_nonempty n (omega arith)); clear = clear_decimal is_blank no_blank n (omega arith) }

number_spelled : (n : ℕ) → n ≤ most_number → SpellsNumber (decimal n) n
number_spelled n le = decimal_is_IsNumeral n (omega arith)

number_len : (n : ℕ) → n ≤ most_number → length (decimal n) ≤ 20
number_len n le = length-decimal-le 20 n (omega arith) (omega arith) (omega arith)

-- ---- paths

abbrev Names : List ℕ → Type 0
Names steps = AllByRecursion (λ n. n ≤ most_name) steps

path_clear : (steps : List ℕ) → Names steps → Clear is_blank (path_text steps)
path_clear [] all = λ k d lt. absurd (omega arith)
path_clear (n ∷ []) all = clear_decimal is_blank no_blank n (omega (arith, all.0))
path_clear (n ∷ m ∷ steps) all =
    All-append (λ c. is_blank c ≡ false) (decimal n) (46 ∷ path_text (m ∷ steps)) (clear_decimal is_blank no_blank n (omega (arith, all.0)))
    (All-cons (λ c. is_blank c ≡ false) 46 (path_text (m ∷ steps)) refl (path_clear (m ∷ steps) all.1))

path_filled : (steps : List ℕ) → Names steps → 1 ≤ length steps → is_empty (path_text steps) ≡ false
path_filled [] all some = absurd (omega arith)
path_filled (n ∷ []) all some = filled (decimal n) (decimal_nonempty n (omega (arith, all.0)))
path_filled (n ∷ m ∷ steps) all some = filled (path_text (n ∷ m ∷ steps)) (omega (arith, length-append (decimal n) (46 ∷ path_text (m ∷ steps))))

steps_clear : (steps : List ℕ) → Names steps → AllByRecursion (Clear is_point) (map decimal steps)
steps_clear [] all = tt
steps_clear (n ∷ steps) all = (clear_decimal is_point no_point n (omega (arith, all.0)), steps_clear steps all.1)

steps_spelled : (steps : List ℕ) → Names steps → AllZip SpellsName (map decimal steps) steps
steps_spelled [] all = tt
steps_spelled (n ∷ steps) all = ((decimal_is_IsNumeral n (omega (arith, all.0)), all.0), steps_spelled steps all.1)

path_spelled : (steps : List ℕ) → Names steps → 1 ≤ length steps → AllZip SpellsName (slice_split is_point (path_text steps)) steps
path_spelled [] all some = absurd (omega arith)
path_spelled (n ∷ steps) all some =
    let clear = steps_clear (n ∷ steps) all in
    rw (split_join is_point 46 (decimal n) (map decimal steps) refl clear.0 clear.1) (steps_spelled (n ∷ steps) all)

path_len : (steps : List ℕ) → Names steps → length (path_text steps) ≤ 21 * length steps
path_len [] all = omega arith
path_len (n ∷ []) all = omega (arith, number_len n (omega (arith, all.0)))
path_len (n ∷ m ∷ steps) all =
    omega (arith, number_len n (omega (arith, all.0)), length-append (decimal n) (46 ∷ path_text (m ∷ steps)), path_len (m ∷ steps) all.1)

-- ---- bytes

digit_is : (d : ℕ) → d < 16 → digit_value (digit_char d) ≡ d
digit_is d lt = grind (arith, nat_tests)

digit_clear : (d : ℕ) → is_blank (digit_char d) ≡ false
digit_clear d = grind (arith, nat_tests)

octets_clear : (bytes : List ℕ) → Clear is_blank (octets_text bytes)
octets_clear [] = λ k d lt. absurd (omega arith)
octets_clear (b ∷ bytes) =
    All-cons (λ c. is_blank c ≡ false) (digit_char (b / 16)) (digit_char (b % 16) ∷ octets_text bytes) (digit_clear (b / 16))
    (All-cons (λ c. is_blank c ≡ false) (digit_char (b % 16)) (octets_text bytes) (digit_clear (b % 16)) (octets_clear bytes))

byte_spelled : (b : ℕ) → b < 256 → SpellsByte (digit_char (b / 16)) (digit_char (b % 16)) b
byte_spelled b lt =
    let high : digit_value (digit_char (b / 16)) ≡ b / 16 = digit_is (b / 16) (omega arith) in
    let low : digit_value (digit_char (b % 16)) ≡ b % 16 = digit_is (b % 16) (omega arith) in
    record { high_is = omega arith; low_is = omega arith; value = omega arith }

octets_spelled : (bytes : List ℕ) → AllByRecursion (λ b. b < 256) bytes → SpellsBytes (octets_text bytes) bytes
octets_spelled [] all = tt
octets_spelled (b ∷ bytes) all = (byte_spelled b all.0, octets_spelled bytes all.1)

octets_filled : (bytes : List ℕ) → 1 ≤ length bytes → is_empty (octets_text bytes) ≡ false
octets_filled [] some = absurd (omega arith)
octets_filled (b ∷ bytes) some = refl

octets_len : (bytes : List ℕ) → length (octets_text bytes) ≡ 2 * length bytes
octets_len [] = refl
octets_len (b ∷ bytes) = omega (arith, octets_len bytes)

-- ---- parts

-- what a part may be, where a letter is no blank
abbrev IsPlain : Part → Type 0
IsPlain (letter b) = is_blank b ≡ false
IsPlain p = IsSayablePart p

plain_parts : (call : Call) → IsSayable call → AllByRecursion IsPlain (parts_of call)
plain_parts (Allocate n size) s = (refl, s.1)
plain_parts (Aligned n size align) s = (refl, s.1)
plain_parts (Expand n delta) s = (refl, s.1)
plain_parts (Reallocate n size) s = (refl, s.1)
plain_parts (Free n) s = (refl, s.1)
plain_parts FreeAll s = (refl, s.1)
plain_parts (Owns n) s = (refl, s.1)
plain_parts (OwnsAt n steps) s = (refl, s.1)
plain_parts (Good size) s = (refl, s.1)
plain_parts (Write n offset bytes) s = (refl, s.1)
plain_parts (Read n offset len) s = (refl, s.1)

part_word : (p : Part) → IsPlain p → IsWord (part_text p)
part_word (letter b) plain = record { some = refl; clear = All-cons (λ c. is_blank c ≡ false) b [] plain (λ k d lt. absurd (omega arith)) }
part_word (name n) plain = number_word n (omega (arith, plain))
part_word (number n) plain = number_word n plain
part_word (alignment n) plain = number_word n (omega (arith, plain.1))
part_word (count n) plain = number_word n (omega (arith, plain.1))
part_word (path steps) plain = record { some = path_filled steps plain.0 plain.1; clear = path_clear steps plain.0 }
part_word (octets bytes) plain = record { some = octets_filled bytes plain.1; clear = octets_clear bytes }

part_spelled : (p : Part) → IsPlain p → IsSpelled (part_text p) p
part_spelled (letter b) plain = refl
part_spelled (name n) plain = (number_spelled n (omega (arith, plain)), plain)
part_spelled (number n) plain = (number_spelled n plain, plain)
part_spelled (alignment n) plain = (number_spelled n (omega (arith, plain.1)), plain.0, plain.1)
part_spelled (count n) plain = (number_spelled n (omega (arith, plain.1)), plain.0, plain.1)
part_spelled (path steps) plain = (path_spelled steps plain.0 plain.1, plain.2)
part_spelled (octets bytes) plain = (octets_spelled bytes plain.0, plain.1, plain.2)

parts_words : (ps : List Part) → AllByRecursion IsPlain ps → AllByRecursion IsWord (map part_text ps)
parts_words [] all = tt
parts_words (p ∷ ps) all = (part_word p all.0, parts_words ps all.1)

parts_spelled : (ps : List Part) → AllByRecursion IsPlain ps → AllZip IsSpelled (map part_text ps) ps
parts_spelled [] all = tt
parts_spelled (p ∷ ps) all = (part_spelled p all.0, parts_spelled ps all.1)

-- the most bytes of a part
abbrev part_most : Part → ℕ
part_most (letter b) = 1
part_most (name n) = 20
part_most (number n) = 20
part_most (alignment n) = 20
part_most (count n) = 20
part_most (path steps) = 168
part_most (octets bytes) = 128

part_len : (p : Part) → IsPlain p → length (part_text p) ≤ part_most p
part_len (letter b) plain = omega arith
part_len (name n) plain = number_len n (omega (arith, plain))
part_len (number n) plain = number_len n plain
part_len (alignment n) plain = number_len n (omega (arith, plain.1))
part_len (count n) plain = number_len n (omega (arith, plain.1))
part_len (path steps) plain = omega (arith, path_len steps plain.0, plain.2)
part_len (octets bytes) plain = omega (arith, octets_len bytes, plain.2)

-- the most bytes of parts, with one between each two
abbrev all_most : List Part → ℕ
all_most [] = 0
all_most (p ∷ ps) = part_most p + 1 + all_most ps

parts_len : (ps : List Part) → AllByRecursion IsPlain ps → length (join_with_byte 32 (map part_text ps)) ≤ all_most ps
parts_len [] all = omega arith
parts_len (p ∷ []) all = omega (arith, part_len p all.0)
parts_len (p ∷ q ∷ ps) all =
    omega (arith, part_len p all.0, length-append (part_text p) (32 ∷ join_with_byte 32 (map part_text (q ∷ ps))), parts_len (q ∷ ps) all.1)

call_len : (call : Call) → all_most (parts_of call) ≤ most_bytes
call_len (Allocate n size) = omega arith
call_len (Aligned n size align) = omega arith
call_len (Expand n delta) = omega arith
call_len (Reallocate n size) = omega arith
call_len (Free n) = omega arith
call_len FreeAll = omega arith
call_len (Owns n) = omega arith
call_len (OwnsAt n steps) = omega arith
call_len (Good size) = omega arith
call_len (Write n offset bytes) = omega arith
call_len (Read n offset len) = omega arith

text_spells : (call : Call) → IsSayable call → Spells (call_text call) call
unfolding call_text Spells
text_spells call s =
    let plain = plain_parts call s in
    let words = words_join (map part_text (parts_of call)) (parts_words (parts_of call) plain) in
    (omega (arith, parts_len (parts_of call) plain, call_len call), rw words (parts_spelled (parts_of call) plain))

pub printed_is_read_by : PrintedIsRead
printed_is_read_by call s = line_reads (call_text call) call (text_spells call s)

-- ---- what is spelled is in range

names_of : (texts : List (List ℕ)) (steps : List ℕ) → AllZip SpellsName texts steps → Names steps × (length steps ≡ length texts)
names_of [] [] s = (tt, refl)
names_of [] (n ∷ steps) s = absurd s
names_of (text ∷ texts) [] s = absurd s
names_of (text ∷ texts) (n ∷ steps) s = let more = names_of texts steps s.1 in ((s.0.1, more.0), ap suc more.1)

bytes_small : (text bytes : List ℕ) → SpellsBytes text bytes → AllByRecursion (λ b. b < 256) bytes
bytes_small [] [] s = tt
bytes_small [] (b ∷ bytes) s = absurd s
bytes_small (h ∷ []) bytes s = absurd s
bytes_small (h ∷ l ∷ text) [] s = absurd s
bytes_small (h ∷ l ∷ text) (b ∷ bytes) s = (omega (arith, s.0.high_is, s.0.low_is, s.0.value), bytes_small text bytes s.1)

part_sayable : (text : List ℕ) (p : Part) → IsSpelled text p → IsSayablePart p
part_sayable text (letter b) s = tt
part_sayable text (name n) s = s.1
part_sayable text (number n) s = s.1
part_sayable text (alignment n) s = (s.1, s.2)
part_sayable text (count n) s = (s.1, s.2)
part_sayable text (path steps) s =
    let names = names_of (slice_split is_point text) steps s.0 in
    (names.0, omega (arith, names.1, length-slice_split is_point text), s.1)
part_sayable text (octets bytes) s = (bytes_small text bytes s.0, s.1, s.2)

parts_sayable : (words : List (List ℕ)) (ps : List Part) → AllZip IsSpelled words ps → AllByRecursion IsSayablePart ps
parts_sayable [] [] s = tt
parts_sayable [] (p ∷ ps) s = absurd s
parts_sayable (word ∷ words) [] s = absurd s
parts_sayable (word ∷ words) (p ∷ ps) s = (part_sayable word p s.0, parts_sayable words ps s.1)

is_call : (call : Call) → IsSayable call → IsCall call
is_call (Allocate n size) s = tt
is_call (Aligned n size align) s = s.1.1.1.0
is_call (Expand n delta) s = tt
is_call (Reallocate n size) s = tt
is_call (Free n) s = tt
is_call FreeAll s = tt
is_call (Owns n) s = tt
is_call (OwnsAt n steps) s = tt
is_call (Good size) s = tt
is_call (Write n offset bytes) s = tt
is_call (Read n offset len) s = s.1.1.1.0

pub read_is_sayable_by : ReadIsSayable
unfolding Spells
read_is_sayable_by line call is =
    let s = parts_sayable (words_of line) (parts_of call) (line_says line call is).1 in
    (is_call call s, s)

-- the same of the first field and what is left behind it
pub letter_sayable : (f : Field) (end : ℕ) (fields : List Field) (call : Call) → letter_call f (left fields end) ≡ Ok call → IsCall call × IsSayable call
letter_sayable f end fields call is =
    let s = parts_sayable (texts (f ∷ fields)) (parts_of call) (letter_says f end fields call is) in
    (is_call call s, s)
