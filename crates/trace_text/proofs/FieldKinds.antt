-- Kinds of fields: what is read is what is spelled, and no kind has a fault of the whole line.
use Rattle.std.proofs.Common.{◌≡◌, ◌≢◌, ℕ, suc, ◌*◌, ◌%◌, ◌<◌, ◌≤◌, Bool, true, false, cond, ◌&&◌, List, [], ◌∷◌, length, map, Result, Ok, Err, nat_eq, nat_le, refl, sym, ◌∙◌, ap, ap₂, arith}
use Rattle.std.proofs.lemmas.Bool.{and_parts}
use Rattle.std.proofs.lemmas.Bool.Decides.{nat_tests}
use Rattle.std.specs.Char.{digit_value, is_ascii_hexdigit}
use Rattle.std.specs.List.{AllZip, list_all}
use Rattle.std.specs.Str.Parse.{digits_value}
use Rattle.size_round.specs.Sizes.{is_between, is_power_of_two}
use Rattle.trace_text.specs.declared.LineFault.{LineFault}
use Rattle.trace_text.specs.declared.LineFault.TheVariants.{TooLong, BadLine, NumberTooLarge}
use Rattle.trace_text.specs.Grammar.{alignment_in, count_in, has_octets, is_alignment, is_numeral, is_path, is_step, most_name, most_number, name_in, number_in, octets_in, octets_of, passing, path_in, steps_of}
use Rattle.trace_text.specs.Spelling.{SpellsBytes, SpellsName, SpellsNumber}
use Rattle.trace_text.proofs.Numbers.{is_numeral_of, number_placed, number_reads, number_spelled, numeral_is}

le_of : (n m : ℕ) → nat_le n m ≡ true → n ≤ m
le_of n m is = grind (arith, nat_tests)

le_true : (n m : ℕ) → n ≤ m → nat_le n m ≡ true
le_true n m le = grind (arith, nat_tests)

even_true : (n k : ℕ) → n ≡ 2 * k → nat_eq (n % 2) 0 ≡ true
even_true n k is = let zero : n % 2 ≡ 0 = omega arith in rw zero refl

-- ---- names and numbers

pub name_spelled : (column n : ℕ) (text : List ℕ) → name_in column text ≡ Ok n → SpellsName text n
name_spelled column n text is = number_spelled most_name column n text is

pub name_reads : (column n : ℕ) (text : List ℕ) → SpellsName text n → name_in column text ≡ Ok n
name_reads column n text spells = number_reads most_name column n text spells.0 spells.1

-- ---- numbers that pass a test

passing_by : (test : ℕ → Bool) (column m n : ℕ) (b : Bool) → test m ≡ b → cond b (Ok m) (Err (BadLine column)) ≡ Ok n → (m ≡ n) × (test n ≡ true)
passing_by test column m n true p is = let e : m ≡ n = cc in (e, ap test (sym e) ∙ p)
passing_by test column m n false p is = absurd cc

passing_ok : (test : ℕ → Bool) (column : ℕ) (r : Result ℕ LineFault) (n : ℕ) → passing test column r ≡ Ok n → (r ≡ Ok n) × (test n ≡ true)
passing_ok test column (Ok m) n is = let p = passing_by test column m n _ refl is in (ap Ok p.0, p.1)
passing_ok test column (Err fault) n is = absurd cc

passing_placed_by : (column m : ℕ) (b : Bool) → cond b (Ok m) (Err (BadLine column)) ≢ Err TooLong
passing_placed_by column m true is = absurd cc
passing_placed_by column m false is = absurd cc

passing_placed : (test : ℕ → Bool) (column : ℕ) (r : Result ℕ LineFault) → r ≢ Err TooLong → passing test column r ≢ Err TooLong
passing_placed test column (Ok m) placed is = passing_placed_by column m (test m) is
passing_placed test column (Err fault) placed is = placed is

pub alignment_spelled : (column n : ℕ) (text : List ℕ) → alignment_in column text ≡ Ok n → SpellsNumber text n × (is_power_of_two n ≡ true) × (n ≤ 4096)
alignment_spelled column n text is =
    let p = passing_ok is_alignment column (number_in column text) n is in
    let q = and_parts (is_power_of_two n) (nat_le n 4096) p.1 in
    ((number_spelled most_number column n text p.0).0, q.0, le_of n 4096 q.1)

pub alignment_reads : (column n : ℕ) (text : List ℕ) → SpellsNumber text n × (is_power_of_two n ≡ true) × (n ≤ 4096) → alignment_in column text ≡ Ok n
alignment_reads column n text spells =
    rw (number_reads most_number column n text spells.0 (omega (arith, spells.2)), spells.1, le_true n 4096 spells.2) refl

pub alignment_placed : (column : ℕ) (text : List ℕ) → alignment_in column text ≢ Err TooLong
alignment_placed column text = passing_placed is_alignment column (number_in column text) (number_placed most_number column text)

pub count_spelled : (column n : ℕ) (text : List ℕ) → count_in column text ≡ Ok n → SpellsNumber text n × (1 ≤ n) × (n ≤ 64)
count_spelled column n text is =
    let p = passing_ok (is_between 1 64) column (number_in column text) n is in
    let q = and_parts (nat_le 1 n) (nat_le n 64) p.1 in
    ((number_spelled most_number column n text p.0).0, le_of 1 n q.0, le_of n 64 q.1)

pub count_reads : (column n : ℕ) (text : List ℕ) → SpellsNumber text n × (1 ≤ n) × (n ≤ 64) → count_in column text ≡ Ok n
count_reads column n text spells =
    rw (number_reads most_number column n text spells.0 (omega (arith, spells.2)), le_true 1 n spells.1, le_true n 64 spells.2) refl

pub count_placed : (column : ℕ) (text : List ℕ) → count_in column text ≢ Err TooLong
count_placed column text = passing_placed (is_between 1 64) column (number_in column text) (number_placed most_number column text)

-- ---- paths

zip_of : (texts : List (List ℕ)) → list_all is_numeral texts ≡ true → list_all is_step texts ≡ true → AllZip SpellsName texts (map (digits_value 10) texts)
zip_of [] numerals small = tt
zip_of (text ∷ texts) numerals small =
    let p = and_parts (is_numeral text) (list_all is_numeral texts) numerals in
    let q = and_parts (is_step text) (list_all is_step texts) small in
    (((numeral_is text p.0, refl), le_of (digits_value 10 text) most_name q.0), zip_of texts p.1 q.1)

mapped : (texts : List (List ℕ)) → length (map (digits_value 10) texts) ≡ length texts
mapped [] = refl
mapped (text ∷ texts) = ap suc (mapped texts)

-- what the steps of a path are, where they are spelled
record Steps (texts : List (List ℕ)) (steps : List ℕ) : Type 0 where
  numerals : list_all is_numeral texts ≡ true
  small : list_all is_step texts ≡ true
  values : map (digits_value 10) texts ≡ steps
  len : length texts ≡ length steps

of_zip : (texts : List (List ℕ)) (steps : List ℕ) → AllZip SpellsName texts steps → Steps texts steps
of_zip [] [] spells = record { numerals = refl; small = refl; values = refl; len = refl }
of_zip [] (n ∷ steps) spells = absurd spells
of_zip (text ∷ texts) [] spells = absurd spells
of_zip (text ∷ texts) (n ∷ steps) spells =
    let more = of_zip texts steps spells.1 in
    let value : digits_value 10 text ≡ n = spells.0.0.1 in
    let small : is_step text ≡ true = le_true (digits_value 10 text) most_name (omega (arith, spells.0.1)) in
    record {
      numerals = rw (is_numeral_of text spells.0.0.0) more.numerals;
      small = rw small more.small;
      values = ap₂ (λ (x : ℕ) (xs : List ℕ). x ∷ xs) value more.values;
      len = ap suc more.len;
    }

path_by : (column : ℕ) (text steps : List ℕ) (path small : Bool) → is_path text ≡ path → list_all is_step (steps_of text) ≡ small
    → cond path (cond small (Ok (map (digits_value 10) (steps_of text))) (Err (NumberTooLarge column))) (Err (BadLine column)) ≡ Ok steps
    → AllZip SpellsName (steps_of text) steps × (length steps ≤ 8)
path_by column text steps true true p q is =
    let parts = and_parts (nat_le (length (steps_of text)) 8) (list_all is_numeral (steps_of text)) p in
    let e : map (digits_value 10) (steps_of text) ≡ steps = cc in
    let few : length (steps_of text) ≤ 8 = le_of (length (steps_of text)) 8 parts.0 in
    rw (← e) (zip_of (steps_of text) parts.1 q, omega (arith, mapped (steps_of text)))
path_by column text steps true false p q is = absurd cc
path_by column text steps false small p q is = absurd cc

pub path_spelled : (column : ℕ) (steps text : List ℕ) → path_in column text ≡ Ok steps → AllZip SpellsName (steps_of text) steps × (length steps ≤ 8)
unfolding path_in
path_spelled column steps text is = path_by column text steps _ _ refl refl is

pub path_reads : (column : ℕ) (steps text : List ℕ) → AllZip SpellsName (steps_of text) steps × (length steps ≤ 8) → path_in column text ≡ Ok steps
unfolding path_in
path_reads column steps text spells =
    let s = of_zip (steps_of text) steps spells.0 in
    let few : nat_le (length (steps_of text)) 8 ≡ true = le_true (length (steps_of text)) 8 (omega (arith, s.len, spells.1)) in
    rw (few, s.numerals, s.small, s.values) refl

path_placed_by : (column : ℕ) (steps : List ℕ) (path small : Bool) → cond path (cond small (Ok steps) (Err (NumberTooLarge column))) (Err (BadLine column)) ≢ Err TooLong
path_placed_by column steps true true is = absurd cc
path_placed_by column steps true false is = absurd cc
path_placed_by column steps false small is = absurd cc

pub path_placed : (column : ℕ) (text : List ℕ) → path_in column text ≢ Err TooLong
unfolding path_in
path_placed column text is = path_placed_by column (map (digits_value 10) (steps_of text)) (is_path text) (list_all is_step (steps_of text)) is

-- ---- bytes

hex_is : (b : ℕ) → is_ascii_hexdigit b ≡ true → digit_value b < 16
hex_is b is = grind (arith, nat_tests)

is_hex : (b : ℕ) → digit_value b < 16 → is_ascii_hexdigit b ≡ true
is_hex b lt = grind (arith, nat_tests)

-- the bytes of an even number of digits
record Bytes (text : List ℕ) : Type 0 where
  spells : SpellsBytes text (octets_of text)
  len : 2 * length (octets_of text) ≡ length text

bytes_of : (text : List ℕ) → list_all is_ascii_hexdigit text ≡ true → length text % 2 ≡ 0 → Bytes text
bytes_of [] all even = record { spells = tt; len = refl }
bytes_of (h ∷ []) all even = absurd (omega arith)
bytes_of (h ∷ l ∷ text) all even =
    let p = and_parts (is_ascii_hexdigit h) (list_all is_ascii_hexdigit (l ∷ text)) all in
    let q = and_parts (is_ascii_hexdigit l) (list_all is_ascii_hexdigit text) p.1 in
    let more = bytes_of text q.1 (omega arith) in
    record { spells = (record { high_is = hex_is h p.0; low_is = hex_is l q.0; value = refl }, more.spells); len = omega (arith, more.len) }

-- what the digits are, where bytes are spelled
record Digits (text bytes : List ℕ) : Type 0 where
  all : list_all is_ascii_hexdigit text ≡ true
  values : octets_of text ≡ bytes
  len : length text ≡ 2 * length bytes

of_bytes : (text bytes : List ℕ) → SpellsBytes text bytes → Digits text bytes
of_bytes [] [] spells = record { all = refl; values = refl; len = refl }
of_bytes [] (b ∷ bytes) spells = absurd spells
of_bytes (h ∷ []) bytes spells = absurd spells
of_bytes (h ∷ l ∷ text) [] spells = absurd spells
of_bytes (h ∷ l ∷ text) (b ∷ bytes) spells =
    let more = of_bytes text bytes spells.1 in
    record {
      all = rw (is_hex h spells.0.high_is, is_hex l spells.0.low_is) more.all;
      values = ap₂ (λ (x : ℕ) (xs : List ℕ). x ∷ xs) spells.0.value more.values;
      len = omega (arith, more.len);
    }

octets_by : (column : ℕ) (text bytes : List ℕ) (has : Bool) → has_octets text ≡ has → cond has (Ok (octets_of text)) (Err (BadLine column)) ≡ Ok bytes
    → SpellsBytes text bytes × (1 ≤ length bytes) × (length bytes ≤ 64)
octets_by column text bytes true p is =
    let parts = and_parts (list_all is_ascii_hexdigit text && nat_eq (length text % 2) 0) (is_between 2 128 (length text)) p in
    let first = and_parts (list_all is_ascii_hexdigit text) (nat_eq (length text % 2) 0) parts.0 in
    let second = and_parts (nat_le 2 (length text)) (nat_le (length text) 128) parts.1 in
    let even : length text % 2 ≡ 0 = grind (arith, nat_tests) in
    let least : 2 ≤ length text = le_of 2 (length text) second.0 in
    let most : length text ≤ 128 = le_of (length text) 128 second.1 in
    let b = bytes_of text first.0 even in
    let e : octets_of text ≡ bytes = cc in
    rw (← e) (b.spells, omega (arith, b.len), omega (arith, b.len))
octets_by column text bytes false p is = absurd cc

pub octets_spelled : (column : ℕ) (bytes text : List ℕ) → octets_in column text ≡ Ok bytes → SpellsBytes text bytes × (1 ≤ length bytes) × (length bytes ≤ 64)
unfolding octets_in
octets_spelled column bytes text is = octets_by column text bytes _ refl is

pub octets_reads : (column : ℕ) (bytes text : List ℕ) → SpellsBytes text bytes × (1 ≤ length bytes) × (length bytes ≤ 64) → octets_in column text ≡ Ok bytes
unfolding octets_in
octets_reads column bytes text spells =
    let d = of_bytes text bytes spells.0 in
    let even : nat_eq (length text % 2) 0 ≡ true = even_true (length text) (length bytes) d.len in
    let least : nat_le 2 (length text) ≡ true = le_true 2 (length text) (omega (arith, d.len, spells.1)) in
    let most : nat_le (length text) 128 ≡ true = le_true (length text) 128 (omega (arith, d.len, spells.2)) in
    rw (d.all, even, least, most, d.values) refl

octets_placed_by : (column : ℕ) (bytes : List ℕ) (has : Bool) → cond has (Ok bytes) (Err (BadLine column)) ≢ Err TooLong
octets_placed_by column bytes true is = absurd cc
octets_placed_by column bytes false is = absurd cc

pub octets_placed : (column : ℕ) (text : List ℕ) → octets_in column text ≢ Err TooLong
unfolding octets_in
octets_placed column text is = octets_placed_by column (octets_of text) (has_octets text) is
