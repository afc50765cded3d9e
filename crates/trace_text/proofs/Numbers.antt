-- Numbers: what digits say.
use Rattle.std.proofs.Common.{◌≡◌, ◌≢◌, ◌⊎◌, inl, inr, ℕ, cond, Option, Some, None, Ok, Err, IfSome, IfNone, nat_le, ◌+◌, ◌*◌, ◌<◌, ◌≤◌, Bool, true, false, List, [], ◌∷◌, length, take, refl, sym, ◌∙◌, ap, subst, arith}
use Rattle.std.proofs.lemmas.Bool.{and_parts}
use Rattle.std.proofs.lemmas.Bool.Decides.{nat_tests}
use Rattle.std.proofs.lemmas.List.{take_all}
use Rattle.std.proofs.lemmas.Str.Parse.{digit_from_value}
use Rattle.std.specs.Char.{digit_value, is_ascii_digit}
use Rattle.std.specs.List.{list_all, prefix_len}
use Rattle.std.specs.Option.{SomeIff}
use Rattle.std.specs.Str.Parse.{AllDigits, IsNumeral, digits_value}
use Rattle.trace_text.specs.Spelling.{SpellsNumber}
use Rattle.trace_text.specs.Grammar.{is_numeral, most_number, number_to}
use Rattle.trace_text.specs.declared.LineFault.{LineFault}
use Rattle.trace_text.specs.declared.LineFault.TheVariants.{TooLong, BadLine, NumberTooLarge}

-- a number with one digit more, where the number without it may be too large already
pub more_digits : (number result : Option ℕ) (n d : ℕ) → SomeIff number (n ≤ most_number) n → IfSome number (λ m. SomeIff result (m * 10 + d ≤ most_number) (m * 10 + d)) → IfNone number (result ≡ None)
    → SomeIff result (n * 10 + d ≤ most_number) (n * 10 + d)
more_digits (Some m) result n d is more none = subst (λ (k : ℕ). SomeIff result (k * 10 + d ≤ most_number) (k * 10 + d)) is.1 more
more_digits None result n d is more none = subst (λ (r : Option ℕ). SomeIff r (n * 10 + d ≤ most_number) (n * 10 + d)) (sym none) (λ le. is (omega arith))

-- ---- the two ways to say that all are digits

digit_is : (b : ℕ) → is_ascii_digit b ≡ true → digit_value b < 10
digit_is b is = grind (arith, nat_tests)

is_digit : (b : ℕ) → digit_value b < 10 → is_ascii_digit b ≡ true
is_digit b lt = grind (arith, nat_tests, digit_from_value b lt)

pub digits_are : (text : List ℕ) → list_all is_ascii_digit text ≡ true → AllDigits 10 text
digits_are [] is = tt
digits_are (b ∷ bs) is = let p = and_parts (is_ascii_digit b) (list_all is_ascii_digit bs) is in (digit_is b p.0, digits_are bs p.1)

pub are_digits : (text : List ℕ) → AllDigits 10 text → list_all is_ascii_digit text ≡ true
are_digits [] all = refl
are_digits (b ∷ bs) all = rw (is_digit b all.0) (are_digits bs all.1)

pub numeral_is : (text : List ℕ) → is_numeral text ≡ true → IsNumeral 10 text
numeral_is [] is = absurd cc
numeral_is (b ∷ bs) is = (omega arith, digits_are (b ∷ bs) is)

pub is_numeral_of : (text : List ℕ) → IsNumeral 10 text → is_numeral text ≡ true
is_numeral_of [] numeral = absurd (omega arith)
is_numeral_of (b ∷ bs) numeral = are_digits (b ∷ bs) numeral.1

prefix_by : (b : ℕ) (bs : List ℕ) (digit : Bool) → is_ascii_digit b ≡ digit → (prefix_len is_ascii_digit bs ≡ length bs → list_all is_ascii_digit bs ≡ true) → prefix_len is_ascii_digit (b ∷ bs) ≡ length (b ∷ bs) → list_all is_ascii_digit (b ∷ bs) ≡ true
prefix_by b bs true is rest all = rw is (rest (let e : 1 + prefix_len is_ascii_digit bs ≡ length (b ∷ bs) = rw is at all in omega arith))
prefix_by b bs false is rest all = absurd (let e : 0 ≡ length (b ∷ bs) = rw is at all in omega arith)

-- digits as far as the text goes
pub all_in_front : (text : List ℕ) → prefix_len is_ascii_digit text ≡ length text → list_all is_ascii_digit text ≡ true
all_in_front [] all = refl
all_in_front (b ∷ bs) all = prefix_by b bs _ refl (all_in_front bs) all

prefix_all_by : (b : ℕ) (bs : List ℕ) → (is_ascii_digit b ≡ true) → prefix_len is_ascii_digit bs ≡ length bs → prefix_len is_ascii_digit (b ∷ bs) ≡ length (b ∷ bs)
prefix_all_by b bs is rest = rw is (omega (arith, rest))

pub front_of_all : (text : List ℕ) → list_all is_ascii_digit text ≡ true → prefix_len is_ascii_digit text ≡ length text
front_of_all [] all = refl
front_of_all (b ∷ bs) all = let p = and_parts (is_ascii_digit b) (list_all is_ascii_digit bs) all in prefix_all_by b bs p.0 (front_of_all bs p.1)

-- ---- what a number says of its text

number_ok_by : (most column n : ℕ) (text : List ℕ) (numeral small : Bool) → is_numeral text ≡ numeral → nat_le (digits_value 10 text) most ≡ small
    → cond numeral (cond small (Ok (digits_value 10 text)) (Err (NumberTooLarge column))) (Err (BadLine column)) ≡ Ok n
    → (is_numeral text ≡ true) × (digits_value 10 text ≡ n) × (n ≤ most)
number_ok_by most column n text true true p q is = let e : digits_value 10 text ≡ n = cc in (p, e, grind (arith, nat_tests))
number_ok_by most column n text true false p q is = absurd cc
number_ok_by most column n text false small p q is = absurd cc

number_err_by : (most column : ℕ) (text : List ℕ) (fault : LineFault) (small : Bool) → nat_le (digits_value 10 text) most ≡ small
    → cond small (Ok (digits_value 10 text)) (Err (NumberTooLarge column)) ≡ Err fault
    → (fault ≡ NumberTooLarge column) × (nat_le (digits_value 10 text) most ≡ false)
number_err_by most column text fault true p is = absurd cc
number_err_by most column text fault false p is = (cc, p)

number_placed_by : (column n : ℕ) (numeral small : Bool) → cond numeral (cond small (Ok n) (Err (NumberTooLarge column))) (Err (BadLine column)) ≢ Err TooLong
number_placed_by column n true true is = absurd cc
number_placed_by column n true false is = absurd cc
number_placed_by column n false small is = absurd cc

leb_true : (n m : ℕ) → n ≤ m → nat_le n m ≡ true
leb_true n m le = grind (arith, nat_tests)

leb_false : (n m : ℕ) → m < n → nat_le n m ≡ false
leb_false n m lt = grind (arith, nat_tests)

-- a number that is read is that of its digits, and at most the greatest
pub number_ok : (most column n : ℕ) (text : List ℕ) → number_to most column text ≡ Ok n → (is_numeral text ≡ true) × (digits_value 10 text ≡ n) × (n ≤ most)
unfolding number_to
number_ok most column n text is = number_ok_by most column n text _ _ refl refl is

-- a numeral that is no number is too large
pub number_err : (most column : ℕ) (text : List ℕ) (fault : LineFault) → is_numeral text ≡ true → number_to most column text ≡ Err fault → (fault ≡ NumberTooLarge column) × (nat_le (digits_value 10 text) most ≡ false)
unfolding number_to
number_err most column text fault numeral is = number_err_by most column text fault _ refl (rw numeral at is)

-- ---- what a number says of its text, by how many digits stand in front

numeral_by : (text : List ℕ) (len : ℕ) → len ≡ prefix_len is_ascii_digit text → (len ≡ 0 → ⊥) → len ≡ length text → is_numeral text ≡ true
numeral_by [] len is some all = absurd (some all)
numeral_by (b ∷ bs) len is some all = all_in_front (b ∷ bs) (sym is ∙ all)

no_numeral_by : (b : ℕ) (bs : List ℕ) (digits : Bool) → list_all is_ascii_digit (b ∷ bs) ≡ digits → (prefix_len is_ascii_digit (b ∷ bs) ≡ length (b ∷ bs) → ⊥) → digits ≡ false
no_numeral_by b bs true is few = absurd (few (front_of_all (b ∷ bs) is))
no_numeral_by b bs false is few = refl

no_numeral : (text : List ℕ) (len : ℕ) → len ≡ prefix_len is_ascii_digit text → (len ≡ 0) ⊎ (len < length text) → is_numeral text ≡ false
no_numeral [] len is few = refl
no_numeral (b ∷ bs) len is few = no_numeral_by b bs _ refl (λ all. elim few [ inl none ↦ omega arith | inr less ↦ omega arith ])

-- digits are missing, or something else stands behind them
pub number_bad : (most column len : ℕ) (text : List ℕ) → len ≡ prefix_len is_ascii_digit text → (len ≡ 0) ⊎ (len < length text) → number_to most column text ≡ Err (BadLine column)
unfolding number_to
number_bad most column len text is few = rw (no_numeral text len is few) refl

-- what digits alone stand for
whole_value : (text : List ℕ) (len : ℕ) → len ≡ length text → digits_value 10 (take len text) ≡ digits_value 10 text
whole_value text len all = ap (digits_value 10) (take_all len text (omega (arith, all)))

-- a number that is small enough
pub number_fits : (most column len n : ℕ) (text : List ℕ) (number : Option ℕ) → len ≡ prefix_len is_ascii_digit text → (len ≡ 0 → ⊥) → len ≡ length text
    → SomeIff number (digits_value 10 (take len text) ≤ most_number) (digits_value 10 (take len text)) → number ≡ Some n → n ≤ most → number_to most column text ≡ Ok n
unfolding number_to
number_fits most column len n text number is some all says found le =
    let p = subst (λ (o : Option ℕ). SomeIff o (digits_value 10 (take len text) ≤ most_number) (digits_value 10 (take len text))) found says in
    let value : digits_value 10 text ≡ n = sym (whole_value text len all) ∙ sym p.1 in
    let small : nat_le (digits_value 10 text) most ≡ true = leb_true (digits_value 10 text) most (omega (arith, value)) in
    rw (numeral_by text len is some all, small) (ap Ok value)

large_by : (most column len : ℕ) (text : List ℕ) → len ≡ prefix_len is_ascii_digit text → (len ≡ 0 → ⊥) → len ≡ length text → most < digits_value 10 (take len text) → number_to most column text ≡ Err (NumberTooLarge column)
unfolding number_to
large_by most column len text is some all much =
    let large : nat_le (digits_value 10 text) most ≡ false = leb_false (digits_value 10 text) most (omega (arith, whole_value text len all)) in
    rw (numeral_by text len is some all, large) refl

-- or larger than may be
pub number_large : (most column len n : ℕ) (text : List ℕ) (number : Option ℕ) → len ≡ prefix_len is_ascii_digit text → (len ≡ 0 → ⊥) → len ≡ length text
    → SomeIff number (digits_value 10 (take len text) ≤ most_number) (digits_value 10 (take len text)) → number ≡ Some n → most < n → number_to most column text ≡ Err (NumberTooLarge column)
number_large most column len n text number is some all says found much =
    let p = subst (λ (o : Option ℕ). SomeIff o (digits_value 10 (take len text) ≤ most_number) (digits_value 10 (take len text))) found says in
    large_by most column len text is some all (omega (arith, p.1))

-- or than any
pub number_huge : (most column len : ℕ) (text : List ℕ) (number : Option ℕ) → len ≡ prefix_len is_ascii_digit text → (len ≡ 0 → ⊥) → len ≡ length text
    → SomeIff number (digits_value 10 (take len text) ≤ most_number) (digits_value 10 (take len text)) → number ≡ None → most ≤ most_number → number_to most column text ≡ Err (NumberTooLarge column)
number_huge most column len text number is some all says found few =
    let none : ¬ (digits_value 10 (take len text) ≤ most_number) = subst (λ (o : Option ℕ). SomeIff o (digits_value 10 (take len text) ≤ most_number) (digits_value 10 (take len text))) found says in
    large_by most column len text is some all (omega (arith, none))

-- the field that spells a number is read as that number
pub number_reads : (most column n : ℕ) (text : List ℕ) → SpellsNumber text n → n ≤ most → number_to most column text ≡ Ok n
unfolding number_to
number_reads most column n text spells le =
    let small : nat_le (digits_value 10 text) most ≡ true = leb_true (digits_value 10 text) most (omega (arith, spells.1)) in
    rw (is_numeral_of text spells.0, small) (ap Ok spells.1)

-- a number that is read is spelled
pub number_spelled : (most column n : ℕ) (text : List ℕ) → number_to most column text ≡ Ok n → SpellsNumber text n × (n ≤ most)
number_spelled most column n text is = let p = number_ok most column n text is in ((numeral_is text p.0, p.1), p.2)

-- no number is a fault of the whole line
pub number_placed : (most column : ℕ) (text : List ℕ) → number_to most column text ≢ Err TooLong
unfolding number_to
number_placed most column text is = number_placed_by column (digits_value 10 text) (is_numeral text) (nat_le (digits_value 10 text) most) is
