-- Numbers in words, as `parse` reads them.
use Rattle.std.proofs.Common.{◌≡◌, ◌≢◌, ℕ, ◌^◌, ◌≤◌, ◌<◌, ◌&&◌, true, nat_le, List, [], ◌∷◌, length, get_or, Some, None, Result, Ok, Err, sym, ap, ◌∙◌, arith}
use Rattle.std.proofs.lemmas.Bool.{and_parts, and_from, cond-true, cond-false, false_from_ne_true, leb-true, le-leb}
use Rattle.std.proofs.lemmas.Str.Parse.{numerals_by_value, parse_plain, tells_all_ascii_digits}
use Rattle.std.specs.Result.{OkIff, result_ok}
use Rattle.std.specs.Str.{all_ascii_digits}
use Rattle.std.specs.Str.Parse.{ParsesUnsigned, digits_value}
use Rattle.play_core.specs.Command.{number_upto}

-- a text with no sign that `parse` reads is digits
abbrev Parsed : {E : Type 0} → List ℕ → Result ℕ E → Type 0
Parsed digits r = OkIff r ((all_ascii_digits digits ≡ true) × (0 < length digits) × (digits_value 10 digits < 2 ^ 32)) (digits_value 10 digits)

pub plain_parsed : {E : Type 0} (digits : List ℕ) (r : Result ℕ E) → ParsesUnsigned 32 10 digits r → get_or digits 0 0 ≢ 43 → Parsed digits r
plain_parsed digits r h plain = parse_plain (numerals_by_value (λ ds. all_ascii_digits ds ≡ true) tells_all_ascii_digits) 32 digits r h plain

some_digits : (digits : List ℕ) → 1 ≤ digits_value 10 digits → 0 < length digits
some_digits [] h = absurd (omega arith)
some_digits (d ∷ ds) h = omega arith

-- no number was read
pub number_none : {E : Type 0} (most : ℕ) (digits : List ℕ) (r : Result ℕ E) → most < 2 ^ 32 → Parsed digits r → None ≡ result_ok r → None ≡ number_upto most digits
number_none most digits (Ok n) small h e = absurd cc
number_none most digits (Err fault) small h e =
    sym (cond-false (all_ascii_digits digits && (nat_le 1 (digits_value 10 digits) && nat_le (digits_value 10 digits) most)) (Some (digits_value 10 digits)) None
    (false_from_ne_true _ (λ t.
    let p = and_parts _ _ t in
    let q = and_parts _ _ p.1 in
    h (p.0, some_digits digits (leb-true _ _ q.0), omega (arith, leb-true _ _ q.1, small)))))

-- this number was read, and is in bounds
pub number_some : {E : Type 0} (most n : ℕ) (digits : List ℕ) (r : Result ℕ E) → Parsed digits r → Some n ≡ result_ok r → 1 ≤ n → n ≤ most → Some n ≡ number_upto most digits
number_some most n digits (Err fault) h e low high = absurd cc
number_some most n digits (Ok m) h e low high =
    let is : n ≡ m = cc in
    let same : n ≡ digits_value 10 digits = is ∙ h.1 in
    let t : (all_ascii_digits digits && (nat_le 1 (digits_value 10 digits) && nat_le (digits_value 10 digits) most)) ≡ true =
    and_from _ _ h.0.0 (and_from _ _ (le-leb 1 (digits_value 10 digits) (omega (arith, same, low))) (le-leb (digits_value 10 digits) most (omega (arith, same, high)))) in
    ap Some same ∙ sym (cond-true _ (Some (digits_value 10 digits)) None t)
