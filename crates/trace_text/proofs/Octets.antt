-- Octets: bytes as two digits each.
use Rattle.std.proofs.Common.{◌≡◌, ℕ, ◌+◌, ◌*◌, ◌≤◌, true, List, [], ◌∷◌, length, get_or, drop, refl, arith}
use Rattle.std.proofs.lemmas.Bool.{and_parts}
use Rattle.std.specs.Char.{digit_value, is_ascii_hexdigit}
use Rattle.std.specs.List.{list_all}
use Rattle.trace_text.specs.Grammar.{octets_of}

-- the first two digits are the first byte
pub octet_first : (digits : List ℕ) → 2 ≤ length digits → octets_of digits ≡ (16 * digit_value (get_or digits 0 0) + digit_value (get_or digits 1 0)) ∷ octets_of (drop 2 digits)
octet_first [] two = absurd (omega arith)
octet_first (h ∷ []) two = absurd (omega arith)
octet_first (h ∷ l ∷ ds) two = refl

-- where all are digits, the first two are and those behind them
pub hexdigits_first : (digits : List ℕ) → 2 ≤ length digits → list_all is_ascii_hexdigit digits ≡ true
    → (is_ascii_hexdigit (get_or digits 0 0) ≡ true) × (is_ascii_hexdigit (get_or digits 1 0) ≡ true) × (list_all is_ascii_hexdigit (drop 2 digits) ≡ true)
hexdigits_first [] two all = absurd (omega arith)
hexdigits_first (h ∷ []) two all = absurd (omega arith)
hexdigits_first (h ∷ l ∷ ds) two all =
    let p = and_parts (is_ascii_hexdigit h) (list_all is_ascii_hexdigit (l ∷ ds)) all in
    let q = and_parts (is_ascii_hexdigit l) (list_all is_ascii_hexdigit ds) p.1 in
    (p.0, q.0, q.1)

pub ruleset octet_rules = (octet_first, hexdigits_first)
