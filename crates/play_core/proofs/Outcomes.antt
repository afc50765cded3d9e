-- What the next byte shows of the line that it stands in.
use Rattle.std.proofs.Common.{◌≡◌, ℕ, ◌+◌, ◌≤◌, Bool, true, false, List, [], ◌∷◌, ◌++◌, length, refl, sym, ap, ◌∙◌, arith, nat_eq, nat_lt, nat_le, ◌&&◌, length-append, append-nil}
use Rattle.std.proofs.lemmas.Bool.Decides.{nat_tests}
use Rattle.layer_rules.specs.Rules.{Rules}
use Rattle.heap_core.specs.Performing.{Run}
use Rattle.trace_text.specs.declared.LineFault.TheVariants.{TooLong}
use Rattle.trace_text.specs.declared.TraceFault.TheVariants.{Line as LineIn, TooMuchInput}
use Rattle.trace_text.specs.Grammar.{line_call}
use Rattle.play_core.specs.Lines.{body_of, IsOpen}
use Rattle.play_core.specs.Outcome.{Stops, outcome, read_outcome}
use Rattle.play_core.proofs.LineFacts.{body_begin}

and_false : (b : Bool) → (b && false) ≡ false
and_false true = refl
and_false false = refl

-- by what the tests say
by_tests : (e : Rules) (before : ℕ) (run : Run) (line body : List ℕ) → body_of line ≡ body → length body ≤ 256 → before + length line ≤ 16777216 → outcome e before run line ≡ read_outcome e run (line_call body)
unfolding outcome
by_tests e before run line body is short within =
    let t : nat_lt 256 (length (body_of line)) ≡ false = grind (arith, nat_tests, ap length is) in
    let u : nat_lt 16777216 (before + length line) ≡ false = grind (arith, nat_tests) in
    rw (t, u, is) refl

pub out_last : (e : Rules) (before : ℕ) (run : Run) (xs : List ℕ) → IsOpen xs → length xs ≤ 256 → before + length xs ≤ 16777216 → outcome e before run xs ≡ read_outcome e run (line_call xs)
out_last e before run xs h short within = by_tests e before run xs xs (ap body_of (sym (append-nil xs)) ∙ body_begin xs [] h ∙ append-nil xs) short within

pub out_whole : (e : Rules) (before : ℕ) (run : Run) (xs : List ℕ) → IsOpen xs → length xs ≤ 256 → before + length xs + 1 ≤ 16777216 → outcome e before run (xs ++ 10 ∷ []) ≡ read_outcome e run (line_call xs)
out_whole e before run xs h short within = by_tests e before run (xs ++ 10 ∷ []) xs (body_begin xs (10 ∷ []) h ∙ append-nil xs) short (omega (arith, length-append xs (10 ∷ [])))

pub out_long : (e : Rules) (before : ℕ) (run : Run) (xs : List ℕ) (b : ℕ) (more : List ℕ) → IsOpen xs → nat_eq b 10 ≡ false → length xs ≡ 256 → before + 257 ≤ 16777216 → outcome e before run (xs ++ b ∷ more) ≡ Stops (LineIn TooLong)
unfolding outcome
out_long e before run xs b more h new long within =
    let f : body_of (b ∷ more) ≡ b ∷ body_of more = rw new refl in
    let k : length (body_of (xs ++ b ∷ more)) ≡ length xs + length (b ∷ body_of more) = ap length (body_begin xs (b ∷ more) h ∙ ap (λ ys. xs ++ ys) f) ∙ length-append xs (b ∷ body_of more) in
    let t : nat_lt 256 (length (body_of (xs ++ b ∷ more))) ≡ true = grind (arith, nat_tests, k) in
    let u : nat_le (before + 257) 16777216 ≡ true = grind (arith, nat_tests) in
    rw (t, u) refl

pub out_much : (e : Rules) (before : ℕ) (run : Run) (xs : List ℕ) (b : ℕ) (more : List ℕ) → length xs ≤ 256 → 16777216 ≤ before + length xs → outcome e before run (xs ++ b ∷ more) ≡ Stops TooMuchInput
unfolding outcome
out_much e before run xs b more short much =
    let u : nat_le (before + 257) 16777216 ≡ false = grind (arith, nat_tests) in
    let t : nat_lt 16777216 (before + length (xs ++ b ∷ more)) ≡ true = grind (arith, nat_tests, length-append xs (b ∷ more)) in
    rw (u, t, and_false (nat_lt 256 (length (body_of (xs ++ b ∷ more))))) refl
