-- Paths: how the first step is cut off.
use Rattle.std.proofs.Common.{◌≡◌, ℕ, true, Ok, Err, refl, ◌+◌, ◌-◌, List, [], ◌∷◌, ◌++◌, append_assoc, length, take, drop, map, Option, Some, None, arith}
use Rattle.std.specs.List.{list_all, position}
use Rattle.std.specs.Str.Parse.{digits_value}
use Rattle.std.proofs.lemmas.Bool.{and_parts}
use Rattle.std.proofs.lemmas.Bool.Decides.{nat_tests}
use Rattle.std.proofs.lemmas.Grind.{common_steps}
use Rattle.std.proofs.lemmas.List.Splits.{slice_split_first, slice_split_none}
use Rattle.std.proofs.lemmas.List.Sums.{fails_before_first}
use Rattle.std.proofs.lemmas.Option.{cond_some}
use Rattle.trace_text.specs.Grammar.{is_numeral, is_path, is_point, is_step, most_name, number_to, path_in, steps_of}
use Rattle.trace_text.specs.declared.LineFault.{LineFault}
use Rattle.trace_text.proofs.Numbers.{number_ok, number_err}

-- a text with no point is one step
pub cut_none : (text : List ℕ) → position is_point text ≡ None → steps_of text ≡ text ∷ []
cut_none text none = slice_split_none is_point text (λ k d lt. fails_before_first is_point text k d (grind (arith, nat_tests)))

-- the first step ends at the first point
pub cut_some : (text : List ℕ) (end : ℕ) → position is_point text ≡ Some end → steps_of text ≡ take end text ∷ steps_of (take (length text - (end + 1)) (drop (end + 1) text))
cut_some text end some =
    let at = cond_some _ _ _ some in
    grind (arith, common_steps, at, slice_split_first is_point text 0)

-- how much is left, for a loop that cuts off step by step
abbrev pub rest_len : (rest : Option (List ℕ)) → ℕ
rest_len (Some rest) = length rest + 1
rest_len None = 0

-- ---- what is read of a path

-- a step that is read
pub step_ok : (column n : ℕ) (text : List ℕ) → number_to most_name column text ≡ Ok n → (is_step text ≡ true) × (digits_value 10 text ≡ n)
step_ok column n text is = let p = number_ok most_name column n text is in (grind (arith, nat_tests), p.1)

-- what a step that is read leaves
pub step_numerals : (step : List ℕ) (left more : List (List ℕ)) → left ≡ step ∷ more → list_all is_numeral left ≡ true → list_all is_numeral more ≡ true
step_numerals step left more cut numerals = (and_parts (is_numeral step) (list_all is_numeral more) (rw cut at numerals)).1

pub step_small : (column n : ℕ) (step : List ℕ) (left more : List (List ℕ)) → left ≡ step ∷ more → number_to most_name column step ≡ Ok n → list_all is_step left ≡ list_all is_step more
step_small column n step left more cut is = rw (cut, (step_ok column n step is).0) refl

pub step_so_far : (column n : ℕ) (path step : List ℕ) (left more : List (List ℕ)) → left ≡ step ∷ more → number_to most_name column step ≡ Ok n
    → (path ++ n ∷ []) ++ map (digits_value 10) more ≡ path ++ map (digits_value 10) left
step_so_far column n path step left more cut is = rw (cut, append_assoc, ← (step_ok column n step is).1) refl

-- a step that isn't is too large, and so is the path
pub path_err : (column : ℕ) (text step : List ℕ) (left more : List (List ℕ)) (fault : LineFault) → left ≡ step ∷ more → is_path text ≡ true → list_all is_step (steps_of text) ≡ list_all is_step left
    → list_all is_numeral left ≡ true → number_to most_name column step ≡ Err fault → path_in column text ≡ Err fault
unfolding path_in
path_err column text step left more fault cut path small numerals is =
    let all : list_all is_numeral (step ∷ more) ≡ true = rw cut at numerals in
    let p = number_err most_name column step fault (and_parts (is_numeral step) (list_all is_numeral more) all).0 is in
    rw (path, small, cut, p.1, p.0) refl
