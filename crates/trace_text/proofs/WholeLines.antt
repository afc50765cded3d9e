-- Lines: what a whole line says, by what its fields say.
use Rattle.std.proofs.Common.{◌≡◌, ◌≢◌, ℕ, ◌+◌, ◌<◌, ◌≤◌, Bool, true, false, cond, not, List, [], ◌∷◌, length, Option, Some, None, Result, Ok, Err, nat_eq, nat_le, refl, sym, ◌∙◌, ap, subst, arith}
use Rattle.std.proofs.lemmas.Bool.{eqb-true}
use Rattle.std.proofs.lemmas.Bool.Decides.{nat_tests}
use Rattle.std.specs.List.{AllZip, filter, slice_split}
use Rattle.heap_core.specs.declared.Call.{Call}
use Rattle.heap_core.specs.declared.Call.TheVariants.{Allocate, Aligned, Expand, Reallocate, Free, FreeAll, Owns, OwnsAt, Good, Write, Read}
use Rattle.trace_text.specs.declared.LineFault.{LineFault}
use Rattle.trace_text.specs.declared.LineFault.TheVariants.{TooLong}
use Rattle.trace_text.specs.Fields.{Field, fields_from, is_blank, whole}
use Rattle.trace_text.specs.Grammar.{fields_call, is_comment, is_empty, letter_call, line_call, most_bytes, on_ok}
use Rattle.trace_text.specs.Laws.{ReadIsSpelled, SilentIsPassed, LongIsRefused}
use Rattle.trace_text.specs.Parts.{parts_of}
use Rattle.trace_text.specs.Spelling.{IsSilent, IsSpelled, Spells, words_of}
use Rattle.trace_text.proofs.Rows.{left, letter_placed, letter_says, ok_of, placed_on, row_reads, texts}

-- the texts of fields are the words
texts_from : (column : ℕ) (pieces : List (List ℕ)) → texts (fields_from column pieces) ≡ filter (λ text. not (is_empty text)) pieces
texts_from column [] = refl
texts_from column ([] ∷ pieces) = texts_from (column + 1) pieces
texts_from column ((b ∷ bs) ∷ pieces) = ap (λ (ts : List (List ℕ)). (b ∷ bs) ∷ ts) (texts_from (column + length (b ∷ bs) + 1) pieces)

texts_of : (line : List ℕ) → texts (whole line).fields ≡ words_of line
texts_of line = texts_from 1 (slice_split is_blank line)

abbrev some_call : Result Call LineFault → Result (Option Call) LineFault
some_call r = on_ok r (λ call. Ok (Some call))

-- ---- a call

same_call : (a b : Call) → some_call (Ok a) ≡ Ok (Some b) → a ≡ b
same_call a b is = cc

said_by : (f : Field) (end : ℕ) (fs : List Field) (call : Call) (b : Bool) → cond b (Ok None) (some_call (letter_call f (left fs end))) ≡ Ok (Some call) → AllZip IsSpelled (texts (f ∷ fs)) (parts_of call)
said_by f end fs call true is = absurd cc
said_by f end fs call false is =
    let r = ok_of (letter_call f (left fs end)) _ (Some call) is in
    letter_says f end fs call (r.1 ∙ ap Ok (same_call r.0 call r.2))

fields_say : (end : ℕ) (fields : List Field) (call : Call) → fields_call end fields ≡ Ok (Some call) → AllZip IsSpelled (texts fields) (parts_of call)
fields_say end [] call is = absurd cc
fields_say end (f ∷ fs) call is = said_by f end fs call (is_comment f.text) is

-- the first field is a letter
record Begins (fields : List Field) : Type 0 where
  first : Field
  rest : List Field
  fields_are : fields ≡ first ∷ rest
  no_comment : is_comment first.text ≡ false

begins : (call : Call) (fields : List Field) → AllZip IsSpelled (texts fields) (parts_of call) → Begins fields
begins (Allocate n size) [] s = absurd s
begins (Allocate n size) (f ∷ fs) s = record { first = f; rest = fs; fields_are = refl; no_comment = rw s.0 refl }
begins (Aligned n size align) [] s = absurd s
begins (Aligned n size align) (f ∷ fs) s = record { first = f; rest = fs; fields_are = refl; no_comment = rw s.0 refl }
begins (Expand n delta) [] s = absurd s
begins (Expand n delta) (f ∷ fs) s = record { first = f; rest = fs; fields_are = refl; no_comment = rw s.0 refl }
begins (Reallocate n size) [] s = absurd s
begins (Reallocate n size) (f ∷ fs) s = record { first = f; rest = fs; fields_are = refl; no_comment = rw s.0 refl }
begins (Free n) [] s = absurd s
begins (Free n) (f ∷ fs) s = record { first = f; rest = fs; fields_are = refl; no_comment = rw s.0 refl }
begins FreeAll [] s = absurd s
begins FreeAll (f ∷ fs) s = record { first = f; rest = fs; fields_are = refl; no_comment = rw s.0 refl }
begins (Owns n) [] s = absurd s
begins (Owns n) (f ∷ fs) s = record { first = f; rest = fs; fields_are = refl; no_comment = rw s.0 refl }
begins (OwnsAt n steps) [] s = absurd s
begins (OwnsAt n steps) (f ∷ fs) s = record { first = f; rest = fs; fields_are = refl; no_comment = rw s.0 refl }
begins (Good size) [] s = absurd s
begins (Good size) (f ∷ fs) s = record { first = f; rest = fs; fields_are = refl; no_comment = rw s.0 refl }
begins (Write n offset bytes) [] s = absurd s
begins (Write n offset bytes) (f ∷ fs) s = record { first = f; rest = fs; fields_are = refl; no_comment = rw s.0 refl }
begins (Read n offset len) [] s = absurd s
begins (Read n offset len) (f ∷ fs) s = record { first = f; rest = fs; fields_are = refl; no_comment = rw s.0 refl }

fields_read : (call : Call) (end : ℕ) (fields : List Field) → AllZip IsSpelled (texts fields) (parts_of call) → fields_call end fields ≡ Ok (Some call)
fields_read call end fields s =
    let b = begins call fields s in
    let spelled : AllZip IsSpelled (texts (b.first ∷ b.rest)) (parts_of call) = rw b.fields_are at s in
    rw (b.fields_are, b.no_comment, row_reads call b.first end b.rest spelled) refl

line_says_by : (line : List ℕ) (call : Call) (b : Bool) → nat_le (length line) most_bytes ≡ b → cond b (fields_call (whole line).end (whole line).fields) (Err TooLong) ≡ Ok (Some call)
    → (length line ≤ most_bytes) × AllZip IsSpelled (words_of line) (parts_of call)
line_says_by line call true p is = (grind (arith, nat_tests), subst (λ (ws : List (List ℕ)). AllZip IsSpelled ws (parts_of call)) (texts_of line) (fields_say (whole line).end (whole line).fields call is))
line_says_by line call false p is = absurd cc

pub line_says : (line : List ℕ) (call : Call) → line_call line ≡ Ok (Some call) → Spells line call
unfolding line_call Spells
line_says line call is = line_says_by line call _ refl is

pub line_reads : (line : List ℕ) (call : Call) → Spells line call → line_call line ≡ Ok (Some call)
unfolding line_call Spells
line_reads line call s =
    let small : nat_le (length line) most_bytes ≡ true = grind (arith, nat_tests, s.0) in
    let spelled : AllZip IsSpelled (texts (whole line).fields) (parts_of call) = subst (λ (ws : List (List ℕ)). AllZip IsSpelled ws (parts_of call)) (sym (texts_of line)) s.1 in
    rw small (fields_read call (whole line).end (whole line).fields spelled)

pub read_is_spelled_by : ReadIsSpelled
read_is_spelled_by line call = (line_says line call, line_reads line call)

-- ---- no call

no_none : (r : Result Call LineFault) → some_call r ≢ Ok None
no_none (Ok call) is = absurd cc
no_none (Err fault) is = absurd cc

silent_by : (b : ℕ) (r : Result Call LineFault) (is_mark : Bool) → nat_eq b 35 ≡ is_mark → cond is_mark (Ok None) (some_call r) ≡ Ok None → b ≡ 35
silent_by b r true p is = eqb-true b 35 p
silent_by b r false p is = absurd (no_none r is)

silent_first : (text : List ℕ) (words : List (List ℕ)) (r : Result Call LineFault) → cond (is_comment text) (Ok None) (some_call r) ≡ Ok None → IsSilent (text ∷ words)
silent_first [] words r is = absurd (no_none r is)
silent_first (b ∷ bs) words r is = silent_by b r _ refl is

silent_to : (end : ℕ) (fields : List Field) → fields_call end fields ≡ Ok None → IsSilent (texts fields)
silent_to end [] is = tt
silent_to end (f ∷ fs) is = silent_first f.text (texts fs) (letter_call f (left fs end)) is

comment_of : (text : List ℕ) (words : List (List ℕ)) → IsSilent (text ∷ words) → is_comment text ≡ true
comment_of [] words silent = absurd silent
comment_of (b ∷ bs) words silent = rw silent refl

silent_from : (end : ℕ) (fields : List Field) → IsSilent (texts fields) → fields_call end fields ≡ Ok None
silent_from end [] silent = refl
silent_from end (f ∷ fs) silent = rw (comment_of f.text (texts fs) silent) refl

passed_by : (line : List ℕ) (b : Bool) → nat_le (length line) most_bytes ≡ b → cond b (fields_call (whole line).end (whole line).fields) (Err TooLong) ≡ Ok None
    → (length line ≤ most_bytes) × IsSilent (words_of line)
passed_by line true p is = (grind (arith, nat_tests), subst IsSilent (texts_of line) (silent_to (whole line).end (whole line).fields is))
passed_by line false p is = absurd cc

passed_to : (line : List ℕ) → line_call line ≡ Ok None → (length line ≤ most_bytes) × IsSilent (words_of line)
unfolding line_call
passed_to line is = passed_by line _ refl is

passed_from : (line : List ℕ) → (length line ≤ most_bytes) × IsSilent (words_of line) → line_call line ≡ Ok None
unfolding line_call
passed_from line s =
    let small : nat_le (length line) most_bytes ≡ true = grind (arith, nat_tests, s.0) in
    rw small (silent_from (whole line).end (whole line).fields (subst IsSilent (sym (texts_of line)) s.1))

pub silent_is_passed_by : SilentIsPassed
silent_is_passed_by line = (passed_to line, passed_from line)

-- ---- too long

placed_by : (r : Result Call LineFault) (b : Bool) → r ≢ Err TooLong → cond b (Ok None) (some_call r) ≢ Err TooLong
placed_by r true placed is = absurd cc
placed_by r false placed is = placed_on r _ placed (λ call e. absurd cc) is

fields_placed : (end : ℕ) (fields : List Field) → fields_call end fields ≢ Err TooLong
fields_placed end [] is = absurd cc
fields_placed end (f ∷ fs) is = placed_by (letter_call f (left fs end)) (is_comment f.text) (letter_placed f (left fs end)) is

long_by : (line : List ℕ) (b : Bool) → nat_le (length line) most_bytes ≡ b → cond b (fields_call (whole line).end (whole line).fields) (Err TooLong) ≡ Err TooLong → most_bytes < length line
long_by line true p is = absurd (fields_placed (whole line).end (whole line).fields is)
long_by line false p is = grind (arith, nat_tests)

long_to : (line : List ℕ) → line_call line ≡ Err TooLong → most_bytes < length line
unfolding line_call
long_to line is = long_by line _ refl is

long_from : (line : List ℕ) → most_bytes < length line → line_call line ≡ Err TooLong
unfolding line_call
long_from line long = let large : nat_le (length line) most_bytes ≡ false = grind (arith, nat_tests) in rw large refl

pub long_is_refused_by : LongIsRefused
long_is_refused_by line = (long_to line, long_from line)
