-- Answers to lines, and what is told after them.
use Rattle.std.proofs.Common.{◌≡◌, ℕ, ◌+◌, List, [], ◌∷◌, ◌++◌, length, map, Option, Some, None, refl, sym, ap, ◌∙◌, arith, length-append}
use Rattle.std.specs.Option.{option_map}
use Rattle.layer_rules.specs.Rules.{Rules}
use Rattle.heap_core.specs.Performing.{Run}
use Rattle.play_core.specs.Lines.{joined}
use Rattle.play_core.specs.Outcome.{Outcome, Answers, Silent, Stops, outcome}
use Rattle.play_core.specs.ReportText.{report_of}
use Rattle.play_core.specs.Told.{Told, Piece, answer_piece, line_piece, told_on, told_from, after, answers_on, answers_from, run_after}

mapped : {A B : Type 0} (f : A → B) (o : Option A) (y : B) → option_map f o ≡ Some y → (x : A) × (o ≡ Some x) × (f x ≡ y)
mapped f None y h = absurd cc
mapped f (Some x) y h = (x, refl, cc)

pub some_same : {A : Type 0} {x y : A} → Some x ≡ Some y → x ≡ y
some_same h = cc

told_here : (e : Rules) (s t : Run) (n m b c : ℕ) (more : List (List ℕ)) → s ≡ t → m ≡ n → c ≡ b → told_from e n b s more ≡ after [] (told_from e m c t more)
told_here e s t n m b c more i f g = rw (f, g, ← i) refl

on_answers : (o : Outcome) (answers : Run → Option (List Piece × Run)) (rest : Run → Told) (end : Told) (n : ℕ) (s t : Run) → ((next : Run) (ps : List Piece) → answers next ≡ Some (ps, t) → rest next ≡ after ps end) → (pieces : List Piece) → answers_on s o answers ≡ Some (pieces, t) → told_on n s o rest ≡ after pieces end
on_answers (Stops fault) answers rest end n s t ih pieces h = absurd cc
on_answers Silent answers rest end n s t ih pieces h = ih s pieces h
on_answers (Answers call answer next) answers rest end n s t ih pieces h =
    let q = mapped _ (answers next) (pieces, t) h in
    let p : answer_piece call answer next ∷ q.0.0 ≡ pieces = ap (λ (x : List Piece × Run). x.0) q.2 in
    let r : q.0.1 ≡ t = ap (λ (x : List Piece × Run). x.1) q.2 in
    let e : answers next ≡ Some (q.0.0, t) = q.1 ∙ ap (λ u. Some (q.0.0, u)) r in
    ap (after (answer_piece call answer next ∷ [])) (ih next q.0.0 e) ∙ ap (λ ps. after ps end) p

-- what lines are told, by their answers
pub told_answers : (e : Rules) (lines more : List (List ℕ)) (n b m c : ℕ) (s t : Run) (pieces : List Piece) → answers_from e b s lines ≡ Some (pieces, t) → m ≡ n + length lines → c ≡ b + length (joined lines) → told_from e n b s (lines ++ more) ≡ after pieces (told_from e m c t more)
told_answers e [] more n b m c s t pieces h i f =
    let k : s ≡ t = ap (λ (x : List Piece × Run). x.1) (some_same h) in
    let ps : [] ≡ pieces = ap (λ (x : List Piece × Run). x.0) (some_same h) in
    told_here e s t n m b c more k (omega arith) (omega arith) ∙ ap (λ qs. after qs (told_from e m c t more)) ps
told_answers e (line ∷ lines) more n b m c s t pieces h i f =
    on_answers (outcome e b s line) (λ next. answers_from e (b + length line) next lines) (λ next. told_from e (n + 1) (b + length line) next (lines ++ more)) (told_from e m c t more) n s t
    (λ next ps k. told_answers e lines more (n + 1) (b + length line) m c next t ps k (omega arith) (omega (arith, length-append line (joined lines)))) pieces h

on_append : (o : Outcome) (first both : Run → Option (List Piece × Run)) (x y : List Piece) (s t u : Run) → ((next : Run) (ps : List Piece) → first next ≡ Some (ps, t) → both next ≡ Some (ps ++ y, u)) → answers_on s o first ≡ Some (x, t) → answers_on s o both ≡ Some (x ++ y, u)
on_append (Stops fault) first both x y s t u ih h = absurd cc
on_append Silent first both x y s t u ih h = ih s x h
on_append (Answers call answer next) first both x y s t u ih h =
    let q = mapped _ (first next) (x, t) h in
    let p : answer_piece call answer next ∷ q.0.0 ≡ x = ap (λ (z : List Piece × Run). z.0) q.2 in
    let r : q.0.1 ≡ t = ap (λ (z : List Piece × Run). z.1) q.2 in
    let e : first next ≡ Some (q.0.0, t) = q.1 ∙ ap (λ v. Some (q.0.0, v)) r in
    ap (option_map (λ (z : List Piece × Run). (answer_piece call answer next ∷ z.0, z.1))) (ih next q.0.0 e) ∙ ap (λ ps. Some (ps ++ y, u)) p

-- the answers to more lines
pub answers_append : (e : Rules) (ls ms : List (List ℕ)) (b c : ℕ) (s t u : Run) (x y : List Piece) → answers_from e b s ls ≡ Some (x, t) → answers_from e c t ms ≡ Some (y, u) → c ≡ b + length (joined ls) → answers_from e b s (ls ++ ms) ≡ Some (x ++ y, u)
answers_append e [] ms b c s t u x y h k i =
    let r : s ≡ t = ap (λ (z : List Piece × Run). z.1) (some_same h) in
    let ps : [] ≡ x = ap (λ (z : List Piece × Run). z.0) (some_same h) in
    let f : b ≡ c = omega arith in
    ap (λ v. answers_from e b v ms) r ∙ ap (λ n. answers_from e n t ms) f ∙ k ∙ ap (λ qs. Some (qs ++ y, u)) ps
answers_append e (l ∷ ls) ms b c s t u x y h k i =
    on_append (outcome e b s l) (λ next. answers_from e (b + length l) next ls) (λ next. answers_from e (b + length l) next (ls ++ ms)) x y s t u
    (λ next ps g. answers_append e ls ms (b + length l) c next t u ps y g k (omega (arith, length-append l (joined ls)))) h

-- ---- the run behind pieces

on_ends : (o : Outcome) (answers : Run → Option (List Piece × Run)) (s t : Run) → ((next : Run) (ps : List Piece) → answers next ≡ Some (ps, t) → t ≡ run_after next ps) → (pieces : List Piece) → answers_on s o answers ≡ Some (pieces, t) → t ≡ run_after s pieces
on_ends (Stops fault) answers s t ih pieces h = absurd cc
on_ends Silent answers s t ih pieces h = ih s pieces h
on_ends (Answers call answer next) answers s t ih pieces h =
    let q = mapped _ (answers next) (pieces, t) h in
    let p : answer_piece call answer next ∷ q.0.0 ≡ pieces = ap (λ (x : List Piece × Run). x.0) q.2 in
    let r : q.0.1 ≡ t = ap (λ (x : List Piece × Run). x.1) q.2 in
    ih next q.0.0 (q.1 ∙ ap (λ u. Some (q.0.0, u)) r) ∙ ap (run_after s) p

-- of the answers to lines it is the run after them
pub answers_end : (e : Rules) (lines : List (List ℕ)) (b : ℕ) (s t : Run) (pieces : List Piece) → answers_from e b s lines ≡ Some (pieces, t) → t ≡ run_after s pieces
answers_end e [] b s t pieces h =
    sym (ap (λ (x : List Piece × Run). x.1) (some_same h)) ∙ ap (λ (x : List Piece × Run). run_after s x.0) (some_same h)
answers_end e (line ∷ lines) b s t pieces h =
    on_ends (outcome e b s line) (λ next. answers_from e (b + length line) next lines) s t (λ next ps k. answers_end e lines (b + length line) next t ps k) pieces h

-- the run that stands in the end is the one behind all that is told
abbrev EndsItself : Run → Told → Type 0
EndsItself s t = t.run ≡ run_after s t.pieces

lines_stand : (s : Run) (lines : List (List ℕ)) → s ≡ run_after s (map (line_piece s) lines)
lines_stand s [] = refl
lines_stand s (line ∷ lines) = lines_stand s lines

told_on_ends : (n : ℕ) (s : Run) (o : Outcome) (rest : Run → Told) → ((next : Run) → EndsItself next (rest next)) → EndsItself s (told_on n s o rest)
told_on_ends n s (Answers call answer next) rest ih = ih next
told_on_ends n s Silent rest ih = ih s
told_on_ends n s (Stops fault) rest ih = refl

pub told_ends : (e : Rules) (lines : List (List ℕ)) (n b : ℕ) (s : Run) → EndsItself s (told_from e n b s lines)
told_ends e [] n b s = lines_stand s (report_of e s)
told_ends e (line ∷ lines) n b s =
    told_on_ends n s (outcome e b s line) (λ next. told_from e (n + 1) (b + length line) next lines) (λ next. told_ends e lines (n + 1) (b + length line) next)
