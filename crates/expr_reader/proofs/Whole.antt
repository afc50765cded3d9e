-- The descent answers what the definitions say: trees exactly where the text is accepted, and faults exactly where they stand.
use Rattle.std.proofs.Common.{◌≡◌, ℕ, suc, ◌+◌, ◌≤◌, Bool, true, false, cond, List, [], ◌∷◌, length, map, Option, Some, None, Result, Ok, Err, refl, sym, ◌∙◌, ap, subst, inl, inr, ◌⊎◌, arith, append-nil}
use Rattle.std.specs.Prelude.{IfOk, IfErr}
use Rattle.std.proofs.lemmas.Bool.{lt-leb}
use Rattle.std.proofs.lemmas.List.{length-map}
use Rattle.expr_reader.specs.declared.fault.ExprFault.{ExprFault}
use Rattle.expr_reader.specs.declared.fault.ExprFault.TheVariants.{Syntax, NumberTooLarge, TooDeep, BadParameter, NeedsAlignment, NoMemory}
use Rattle.expr_reader.specs.declared.token.Token.{Token}
use Rattle.expr_reader.specs.declared.tree.Expr.{Expr}
use Rattle.expr_reader.specs.Tokens.{Placed, tokens}
use Rattle.expr_reader.specs.Trees.{Tree, tree_of, leaf, node, Args, last, number, choice, layer}
use Rattle.expr_reader.specs.declared.signature.Signature.{Signature}
use Rattle.expr_reader.specs.Signatures.{takes, inner, after_number, after_choice, after_layer}
use Rattle.expr_reader.specs.Grammar.{Spells, Fits, FitsIn, depth, greatest_depth}
use Rattle.expr_reader.specs.Flaws.{flaws, first_told, first_of_two, goes_before, starts, size}
use Rattle.expr_reader.specs.Faults.{most_layers, FirstFault}
use Rattle.expr_reader.specs.Answers.{Reads, IsAccepted, HasFault, IsReadAs, EachTextIsReadOnce, IsFaultOrNoMemory, FailsWith, Gives}
use Rattle.expr_reader.specs.Descent.{◌>>=◌, seen, tree_at, ending, whole_at, judged, answer_to, Answers}
use Rattle.expr_reader.proofs.Machine.{tree, go, finish, go_tree, Unopposed, UnopposedIn}
use Rattle.expr_reader.proofs.Agreeing.{fits-large, spells_length, TreeGood, tree_outcome}
use Rattle.expr_reader.proofs.Unique.{spells_unique}
use Rattle.expr_reader.proofs.Firsts.{large, deep, first_state, finds, is_found}

-- a tree within the limits meets no objection
mutual
  unopposed : (e : Tree) (above : ℕ) → Fits e → above + depth e ≤ most_layers → Unopposed large deep e above
  unopposed (leaf at k) above fits low = tt
  unopposed (node at k args) above fits low = (lt-leb most_layers above (omega arith), unopposed_in args (inner (takes k)) (suc above) fits (omega arith))

  unopposed_in : (args : Args) (s : Option Signature) (above : ℕ) → FitsIn args s → above + greatest_depth args ≤ most_layers → UnopposedIn large deep args above
  unopposed_in (last e) s above fits low = unopposed e above fits.1 low
  unopposed_in (number n args) s above fits low = (fits-large n fits.0, unopposed_in args (after_number s) above fits.1 low)
  unopposed_in (choice c args) s above fits low = unopposed_in args (after_choice c s) above fits low
  unopposed_in (layer e args) s above fits low = (unopposed e above fits.0 (omega (arith, low)), unopposed_in args (after_layer s) above fits.1 (omega (arith, low)))

-- where the text reads, the machine finds no fault
no_fault : (text : List ℕ) (e : Tree) → Reads text e → finish (length text) (go large deep (tree ∷ []) (tokens text)) ≡ None
unfolding go
no_fault text e reads =
    let past = go_tree large deep e (tokens text) [] [] reads.spelled (unopposed e 0 reads.fits (omega (arith, reads.shallow))) in
    ap (finish (length text)) (ap (go large deep (tree ∷ [])) (sym (append-nil (tokens text))) ∙ past)

none_some : {A : Type 0} (f : ExprFault) (o : Option ExprFault) → o ≡ None → o ≡ Some f → A
none_some f o e g = absurd cc

-- a text that reads has no fault of reading
reads_or_fault : {A : Type 0} (text : List ℕ) (e : Tree) (f : ExprFault) → Reads text e → FirstFault [] (tokens text) (length text) f → A
reads_or_fault text e f reads first = none_some f _ (no_fault text e reads) (is_found (tokens text) [] (tree ∷ []) (length text) f first_state first)

-- what the descent over the whole text comes to
abbrev Verdict : List ℕ → Result Tree ExprFault → Type 0
Verdict text answer =
    ((e : Tree) × (answer ≡ Ok e) × Reads text e)
    ⊎ ((f : ExprFault) × (answer ≡ Err f) × FirstFault [] (tokens text) (length text) f)

verdict_good : (text : List ℕ) (x : Tree) (back : List Placed) (answer : Result (Tree × List Token) ExprFault) → answer ≡ Ok (x, map seen back) → TreeGood most_layers (tokens text) x back
    → go large deep (tree ∷ []) (tokens text) ≡ go large deep [] back → Verdict text (answer >>= λ x. ending x.0 x.1)
unfolding go
verdict_good text x [] answer e good past =
    inl (
      x,
      ap (λ (r : Result (Tree × List Token) ExprFault). r >>= λ x. ending x.0 x.1) e,
      record { spelled = subst (Spells x) (sym (good.parts ∙ append-nil good.front)) good.spelled; fits = good.fits; shallow = good.shallow },
    )
verdict_good text x (b ∷ bs) answer e good past =
    inr (
      Syntax b.at,
      ap (λ (r : Result (Tree × List Token) ExprFault). r >>= λ x. ending x.0 x.1) e,
      finds (tokens text) [] (tree ∷ []) (length text) (Syntax b.at) first_state (ap (finish (length text)) past),
    )

verdict : (text : List ℕ) → Verdict text (whole_at (length text) (map seen (tokens text)))
verdict text = elim (tree_outcome (length text) most_layers 0 refl (tokens text)) [
  | inl o ↦ verdict_good text o.0 o.1 (tree_at most_layers (length text) (map seen (tokens text))) o.2 o.3 (o.4 [] refl)
  | inr o ↦ inr (o.0, ap (λ (r : Result (Tree × List Token) ExprFault). r >>= λ x. ending x.0 x.1) o.1, finds (tokens text) [] (tree ∷ []) (length text) o.0 first_state (o.2 [] refl))
]

-- the tree that the descent finds in the whole row is what the text reads as
pub found_reads : (text : List ℕ) (e : Tree) → whole_at (length text) (map seen (tokens text)) ≡ Ok e → Reads text e
found_reads text e h = elim (verdict text) [
  | inl v ↦ (let same : v.0 ≡ e = oks v.0 e (whole_at (length text) (map seen (tokens text))) v.1 h in subst (Reads text) same v.2)
  | inr v ↦ ok_err e v.0 (whole_at (length text) (map seen (tokens text))) h v.1
]
  where
    oks : (e t : Tree) (answer : Result Tree ExprFault) → answer ≡ Ok e → answer ≡ Ok t → e ≡ t
    oks e t answer g h = cc

    ok_err : {A : Type 0} (t : Tree) (f : ExprFault) (answer : Result Tree ExprFault) → answer ≡ Ok t → answer ≡ Err f → A
    ok_err t f answer e h = absurd cc

one_reading : (text : List ℕ) (e e' : Tree) → Reads text e → Reads text e' → e ≡ e'
one_reading text e e' r r' = (spells_unique e e' (tokens text) (tokens text) [] [] r.spelled r'.spelled refl).0

told_none : (fs : List ExprFault) → None ≡ first_told fs → fs ≡ []
told_none [] e = refl
told_none (f ∷ fs) e = absurd (two f (first_told fs) e)
  where
    chosen : (b : Bool) (f g : ExprFault) → (let o : Option ExprFault = None in o ≡ cond b (Some g) (Some f)) → ⊥
    chosen true f g e = cc
    chosen false f g e = cc

    two : (f : ExprFault) (o : Option ExprFault) → None ≡ first_of_two (Some f) o → ⊥
    two f None e = cc
    two f (Some g) e = chosen (goes_before g f) f g e

-- ---- what is answered is right

-- the flaw that is told of a tree that the text spells
abbrev flaw_in : List ℕ → Tree → Option ExprFault
flaw_in text e = first_told (flaws None e (starts (tokens text)))

-- what the text's tree is answered by
abbrev answer_by : List ℕ → Result Tree ExprFault → Result Tree ExprFault
answer_by text r = r >>= λ e. judged (flaw_in text e) e

judged_right : (text : List ℕ) (e : Tree) (o : Option ExprFault) (answer : Result Tree ExprFault) → Reads text e → flaw_in text e ≡ o → answer ≡ judged o e
    → ((t : Tree) → answer ≡ Ok t → IsAccepted text t) × ((f : ExprFault) → answer ≡ Err f → HasFault text f)
judged_right text e None answer reads told is =
    (λ t h. let same : e ≡ t = oks e t (sym is ∙ h) in subst (IsAccepted text) same (record { reads = reads; flawless = told_none (flaws None e (starts (tokens text))) (sym told) }), λ f h. absurd (ok_err e f (sym is ∙ h)))
  where
    oks : (e t : Tree) → (let a : Result Tree ExprFault = Ok e in a ≡ Ok t) → e ≡ t
    oks e t h = cc

    ok_err : (e : Tree) (f : ExprFault) → (let a : Result Tree ExprFault = Ok e in a ≡ Err f) → ⊥
    ok_err e f h = cc
judged_right text e (Some g) answer reads told is =
    (λ t h. absurd (err_ok g t (sym is ∙ h)), λ f h. inr (e, reads, told ∙ ap Some (errs g f (sym is ∙ h))))
  where
    errs : (f g : ExprFault) → (let a : Result Tree ExprFault = Err f in a ≡ Err g) → f ≡ g
    errs f g h = cc

    err_ok : (f : ExprFault) (t : Tree) → (let a : Result Tree ExprFault = Err f in a ≡ Ok t) → ⊥
    err_ok f t h = cc

answers_right : (text : List ℕ) → ((t : Tree) → answer_to text ≡ Ok t → IsAccepted text t) × ((f : ExprFault) → answer_to text ≡ Err f → HasFault text f)
answers_right text = elim (verdict text) [
  | inl v ↦ judged_right text v.0 (flaw_in text v.0) (answer_to text) v.2 refl (ap (answer_by text) v.1)
  | inr v ↦ (
      let is : answer_to text ≡ Err v.0 = ap (answer_by text) v.1 in
      (λ t h. absurd (err_ok v.0 t (sym is ∙ h)), λ f h. inl (subst (FirstFault [] (tokens text) (length text)) (errs v.0 f (sym is ∙ h)) v.2)))
]
  where
    errs : (f g : ExprFault) → (let a : Result Tree ExprFault = Err f in a ≡ Err g) → f ≡ g
    errs f g h = cc

    err_ok : (f : ExprFault) (t : Tree) → (let a : Result Tree ExprFault = Err f in a ≡ Ok t) → ⊥
    err_ok f t h = cc

-- ---- what is right is answered

accepted_answered : (text : List ℕ) (t : Tree) → IsAccepted text t → answer_to text ≡ Ok t
accepted_answered text t accepted = elim (verdict text) [
  | inl v ↦ (
      let same : v.0 ≡ t = one_reading text v.0 t v.2 accepted.reads in
      ap (answer_by text) v.1 ∙ ap (λ e. judged (flaw_in text e) e) same ∙ ap (λ fs. judged (first_told fs) t) accepted.flawless)
  | inr v ↦ reads_or_fault text t v.0 accepted.reads v.2
]

flaw_answered : (text : List ℕ) (e : Tree) (f : ExprFault) → Reads text e → flaw_in text e ≡ Some f → answer_to text ≡ Err f
flaw_answered text e f reads told = elim (verdict text) [
  | inl v ↦ (
      let same : v.0 ≡ e = one_reading text v.0 e v.2 reads in
      ap (answer_by text) v.1 ∙ ap (λ e. judged (flaw_in text e) e) same ∙ ap (λ o. judged o e) told)
  | inr v ↦ reads_or_fault text e v.0 reads v.2
]

first_answered : (text : List ℕ) (f : ExprFault) → FirstFault [] (tokens text) (length text) f → answer_to text ≡ Err f
first_answered text f first = elim (verdict text) [
  | inl v ↦ reads_or_fault text v.0 f v.2 first
  | inr v ↦ (
      let found = is_found (tokens text) [] (tree ∷ []) (length text) f first_state first in
      let found' = is_found (tokens text) [] (tree ∷ []) (length text) v.0 first_state v.2 in
      ap (answer_by text) v.1 ∙ ap Err (somes v.0 f (sym found' ∙ found)))
]
  where
    somes : (f g : ExprFault) → (let o : Option ExprFault = Some f in o ≡ Some g) → f ≡ g
    somes f g h = cc

fault_answered : (text : List ℕ) (f : ExprFault) → HasFault text f → answer_to text ≡ Err f
fault_answered text f (inl first) = first_answered text f first
fault_answered text f (inr flaw) = flaw_answered text flaw.0 f flaw.1 flaw.2

-- ---- what the program does with a row of tokens

-- the tree that the program finds in the row is what the text reads as
pub row_reads : (text : List ℕ) (row : List Token) (e : Tree) → row ≡ map seen (tokens text) → whole_at (length text) row ≡ Ok e → Reads text e
row_reads text row e is h = found_reads text e (ap (whole_at (length text)) (sym is) ∙ h)

-- it takes no more tokens than the row has
pub row_size : (text : List ℕ) (row : List Token) (e : Tree) → row ≡ map seen (tokens text) → Reads text e → size e ≤ length row
row_size text row e is reads = omega (arith, spells_length e (tokens text) reads.spelled, length-map (tokens text) seen, ap length is)

starts_seen : (ts : List Placed) → map (λ (t : Token). t.at) (map seen ts) ≡ starts ts
starts_seen [] = refl
starts_seen (t ∷ ts) = ap (λ ps. t.at ∷ ps) (starts_seen ts)

-- the answer goes by the flaw that is told
pub row_answer : (text : List ℕ) (row again : List Token) (e : Tree) (o : Option ExprFault) → row ≡ map seen (tokens text) → again ≡ map seen (tokens text) → whole_at (length text) row ≡ Ok e
    → o ≡ first_told (flaws None e (map (λ (t : Token). t.at) again)) → answer_to text ≡ judged o e
row_answer text row again e o is same h told =
    ap (answer_by text) (ap (whole_at (length text)) (sym is) ∙ h)
    ∙ ap (λ o. judged o e) (sym (told ∙ ap (λ (r : List Token). first_told (flaws None e (map (λ (t : Token). t.at) r))) same ∙ ap (λ ps. first_told (flaws None e ps)) (starts_seen (tokens text))))

pub err_answers : (f : ExprFault) (r : Result Tree ExprFault) → r ≡ Err f → Answers tree_of (Err f) r
err_answers (Syntax at) r h = h
err_answers (NumberTooLarge at) r h = h
err_answers (TooDeep at) r h = h
err_answers (BadParameter at) r h = h
err_answers (NeedsAlignment at) r h = h
err_answers NoMemory r h = tt

-- ---- the clauses of read

read_ok : (text : List ℕ) (e : Expr) → Answers tree_of (Ok e) (answer_to text) → IsAccepted text (tree_of e)
read_ok text e h = (answers_right text).0 (tree_of e) h

read_err : (text : List ℕ) (f : ExprFault) → Answers tree_of (Err f) (answer_to text) → IsFaultOrNoMemory text f
read_err text (Syntax at) h = (answers_right text).1 (Syntax at) h
read_err text (NumberTooLarge at) h = (answers_right text).1 (NumberTooLarge at) h
read_err text (TooDeep at) h = (answers_right text).1 (TooDeep at) h
read_err text (BadParameter at) h = (answers_right text).1 (BadParameter at) h
read_err text (NeedsAlignment at) h = (answers_right text).1 (NeedsAlignment at) h
read_err text NoMemory h = tt

same_err : (f g : ExprFault) (answer : Result Tree ExprFault) → answer ≡ Err f → answer ≡ Err g → g ≡ f
same_err f g answer e h = cc

oks : (e t : Tree) (answer : Result Tree ExprFault) → answer ≡ Ok e → answer ≡ Ok t → t ≡ e
oks e t answer e' h = cc

ok_err : {A : Type 0} (t : Tree) (f : ExprFault) (answer : Result Tree ExprFault) → answer ≡ Ok t → answer ≡ Err f → A
ok_err t f answer e h = absurd cc

pub read_accepts : (text : List ℕ) (r : Result Expr ExprFault) → Answers tree_of r (answer_to text) → (t : Tree) → IsAccepted text t → Gives t r
read_accepts text (Ok e) h t a = oks t (tree_of e) (answer_to text) (accepted_answered text t a) h
read_accepts text (Err (Syntax at)) h t a = ok_err t (Syntax at) (answer_to text) (accepted_answered text t a) h
read_accepts text (Err (NumberTooLarge at)) h t a = ok_err t (NumberTooLarge at) (answer_to text) (accepted_answered text t a) h
read_accepts text (Err (TooDeep at)) h t a = ok_err t (TooDeep at) (answer_to text) (accepted_answered text t a) h
read_accepts text (Err (BadParameter at)) h t a = ok_err t (BadParameter at) (answer_to text) (accepted_answered text t a) h
read_accepts text (Err (NeedsAlignment at)) h t a = ok_err t (NeedsAlignment at) (answer_to text) (accepted_answered text t a) h
read_accepts text (Err NoMemory) h t a = refl

pub read_refuses : (text : List ℕ) (r : Result Expr ExprFault) → Answers tree_of r (answer_to text) → (f : ExprFault) → HasFault text f → FailsWith f r
read_refuses text (Ok e) h f k = ok_err (tree_of e) f (answer_to text) h (fault_answered text f k)
read_refuses text (Err (Syntax at)) h f k = inl (same_err f (Syntax at) (answer_to text) (fault_answered text f k) h)
read_refuses text (Err (NumberTooLarge at)) h f k = inl (same_err f (NumberTooLarge at) (answer_to text) (fault_answered text f k) h)
read_refuses text (Err (TooDeep at)) h f k = inl (same_err f (TooDeep at) (answer_to text) (fault_answered text f k) h)
read_refuses text (Err (BadParameter at)) h f k = inl (same_err f (BadParameter at) (answer_to text) (fault_answered text f k) h)
read_refuses text (Err (NeedsAlignment at)) h f k = inl (same_err f (NeedsAlignment at) (answer_to text) (fault_answered text f k) h)
read_refuses text (Err NoMemory) h f k = inr refl

pub read_sound : (text : List ℕ) (r : Result Expr ExprFault) → Answers tree_of r (answer_to text) → IfOk r (λ e. IsAccepted text (tree_of e)) × IfErr r (λ f. IsFaultOrNoMemory text f)
read_sound text (Ok e) h = (read_ok text e h, tt)
read_sound text (Err f) h = (tt, read_err text f h)

-- ---- each text is read once

-- what the descent answers is what the text is read as
pub answered_reads : (text : List ℕ) (r : Result Tree ExprFault) → answer_to text ≡ r → IsReadAs text r
answered_reads text (Ok e) h = (answers_right text).0 e h
answered_reads text (Err f) h = (answers_right text).1 f h

reads_answered : (text : List ℕ) (r : Result Tree ExprFault) → IsReadAs text r → answer_to text ≡ r
reads_answered text (Ok e) h = accepted_answered text e h
reads_answered text (Err f) h = fault_answered text f h

pub read_once : EachTextIsReadOnce
read_once text = (answer_to text, answered_reads text (answer_to text) refl, λ other h. sym (reads_answered text other h))
