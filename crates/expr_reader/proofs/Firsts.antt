-- The machine's first fault is the first fault of the row.
use Rattle.std.proofs.Common.{◌≡◌, ℕ, suc, ◌+◌, ◌≤◌, ◌^◌, Bool, true, false, cond, List, [], ◌∷◌, ◌++◌, Option, Some, None, Result, Ok, Err, refl, sym, ◌∙◌, ap, subst, inl, inr, ◌⊎◌, arith}
use Rattle.std.specs.Prelude.{nat_lt, nat_le, count_by, IsTrue}
use Rattle.std.proofs.lemmas.List.Sums.{sum_by-append}
use Rattle.std.proofs.lemmas.Bool.{ltb-true, ltb-false, leb-true, leb-false}
use Rattle.expr_reader.specs.declared.fault.ExprFault.{ExprFault}
use Rattle.expr_reader.specs.declared.fault.ExprFault.TheVariants.{Syntax, NumberTooLarge, TooDeep, BadParameter, NeedsAlignment, NoMemory}
use Rattle.expr_reader.specs.declared.token.Word.TheVariants.{Named, Chosen, Unknown}
use Rattle.expr_reader.specs.declared.token.Name.{Name}
use Rattle.expr_reader.specs.declared.signature.Signature.{Signature}
use Rattle.expr_reader.specs.declared.signature.Entry.{Entry}
use Rattle.expr_reader.specs.declared.signature.Entry.TheVariants.{Missing, Alone, Takes}
use Rattle.expr_reader.specs.Signatures.{takes, after_number, after_choice, after_layer, ends}
use Rattle.expr_reader.specs.declared.token.Mark.{Mark}
use Rattle.expr_reader.specs.declared.token.Mark.TheVariants.{Open, Comma, Close}
use Rattle.expr_reader.specs.Tokens.{Placed, Meaning, word, mark, stray}
use Rattle.expr_reader.specs.Tokens as meaning
use Rattle.expr_reader.specs.Grammar.{IsViable}
use Rattle.expr_reader.specs.Faults.{IsTooLarge, is_inner, is_layer, is_close, layers_above, most_layers, IsOneTooMany, StopsAt, Stands, FirstFault}
use Rattle.expr_reader.specs.Descent.{same_mark}
use Rattle.expr_reader.proofs.Machine.{Symbol, tree, this, rest, opened, goes_on, behind_tree, under, onto, step, closes, deep_objection, objection, go, finish, never, go_past, closes-behind, onto-under}
use Rattle.expr_reader.proofs.Viability.{and_go, go_append, viable_from, viable_goes, sentence_from, sentence_goes}

-- the limits of reading
abbrev pub large : ℕ → Bool
large n = cond (nat_lt n (2 ^ 64)) false true

abbrev pub deep : ℕ → Bool
deep above = nat_le most_layers above

-- ---- one reason is enough

too_large_word : (before : List Placed) (k : Meaning) → IsTooLarge k → IsOneTooMany before k → ⊥
too_large_word before (word w) h g = h
too_large_word before (meaning.number n) h g = absurd cc
too_large_word before (mark m) h g = h
too_large_word before stray h g = h

stops_unique : (before : List Placed) (t : Placed) (f g : ExprFault) → StopsAt before t f → StopsAt before t g → f ≡ g
stops_unique before t (Syntax at) (Syntax at') h k = ap Syntax (h.0 ∙ sym k.0)
stops_unique before t (Syntax at) (NumberTooLarge at') h k = absurd (h.1 k.1)
stops_unique before t (Syntax at) (TooDeep at') h k = absurd (h.1 k.1)
stops_unique before t (Syntax at) (BadParameter at') h k = absurd k
stops_unique before t (Syntax at) (NeedsAlignment at') h k = absurd k
stops_unique before t (Syntax at) NoMemory h k = absurd k
stops_unique before t (NumberTooLarge at) (Syntax at') h k = absurd (k.1 h.1)
stops_unique before t (NumberTooLarge at) (NumberTooLarge at') h k = ap NumberTooLarge (h.0 ∙ sym k.0)
stops_unique before t (NumberTooLarge at) (TooDeep at') h k = absurd (too_large_word before t.meaning h.2 k.2)
stops_unique before t (NumberTooLarge at) (BadParameter at') h k = absurd k
stops_unique before t (NumberTooLarge at) (NeedsAlignment at') h k = absurd k
stops_unique before t (NumberTooLarge at) NoMemory h k = absurd k
stops_unique before t (TooDeep at) (Syntax at') h k = absurd (k.1 h.1)
stops_unique before t (TooDeep at) (NumberTooLarge at') h k = absurd (too_large_word before t.meaning k.2 h.2)
stops_unique before t (TooDeep at) (TooDeep at') h k = ap TooDeep (h.0 ∙ sym k.0)
stops_unique before t (TooDeep at) (BadParameter at') h k = absurd k
stops_unique before t (TooDeep at) (NeedsAlignment at') h k = absurd k
stops_unique before t (TooDeep at) NoMemory h k = absurd k
stops_unique before t (BadParameter at) g h k = absurd h
stops_unique before t (NeedsAlignment at) g h k = absurd h
stops_unique before t NoMemory g h k = absurd h

stops_stands : (before : List Placed) (t : Placed) (f : ExprFault) → StopsAt before t f → Stands before t → ⊥
stops_stands before t (Syntax at) h s = h.1 s.0
stops_stands before t (NumberTooLarge at) h s = s.1 h.2
stops_stands before t (TooDeep at) h s = s.2 h.2
stops_stands before t (BadParameter at) h s = h
stops_stands before t (NeedsAlignment at) h s = h
stops_stands before t NoMemory h s = h

-- ---- where the machine is behind some tokens that stand

pub record State (before : List Placed) (ss : List Symbol) : Type 0 where
  pub came : go never never (tree ∷ []) before ≡ Ok ss
  pub count : count_by (λ t. is_layer t.meaning) before ≡ count_by (λ t. is_close t.meaning) before + closes ss

pub first_state : State [] (tree ∷ [])
unfolding go
first_state = record { came = refl; count = refl }

one_if : Bool → ℕ
one_if b = cond b 1 0

-- a layer is opened by its word and closed by its mark
mark_count : (m n : Mark) (b : Bool) (ss more : List Symbol) → same_mark m n ≡ b → onto (cond b (Some []) None) ss ≡ Some more → closes more + one_if (is_close (mark n)) ≡ closes (this m ∷ ss) + 0
unfolding one_if
mark_count Open Open true ss more e h = let same : ss ≡ more = cc in omega (arith, ap closes same)
mark_count Comma Comma true ss more e h = let same : ss ≡ more = cc in omega (arith, ap closes same)
mark_count Close Close true ss more e h = let same : ss ≡ more = cc in omega (arith, ap closes same)
mark_count Open Comma b ss more e h = absurd cc
mark_count Open Close b ss more e h = absurd cc
mark_count Comma Open b ss more e h = absurd cc
mark_count Comma Close b ss more e h = absurd cc
mark_count Close Open b ss more e h = absurd cc
mark_count Close Comma b ss more e h = absurd cc
mark_count m n false ss more e h = absurd cc

opened_count : (o : Entry) (ss more : List Symbol) → onto (opened o) ss ≡ Some more → closes more ≡ closes ss + one_if (is_inner o)
unfolding one_if
opened_count Missing ss more h = absurd cc
opened_count Alone ss more h = let same : ss ≡ more = cc in omega (arith, ap closes same)
opened_count (Takes g) ss more h = let same : this Open ∷ rest g ∷ ss ≡ more = cc in omega (arith, ap closes same)

onto_count : (o : Option Signature) (ss more : List Symbol) → onto (goes_on o) ss ≡ Some more → closes more ≡ suc (closes ss)
onto_count None ss more h = absurd cc
onto_count (Some g) ss more h = let same : this Comma ∷ rest g ∷ ss ≡ more = cc in sym (ap closes same)

layer_count : (o : Option (List Symbol)) (p : Entry) (ss more : List Symbol) → ((xs : List Symbol) → o ≡ Some xs → closes (xs ++ ss) ≡ suc (closes ss)) → onto (under o (opened p)) ss ≡ Some more → closes more ≡ suc (closes ss) + one_if (is_inner p)
layer_count None p ss more below h = absurd cc
layer_count (Some xs) p ss more below h = omega (arith, opened_count p (xs ++ ss) more (sym (onto-under xs ss (opened p)) ∙ h), below xs refl)

step_count : (ss more : List Symbol) (k : Meaning) → step ss k ≡ Some more → closes more + one_if (is_close k) ≡ closes ss + one_if (is_layer k)
unfolding one_if
step_count [] more k h = absurd cc
step_count (tree ∷ ss) more (word (Named k)) h = omega (arith, opened_count (takes k) ss more h)
step_count (tree ∷ ss) more (word (Chosen c)) h = absurd cc
step_count (tree ∷ ss) more (word Unknown) h = absurd cc
step_count (tree ∷ ss) more (meaning.number n) h = absurd cc
step_count (tree ∷ ss) more (mark n) h = absurd cc
step_count (tree ∷ ss) more stray h = absurd cc
step_count (rest g ∷ ss) more (word (Named k)) h =
    omega (arith, layer_count (behind_tree (ends (Some g)) (after_layer (Some g))) (takes k) ss more (λ xs. closes-behind (ends (Some g)) (after_layer (Some g)) xs ss) h)
step_count (rest g ∷ ss) more (word (Chosen c)) h = omega (arith, onto_count (after_choice c (Some g)) ss more h)
step_count (rest g ∷ ss) more (word Unknown) h = absurd cc
step_count (rest g ∷ ss) more (meaning.number n) h = omega (arith, onto_count (after_number (Some g)) ss more h)
step_count (rest g ∷ ss) more (mark n) h = absurd cc
step_count (rest g ∷ ss) more stray h = absurd cc
step_count (this m ∷ ss) more (word w) h = absurd cc
step_count (this m ∷ ss) more (meaning.number n) h = absurd cc
step_count (this m ∷ ss) more (mark n) h = mark_count m n (same_mark m n) ss more refl h
step_count (this m ∷ ss) more stray h = absurd cc

count_push : (p : Placed → Bool) (xs : List Placed) (t : Placed) → count_by p (xs ++ t ∷ []) ≡ count_by p xs + one_if (p t)
unfolding one_if
count_push p xs t = omega (arith, sum_by-append (λ (x : Placed). cond (p x) 1 0) xs (t ∷ []))

-- ---- one token

no_objection : (above at : ℕ) (k : Meaning) → objection never never above at k ≡ None
no_objection above at (word (Named k)) = never_deep (takes k)
  where
    never_deep : (o : Entry) → deep_objection o false at ≡ None
    never_deep Missing = refl
    never_deep Alone = refl
    never_deep (Takes g) = refl
no_objection above at (word (Chosen c)) = refl
no_objection above at (word Unknown) = refl
no_objection above at (meaning.number n) = refl
no_objection above at (mark m) = refl
no_objection above at stray = refl

pushed : (before : List Placed) (ss : List Symbol) (t : Placed) → State before ss → go never never (tree ∷ []) (before ++ t ∷ []) ≡ go never never ss (t ∷ [])
pushed before ss t st = go_append never never before (t ∷ []) (tree ∷ []) ∙ ap (λ a. and_go never never a (t ∷ [])) st.came

-- no token stands where the machine takes none
not_viable : (before : List Placed) (ss : List Symbol) (t : Placed) → State before ss → step ss t.meaning ≡ None → IsViable (before ++ t ∷ []) → ⊥
not_viable before ss t st e v =
    let fails : go never never (tree ∷ []) (before ++ t ∷ []) ≡ Err (Syntax t.at) = pushed before ss t st ∙ go_past never never ss t [] None None e (no_objection (closes ss) t.at t.meaning) in
    let goes = viable_goes (before ++ t ∷ []) v in
    absurd (clash (Syntax t.at) goes.0 (sym fails ∙ goes.1))
  where
    clash : (f : ExprFault) (more : List Symbol) → (let a : Result (List Symbol) ExprFault = Err f in a ≡ Ok more) → ⊥
    clash f more e = cc

next_state : (before : List Placed) (ss more : List Symbol) (t : Placed) → State before ss → step ss t.meaning ≡ Some more → State (before ++ t ∷ []) more
unfolding go one_if
next_state before ss more t st e = record {
  came = pushed before ss t st ∙ go_past never never ss t [] (Some more) None e (no_objection (closes ss) t.at t.meaning);
  count = omega (arith, st.count, step_count ss more t.meaning e, count_push (λ t. is_layer t.meaning) before t, count_push (λ t. is_close t.meaning) before t);
}

above_is : (before : List Placed) (ss : List Symbol) → State before ss → closes ss ≡ layers_above before
above_is before ss st = omega (arith, st.count)

-- what is objected is a reason, and where nothing is objected there is none
Objected : (before : List Placed) (at : ℕ) (k : Meaning) → Option ExprFault → Type 0
Objected before at k (Some f) = (v : IsViable (before ++ record { at = at; meaning = k } ∷ [])) → StopsAt before (record { at = at; meaning = k }) f
Objected before at k None = (IsTooLarge k → ⊥) × (IsOneTooMany before k → ⊥)

objected_number : (before : List Placed) (at n : ℕ) (b : Bool) → nat_lt n (2 ^ 64) ≡ b → Objected before at (meaning.number n) (cond (cond b false true) (Some (NumberTooLarge at)) None)
unfolding Objected
objected_number before at n true e = (λ h. omega (arith, ltb-true n (2 ^ 64) e), λ h. absurd cc)
objected_number before at n false e = λ v. (refl, v, ltb-false n (2 ^ 64) e)

-- what is objected to a word with these parts
ObjectedWord : (before : List Placed) (at : ℕ) (k : Name) → Entry → Option ExprFault → Type 0
ObjectedWord before at k o (Some f) = (v : IsViable (before ++ record { at = at; meaning = word (Named k) } ∷ [])) → StopsAt before (record { at = at; meaning = word (Named k) }) f
ObjectedWord before at k o None = IsTrue (is_inner o) × (most_layers ≤ layers_above before) → ⊥

objected_word : (before : List Placed) (at : ℕ) (k : Name) (o : Entry) (b : Bool) → takes k ≡ o → nat_le most_layers (layers_above before) ≡ b → ObjectedWord before at k o (deep_objection o b at)
unfolding ObjectedWord
objected_word before at k Missing b is e = λ h. absurd cc
objected_word before at k Alone b is e = λ h. absurd cc
objected_word before at k (Takes g) true is e = λ v. (refl, v, (subst (λ o. IsTrue (is_inner o)) (sym is) refl, leb-true most_layers (layers_above before) e))
objected_word before at k (Takes g) false is e = λ h. omega (arith, leb-false most_layers (layers_above before) e, h.1)

objected_named : (before : List Placed) (at : ℕ) (k : Name) (p : Option ExprFault) → ObjectedWord before at k (takes k) p → Objected before at (word (Named k)) p
unfolding Objected ObjectedWord
objected_named before at k None h = (λ e. e, h)
objected_named before at k (Some f) h = h

objected : (before : List Placed) (at : ℕ) (k : Meaning) → Objected before at k (objection large deep (layers_above before) at k)
unfolding Objected
objected before at (word (Named k)) = objected_named before at k (deep_objection (takes k) (deep (layers_above before)) at) (objected_word before at k (takes k) (nat_le most_layers (layers_above before)) refl refl)
objected before at (word (Chosen c)) = (λ h. h, λ h. absurd cc)
objected before at (word Unknown) = (λ h. h, λ h. absurd cc)
objected before at (meaning.number n) = objected_number before at n (nat_lt n (2 ^ 64)) refl
objected before at (mark m) = (λ h. h, λ h. absurd cc)
objected before at stray = (λ h. h, λ h. absurd cc)

-- a token stops the machine, for a reason, or stands
abbrev Token : (before : List Placed) (ss : List Symbol) (t : Placed) → Type 0
Token before ss t =
    ((f : ExprFault) × StopsAt before t f × ((ts : List Placed) → go large deep ss (t ∷ ts) ≡ Err f))
    ⊎ ((more : List Symbol) × Stands before t × State (before ++ t ∷ []) more × ((ts : List Placed) → go large deep ss (t ∷ ts) ≡ go large deep more ts))

stands_or_not : (before : List Placed) (ss more : List Symbol) (t : Placed) (p : Option ExprFault) → State before ss → step ss t.meaning ≡ Some more
    → objection large deep (closes ss) t.at t.meaning ≡ p → Objected before t.at t.meaning p → Token before ss t
unfolding Objected
stands_or_not before ss more t (Some f) st e h o =
    inl (f, o (viable_from (before ++ t ∷ []) more (next_state before ss more t st e).came), λ ts. go_past large deep ss t ts (Some more) (Some f) e h)
stands_or_not before ss more t None st e h o =
    inr (more, (viable_from (before ++ t ∷ []) more (next_state before ss more t st e).came, o.0, o.1), next_state before ss more t st e, λ ts. go_past large deep ss t ts (Some more) None e h)

token_by : (before : List Placed) (ss : List Symbol) (t : Placed) (o : Option (List Symbol)) → State before ss → step ss t.meaning ≡ o → Token before ss t
token_by before ss t None st e = inl (Syntax t.at, (refl, not_viable before ss t st e), λ ts. go_past large deep ss t ts None (objection large deep (closes ss) t.at t.meaning) e refl)
token_by before ss t (Some more) st e =
    stands_or_not before ss more t (objection large deep (layers_above before) t.at t.meaning) st e
    (ap (λ n. objection large deep n t.at t.meaning) (above_is before ss st)) (objected before t.at t.meaning)

token : (before : List Placed) (ss : List Symbol) (t : Placed) → State before ss → Token before ss t
token before ss t st = token_by before ss t (step ss t.meaning) st refl

-- ---- the row

at_end_finds : (before : List Placed) (ss : List Symbol) (end : ℕ) (f : ExprFault) → State before ss → finish end (Ok ss) ≡ Some f → FirstFault before [] end f
at_end_finds before [] end f st h = absurd cc
at_end_finds before (s ∷ ss) end f st h = (λ sentence. absurd (unlike s ss (sym (sentence_goes before sentence) ∙ st.came)), some_is f (Syntax end) (sym h))
  where
    unlike : (s : Symbol) (ss : List Symbol) → (let a : Result (List Symbol) ExprFault = Ok [] in a ≡ Ok (s ∷ ss)) → ⊥
    unlike s ss e = cc

    some_is : (f g : ExprFault) → (let o : Option ExprFault = Some f in o ≡ Some g) → f ≡ g
    some_is f g e = cc

some_same : (f g : ExprFault) → (let o : Option ExprFault = Some f in o ≡ Some g) → f ≡ g
some_same f g e = cc

pub finds : (row before : List Placed) (ss : List Symbol) (end : ℕ) (f : ExprFault) → State before ss → finish end (go large deep ss row) ≡ Some f → FirstFault before row end f
unfolding go
finds [] before ss end f st h = at_end_finds before ss end f st h
finds (t ∷ ts) before ss end f st h = elim (token before ss t st) [
  | inl k ↦ inl (subst (λ (g : ExprFault). StopsAt before t g) (some_same k.0 f (sym (ap (finish end) (k.2 ts)) ∙ h)) k.1)
  | inr k ↦ inr (k.1, finds ts (before ++ t ∷ []) k.0 end f k.2 (sym (ap (finish end) (k.3 ts)) ∙ h))
]

at_end_found : (before : List Placed) (ss : List Symbol) (end : ℕ) (f : ExprFault) → State before ss → FirstFault before [] end f → finish end (Ok ss) ≡ Some f
at_end_found before [] end f st h = absurd (h.0 (sentence_from before st.came))
at_end_found before (s ∷ ss) end f st h = ap Some (sym h.1)

pub is_found : (row before : List Placed) (ss : List Symbol) (end : ℕ) (f : ExprFault) → State before ss → FirstFault before row end f → finish end (go large deep ss row) ≡ Some f
unfolding go
is_found [] before ss end f st h = at_end_found before ss end f st h
is_found (t ∷ ts) before ss end f st (inl stops) = elim (token before ss t st) [
  | inl k ↦ ap (finish end) (k.2 ts) ∙ ap Some (stops_unique before t k.0 f k.1 stops)
  | inr k ↦ absurd (stops_stands before t f stops k.1)
]
is_found (t ∷ ts) before ss end f st (inr more) = elim (token before ss t st) [
  | inl k ↦ absurd (stops_stands before t k.0 k.1 more.0)
  | inr k ↦ ap (finish end) (k.3 ts) ∙ is_found ts (before ++ t ∷ []) k.0 end f k.2 more.1
]
