-- Fronts of sentences are the rows that the machine goes past, and sentences those after which nothing must come.
use Rattle.std.proofs.Common.{◌≡◌, ℕ, zero, suc, Bool, true, false, List, [], ◌∷◌, ◌++◌, Option, Some, None, Result, Ok, Err, refl, sym, ◌∙◌, ap, subst, append_assoc, append-nil}
use Rattle.expr_reader.specs.declared.fault.ExprFault.{ExprFault}
use Rattle.expr_reader.specs.declared.fault.ExprFault.TheVariants.{Syntax}
use Rattle.expr_reader.specs.declared.token.Name.{Name}
use Rattle.expr_reader.specs.declared.token.Name.TheVariants as name
use Rattle.expr_reader.specs.declared.token.Choice.{Choice}
use Rattle.expr_reader.specs.declared.token.Word.TheVariants.{Named, Chosen, Unknown}
use Rattle.expr_reader.specs.declared.token.Mark.{Mark}
use Rattle.expr_reader.specs.declared.token.Mark.TheVariants.{Open, Comma, Close}
use Rattle.expr_reader.specs.declared.signature.Signature.{Signature}
use Rattle.expr_reader.specs.declared.signature.Entry.{Entry}
use Rattle.expr_reader.specs.declared.signature.Entry.TheVariants.{Missing, Alone, Takes}
use Rattle.expr_reader.specs.Signatures.{takes, inner, after_number, after_choice, after_layer, ends}
use Rattle.expr_reader.specs.Tokens.{Placed, Meaning, word, mark, stray}
use Rattle.expr_reader.specs.Tokens as meaning
use Rattle.expr_reader.specs.Trees.{Tree, leaf, node, Args, last, number, choice, layer}
use Rattle.expr_reader.specs.Grammar.{Spells, Fills, IsSentence, IsViable}
use Rattle.expr_reader.specs.Descent.{same_mark}
use Rattle.expr_reader.proofs.Machine.{Symbol, tree, this, rest, opened, goes_on, behind_tree, under, onto, step, closes, objection, go, never, same_mark-is, Unopposed, UnopposedIn, go_past, go_mark, go_other_mark, go_number, go_choice, go_leaf, go_node, go_layer, go_tree}

-- the row is spelled by these symbols, one after another
abbrev pub Derives : List Symbol → List Placed → Type 0
Derives [] row = row ≡ []
Derives (tree ∷ ss) row = (front back : List Placed) × (row ≡ front ++ back) × IsSentence front × Derives ss back
Derives (rest g ∷ ss) row = (front back : List Placed) × (row ≡ front ++ back) × ((args : Args) × Fills args (Some g) front) × Derives ss back
Derives (this m ∷ ss) [] = ⊥
Derives (this m ∷ ss) (t ∷ ts) = (t.meaning ≡ mark m) × Derives ss ts

leaf_derives : (at : ℕ) (k : Name) (row : List Placed) (ss : List Symbol) → takes k ≡ Alone → Derives ss row → Derives (tree ∷ ss) (record { at = at; meaning = word (Named k) } ∷ row)
leaf_derives at k row ss none d = (record { at = at; meaning = word (Named k) } ∷ [], row, refl, (leaf at k, (refl, none, (refl, refl))), d)

node_derives : (at : ℕ) (k : Name) (g : Signature) (row : List Placed) (ss : List Symbol) → takes k ≡ Takes g → Derives (this Open ∷ rest g ∷ ss) row → Derives (tree ∷ ss) (record { at = at; meaning = word (Named k) } ∷ row)
node_derives at k g [] ss some d = absurd d
node_derives at k g (o ∷ row) ss some d =
    let below = d.1 in (
      record { at = at; meaning = word (Named k) } ∷ o ∷ below.0,
      below.1,
      ap (λ (r : List Placed). record { at = at; meaning = word (Named k) } ∷ o ∷ r) below.2,
      (node at k below.3.0, (refl, (refl, (d.0, subst (λ s. Fills below.3.0 (inner s) below.0) (sym some) below.3.1)))),
      below.4,
    )

number_derives : (at n : ℕ) (g g' : Signature) (row : List Placed) (ss : List Symbol) → after_number (Some g) ≡ Some g' → Derives (this Comma ∷ rest g' ∷ ss) row → Derives (rest g ∷ ss) (record { at = at; meaning = meaning.number n } ∷ row)
number_derives at n g g' [] ss some d = absurd d
number_derives at n g g' (c ∷ row) ss some d =
    let below = d.1 in (
      record { at = at; meaning = meaning.number n } ∷ c ∷ below.0,
      below.1,
      ap (λ (r : List Placed). record { at = at; meaning = meaning.number n } ∷ c ∷ r) below.2,
      (number n below.3.0, (refl, (d.0, subst (λ s. Fills below.3.0 s below.0) (sym some) below.3.1))),
      below.4,
    )

choice_derives : (at : ℕ) (d : Choice) (g g' : Signature) (row : List Placed) (ss : List Symbol) → after_choice d (Some g) ≡ Some g' → Derives (this Comma ∷ rest g' ∷ ss) row → Derives (rest g ∷ ss) (record { at = at; meaning = word (Chosen d) } ∷ row)
choice_derives at c g g' [] ss some d = absurd d
choice_derives at c g g' (o ∷ row) ss some d =
    let below = d.1 in (
      record { at = at; meaning = word (Chosen c) } ∷ o ∷ below.0,
      below.1,
      ap (λ (r : List Placed). record { at = at; meaning = word (Chosen c) } ∷ o ∷ r) below.2,
      (choice c below.3.0, (refl, (d.0, subst (λ s. Fills below.3.0 s below.0) (sym some) below.3.1))),
      below.4,
    )

last_derives_by : (e : Tree) (g : Signature) (row front back : List Placed) (ss : List Symbol) → ends (Some g) ≡ true → row ≡ front ++ back → Spells e front → Derives (this Close ∷ ss) back → Derives (rest g ∷ ss) row
last_derives_by e g row front [] ss end is spelled d = absurd d
last_derives_by e g row front (z ∷ zs) ss end is spelled d =
    (front ++ z ∷ [], zs, is ∙ sym (append_assoc front (z ∷ []) zs), (last e, (end, (front, z ∷ [], refl, spelled, (d.0, refl)))), d.1)

layer_derives_by : (e : Tree) (g g' : Signature) (row front back : List Placed) (ss : List Symbol) → after_layer (Some g) ≡ Some g' → row ≡ front ++ back → Spells e front → Derives (this Comma ∷ rest g' ∷ ss) back → Derives (rest g ∷ ss) row
layer_derives_by e g g' row front [] ss some is spelled d = absurd d
layer_derives_by e g g' row front (c ∷ more) ss some is spelled d =
    let below = d.1 in (
      front ++ c ∷ below.0,
      below.1,
      is ∙ ap (λ (r : List Placed). front ++ c ∷ r) below.2 ∙ sym (append_assoc front (c ∷ below.0) below.1),
      (layer e below.3.0, (front, c ∷ below.0, refl, spelled, (d.0, subst (λ s. Fills below.3.0 s below.0) (sym some) below.3.1))),
      below.4,
    )

-- a layer with what comes behind it
rest_derives : (b : Bool) (o : Option Signature) (g : Signature) (xs ss : List Symbol) (row : List Placed) → ends (Some g) ≡ b → after_layer (Some g) ≡ o → behind_tree b o ≡ Some xs → Derives (tree ∷ (xs ++ ss)) row → Derives (rest g ∷ ss) row
rest_derives true o g xs ss row end more e d =
    let same : xs ≡ this Close ∷ [] = cc in
    let h = subst (λ (ys : List Symbol). Derives (tree ∷ (ys ++ ss)) row) same d in
    last_derives_by h.3.0 g row h.0 h.1 ss end h.2 h.3.1 h.4
rest_derives false None g xs ss row end more e d = absurd cc
rest_derives false (Some g') g xs ss row end more e d =
    let same : xs ≡ this Comma ∷ rest g' ∷ [] = cc in
    let h = subst (λ (ys : List Symbol). Derives (tree ∷ (ys ++ ss)) row) same d in
    layer_derives_by h.3.0 g g' row h.0 h.1 ss more h.2 h.3.1 h.4

ok_same : (ss more : List Symbol) (answer : Result (List Symbol) ExprFault) → answer ≡ Ok ss → answer ≡ Ok more → ss ≡ more
ok_same ss more answer e f = cc

err_ok : {A : Type 0} (f : ExprFault) (ss : List Symbol) (answer : Result (List Symbol) ExprFault) → answer ≡ Err f → answer ≡ Ok ss → A
err_ok f ss answer e g = absurd cc

mark_derives : (m n : Mark) (b : Bool) (at : ℕ) (ss end : List Symbol) (row left : List Placed) → same_mark m n ≡ b
    → ((more : List Symbol) → go never never more row ≡ Ok end → Derives more (row ++ left))
    → go never never (this m ∷ ss) (record { at = at; meaning = mark n } ∷ row) ≡ Ok end → Derives (this m ∷ ss) (record { at = at; meaning = mark n } ∷ (row ++ left))
mark_derives m n true at ss end row left e below h =
    (ap mark (same_mark-is m n e), below ss (sym (go_mark never never m ss (record { at = at; meaning = mark n }) row (ap mark (same_mark-is m n e))) ∙ h))
mark_derives m n false at ss end row left e below h = err_ok (Syntax at) end _ (go_other_mark never never m n ss at row e) h

abbrev Below : (end : List Symbol) (row rest : List Placed) → Type 0
Below end row more = (ss : List Symbol) → go never never ss row ≡ Ok end → Derives ss (row ++ more)

fails : (ss end : List Symbol) (t : Placed) (row : List Placed) {A : Type 0} → step ss t.meaning ≡ None → go never never ss (t ∷ row) ≡ Ok end → A
fails ss end t row e h = err_ok (Syntax t.at) end _ (go_past never never ss t row None _ e refl) h

tree_one : (o : Entry) (k : Name) (ss end : List Symbol) (at : ℕ) (row more : List Placed) → takes k ≡ o → Below end row more
    → go never never (tree ∷ ss) (record { at = at; meaning = word (Named k) } ∷ row) ≡ Ok end → Derives (tree ∷ ss) (record { at = at; meaning = word (Named k) } ∷ (row ++ more))
tree_one Missing k ss end at row more e below h = fails (tree ∷ ss) end (record { at = at; meaning = word (Named k) }) row (ap (λ o. onto (opened o) ss) e) h
tree_one Alone k ss end at row more e below h = leaf_derives at k (row ++ more) ss e (below ss (sym (go_leaf never never k ss (record { at = at; meaning = word (Named k) }) row refl e) ∙ h))
tree_one (Takes g) k ss end at row more e below h =
    node_derives at k g (row ++ more) ss e (below (this Open ∷ rest g ∷ ss) (sym (go_node never never k g ss (record { at = at; meaning = word (Named k) }) row refl e refl) ∙ h))

number_one : (o : Option Signature) (g : Signature) (n : ℕ) (ss end : List Symbol) (at : ℕ) (row more : List Placed) → after_number (Some g) ≡ o → Below end row more
    → go never never (rest g ∷ ss) (record { at = at; meaning = meaning.number n } ∷ row) ≡ Ok end → Derives (rest g ∷ ss) (record { at = at; meaning = meaning.number n } ∷ (row ++ more))
number_one None g n ss end at row more e below h = fails (rest g ∷ ss) end (record { at = at; meaning = meaning.number n }) row (ap (λ o. onto (goes_on o) ss) e) h
number_one (Some g') g n ss end at row more e below h =
    number_derives at n g g' (row ++ more) ss e (below (this Comma ∷ rest g' ∷ ss) (sym (go_number never never n g g' ss (record { at = at; meaning = meaning.number n }) row refl refl e) ∙ h))

choice_one : (o : Option Signature) (g : Signature) (c : Choice) (ss end : List Symbol) (at : ℕ) (row more : List Placed) → after_choice c (Some g) ≡ o → Below end row more
    → go never never (rest g ∷ ss) (record { at = at; meaning = word (Chosen c) } ∷ row) ≡ Ok end → Derives (rest g ∷ ss) (record { at = at; meaning = word (Chosen c) } ∷ (row ++ more))
choice_one None g c ss end at row more e below h = fails (rest g ∷ ss) end (record { at = at; meaning = word (Chosen c) }) row (ap (λ o. onto (goes_on o) ss) e) h
choice_one (Some g') g c ss end at row more e below h =
    choice_derives at c g g' (row ++ more) ss e (below (this Comma ∷ rest g' ∷ ss) (sym (go_choice never never c g g' ss (record { at = at; meaning = word (Chosen c) }) row refl e) ∙ h))

layer_one : (o : Option (List Symbol)) (g : Signature) (k : Name) (ss end : List Symbol) (at : ℕ) (row more : List Placed) → behind_tree (ends (Some g)) (after_layer (Some g)) ≡ o → Below end row more
    → go never never (rest g ∷ ss) (record { at = at; meaning = word (Named k) } ∷ row) ≡ Ok end → Derives (rest g ∷ ss) (record { at = at; meaning = word (Named k) } ∷ (row ++ more))
layer_one None g k ss end at row more e below h = fails (rest g ∷ ss) end (record { at = at; meaning = word (Named k) }) row (ap (λ o. onto (under o (opened (takes k))) ss) e) h
layer_one (Some xs) g k ss end at row more e below h =
    rest_derives (ends (Some g)) (after_layer (Some g)) g xs ss (record { at = at; meaning = word (Named k) } ∷ (row ++ more)) refl refl e
    (tree_one (takes k) k (xs ++ ss) end at row more refl below (sym (go_layer never never k g xs ss (record { at = at; meaning = word (Named k) }) row refl e) ∙ h))

derives_one : (ss end : List Symbol) (at : ℕ) (k : Meaning) (row more : List Placed) → Below end row more
    → go never never ss (record { at = at; meaning = k } ∷ row) ≡ Ok end → Derives ss (record { at = at; meaning = k } ∷ (row ++ more))
unfolding go
derives_one [] end at k row more below h = absurd cc
derives_one (tree ∷ ss) end at (word (Named k)) row more below h = tree_one (takes k) k ss end at row more refl below h
derives_one (tree ∷ ss) end at (word (Chosen c)) row more below h = absurd cc
derives_one (tree ∷ ss) end at (word Unknown) row more below h = absurd cc
derives_one (tree ∷ ss) end at (meaning.number n) row more below h = absurd cc
derives_one (tree ∷ ss) end at (mark n) row more below h = absurd cc
derives_one (tree ∷ ss) end at stray row more below h = absurd cc
derives_one (rest g ∷ ss) end at (word (Named k)) row more below h = layer_one (behind_tree (ends (Some g)) (after_layer (Some g))) g k ss end at row more refl below h
derives_one (rest g ∷ ss) end at (word (Chosen c)) row more below h = choice_one (after_choice c (Some g)) g c ss end at row more refl below h
derives_one (rest g ∷ ss) end at (word Unknown) row more below h = absurd cc
derives_one (rest g ∷ ss) end at (meaning.number n) row more below h = number_one (after_number (Some g)) g n ss end at row more refl below h
derives_one (rest g ∷ ss) end at (mark n) row more below h = absurd cc
derives_one (rest g ∷ ss) end at stray row more below h = absurd cc
derives_one (this m ∷ ss) end at (word w) row more below h = absurd cc
derives_one (this m ∷ ss) end at (meaning.number n) row more below h = absurd cc
derives_one (this m ∷ ss) end at (mark n) row more below h = mark_derives m n (same_mark m n) at ss end row more refl below h
derives_one (this m ∷ ss) end at stray row more below h = absurd cc

-- what the machine goes past, with what it wants then, is spelled by the symbols that it began with
derives : (row more : List Placed) (ss end : List Symbol) → go never never ss row ≡ Ok end → Derives end more → Derives ss (row ++ more)
unfolding go
derives [] more ss end h d = subst (λ (xs : List Symbol). Derives xs more) (ok_same end ss (Ok ss) h refl) d
derives (t ∷ row) more ss end h d = derives_one ss end t.at t.meaning row more (λ xs g. derives row more xs end g d) h

-- a row that these symbols spell
a_mem : List Placed
a_mem = record { at = 0; meaning = word (Named name.Mem) } ∷ []

filling : (numbers layers : ℕ) → List Placed
filling (suc n) l = record { at = 0; meaning = meaning.number 0 } ∷ record { at = 0; meaning = mark Comma } ∷ filling n l
filling zero (suc l) = a_mem ++ record { at = 0; meaning = mark Comma } ∷ filling zero l
filling zero zero = a_mem ++ record { at = 0; meaning = mark Close } ∷ []

filling_args : (numbers layers : ℕ) → Args
filling_args (suc n) l = number 0 (filling_args n l)
filling_args zero (suc l) = layer (leaf 0 name.Mem) (filling_args zero l)
filling_args zero zero = last (leaf 0 name.Mem)

filling_fills : (n l : ℕ) (c : Option Choice) (p : Bool) → Fills (filling_args n l) (Some (record { choice = c; numbers = n; layers = l; pairs = p })) (filling n l)
unfolding filling filling_args a_mem
filling_fills (suc n) l c p = (refl, (refl, filling_fills n l None p))
filling_fills zero (suc l) c p = (a_mem, record { at = 0; meaning = mark Comma } ∷ filling zero l, refl, (refl, refl, (refl, refl)), (refl, filling_fills zero l None p))
filling_fills zero zero c p = (refl, (a_mem, record { at = 0; meaning = mark Close } ∷ [], refl, (refl, refl, (refl, refl)), (refl, refl)))

complete : List Symbol → List Placed
complete [] = []
complete (tree ∷ ss) = a_mem ++ complete ss
complete (rest g ∷ ss) = filling g.numbers g.layers ++ complete ss
complete (this m ∷ ss) = record { at = 0; meaning = mark m } ∷ complete ss

complete_derives : (ss : List Symbol) → Derives ss (complete ss)
unfolding complete a_mem
complete_derives [] = refl
complete_derives (tree ∷ ss) = (a_mem, complete ss, refl, (leaf 0 name.Mem, (refl, refl, (refl, refl))), complete_derives ss)
complete_derives (rest g ∷ ss) = (filling g.numbers g.layers, complete ss, refl, (filling_args g.numbers g.layers, filling_fills g.numbers g.layers g.choice g.pairs), complete_derives ss)
complete_derives (this m ∷ ss) = (refl, complete_derives ss)

one_tree : (row : List Placed) → Derives (tree ∷ []) row → IsSentence row
one_tree row h = subst IsSentence (sym (h.2 ∙ ap (λ (r : List Placed). h.0 ++ r) h.4 ∙ append-nil h.0)) h.3

pub sentence_from : (row : List Placed) → go never never (tree ∷ []) row ≡ Ok [] → IsSentence row
sentence_from row h = subst IsSentence (append-nil row) (one_tree (row ++ []) (derives row [] (tree ∷ []) [] h refl))

pub viable_from : (row : List Placed) (ss : List Symbol) → go never never (tree ∷ []) row ≡ Ok ss → IsViable row
viable_from row ss h = (complete ss, one_tree (row ++ complete ss) (derives row (complete ss) (tree ∷ []) ss h (complete_derives ss)))

-- ---- the other way

mutual
  unopposed_never : (e : Tree) (above : ℕ) → Unopposed never never e above
  unopposed_never (leaf at k) above = tt
  unopposed_never (node at k args) above = (refl, unopposed_never_in args (suc above))

  unopposed_never_in : (args : Args) (above : ℕ) → UnopposedIn never never args above
  unopposed_never_in (last e) above = unopposed_never e above
  unopposed_never_in (number n args) above = (refl, unopposed_never_in args above)
  unopposed_never_in (choice c args) above = unopposed_never_in args above
  unopposed_never_in (layer e args) above = (unopposed_never e above, unopposed_never_in args above)

pub sentence_goes : (row : List Placed) → IsSentence row → go never never (tree ∷ []) row ≡ Ok []
unfolding go
sentence_goes row h = ap (go never never (tree ∷ [])) (sym (append-nil row)) ∙ go_tree never never h.0 row [] [] h.1 (unopposed_never h.0 0)

module _ (large deep : ℕ → Bool) where
  abbrev pub and_go : Result (List Symbol) ExprFault → List Placed → Result (List Symbol) ExprFault
  and_go (Ok ss) row = go large deep ss row
  and_go (Err f) row = Err f

  go_append_one : (o : Option (List Symbol)) (p : Option ExprFault) (at : ℕ) (front back : List Placed) → ((more : List Symbol) → go large deep more (front ++ back) ≡ and_go (go large deep more front) back)
      → (elim o as (λ x. Result (List Symbol) ExprFault) [ None ↦ Err (Syntax at) | Some more ↦ (elim p as (λ x. Result (List Symbol) ExprFault) [ Some f ↦ Err f | None ↦ go large deep more (front ++ back) ]) ])
      ≡ and_go (elim o as (λ x. Result (List Symbol) ExprFault) [ None ↦ Err (Syntax at) | Some more ↦ (elim p as (λ x. Result (List Symbol) ExprFault) [ Some f ↦ Err f | None ↦ go large deep more front ]) ]) back
  go_append_one None p at front back below = refl
  go_append_one (Some more) (Some f) at front back below = refl
  go_append_one (Some more) None at front back below = below more

  pub go_append : (front back : List Placed) (ss : List Symbol) → go large deep ss (front ++ back) ≡ and_go (go large deep ss front) back
  unfolding go
  go_append [] back ss = refl
  go_append (t ∷ front) back ss = go_append_one (step ss t.meaning) (objection large deep (closes ss) t.at t.meaning) t.at front back (λ more. go_append front back more)

-- a front of a sentence is gone past
fails_or_goes : (answer : Result (List Symbol) ExprFault) (left : List Placed) → and_go never never answer left ≡ Ok [] → (ss : List Symbol) × (answer ≡ Ok ss)
fails_or_goes (Ok ss) left h = (ss, refl)
fails_or_goes (Err f) left h = absurd cc

pub viable_goes : (row : List Placed) → IsViable row → (ss : List Symbol) × (go never never (tree ∷ []) row ≡ Ok ss)
viable_goes row h = fails_or_goes (go never never (tree ∷ []) row) h.0 (sym (go_append never never row h.0 (tree ∷ [])) ∙ sentence_goes (row ++ h.0) h.1)
