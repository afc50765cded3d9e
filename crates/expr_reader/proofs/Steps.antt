-- Signatures and the descent, a step at a time.
use Rattle.std.proofs.Common.{◌≡◌, ℕ, zero, suc, ◌-◌, ◌<◌, Bool, true, false, List, [], ◌∷◌, Option, length, get_or, take, drop, None, Some, Result, Err, refl, subst, ◌∙◌, sym, ap, arith}
use Rattle.expr_reader.specs.declared.fault.ExprFault.TheVariants.{Syntax, TooDeep}
use Rattle.expr_reader.specs.declared.token.Token.{Token}
use Rattle.expr_reader.specs.declared.token.Name.{Name}
use Rattle.expr_reader.specs.declared.token.Choice.{Choice}
use Rattle.expr_reader.specs.declared.token.Kind.TheVariants as kind
use Rattle.expr_reader.specs.declared.token.Word.TheVariants.{Chosen}
use Rattle.std.proofs.lemmas.List.{take_all}
use Rattle.expr_reader.specs.declared.signature.Signature.{Signature}
use Rattle.expr_reader.specs.Signatures.{left, after_number, after_choice, behind_number, behind_layer, no_more}
use Rattle.expr_reader.specs.declared.fault.ExprFault.{ExprFault}
use Rattle.expr_reader.specs.Trees.{Tree, Args, choice}
use Rattle.expr_reader.specs.Descent.{Reader, Answers, more, after_numeral, args_with, args_at, node_at, layer_at, tree_at}

pub number_comes : (n l : ℕ) (p : Bool) → 0 < n → behind_number n l p ≡ left (n - 1) l p
number_comes zero l p h = absurd (omega arith)
number_comes (suc n) l p h = let e : suc n - 1 ≡ n = omega arith in ap (λ k. left k l p) (sym e)

pub pair_comes : (n l : ℕ) (p : Bool) → n ≡ 0 → l ≡ 0 → p ≡ true → behind_number n l p ≡ left 0 1 true
pair_comes n l p h k e = rw (h, k, e) refl

pub no_pair_comes : (n l : ℕ) (p : Bool) → n ≡ 0 → p ≡ false → behind_number n l p ≡ None
no_pair_comes n zero p h e = rw (h, e) refl
no_pair_comes n (suc l) p h e = rw h refl

pub no_number_comes : (n l : ℕ) (p : Bool) → n ≡ 0 → 0 < l → behind_number n l p ≡ None
no_number_comes n zero p h e = absurd (omega arith)
no_number_comes n (suc l) p h e = rw h refl

pub layer_comes : (n l : ℕ) (p : Bool) → n ≡ 0 → 0 < l → behind_layer n l p ≡ left 0 (l - 1) p
layer_comes n zero p h k = absurd (omega arith)
layer_comes n (suc l) p h k = let e : suc l - 1 ≡ l = omega arith in rw (h, e) refl

pub no_layer_comes : (n l : ℕ) (p : Bool) → 0 < n → behind_layer n l p ≡ None
no_layer_comes zero l p h = absurd (omega arith)
no_layer_comes (suc n) l p h = refl

pub last_layer_comes : (n l : ℕ) (p : Bool) → l ≡ 0 → behind_layer n l p ≡ None
last_layer_comes zero l p h = rw h refl
last_layer_comes (suc n) l p h = refl

pub last_comes : (n l : ℕ) → n ≡ 0 → l ≡ 0 → no_more n l ≡ true
last_comes n l h k = rw (h, k) refl

pub numbers_come : (n l : ℕ) → 0 < n → no_more n l ≡ false
numbers_come zero l h = absurd (omega arith)
numbers_come (suc n) l h = refl

pub layers_come : (n l : ℕ) → n ≡ 0 → 0 < l → no_more n l ≡ false
layers_come n zero h k = absurd (omega arith)
layers_come n (suc l) h k = rw h refl

pub ruleset steps = (number_comes, pair_comes, no_pair_comes, no_number_comes, layer_comes, no_layer_comes, last_layer_comes, last_comes, numbers_come, layers_come)

pub no_layers : (left at end : ℕ) (k : Name) (g : Signature) (row : List Token) → left ≡ 0 → layer_at left at k g end row ≡ Err (TooDeep at)
unfolding layer_at
no_layers zero at end k g row e = refl
no_layers (suc left) at end k g row e = absurd (omega arith)

pub some_layers : (left at end : ℕ) (k : Name) (g : Signature) (row : List Token) → 0 < left → layer_at left at k g end row ≡ node_at (tree_at (left - 1)) at k g end row
unfolding layer_at
some_layers zero at end k g row h = absurd (omega arith)
some_layers (suc left) at end k g row h =
    let e : suc left - 1 ≡ left = omega arith in
    ap (λ n. node_at (tree_at n) at k g end row) (sym e)

pub no_arguments : (below : Reader Tree) (most end : ℕ) (g : Signature) (row : List Token) → most ≡ 0 → args_at below most g end row ≡ Err (Syntax end)
unfolding args_at
no_arguments below zero end g row e = refl
no_arguments below (suc most) end g row e = absurd (omega arith)

pub some_arguments : (below : Reader Tree) (most end : ℕ) (g : Signature) (row : List Token) → 0 < most → args_at below most g end row ≡ args_with below (args_at below (most - 1)) g end row
unfolding args_at
some_arguments below zero end g row h = absurd (omega arith)
some_arguments below (suc most) end g row h =
    let e : suc most - 1 ≡ most = omega arith in
    ap (λ n. args_with below (args_at below n) g end row) (sym e)

pub ruleset layers = (no_layers, some_layers)

pub ruleset arguments = (no_arguments, some_arguments)

-- ---- one argument, in the words of the program

all_behind : (t : Token) (ts : List Token) → take (length (t ∷ ts) - 1) ts ≡ ts
all_behind t ts = take_all (length (t ∷ ts) - 1) ts (omega arith)

pub number_answers : {X : Type 0} (view : X → Args × List Token) (r : Result X ExprFault) (below : Reader Tree) (most end : ℕ) (g : Signature) (row : List Token) (d : Token) (o : Option ℕ) (next : Option Signature)
    → 0 < most → 0 < length row → (get_or row 0 d).kind ≡ kind.Number o → next ≡ after_number (Some g)
    → Answers view r (after_numeral (args_at below (most - 1)) next (get_or row 0 d).at o end (take (length row - 1) (drop 1 row))) → Answers view r (args_at below most g end row)
number_answers view r below most end g [] d o next h k is e a = absurd (omega arith)
number_answers view r below most end g (t ∷ ts) d o next h k is e a =
    let first : args_with below (args_at below (most - 1)) g end (t ∷ ts) ≡ after_numeral (args_at below (most - 1)) (after_number (Some g)) t.at o end ts = rw is refl in
    let other : after_numeral (args_at below (most - 1)) next t.at o end (take (length (t ∷ ts) - 1) ts) ≡ after_numeral (args_at below (most - 1)) (after_number (Some g)) t.at o end ts =
    (λ i. after_numeral (args_at below (most - 1)) (e i) t.at o end (all_behind t ts i)) in
    subst (λ answer. Answers view r answer) (other ∙ sym first ∙ sym (some_arguments below most end g (t ∷ ts) h)) a

pub choice_answers : {X : Type 0} (view : X → Args × List Token) (r : Result X ExprFault) (below : Reader Tree) (most end : ℕ) (g : Signature) (row : List Token) (d : Token) (c : Choice) (next : Option Signature)
    → 0 < most → 0 < length row → (get_or row 0 d).kind ≡ kind.Word (Chosen c) → next ≡ after_choice c (Some g)
    → Answers view r (more (args_at below (most - 1)) next (get_or row 0 d).at (choice c) end (take (length row - 1) (drop 1 row))) → Answers view r (args_at below most g end row)
choice_answers view r below most end g [] d c next h k is e a = absurd (omega arith)
choice_answers view r below most end g (t ∷ ts) d c next h k is e a =
    let first : args_with below (args_at below (most - 1)) g end (t ∷ ts) ≡ more (args_at below (most - 1)) (after_choice c (Some g)) t.at (choice c) end ts = rw is refl in
    let other : more (args_at below (most - 1)) next t.at (choice c) end (take (length (t ∷ ts) - 1) ts) ≡ more (args_at below (most - 1)) (after_choice c (Some g)) t.at (choice c) end ts =
    (λ i. more (args_at below (most - 1)) (e i) t.at (choice c) end (all_behind t ts i)) in
    subst (λ answer. Answers view r answer) (other ∙ sym first ∙ sym (some_arguments below most end g (t ∷ ts) h)) a
