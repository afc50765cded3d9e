-- The descent agrees with the grammar and with the machine: what it takes is spelled so, and where it fails the machine stops.
use Rattle.std.proofs.Common.{◌≡◌, ℕ, zero, suc, ◌+◌, ◌^◌, ◌<◌, ◌≤◌, Bool, true, false, cond, List, [], ◌∷◌, ◌++◌, length, map, Option, Some, None, Result, Ok, Err, refl, sym, ◌∙◌, ap, subst, inl, inr, ◌⊎◌, arith, append_assoc, length-append}
use Rattle.std.specs.Prelude.{nat_lt}
use Rattle.std.proofs.lemmas.Bool.{ltb-true, lt-ltb, le-leb, lt-leb}
use Rattle.std.proofs.lemmas.List.{length-map}
use Rattle.expr_reader.specs.declared.fault.ExprFault.{ExprFault}
use Rattle.expr_reader.specs.declared.fault.ExprFault.TheVariants.{Syntax, NumberTooLarge, TooDeep}
use Rattle.expr_reader.specs.declared.token.Token.{Token}
use Rattle.expr_reader.specs.declared.token.Name.{Name}
use Rattle.expr_reader.specs.declared.token.Choice.{Choice}
use Rattle.expr_reader.specs.declared.token.Word.TheVariants.{Named, Chosen, Unknown}
use Rattle.expr_reader.specs.declared.token.Mark.{Mark}
use Rattle.expr_reader.specs.declared.token.Mark.TheVariants.{Open, Comma, Close}
use Rattle.expr_reader.specs.declared.signature.Signature.{Signature}
use Rattle.expr_reader.specs.declared.signature.Entry.{Entry}
use Rattle.expr_reader.specs.declared.signature.Entry.TheVariants.{Missing, Alone, Takes}
use Rattle.expr_reader.specs.Signatures.{takes, inner, after_number, after_choice, after_layer, ends}
use Rattle.expr_reader.specs.Tokens.{Placed, Meaning, word, mark, stray}
use Rattle.expr_reader.specs.Tokens as meaning
use Rattle.expr_reader.specs.Trees.{Tree, leaf, node, Args, last, number, choice, layer}
use Rattle.expr_reader.specs.Grammar.{Ends, ◌then◌, Spells, Fills, Fits, FitsIn, depth, greatest_depth}
use Rattle.expr_reader.specs.Flaws.{size, size_in}
use Rattle.expr_reader.specs.Faults.{most_layers}
use Rattle.expr_reader.specs.Descent.{Reader, ◌>>=◌, seen, same_mark, behind_mark, more, after_numeral, after_tree, args_at, node_at, by_word, layer_at, tree_at}
use Rattle.expr_reader.proofs.Machine.{Symbol, tree, this, rest, opened, goes_on, behind_tree, under, onto, closes, go, finish, go_past, go_mark, go_number, go_choice, go_leaf, go_node, go_layer, go_other_mark, go_large, go_deep, same_mark-is}
use Rattle.expr_reader.proofs.Firsts.{large, deep}

abbrev pub Answer : Type 0 → Type 0
Answer A = Result (A × List Token) ExprFault

-- the machine comes to the rest of the row, past these symbols
abbrev pub Reaches : (above : ℕ) → List Symbol → (row back : List Placed) → Type 0
Reaches above xs row back = (ss : List Symbol) → closes ss ≡ above → go large deep (xs ++ ss) row ≡ go large deep ss back

-- the machine stops on the way past these symbols
abbrev pub StopsWith : (end above : ℕ) → List Symbol → List Placed → ExprFault → Type 0
StopsWith end above xs row f = (ss : List Symbol) → closes ss ≡ above → finish end (go large deep (xs ++ ss) row) ≡ Some f

abbrev pub Outcome : {A : Type 0} (end above : ℕ) → List Symbol → List Placed → Answer A → (A → List Placed → Type 0) → Type 0
Outcome {A = A} end above xs row answer Good =
    ((x : A) × (back : List Placed) × (answer ≡ Ok (x, map seen back)) × Good x back × Reaches above xs row back)
    ⊎ ((f : ExprFault) × (answer ≡ Err f) × StopsWith end above xs row f)

-- ---- one token

abbrev MarkCase : (end : ℕ) → Mark → List Placed → Type 0
MarkCase end m row =
    ((t : Placed) × (ts : List Placed) × (row ≡ t ∷ ts) × (t.meaning ≡ mark m) × (behind_mark m end (map seen row) ≡ Ok (map seen ts)))
    ⊎ ((f : ExprFault) × (behind_mark m end (map seen row) ≡ Err f) × ((ss : List Symbol) → finish end (go large deep (this m ∷ ss) row) ≡ Some f))

mark_same : (end : ℕ) (m n : Mark) (b : Bool) (at : ℕ) (ts : List Placed) → same_mark m n ≡ b → MarkCase end m (record { at = at; meaning = mark n } ∷ ts)
unfolding go
mark_same end m n true at ts e = inl (record { at = at; meaning = mark n }, ts, refl, ap mark (same_mark-is m n e), rw e refl)
mark_same end m n false at ts e = inr (Syntax at, rw e refl, λ ss. ap (finish end) (go_other_mark large deep m n ss at ts e))

mark_case_at : (end : ℕ) (m : Mark) (at : ℕ) (k : Meaning) (ts : List Placed) → MarkCase end m (record { at = at; meaning = k } ∷ ts)
unfolding go
mark_case_at end m at (word w) ts = inr (Syntax at, refl, λ ss. refl)
mark_case_at end m at (meaning.number n) ts = inr (Syntax at, refl, λ ss. refl)
mark_case_at end m at (mark n) ts = mark_same end m n (same_mark m n) at ts refl
mark_case_at end m at stray ts = inr (Syntax at, refl, λ ss. refl)

mark_case : (end : ℕ) (m : Mark) (row : List Placed) → MarkCase end m row
unfolding go
mark_case end m [] = inr (Syntax end, refl, λ ss. refl)
mark_case end m (t ∷ ts) = mark_case_at end m t.at t.meaning ts

pub fits-large : (n : ℕ) → n < 2 ^ 64 → large n ≡ false
fits-large n h = ap (λ b. cond b false true) (lt-ltb n (2 ^ 64) h)

-- ---- one after another

after_mark : {A : Type 0} (end above : ℕ) (m : Mark) (xs : List Symbol) (row : List Placed) (k : List Token → Answer A) (Good : A → List Placed → Type 0)
    → ((t : Placed) (ts : List Placed) → row ≡ t ∷ ts → t.meaning ≡ mark m → Outcome end above xs ts (k (map seen ts)) Good)
    → Outcome end above (this m ∷ xs) row (behind_mark m end (map seen row) >>= k) Good
after_mark end above m xs row k Good next = elim (mark_case end m row) [
  | inl o ↦ (
      let past : (ss : List Symbol) → go large deep (this m ∷ (xs ++ ss)) row ≡ go large deep (xs ++ ss) o.1 = λ ss. ap (go large deep (this m ∷ (xs ++ ss))) o.2 ∙ go_mark large deep m (xs ++ ss) o.0 o.1 o.3 in
      let first : (behind_mark m end (map seen row) >>= k) ≡ k (map seen o.1) = ap (λ r. r >>= k) o.4 in
      elim (next o.0 o.1 o.2 o.3) [
        | inl p ↦ inl (p.0, p.1, first ∙ p.2, p.3, λ ss c. past ss ∙ p.4 ss c)
        | inr p ↦ inr (p.0, first ∙ p.1, λ ss c. ap (finish end) (past ss) ∙ p.2 ss c)
      ])
  | inr o ↦ inr (o.0, ap (λ r. r >>= k) o.1, λ ss c. o.2 (xs ++ ss))
]

-- what the machine does first
goes_to : {A : Type 0} (end above : ℕ) (xs ys : List Symbol) (row row' : List Placed) (answer : Answer A) (Good : A → List Placed → Type 0)
    → ((ss : List Symbol) → closes ss ≡ above → go large deep (xs ++ ss) row ≡ go large deep (ys ++ ss) row') → Outcome end above ys row' answer Good → Outcome end above xs row answer Good
goes_to end above xs ys row row' answer Good first (inl p) = inl (p.0, p.1, p.2, p.3, λ ss c. first ss c ∙ p.4 ss c)
goes_to end above xs ys row row' answer Good first (inr p) = inr (p.0, p.1, λ ss c. ap (finish end) (first ss c) ∙ p.2 ss c)

-- another view of what was read
seen_so : {A B : Type 0} (end above : ℕ) (xs : List Symbol) (row : List Placed) (answer : Answer A) (f : A → B) (First : A → List Placed → Type 0) (Good : B → List Placed → Type 0)
    → ((x : A) (back : List Placed) → First x back → Good (f x) back) → Outcome end above xs row answer First → Outcome end above xs row (answer >>= λ x. Ok (f x.0, x.1)) Good
seen_so end above xs row answer f First Good good (inl p) = inl (f p.0, p.1, ap (λ r. r >>= λ x. Ok (f x.0, x.1)) p.2, good p.0 p.1 p.3, p.4)
seen_so end above xs row answer f First Good good (inr p) = inr (p.0, ap (λ r. r >>= λ x. Ok (f x.0, x.1)) p.1, p.2)

-- a part, and what comes behind it
after_part : {A B : Type 0} (end above inner : ℕ) (x : Symbol) (xs : List Symbol) (row : List Placed) (answer : Answer A) (k : A × List Token → Answer B) (First : A → List Placed → Type 0) (Good : B → List Placed → Type 0)
    → ((ss : List Symbol) → closes ss ≡ above → closes (xs ++ ss) ≡ inner) → Outcome end inner (x ∷ []) row answer First
    → ((y : A) (back : List Placed) → First y back → Outcome end above xs back (k (y, map seen back)) Good)
    → Outcome end above (x ∷ xs) row (answer >>= k) Good
after_part end above inner x xs row answer k First Good up (inl o) next =
    let past : (ss : List Symbol) → closes ss ≡ above → go large deep (x ∷ (xs ++ ss)) row ≡ go large deep (xs ++ ss) o.1 = λ ss c. o.4 (xs ++ ss) (up ss c) in
    let first : (answer >>= k) ≡ k (o.0, map seen o.1) = ap (λ r. r >>= k) o.2 in
    elim (next o.0 o.1 o.3) [
      | inl p ↦ inl (p.0, p.1, first ∙ p.2, p.3, λ ss c. past ss c ∙ p.4 ss c)
      | inr p ↦ inr (p.0, first ∙ p.1, λ ss c. ap (finish end) (past ss c) ∙ p.2 ss c)
    ]
after_part end above inner x xs row answer k First Good up (inr o) next = inr (o.0, ap (λ r. r >>= k) o.1, λ ss c. o.2 (xs ++ ss) (up ss c))

-- ---- how many tokens

then_length : (m : Meaning) (R : List Placed → Type 0) (n : ℕ) (row : List Placed) → (m then R) row → ((ts : List Placed) → R ts → length ts ≡ n) → length row ≡ suc n
then_length m R n [] h below = absurd h
then_length m R n (t ∷ ts) h below = ap suc (below ts h.1)

ends_length : (ts : List Placed) → Ends ts → length ts ≡ 0
ends_length ts h = ap length h

mutual
  pub spells_length : (e : Tree) (row : List Placed) → Spells e row → length row ≡ size e
  spells_length (leaf at k) row h = then_length (word (Named k)) Ends 0 row h.2 ends_length
  spells_length (node at k args) row h =
      omega (arith, then_length (word (Named k)) (mark Open then Fills args (inner (takes k))) (suc (size_in args)) row h.1 (λ ts g. then_length (mark Open) (Fills args (inner (takes k))) (size_in args) ts g (λ us f. fills_length args (inner (takes k)) us f)))

  fills_length : (args : Args) (s : Option Signature) (row : List Placed) → Fills args s row → length row ≡ size_in args
  fills_length (last e) s row h = omega (arith, ap length h.1.2, length-append h.1.0 h.1.1, spells_length e h.1.0 h.1.3, then_length (mark Close) Ends 0 h.1.1 h.1.4 ends_length)
  fills_length (number n args) s row h =
      omega (arith, then_length (meaning.number n) (mark Comma then Fills args (after_number s)) (suc (size_in args)) row h (λ ts g. then_length (mark Comma) (Fills args (after_number s)) (size_in args) ts g (λ us f. fills_length args (after_number s) us f)))
  fills_length (choice c args) s row h =
      omega (arith, then_length (word (Chosen c)) (mark Comma then Fills args (after_choice c s)) (suc (size_in args)) row h (λ ts g. then_length (mark Comma) (Fills args (after_choice c s)) (size_in args) ts g (λ us f. fills_length args (after_choice c s) us f)))
  fills_length (layer e args) s row h = omega (arith, ap length h.2, length-append h.0 h.1, spells_length e h.0 h.3, then_length (mark Comma) (Fills args (after_layer s)) (size_in args) h.1 h.4 (λ us f. fills_length args (after_layer s) us f))

-- ---- arguments

-- what was taken from the row is spelled so, within the limits
pub record TreeGood (left : ℕ) (row : List Placed) (x : Tree) (back : List Placed) : Type 0 where
  pub front : List Placed
  pub parts : row ≡ front ++ back
  pub spelled : Spells x front
  pub fits : Fits x
  pub shallow : depth x ≤ left

pub record ArgsGood (left : ℕ) (g : Signature) (row : List Placed) (x : Args) (back : List Placed) : Type 0 where
  pub front : List Placed
  pub parts : row ≡ front ++ back
  pub spelled : Fills x (Some g) front
  pub fits : FitsIn x (Some g)
  pub shallow : greatest_depth x ≤ left

number_good : (left n : ℕ) (g g' : Signature) (t c : Placed) (row : List Placed) (x : Args) (back : List Placed) → t.meaning ≡ meaning.number n → c.meaning ≡ mark Comma → n < 2 ^ 64 → after_number (Some g) ≡ Some g'
    → ArgsGood left g' row x back → ArgsGood left g (t ∷ c ∷ row) (number n x) back
number_good left n g g' t c row x back it ic fits e good = record {
  front = t ∷ c ∷ good.front;
  parts = ap (λ (r : List Placed). t ∷ c ∷ r) good.parts;
  spelled = (it, (ic, subst (λ s. Fills x s good.front) (sym e) good.spelled));
  fits = (fits, subst (λ s. FitsIn x s) (sym e) good.fits);
  shallow = good.shallow;
}

choice_good : (left : ℕ) (d : Choice) (g g' : Signature) (t c : Placed) (row : List Placed) (x : Args) (back : List Placed) → t.meaning ≡ word (Chosen d) → c.meaning ≡ mark Comma → after_choice d (Some g) ≡ Some g'
    → ArgsGood left g' row x back → ArgsGood left g (t ∷ c ∷ row) (choice d x) back
choice_good left d g g' t c row x back it ic e good = record {
  front = t ∷ c ∷ good.front;
  parts = ap (λ (r : List Placed). t ∷ c ∷ r) good.parts;
  spelled = (it, (ic, subst (λ s. Fills x s good.front) (sym e) good.spelled));
  fits = subst (λ s. FitsIn x s) (sym e) good.fits;
  shallow = good.shallow;
}

last_good : (left : ℕ) (g : Signature) (row : List Placed) (e : Tree) (z : Placed) (back : List Placed) → ends (Some g) ≡ true → z.meaning ≡ mark Close → TreeGood left row e (z ∷ back) → ArgsGood left g row (last e) back
last_good left g row e z back end iz good = record {
  front = good.front ++ z ∷ [];
  parts = good.parts ∙ sym (append_assoc good.front (z ∷ []) back);
  spelled = (end, (good.front, z ∷ [], refl, good.spelled, (iz, refl)));
  fits = (end, good.fits);
  shallow = good.shallow;
}

layer_good : (left : ℕ) (g g' : Signature) (row inner : List Placed) (e : Tree) (c : Placed) (x : Args) (back : List Placed) → c.meaning ≡ mark Comma → after_layer (Some g) ≡ Some g'
    → TreeGood left row e (c ∷ inner) → ArgsGood left g' inner x back → ArgsGood left g row (layer e x) back
layer_good left g g' row inner e c x back ic some first good =
    record {
      front = first.front ++ c ∷ good.front;
      parts = first.parts ∙ ap (λ (r : List Placed). first.front ++ c ∷ r) good.parts ∙ sym (append_assoc first.front (c ∷ good.front) back);
      spelled = (first.front, c ∷ good.front, refl, first.spelled, (ic, subst (λ s. Fills x s good.front) (sym some) good.spelled));
      fits = (first.fits, subst (λ s. FitsIn x s) (sym some) good.fits);
      shallow = omega (arith, first.shallow, good.shallow);
    }

-- the next arguments, of which there are no more than so many
abbrev Next : (end above left most : ℕ) → (Signature → Reader Args) → Type 0
Next end above left most next = (g : Signature) (row : List Placed) → length row ≤ most → Outcome end above (rest g ∷ []) row (next g end (map seen row)) (ArgsGood left g row)

-- a comma, and the next arguments
more_outcome : (end above left most : ℕ) (next : Signature → Reader Args) (g' : Signature) (at : ℕ) (put : Args → Args) (row : List Placed) (Good : Args → List Placed → Type 0) → Next end above left most next → length row ≤ suc most
    → ((c : Placed) (ts : List Placed) (x : Args) (back : List Placed) → row ≡ c ∷ ts → c.meaning ≡ mark Comma → ArgsGood left g' ts x back → Good (put x) back)
    → Outcome end above (this Comma ∷ rest g' ∷ []) row (more next (Some g') at put end (map seen row)) Good
more_outcome end above left most next g' at put row Good ih few good =
    after_mark end above Comma (rest g' ∷ []) row (λ r. next g' end r >>= λ x. Ok (put x.0, x.1)) Good (λ c ts e ic.
    seen_so end above (rest g' ∷ []) ts (next g' end (map seen ts)) put (ArgsGood left g' ts) Good (λ x back h. good c ts x back e ic h) (ih g' ts (omega (arith, ap length e))))

number_outcome : (end above left most : ℕ) (next : Signature → Reader Args) (g : Signature) (at n : ℕ) (ts : List Placed) (o : Option Signature) (b : Bool) → Next end above left most next → length ts ≤ most
    → after_number (Some g) ≡ o → nat_lt n (2 ^ 64) ≡ b → Outcome end above (rest g ∷ []) (record { at = at; meaning = meaning.number n } ∷ ts) (after_numeral next o at (cond b (Some n) None) end (map seen ts)) (ArgsGood left g (record { at = at; meaning = meaning.number n } ∷ ts))
number_outcome end above left most next g at n ts None b ih few e eb = inr (Syntax at, refl, λ ss c. ap (finish end) (go_past large deep (rest g ∷ ss) (record { at = at; meaning = meaning.number n }) ts None _ (ap (λ o. onto (goes_on o) ss) e) refl))
number_outcome end above left most next g at n ts (Some g') false ih few e eb = inr (NumberTooLarge at, refl, λ ss c. ap (finish end) (go_large large deep n g g' ss at ts (ap (λ b. cond b false true) eb) e))
number_outcome end above left most next g at n ts (Some g') true ih few e eb =
    let t : Placed = record { at = at; meaning = meaning.number n } in
    goes_to end above (rest g ∷ []) (this Comma ∷ rest g' ∷ []) (t ∷ ts) ts _ (ArgsGood left g (t ∷ ts)) (λ ss c. go_number large deep n g g' ss t ts refl (ap (λ b. cond b false true) eb) e)
    (more_outcome end above left most next g' at (number n) ts (ArgsGood left g (t ∷ ts)) ih (omega (arith, few)) (λ c r x back is ic good.
    subst (λ (r : List Placed). ArgsGood left g (t ∷ r) (number n x) back) (sym is) (number_good left n g g' t c r x back refl ic (ltb-true n (2 ^ 64) eb) e good)))

choice_outcome : (end above left most : ℕ) (next : Signature → Reader Args) (g : Signature) (at : ℕ) (d : Choice) (ts : List Placed) (o : Option Signature) → Next end above left most next → length ts ≤ most
    → after_choice d (Some g) ≡ o → Outcome end above (rest g ∷ []) (record { at = at; meaning = word (Chosen d) } ∷ ts) (more next o at (choice d) end (map seen ts)) (ArgsGood left g (record { at = at; meaning = word (Chosen d) } ∷ ts))
choice_outcome end above left most next g at d ts None ih few e = inr (Syntax at, refl, λ ss c. ap (finish end) (go_past large deep (rest g ∷ ss) (record { at = at; meaning = word (Chosen d) }) ts None _ (ap (λ o. onto (goes_on o) ss) e) refl))
choice_outcome end above left most next g at d ts (Some g') ih few e =
    let t : Placed = record { at = at; meaning = word (Chosen d) } in
    goes_to end above (rest g ∷ []) (this Comma ∷ rest g' ∷ []) (t ∷ ts) ts _ (ArgsGood left g (t ∷ ts)) (λ ss c. go_choice large deep d g g' ss t ts refl e)
    (more_outcome end above left most next g' at (choice d) ts (ArgsGood left g (t ∷ ts)) ih (omega (arith, few)) (λ c r x back is ic good.
    subst (λ (r : List Placed). ArgsGood left g (t ∷ r) (choice d x) back) (sym is) (choice_good left d g g' t c r x back refl ic e good)))

abbrev Below : (end above left : ℕ) → Reader Tree → Type 0
Below end above left below = (row : List Placed) → Outcome end (suc above) (tree ∷ []) row (below end (map seen row)) (TreeGood left row)

layer_outcome : (end above left most : ℕ) (below : Reader Tree) (next : Signature → Reader Args) (g : Signature) (at : ℕ) (k : Name) (ts : List Placed) (b : Bool) (o : Option Signature)
    → Below end above left below → Next end above left most next → length ts ≤ most → ends (Some g) ≡ b → after_layer (Some g) ≡ o
    → Outcome end above (rest g ∷ []) (record { at = at; meaning = word (Named k) } ∷ ts) (after_tree below next b o at end (map seen (record { at = at; meaning = word (Named k) } ∷ ts))) (ArgsGood left g (record { at = at; meaning = word (Named k) } ∷ ts))
layer_outcome end above left most below next g at k ts true o low ih few eb e =
    let t : Placed = record { at = at; meaning = word (Named k) } in
    goes_to end above (rest g ∷ []) (tree ∷ this Close ∷ []) (t ∷ ts) (t ∷ ts) _ (ArgsGood left g (t ∷ ts)) (λ ss c. go_layer large deep k g (this Close ∷ []) ss t ts refl (ap (λ b. behind_tree b (after_layer (Some g))) eb))
    (after_part end above (suc above) tree (this Close ∷ []) (t ∷ ts) (below end (map seen (t ∷ ts))) _ (TreeGood left (t ∷ ts)) (ArgsGood left g (t ∷ ts)) (λ ss c. ap suc c) (low (t ∷ ts)) (λ x back good.
    after_mark end above Close [] back (λ r. Ok (last x, r)) (ArgsGood left g (t ∷ ts)) (λ z zs is iz.
    inl (last x, zs, refl, last_good left g (t ∷ ts) x z zs eb iz (subst (TreeGood left (t ∷ ts) x) is good), λ ss c. refl))))
layer_outcome end above left most below next g at k ts false None low ih few eb e =
    inr (Syntax at, refl, λ ss c. ap (finish end) (go_past large deep (rest g ∷ ss) (record { at = at; meaning = word (Named k) }) ts None _ (λ i. onto (under (behind_tree (eb i) (e i)) (opened (takes k))) ss) refl))
layer_outcome end above left most below next g at k ts false (Some g') low ih few eb e =
    let t : Placed = record { at = at; meaning = word (Named k) } in
    goes_to end above (rest g ∷ []) (tree ∷ this Comma ∷ rest g' ∷ []) (t ∷ ts) (t ∷ ts) _ (ArgsGood left g (t ∷ ts)) (λ ss c. go_layer large deep k g (this Comma ∷ rest g' ∷ []) ss t ts refl (λ i. behind_tree (eb i) (e i)))
    (after_part end above (suc above) tree (this Comma ∷ rest g' ∷ []) (t ∷ ts) (below end (map seen (t ∷ ts))) _ (TreeGood left (t ∷ ts)) (ArgsGood left g (t ∷ ts)) (λ ss c. ap suc c) (low (t ∷ ts)) (λ x back good.
    more_outcome end above left most next g' at (layer x) back (ArgsGood left g (t ∷ ts)) ih (shorter (t ∷ ts) x back good few refl) (λ c r y after is ic h.
    layer_good left g g' (t ∷ ts) r x c y after ic e (subst (TreeGood left (t ∷ ts) x) is good) h)))
  where
    shorter : (row : List Placed) (x : Tree) (back : List Placed) → TreeGood left row x back → length ts ≤ most → length row ≡ suc (length ts) → length back ≤ suc most
    shorter row x back good few is = omega (arith, few, is, ap length good.parts, length-append good.front back)

args_one : (end above left most : ℕ) (below : Reader Tree) (g : Signature) (at : ℕ) (k : Meaning) (ts : List Placed) → Below end above left below → Next end above left most (args_at below most) → length ts ≤ most
    → Outcome end above (rest g ∷ []) (record { at = at; meaning = k } ∷ ts) (args_at below (suc most) g end (map seen (record { at = at; meaning = k } ∷ ts))) (ArgsGood left g (record { at = at; meaning = k } ∷ ts))
unfolding go args_at
args_one end above left most below g at (word (Named k)) ts low ih few = layer_outcome end above left most below (args_at below most) g at k ts (ends (Some g)) (after_layer (Some g)) low ih few refl refl
args_one end above left most below g at (word (Chosen c)) ts low ih few = choice_outcome end above left most (args_at below most) g at c ts (after_choice c (Some g)) ih few refl
args_one end above left most below g at (word Unknown) ts low ih few = inr (Syntax at, refl, λ ss c. refl)
args_one end above left most below g at (meaning.number n) ts low ih few = number_outcome end above left most (args_at below most) g at n ts (after_number (Some g)) (nat_lt n (2 ^ 64)) ih few refl refl
args_one end above left most below g at (mark m) ts low ih few = inr (Syntax at, refl, λ ss c. refl)
args_one end above left most below g at stray ts low ih few = inr (Syntax at, refl, λ ss c. refl)

args_outcome : (end above left : ℕ) (below : Reader Tree) → Below end above left below → (most : ℕ) → Next end above left most (args_at below most)
unfolding go args_at
args_outcome end above left below low zero g [] few = inr (Syntax end, refl, λ ss c. refl)
args_outcome end above left below low zero g (t ∷ ts) few = absurd (omega (arith, few))
args_outcome end above left below low (suc most) g [] few = inr (Syntax end, refl, λ ss c. refl)
args_outcome end above left below low (suc most) g (t ∷ ts) few = args_one end above left most below g t.at t.meaning ts low (args_outcome end above left below low most) (omega (arith, few))

-- ---- trees

node_good : (left : ℕ) (k : Name) (g : Signature) (w o : Placed) (row : List Placed) (x : Args) (back : List Placed) → w.meaning ≡ word (Named k) → o.meaning ≡ mark Open → takes k ≡ Takes g
    → ArgsGood left g row x back → TreeGood (suc left) (w ∷ o ∷ row) (node w.at k x) back
node_good left k g w o row x back iw io some good = record {
  front = w ∷ o ∷ good.front;
  parts = ap (λ (r : List Placed). w ∷ o ∷ r) good.parts;
  spelled = (refl, (iw, (io, subst (λ s. Fills x (inner s) good.front) (sym some) good.spelled)));
  fits = subst (λ s. FitsIn x (inner s)) (sym some) good.fits;
  shallow = omega (arith, good.shallow);
}

node_outcome : (end above left : ℕ) (below : Reader Tree) (w : Placed) (k : Name) (g : Signature) (row : List Placed) → w.meaning ≡ word (Named k) → takes k ≡ Takes g → Below end above left below
    → Outcome end above (this Open ∷ rest g ∷ []) row (node_at below w.at k g end (map seen row)) (TreeGood (suc left) (w ∷ row))
unfolding node_at
node_outcome end above left below w k g row iw some low =
    after_mark end above Open (rest g ∷ []) row _ (TreeGood (suc left) (w ∷ row)) (λ o r e io.
    seen_so end above (rest g ∷ []) r (args_at below (length (map seen r)) g end (map seen r)) (node w.at k) (ArgsGood left g r) (TreeGood (suc left) (w ∷ row))
    (λ x back h. subst (λ (q : List Placed). TreeGood (suc left) (w ∷ q) (node w.at k x) back) (sym e) (node_good left k g w o r x back iw io some h))
    (args_outcome end above left below low (length (map seen r)) g r (omega (arith, length-map r seen))))

word_outcome : (end above left at : ℕ) (k : Name) (o : Entry) (ts : List Placed) → takes k ≡ o → above + left ≡ most_layers → ((less : ℕ) → left ≡ suc less → Below end above less (tree_at less))
    → Outcome end above (tree ∷ []) (record { at = at; meaning = word (Named k) } ∷ ts) (by_word (layer_at left) at k o end (map seen ts)) (TreeGood left (record { at = at; meaning = word (Named k) } ∷ ts))
unfolding go layer_at
word_outcome end above left at k Missing ts e sum low = inr (Syntax at, refl, λ ss c. ap (finish end) (go_past large deep (tree ∷ ss) (record { at = at; meaning = word (Named k) }) ts None _ (ap (λ o. onto (opened o) ss) e) refl))
word_outcome end above left at k Alone ts e sum low =
    inl (leaf at k, ts, refl, record { front = record { at = at; meaning = word (Named k) } ∷ []; parts = refl; spelled = (refl, e, (refl, refl)); fits = e; shallow = omega arith }, λ ss c. go_leaf large deep k ss (record { at = at; meaning = word (Named k) }) ts refl e)
word_outcome end above zero at k (Takes g) ts e sum low =
    inr (TooDeep at, refl, λ ss c. let full : deep (closes ss) ≡ true = le-leb most_layers (closes ss) (omega arith) in ap (finish end) (go_deep large deep k g ss at ts e full))
word_outcome end above (suc left) at k (Takes g) ts e sum low =
    goes_to end above (tree ∷ []) (this Open ∷ rest g ∷ []) (record { at = at; meaning = word (Named k) } ∷ ts) ts _ (TreeGood (suc left) (record { at = at; meaning = word (Named k) } ∷ ts)) (λ ss c. go_node large deep k g ss (record { at = at; meaning = word (Named k) }) ts refl e (lt-leb most_layers (closes ss) (omega arith)))
    (node_outcome end above left (tree_at left) (record { at = at; meaning = word (Named k) }) k g ts refl e (low left refl))

token_outcome : (end above left at : ℕ) (k : Meaning) (ts : List Placed) → above + left ≡ most_layers → ((less : ℕ) → left ≡ suc less → Below end above less (tree_at less))
    → Outcome end above (tree ∷ []) (record { at = at; meaning = k } ∷ ts) (tree_at left end (map seen (record { at = at; meaning = k } ∷ ts))) (TreeGood left (record { at = at; meaning = k } ∷ ts))
unfolding go
token_outcome end above left at (word (Named k)) ts sum low = word_outcome end above left at k (takes k) ts refl sum low
token_outcome end above left at (word (Chosen c)) ts sum low = inr (Syntax at, refl, λ ss c. refl)
token_outcome end above left at (word Unknown) ts sum low = inr (Syntax at, refl, λ ss c. refl)
token_outcome end above left at (meaning.number n) ts sum low = inr (Syntax at, refl, λ ss c. refl)
token_outcome end above left at (mark n) ts sum low = inr (Syntax at, refl, λ ss c. refl)
token_outcome end above left at stray ts sum low = inr (Syntax at, refl, λ ss c. refl)

pub tree_outcome : (end left above : ℕ) → above + left ≡ most_layers → (row : List Placed) → Outcome end above (tree ∷ []) row (tree_at left end (map seen row)) (TreeGood left row)
unfolding go
tree_outcome end left above sum [] = inr (Syntax end, refl, λ ss c. refl)
tree_outcome end zero above sum (t ∷ ts) = token_outcome end above zero t.at t.meaning ts sum (λ less e. absurd cc)
tree_outcome end (suc left) above sum (t ∷ ts) =
    token_outcome end above (suc left) t.at t.meaning ts sum (λ less e row. subst (λ (k : ℕ). Outcome end (suc above) (tree ∷ []) row (tree_at k end (map seen row)) (TreeGood k row)) (suc_is left less e) (tree_outcome end left (suc above) (omega arith) row))
  where
    suc_is : (m n : ℕ) → suc m ≡ suc n → m ≡ n
    suc_is m n e = omega arith
