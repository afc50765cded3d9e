-- The grammar as a machine: a row of symbols that must come next, of which each token takes the first.
use Rattle.std.proofs.Common.{◌≡◌, ℕ, zero, suc, Bool, true, false, cond, List, [], ◌∷◌, ◌++◌, Option, Some, None, Result, Ok, Err, refl, sym, ◌∙◌, ap, subst, append_assoc}
use Rattle.expr_reader.specs.declared.fault.ExprFault.{ExprFault}
use Rattle.expr_reader.specs.declared.fault.ExprFault.TheVariants.{Syntax, NumberTooLarge, TooDeep}
use Rattle.expr_reader.specs.declared.token.Name.{Name}
use Rattle.expr_reader.specs.declared.token.Choice.{Choice}
use Rattle.expr_reader.specs.declared.token.Word.TheVariants.{Named, Chosen, Unknown}
use Rattle.expr_reader.specs.declared.token.Mark.{Mark}
use Rattle.expr_reader.specs.declared.token.Mark.TheVariants.{Open, Comma, Close}
use Rattle.expr_reader.specs.declared.signature.Signature.{Signature}
use Rattle.expr_reader.specs.declared.signature.Entry.{Entry}
use Rattle.expr_reader.specs.declared.signature.Entry.TheVariants.{Missing, Alone, Takes}
use Rattle.expr_reader.specs.Signatures.{takes, inner, after_number, after_choice, after_layer, ends, behind_layer, no_more}
use Rattle.expr_reader.specs.Tokens.{Placed, Meaning, word, mark, stray}
use Rattle.expr_reader.specs.Tokens as meaning
use Rattle.expr_reader.specs.Trees.{Tree, leaf, node, Args, last, number, choice, layer}
use Rattle.expr_reader.specs.Grammar.{Ends, ◌then◌, Spells, Fills}
use Rattle.expr_reader.specs.Descent.{same_mark}
use Rattle.expr_reader.proofs.Unique.{behind, nothing_fills}

-- what may have to come next: a tree, this mark, or what a signature takes with the parenthesis that closes it
pub data Symbol : Type 0 where
  tree : Symbol
  this : Mark → Symbol
  rest : Signature → Symbol

-- what must come behind a layer's word
abbrev pub opened : Entry → Option (List Symbol)
opened Missing = None
opened Alone = Some []
opened (Takes g) = Some (this Open ∷ rest g ∷ [])

-- what must come behind a part that isn't the last
abbrev pub goes_on : Option Signature → Option (List Symbol)
goes_on None = None
goes_on (Some g) = Some (this Comma ∷ rest g ∷ [])

-- what must come behind a layer: it is the last one, or more comes
abbrev pub behind_tree : Bool → Option Signature → Option (List Symbol)
behind_tree true s = Some (this Close ∷ [])
behind_tree false s = goes_on s

-- what must come behind a layer, below what must come behind its word
abbrev pub under : Option (List Symbol) → Option (List Symbol) → Option (List Symbol)
under None o = None
under (Some xs) None = None
under (Some xs) (Some ys) = Some (ys ++ xs)

-- what must come behind a token in place of the symbol that it takes
abbrev pub opens : Symbol → Meaning → Option (List Symbol)
opens tree (word (Named k)) = opened (takes k)
opens tree (word (Chosen c)) = None
opens tree (word Unknown) = None
opens tree (meaning.number n) = None
opens tree (mark m) = None
opens tree stray = None
opens (this m) (word w) = None
opens (this m) (meaning.number n) = None
opens (this m) (mark n) = cond (same_mark m n) (Some []) None
opens (this m) stray = None
opens (rest g) (word (Named k)) = under (behind_tree (ends (Some g)) (after_layer (Some g))) (opened (takes k))
opens (rest g) (word (Chosen c)) = goes_on (after_choice c (Some g))
opens (rest g) (word Unknown) = None
opens (rest g) (meaning.number n) = goes_on (after_number (Some g))
opens (rest g) (mark m) = None
opens (rest g) stray = None

abbrev pub onto : Option (List Symbol) → List Symbol → Option (List Symbol)
onto None ss = None
onto (Some xs) ss = Some (xs ++ ss)

abbrev pub step : List Symbol → Meaning → Option (List Symbol)
step [] m = None
step (s ∷ ss) m = onto (opens s m) ss

-- how many layers are open
abbrev pub closes : List Symbol → ℕ
closes [] = 0
closes (tree ∷ ss) = closes ss
closes (this Open ∷ ss) = closes ss
closes (this Comma ∷ ss) = closes ss
closes (this Close ∷ ss) = suc (closes ss)
closes (rest g ∷ ss) = suc (closes ss)

-- a word with layers below it, where no more may stand
abbrev pub deep_objection : Entry → Bool → (at : ℕ) → Option ExprFault
deep_objection Missing b at = None
deep_objection Alone b at = None
deep_objection (Takes g) b at = cond b (Some (TooDeep at)) None

-- a fault of a token that may stand there by the grammar, with so many layers above it
abbrev pub objection : (large deep : ℕ → Bool) → (above at : ℕ) → Meaning → Option ExprFault
objection large deep above at (word (Named k)) = deep_objection (takes k) (deep above) at
objection large deep above at (word (Chosen c)) = None
objection large deep above at (word Unknown) = None
objection large deep above at (meaning.number n) = cond (large n) (Some (NumberTooLarge at)) None
objection large deep above at (mark m) = None
objection large deep above at stray = None

-- the symbols that must come behind the row, or its first fault
unfoldable pub go : (large deep : ℕ → Bool) → List Symbol → List Placed → Result (List Symbol) ExprFault
go large deep ss [] = Ok ss
go large deep ss (t ∷ ts) = elim (step ss t.meaning) [
  | None ↦ Err (Syntax t.at)
  | Some more ↦ (elim (objection large deep (closes ss) t.at t.meaning) [ Some f ↦ Err f | None ↦ go large deep more ts ])
]

-- the first fault of a row that must end
abbrev pub finish : (end : ℕ) → Result (List Symbol) ExprFault → Option ExprFault
finish end (Ok []) = None
finish end (Ok (s ∷ ss)) = Some (Syntax end)
finish end (Err f) = Some f

abbrev pub never : ℕ → Bool
never n = false

pub same_mark-refl : (m : Mark) → same_mark m m ≡ true
same_mark-refl Open = refl
same_mark-refl Comma = refl
same_mark-refl Close = refl

pub same_mark-is : (m n : Mark) → same_mark m n ≡ true → n ≡ m
same_mark-is Open Open e = refl
same_mark-is Open Comma e = cc
same_mark-is Open Close e = cc
same_mark-is Comma Open e = cc
same_mark-is Comma Comma e = refl
same_mark-is Comma Close e = cc
same_mark-is Close Open e = cc
same_mark-is Close Comma e = cc
same_mark-is Close Close e = refl

-- ---- how many are open

pub onto-under : (xs ss : List Symbol) (o : Option (List Symbol)) → onto (under (Some xs) o) ss ≡ onto o (xs ++ ss)
onto-under xs ss None = refl
onto-under xs ss (Some ys) = ap Some (append_assoc ys xs ss)

pub closes-goes_on : (o : Option Signature) (xs ss : List Symbol) → goes_on o ≡ Some xs → closes (xs ++ ss) ≡ suc (closes ss)
closes-goes_on None xs ss e = absurd cc
closes-goes_on (Some g) xs ss e = let same : this Comma ∷ rest g ∷ [] ≡ xs = cc in sym (ap (λ (ys : List Symbol). closes (ys ++ ss)) same)

pub closes-behind : (b : Bool) (o : Option Signature) (xs ss : List Symbol) → behind_tree b o ≡ Some xs → closes (xs ++ ss) ≡ suc (closes ss)
closes-behind true o xs ss e = let same : this Close ∷ [] ≡ xs = cc in sym (ap (λ (ys : List Symbol). closes (ys ++ ss)) same)
closes-behind false o xs ss e = closes-goes_on o xs ss e

-- ---- what still has to come, has to

pub fills_some : (args : Args) (s : Option Signature) (row : List Placed) → Fills args s row → (g : Signature) × (s ≡ Some g)
fills_some args None row h = absurd (nothing_fills args None row refl h)
fills_some args (Some g) row h = (g, refl)

takes_it : (o : Entry) (g : Signature) → inner o ≡ Some g → o ≡ Takes g
takes_it Missing g e = absurd cc
takes_it Alone g e = absurd cc
takes_it (Takes h) g e = let same : h ≡ g = cc in ap Takes same

-- ---- one token

module _ (large deep : ℕ → Bool) where
  abbrev pub past : Option (List Symbol) → Option ExprFault → (at : ℕ) → List Placed → Result (List Symbol) ExprFault
  past o p at ts = elim o as (λ x. Result (List Symbol) ExprFault) [ None ↦ Err (Syntax at) | Some more ↦ (elim p as (λ x. Result (List Symbol) ExprFault) [ Some f ↦ Err f | None ↦ go large deep more ts ]) ]

  -- one token, by what it does to the symbols and what is objected to it
  pub go_past : (ss : List Symbol) (t : Placed) (ts : List Placed) (o : Option (List Symbol)) (p : Option ExprFault) → step ss t.meaning ≡ o → objection large deep (closes ss) t.at t.meaning ≡ p → go large deep ss (t ∷ ts) ≡ past o p t.at ts
  unfolding go
  go_past ss t ts o p e h = (λ i. past (e i) (h i) t.at ts)

  pub go_mark : (m : Mark) (ss : List Symbol) (t : Placed) (ts : List Placed) → t.meaning ≡ mark m → go large deep (this m ∷ ss) (t ∷ ts) ≡ go large deep ss ts
  go_mark m ss t ts is = go_past (this m ∷ ss) t ts (Some ss) None (ap (step (this m ∷ ss)) is ∙ ap (λ (b : Bool). onto (cond b (Some []) None) ss) (same_mark-refl m)) (ap (objection large deep (closes (this m ∷ ss)) t.at) is)

  pub go_number : (n : ℕ) (g g' : Signature) (ss : List Symbol) (t : Placed) (ts : List Placed) → t.meaning ≡ meaning.number n → large n ≡ false → after_number (Some g) ≡ Some g'
      → go large deep (rest g ∷ ss) (t ∷ ts) ≡ go large deep (this Comma ∷ rest g' ∷ ss) ts
  go_number n g g' ss t ts is fits more = go_past (rest g ∷ ss) t ts (Some (this Comma ∷ rest g' ∷ ss)) None
      (ap (step (rest g ∷ ss)) is ∙ ap (λ o. onto (goes_on o) ss) more)
      (ap (objection large deep (closes (rest g ∷ ss)) t.at) is ∙ ap (λ b. cond b (Some (NumberTooLarge t.at)) None) fits)

  pub go_choice : (c : Choice) (g g' : Signature) (ss : List Symbol) (t : Placed) (ts : List Placed) → t.meaning ≡ word (Chosen c) → after_choice c (Some g) ≡ Some g'
      → go large deep (rest g ∷ ss) (t ∷ ts) ≡ go large deep (this Comma ∷ rest g' ∷ ss) ts
  go_choice c g g' ss t ts is more = go_past (rest g ∷ ss) t ts (Some (this Comma ∷ rest g' ∷ ss)) None
      (ap (step (rest g ∷ ss)) is ∙ ap (λ o. onto (goes_on o) ss) more)
      (ap (objection large deep (closes (rest g ∷ ss)) t.at) is)

  pub go_leaf : (k : Name) (ss : List Symbol) (t : Placed) (ts : List Placed) → t.meaning ≡ word (Named k) → takes k ≡ Alone → go large deep (tree ∷ ss) (t ∷ ts) ≡ go large deep ss ts
  go_leaf k ss t ts is none = go_past (tree ∷ ss) t ts (Some ss) None (ap (step (tree ∷ ss)) is ∙ ap (λ o. onto (opened o) ss) none)
      (ap (objection large deep (closes ss) t.at) is ∙ ap (λ o. deep_objection o (deep (closes ss)) t.at) none)

  pub go_node : (k : Name) (g : Signature) (ss : List Symbol) (t : Placed) (ts : List Placed) → t.meaning ≡ word (Named k) → takes k ≡ Takes g → deep (closes ss) ≡ false
      → go large deep (tree ∷ ss) (t ∷ ts) ≡ go large deep (this Open ∷ rest g ∷ ss) ts
  go_node k g ss t ts is some shallow = go_past (tree ∷ ss) t ts (Some (this Open ∷ rest g ∷ ss)) None (ap (step (tree ∷ ss)) is ∙ ap (λ o. onto (opened o) ss) some)
      (ap (objection large deep (closes ss) t.at) is ∙ ap (λ o. deep_objection o (deep (closes ss)) t.at) some ∙ ap (λ b. cond b (Some (TooDeep t.at)) None) shallow)

  pub go_other_mark : (m n : Mark) (ss : List Symbol) (at : ℕ) (ts : List Placed) → same_mark m n ≡ false → go large deep (this m ∷ ss) (record { at = at; meaning = mark n } ∷ ts) ≡ Err (Syntax at)
  go_other_mark m n ss at ts e = go_past (this m ∷ ss) (record { at = at; meaning = mark n }) ts None None (ap (λ (b : Bool). onto (cond b (Some []) None) ss) e) refl

  pub go_large : (n : ℕ) (g g' : Signature) (ss : List Symbol) (at : ℕ) (ts : List Placed) → large n ≡ true → after_number (Some g) ≡ Some g' → go large deep (rest g ∷ ss) (record { at = at; meaning = meaning.number n } ∷ ts) ≡ Err (NumberTooLarge at)
  go_large n g g' ss at ts e more = go_past (rest g ∷ ss) (record { at = at; meaning = meaning.number n }) ts (Some (this Comma ∷ rest g' ∷ ss)) (Some (NumberTooLarge at)) (ap (λ o. onto (goes_on o) ss) more) (ap (λ b. cond b (Some (NumberTooLarge at)) None) e)

  pub go_deep : (k : Name) (g : Signature) (ss : List Symbol) (at : ℕ) (ts : List Placed) → takes k ≡ Takes g → deep (closes ss) ≡ true → go large deep (tree ∷ ss) (record { at = at; meaning = word (Named k) } ∷ ts) ≡ Err (TooDeep at)
  go_deep k g ss at ts some e = go_past (tree ∷ ss) (record { at = at; meaning = word (Named k) }) ts (Some (this Open ∷ rest g ∷ ss)) (Some (TooDeep at)) (ap (λ o. onto (opened o) ss) some) (ap (λ o. deep_objection o (deep (closes ss)) at) some ∙ ap (λ b. cond b (Some (TooDeep at)) None) e)

  -- where a layer begins, it and what comes behind it have to come
  pub go_layer : (k : Name) (g : Signature) (xs ss : List Symbol) (t : Placed) (ts : List Placed) → t.meaning ≡ word (Named k) → behind_tree (ends (Some g)) (after_layer (Some g)) ≡ Some xs
      → go large deep (rest g ∷ ss) (t ∷ ts) ≡ go large deep (tree ∷ (xs ++ ss)) (t ∷ ts)
  go_layer k g xs ss t ts is more =
      let first : step (rest g ∷ ss) t.meaning ≡ onto (opened (takes k)) (xs ++ ss) = ap (step (rest g ∷ ss)) is ∙ ap (λ o. onto (under o (opened (takes k))) ss) more ∙ onto-under xs ss (opened (takes k)) in
      let other : step (tree ∷ (xs ++ ss)) t.meaning ≡ onto (opened (takes k)) (xs ++ ss) = ap (step (tree ∷ (xs ++ ss))) is in
      let level : objection large deep (closes (tree ∷ (xs ++ ss))) t.at t.meaning ≡ objection large deep (suc (closes ss)) t.at t.meaning = ap (λ n. objection large deep n t.at t.meaning) (closes-behind (ends (Some g)) (after_layer (Some g)) xs ss more) in
      go_past (rest g ∷ ss) t ts _ _ first refl ∙ sym (go_past (tree ∷ (xs ++ ss)) t ts _ _ other level)

  -- ---- a tree's row

  -- no token of the tree meets an objection
  abbrev mutual
    pub Unopposed : Tree → (above : ℕ) → Type 0
    Unopposed (leaf at k) above = Unit {0}
    Unopposed (node at k args) above = (deep above ≡ false) × UnopposedIn args (suc above)

    pub UnopposedIn : Args → (above : ℕ) → Type 0
    UnopposedIn (last e) above = Unopposed e above
    UnopposedIn (number n args) above = (large n ≡ false) × UnopposedIn args above
    UnopposedIn (choice c args) above = UnopposedIn args above
    UnopposedIn (layer e args) above = Unopposed e above × UnopposedIn args above

  begins_named : (e : Tree) (row : List Placed) → Spells e row → (k : Name) × (t : Placed) × (ts : List Placed) × (row ≡ t ∷ ts) × (t.meaning ≡ word (Named k))
  begins_named (leaf at k) row h = let b = behind (word (Named k)) Ends row h.2 in (k, b.0, b.1, b.2, b.3)
  begins_named (node at k args) row h = let b = behind (word (Named k)) (mark Open then Fills args (inner (takes k))) row h.1 in (k, b.0, b.1, b.2, b.3)

  -- a layer that begins here, as a tree
  go_layer_row : (e : Tree) (g : Signature) (xs ss : List Symbol) (front back : List Placed) → Spells e front → behind_tree (ends (Some g)) (after_layer (Some g)) ≡ Some xs
      → go large deep (rest g ∷ ss) (front ++ back) ≡ go large deep (tree ∷ (xs ++ ss)) (front ++ back)
  go_layer_row e g xs ss front back h more =
      let b = begins_named e front h in
      ap (λ (r : List Placed). go large deep (rest g ∷ ss) (r ++ back)) b.3 ∙ go_layer b.0 g xs ss b.1 (b.2 ++ back) b.4 more ∙ sym (ap (λ (r : List Placed). go large deep (tree ∷ (xs ++ ss)) (r ++ back)) b.3)

  ends_behind : (g : Signature) → ends (Some g) ≡ true → behind_tree (ends (Some g)) (after_layer (Some g)) ≡ Some (this Close ∷ [])
  ends_behind g e = ap (λ b. behind_tree b (after_layer (Some g))) e

  pub more_behind : (g g' : Signature) → after_layer (Some g) ≡ Some g' → behind_tree (ends (Some g)) (after_layer (Some g)) ≡ Some (this Comma ∷ rest g' ∷ [])
  more_behind g g' e = by g.numbers g.layers e ∙ ap goes_on e
    where
      by : (n l : ℕ) → behind_layer n l g.pairs ≡ Some g' → behind_tree (no_more n l) (behind_layer n l g.pairs) ≡ goes_on (behind_layer n l g.pairs)
      by (suc n) l e = refl
      by zero (suc l) e = refl
      by zero zero e = absurd cc

  mutual
    -- the machine goes past what spells a tree
    pub go_tree : (e : Tree) (front back : List Placed) (ss : List Symbol) → Spells e front → Unopposed e (closes ss) → go large deep (tree ∷ ss) (front ++ back) ≡ go large deep ss back
    go_tree (leaf at k) [] back ss h u = absurd h.0
    go_tree (leaf at k) (t ∷ ts) back ss h u = go_leaf k ss t (ts ++ back) h.2.0 h.1 ∙ ap (λ (r : List Placed). go large deep ss (r ++ back)) h.2.1
    go_tree (node at k args) [] back ss h u = absurd h.0
    go_tree (node at k args) (t ∷ []) back ss h u = absurd h.1.1
    go_tree (node at k args) (t ∷ o ∷ row) back ss h u =
        let g = fills_some args (inner (takes k)) row h.1.1.1 in
        go_node k g.0 ss t (o ∷ row ++ back) h.1.0 (takes_it (takes k) g.0 g.1) u.0 ∙ go_mark Open (rest g.0 ∷ ss) o (row ++ back) h.1.1.0
        ∙ go_args args g.0 row back ss (subst (λ s. Fills args s row) g.1 h.1.1.1) u.1

    pub go_args : (args : Args) (g : Signature) (front back : List Placed) (ss : List Symbol) → Fills args (Some g) front → UnopposedIn args (suc (closes ss)) → go large deep (rest g ∷ ss) (front ++ back) ≡ go large deep ss back
    go_args (last e) g front back ss h u =
        let z = behind (mark Close) Ends h.1.1 h.1.4 in
        ap (λ (r : List Placed). go large deep (rest g ∷ ss) (r ++ back)) h.1.2 ∙ ap (go large deep (rest g ∷ ss)) (append_assoc h.1.0 h.1.1 back)
        ∙ go_layer_row e g (this Close ∷ []) ss h.1.0 (h.1.1 ++ back) h.1.3 (ends_behind g h.0)
        ∙ go_tree e h.1.0 (h.1.1 ++ back) (this Close ∷ ss) h.1.3 u
        ∙ ap (λ (r : List Placed). go large deep (this Close ∷ ss) (r ++ back)) z.2 ∙ go_mark Close ss z.0 (z.1 ++ back) z.3 ∙ ap (λ (r : List Placed). go large deep ss (r ++ back)) z.4
    go_args (number n args) g [] back ss h u = absurd h
    go_args (number n args) g (t ∷ []) back ss h u = absurd h.1
    go_args (number n args) g (t ∷ c ∷ row) back ss h u =
        let s = fills_some args (after_number (Some g)) row h.1.1 in
        go_number n g s.0 ss t (c ∷ row ++ back) h.0 u.0 s.1 ∙ go_mark Comma (rest s.0 ∷ ss) c (row ++ back) h.1.0
        ∙ go_args args s.0 row back ss (subst (λ s. Fills args s row) s.1 h.1.1) u.1
    go_args (choice d args) g [] back ss h u = absurd h
    go_args (choice d args) g (t ∷ []) back ss h u = absurd h.1
    go_args (choice d args) g (t ∷ c ∷ row) back ss h u =
        let s = fills_some args (after_choice d (Some g)) row h.1.1 in
        go_choice d g s.0 ss t (c ∷ row ++ back) h.0 s.1 ∙ go_mark Comma (rest s.0 ∷ ss) c (row ++ back) h.1.0
        ∙ go_args args s.0 row back ss (subst (λ s. Fills args s row) s.1 h.1.1) u
    go_args (layer e args) g front back ss h u =
        let c = behind (mark Comma) (Fills args (after_layer (Some g))) h.1 h.4 in
        let s = fills_some args (after_layer (Some g)) c.1 c.4 in
        ap (λ (r : List Placed). go large deep (rest g ∷ ss) (r ++ back)) h.2 ∙ ap (go large deep (rest g ∷ ss)) (append_assoc h.0 h.1 back)
        ∙ go_layer_row e g (this Comma ∷ rest s.0 ∷ []) ss h.0 (h.1 ++ back) h.3 (more_behind g s.0 s.1)
        ∙ go_tree e h.0 (h.1 ++ back) (this Comma ∷ rest s.0 ∷ ss) h.3 u.0
        ∙ ap (λ (r : List Placed). go large deep (this Comma ∷ rest s.0 ∷ ss) (r ++ back)) c.2 ∙ go_mark Comma (rest s.0 ∷ ss) c.0 (c.1 ++ back) c.3
        ∙ go_args args s.0 c.1 back ss (subst (λ s. Fills args s c.1) s.1 c.4) u.1
