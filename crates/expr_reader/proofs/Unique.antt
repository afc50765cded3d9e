-- No row of tokens spells two trees, and no tree's row begins another's.
use Rattle.std.proofs.Common.{◌≡◌, ℕ, true, false, List, [], ◌∷◌, ◌++◌, Option, None, refl, sym, ◌∙◌, ap, subst, append_assoc}
use Rattle.expr_reader.specs.declared.token.Name.{Name}
use Rattle.expr_reader.specs.declared.token.Choice.{Choice}
use Rattle.expr_reader.specs.declared.token.Word.TheVariants.{Named, Chosen, Unknown}
use Rattle.expr_reader.specs.declared.token.Mark.TheVariants.{Open, Comma, Close}
use Rattle.expr_reader.specs.declared.signature.Signature.{Signature}
use Rattle.expr_reader.specs.Tokens.{Placed, Meaning, word, mark, stray}
use Rattle.expr_reader.specs.Tokens as meaning
use Rattle.expr_reader.specs.Signatures.{takes, inner, after_number, after_choice, after_layer, ends}
use Rattle.expr_reader.specs.Trees.{Tree, leaf, node, Args, last, number, choice, layer}
use Rattle.expr_reader.specs.Grammar.{Ends, ◌then◌, BeginsAt, Spells, Fills}

-- a token with this meaning, and what stands behind it
pub behind : (m : Meaning) (R : List Placed → Type 0) (row : List Placed) → (m then R) row → (t : Placed) × (ts : List Placed) × (row ≡ t ∷ ts) × (t.meaning ≡ m) × R ts
behind m R [] h = absurd h
behind m R (t ∷ ts) h = (t, ts, refl, h.0, h.1)

heads : (w w' : Placed) (row row' : List Placed) → w ∷ row ≡ w' ∷ row' → (w ≡ w') × (row ≡ row')
heads w w' row row' e = (cc, cc)

-- two rows that go on to one have one first token
both : (m m' : Meaning) (R R' : List Placed → Type 0) (row row' back back' : List Placed) → (m then R) row → (m' then R') row' → row ++ back ≡ row' ++ back'
    → (m ≡ m') × (rest rest' : List Placed) × R rest × R' rest' × (rest ++ back ≡ rest' ++ back')
both m m' R R' [] row' back back' h h' e = absurd h
both m m' R R' (t ∷ ts) [] back back' h h' e = absurd h'
both m m' R R' (t ∷ ts) (t' ∷ ts') back back' h h' e =
    let parts = heads t t' (ts ++ back) (ts' ++ back') e in
    (sym h.0 ∙ ap (λ (t : Placed). t.meaning) parts.0 ∙ h'.0, ts, ts', h.1, h'.1, parts.1)

one_place : (at at' : ℕ) (row row' back back' : List Placed) → BeginsAt at row → BeginsAt at' row' → row ++ back ≡ row' ++ back' → at ≡ at'
one_place at at' [] row' back back' h h' e = absurd h
one_place at at' (t ∷ ts) [] back back' h h' e = absurd h'
one_place at at' (t ∷ ts) (t' ∷ ts') back back' h h' e = sym h ∙ ap (λ (t : Placed). t.at) (heads t t' (ts ++ back) (ts' ++ back') e).0 ∙ h'

nothing_more : (rest rest' back back' : List Placed) → rest ≡ [] → rest' ≡ [] → rest ++ back ≡ rest' ++ back' → back ≡ back'
nothing_more rest rest' back back' h h' e = ap (λ (r : List Placed). r ++ back) (sym h) ∙ e ∙ ap (λ (r : List Placed). r ++ back') h'

regroup : (front rest back front' rest' back' row row' : List Placed) → row ≡ front ++ rest → row' ≡ front' ++ rest' → row ++ back ≡ row' ++ back' → front ++ (rest ++ back) ≡ front' ++ (rest' ++ back')
regroup front rest back front' rest' back' row row' h h' e =
    sym (append_assoc front rest back) ∙ ap (λ (r : List Placed). r ++ back) (sym h) ∙ e ∙ ap (λ (r : List Placed). r ++ back') h' ∙ append_assoc front' rest' back'

-- nothing is spelled where nothing may come
pub nothing_fills : (args : Args) (s : Option Signature) (row : List Placed) → s ≡ None → Fills args s row → ⊥
nothing_fills (last e) s row is h = absurd (differ (sym h.0 ∙ ap ends is))
  where
    differ : true ≡ false → ⊥
    differ e = cc
nothing_fills (number n args) s [] is h = h
nothing_fills (number n args) s (t ∷ []) is h = h.1
nothing_fills (number n args) s (t ∷ u ∷ row) is h = nothing_fills args (after_number s) row (ap after_number is) h.1.1
nothing_fills (choice c args) s [] is h = h
nothing_fills (choice c args) s (t ∷ []) is h = h.1
nothing_fills (choice c args) s (t ∷ u ∷ row) is h = nothing_fills args (after_choice c s) row (ap (after_choice c) is) h.1.1
nothing_fills (layer e args) s row is h =
    let b = behind (mark Comma) (Fills args (after_layer s)) h.1 h.4 in
    nothing_fills args (after_layer s) b.1 (ap after_layer is) b.4

-- ---- the first token tells what comes

code : Meaning → ℕ
code (meaning.number n) = 0
code (word (Named k)) = 1
code (word (Chosen c)) = 2
code (word Unknown) = 3
code (mark m) = 3
code stray = 3

args_code : Args → ℕ
args_code (number n args) = 0
args_code (last e) = 1
args_code (layer e args) = 1
args_code (choice c args) = 2

first_code : List Placed → ℕ
first_code [] = 4
first_code (t ∷ ts) = code t.meaning

then_code : (m : Meaning) (R : List Placed → Type 0) (row back : List Placed) → (m then R) row → first_code (row ++ back) ≡ code m
unfolding first_code
then_code m R [] back h = absurd h
then_code m R (t ∷ ts) back h = ap code h.0

spells_code : (e : Tree) (row back : List Placed) → Spells e row → first_code (row ++ back) ≡ 1
unfolding code
spells_code (leaf at k) row back h = then_code (word (Named k)) Ends row back h.2
spells_code (node at k args) row back h = then_code (word (Named k)) _ row back h.1

front_code : (e : Tree) (row front rest back : List Placed) → row ≡ front ++ rest → Spells e front → first_code (row ++ back) ≡ 1
front_code e row front rest back is h = ap (λ (r : List Placed). first_code (r ++ back)) is ∙ ap first_code (append_assoc front rest back) ∙ spells_code e front (rest ++ back) h

fills_code : (args : Args) (s : Option Signature) (row back : List Placed) → Fills args s row → first_code (row ++ back) ≡ args_code args
unfolding code args_code
fills_code (last e) s row back h = front_code e row h.1.0 h.1.1 back h.1.2 h.1.3
fills_code (number n args) s row back h = then_code (meaning.number n) _ row back h
fills_code (choice c args) s row back h = then_code (word (Chosen c)) _ row back h
fills_code (layer e args) s row back h = front_code e row h.0 h.1 back h.2 h.3

one_code : (args args' : Args) (s s' : Option Signature) (row row' back back' : List Placed) → Fills args s row → Fills args' s' row' → row ++ back ≡ row' ++ back' → args_code args ≡ args_code args'
one_code args args' s s' row row' back back' h h' e = sym (fills_code args s row back h) ∙ ap first_code e ∙ fills_code args' s' row' back' h'

-- ---- one tree

abbrev Unique : Tree → Type 0
Unique e = (e' : Tree) (row row' back back' : List Placed) → Spells e row → Spells e' row' → row ++ back ≡ row' ++ back' → (e ≡ e') × (back ≡ back')

abbrev UniqueArgs : Args → Type 0
UniqueArgs args = (args' : Args) (s : Option Signature) (row row' back back' : List Placed) → Fills args s row → Fills args' s row' → row ++ back ≡ row' ++ back' → (args ≡ args') × (back ≡ back')

named_is : (k k' : Name) → word (Named k) ≡ word (Named k') → k ≡ k'
named_is k k' e = cc

number_is : (n n' : ℕ) → meaning.number n ≡ meaning.number n' → n ≡ n'
number_is n n' e = cc

chosen_is : (c c' : Choice) → word (Chosen c) ≡ word (Chosen c') → c ≡ c'
chosen_is c c' e = cc

comma_close : mark Comma ≡ mark Close → ⊥
comma_close e = cc

mutual
  unfolding args_code

  pub spells_unique : (e : Tree) → Unique e
  spells_unique (leaf at k) (leaf at' k') row row' back back' h h' eq =
      let w = both (word (Named k)) (word (Named k')) Ends Ends row row' back back' h.2 h'.2 eq in
      let place = one_place at at' row row' back back' h.0 h'.0 eq in
      let same = named_is k k' w.0 in
      ((λ i. leaf (place i) (same i)), nothing_more w.1 w.2 back back' w.3 w.4 w.5)
  spells_unique (leaf at k) (node at' k' args') row row' back back' h h' eq =
      let w = both (word (Named k)) (word (Named k')) Ends (mark Open then Fills args' (inner (takes k'))) row row' back back' h.2 h'.1 eq in
      let b = behind (mark Open) (Fills args' (inner (takes k'))) w.2 w.4 in
      absurd (nothing_fills args' (inner (takes k')) b.1 (ap (λ k. inner (takes k)) (sym (named_is k k' w.0)) ∙ ap inner h.1) b.4)
  spells_unique (node at k args) (leaf at' k') row row' back back' h h' eq =
      let w = both (word (Named k)) (word (Named k')) (mark Open then Fills args (inner (takes k))) Ends row row' back back' h.1 h'.2 eq in
      let b = behind (mark Open) (Fills args (inner (takes k))) w.1 w.3 in
      absurd (nothing_fills args (inner (takes k)) b.1 (ap (λ k. inner (takes k)) (named_is k k' w.0) ∙ ap inner h'.1) b.4)
  spells_unique (node at k args) (node at' k' args') row row' back back' h h' eq =
      let w = both (word (Named k)) (word (Named k')) (mark Open then Fills args (inner (takes k))) (mark Open then Fills args' (inner (takes k'))) row row' back back' h.1 h'.1 eq in
      let o = both (mark Open) (mark Open) (Fills args (inner (takes k))) (Fills args' (inner (takes k'))) w.1 w.2 back back' w.3 w.4 w.5 in
      let place = one_place at at' row row' back back' h.0 h'.0 eq in
      let same = named_is k k' w.0 in
      let inner = fills_unique args args' (inner (takes k)) o.1 o.2 back back' o.3 (subst (λ (k : Name). Fills args' (inner (takes k)) o.2) (sym same) o.4) o.5 in
      ((λ i. node (place i) (same i) (inner.0 i)), inner.1)

  pub fills_unique : (args : Args) → UniqueArgs args
  fills_unique (last e) (last e') s row row' back back' h h' eq =
      let below = spells_unique e e' h.1.0 h'.1.0 (h.1.1 ++ back) (h'.1.1 ++ back') h.1.3 h'.1.3 (regroup h.1.0 h.1.1 back h'.1.0 h'.1.1 back' row row' h.1.2 h'.1.2 eq) in
      let z = both (mark Close) (mark Close) Ends Ends h.1.1 h'.1.1 back back' h.1.4 h'.1.4 below.1 in
      (ap last below.0, nothing_more z.1 z.2 back back' z.3 z.4 z.5)
  fills_unique (last e) (layer e' args') s row row' back back' h h' eq =
      let below = spells_unique e e' h.1.0 h'.0 (h.1.1 ++ back) (h'.1 ++ back') h.1.3 h'.3 (regroup h.1.0 h.1.1 back h'.0 h'.1 back' row row' h.1.2 h'.2 eq) in
      absurd (comma_close (sym (both (mark Close) (mark Comma) Ends (Fills args' (after_layer s)) h.1.1 h'.1 back back' h.1.4 h'.4 below.1).0))
  fills_unique (layer e args) (last e') s row row' back back' h h' eq =
      let below = spells_unique e e' h.0 h'.1.0 (h.1 ++ back) (h'.1.1 ++ back') h.3 h'.1.3 (regroup h.0 h.1 back h'.1.0 h'.1.1 back' row row' h.2 h'.1.2 eq) in
      absurd (comma_close (both (mark Comma) (mark Close) (Fills args (after_layer s)) Ends h.1 h'.1.1 back back' h.4 h'.1.4 below.1).0)
  fills_unique (layer e args) (layer e' args') s row row' back back' h h' eq =
      let below = spells_unique e e' h.0 h'.0 (h.1 ++ back) (h'.1 ++ back') h.3 h'.3 (regroup h.0 h.1 back h'.0 h'.1 back' row row' h.2 h'.2 eq) in
      let c = both (mark Comma) (mark Comma) (Fills args (after_layer s)) (Fills args' (after_layer s)) h.1 h'.1 back back' h.4 h'.4 below.1 in
      let more = fills_unique args args' (after_layer s) c.1 c.2 back back' c.3 c.4 c.5 in
      ((λ i. layer (below.0 i) (more.0 i)), more.1)
  fills_unique (number n args) (number n' args') s row row' back back' h h' eq =
      let t = both (meaning.number n) (meaning.number n') (mark Comma then Fills args (after_number s)) (mark Comma then Fills args' (after_number s)) row row' back back' h h' eq in
      let c = both (mark Comma) (mark Comma) (Fills args (after_number s)) (Fills args' (after_number s)) t.1 t.2 back back' t.3 t.4 t.5 in
      let more = fills_unique args args' (after_number s) c.1 c.2 back back' c.3 c.4 c.5 in
      let same = number_is n n' t.0 in
      ((λ i. number (same i) (more.0 i)), more.1)
  fills_unique (choice n args) (choice n' args') s row row' back back' h h' eq =
      let t = both (word (Chosen n)) (word (Chosen n')) (mark Comma then Fills args (after_choice n s)) (mark Comma then Fills args' (after_choice n' s)) row row' back back' h h' eq in
      let same = chosen_is n n' t.0 in
      let c = both (mark Comma) (mark Comma) (Fills args (after_choice n s)) (Fills args' (after_choice n' s)) t.1 t.2 back back' t.3 t.4 t.5 in
      let more = fills_unique args args' (after_choice n s) c.1 c.2 back back' c.3 (subst (λ (d : Choice). Fills args' (after_choice d s) c.2) (sym same) c.4) c.5 in
      ((λ i. choice (same i) (more.0 i)), more.1)
  fills_unique args args' s row row' back back' h h' eq = let e = one_code args args' s s row row' back back' h h' eq in absurd cc
