-- The grammar: which tokens spell which tree, by the signatures of the words.
use Rattle.std.specs.Prelude.{◌≡◌, ℕ, suc, ◌^◌, ◌<◌, max, true, List, [], ◌∷◌, ◌++◌, Option}
use Rattle.expr_reader.specs.declared.token.Word.TheVariants.{Named, Chosen}
use Rattle.expr_reader.specs.declared.token.Mark.TheVariants.{Open, Comma, Close}
use Rattle.expr_reader.specs.declared.signature.Signature.{Signature}
use Rattle.expr_reader.specs.Tokens.{Placed, Meaning, word, mark}
use Rattle.expr_reader.specs.Tokens as meaning
use Rattle.expr_reader.specs.declared.signature.Entry.TheVariants.{Alone}
use Rattle.expr_reader.specs.Signatures.{takes, inner, after_number, after_choice, after_layer, ends}
use Rattle.expr_reader.specs.Trees.{Tree, leaf, node, Args, last, number, choice, layer}

-- the row ends here
abbrev pub Ends : List Placed → Type 0
Ends row = row ≡ []

-- a token of this meaning, and then the rest
infixr 5 ◌then◌
abbrev pub ◌then◌ : Meaning → (List Placed → Type 0) → List Placed → Type 0
(m then Rest) [] = ⊥
(m then Rest) (t ∷ ts) = (t.meaning ≡ m) × Rest ts

-- a part of the row, and then the rest
infixr 5 ◌before◌
abbrev pub ◌before◌ : (List Placed → Type 0) → (List Placed → Type 0) → List Placed → Type 0
(Part before Rest) row = (front back : List Placed) × (row ≡ front ++ back) × Part front × Rest back

-- the first token stands at this place
abbrev pub BeginsAt : ℕ → List Placed → Type 0
BeginsAt at [] = ⊥
BeginsAt at (t ∷ ts) = t.at ≡ at

-- The row of tokens spells the tree.
abbrev mutual
  pub Spells : Tree → List Placed → Type 0
  Spells (leaf at k) row = BeginsAt at row × (takes k ≡ Alone) × (word (Named k) then Ends) row
  Spells (node at k args) row = BeginsAt at row × (word (Named k) then mark Open then Fills args (inner (takes k))) row

  -- The row spells what stands between parentheses, with the closing one, where this is to come.
  pub Fills : Args → Option Signature → List Placed → Type 0
  Fills (last e) s row = (ends s ≡ true) × (Spells e before mark Close then Ends) row
  Fills (number n args) s row = (meaning.number n then mark Comma then Fills args (after_number s)) row
  Fills (choice c args) s row = (word (Chosen c) then mark Comma then Fills args (after_choice c s)) row
  Fills (layer e args) s row = (Spells e before mark Comma then Fills args (after_layer s)) row

-- The row is a sentence of the grammar.
abbrev pub IsSentence : List Placed → Type 0
IsSentence row = (e : Tree) × Spells e row

-- The row is the front of a sentence.
abbrev pub IsViable : List Placed → Type 0
IsViable row = (rest : List Placed) × IsSentence (row ++ rest)

-- Each number of the tree is one that a program's number holds, and each word has what it takes.
abbrev mutual
  pub Fits : Tree → Type 0
  Fits (leaf at k) = takes k ≡ Alone
  Fits (node at k args) = FitsIn args (inner (takes k))

  -- The arguments are what this takes, and fit.
  pub FitsIn : Args → Option Signature → Type 0
  FitsIn (last e) s = (ends s ≡ true) × Fits e
  FitsIn (number n args) s = (n < 2 ^ 64) × FitsIn args (after_number s)
  FitsIn (choice c args) s = FitsIn args (after_choice c s)
  FitsIn (layer e args) s = Fits e × FitsIn args (after_layer s)

-- how many layers stand on the longest path above a leaf
abbrev mutual
  pub depth : Tree → ℕ
  depth (leaf at k) = 0
  depth (node at k args) = suc (greatest_depth args)

  -- the greatest depth of the layers
  pub greatest_depth : Args → ℕ
  greatest_depth (last e) = depth e
  greatest_depth (number n args) = greatest_depth args
  greatest_depth (choice c args) = greatest_depth args
  greatest_depth (layer e args) = max (depth e) (greatest_depth args)
