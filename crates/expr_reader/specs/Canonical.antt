-- The canonical text of a tree: no spaces, and no leading zeros.
use Rattle.std.specs.Prelude.{ℕ, ◌+◌, List, [], ◌∷◌, ◌++◌, length, codes}
use Rattle.std.specs.Fmt.{decimal}
use Rattle.expr_reader.specs.declared.token.Name.{Name}
use Rattle.expr_reader.specs.declared.token.Choice.{Choice}
use Rattle.expr_reader.specs.declared.token.Word.TheVariants.{Named, Chosen}
use Rattle.expr_reader.specs.Words.{letters}
use Rattle.expr_reader.specs.Trees.{Tree, leaf, node, Args, last, number, choice, layer}

-- the letters of a layer's word
abbrev pub word_text : Name → List ℕ
word_text k = letters (Named k)

-- the letters of a word in place of numbers
abbrev pub choice_text : Choice → List ℕ
choice_text c = letters (Chosen c)

-- a number, and the comma behind it
abbrev pub numeral : ℕ → List ℕ
numeral n = decimal n ++ codes ","

-- the text of a tree
abbrev mutual
  pub canonical : Tree → List ℕ
  canonical (leaf at k) = word_text k
  canonical (node at k args) = word_text k ++ 40 ∷ args_text args

  -- the text of what stands between the parentheses, with the closing one
  pub args_text : Args → List ℕ
  args_text (last e) = canonical e ++ 41 ∷ []
  args_text (number n args) = numeral n ++ args_text args
  args_text (choice c args) = choice_text c ++ 44 ∷ args_text args
  args_text (layer e args) = canonical e ++ 44 ∷ args_text args

-- The tree with the places that its words have in its canonical text, where that text begins at this place.
abbrev mutual
  pub in_place : ℕ → Tree → Tree
  in_place at (leaf old k) = leaf at k
  in_place at (node old k args) = node at k (args_in_place (at + length (word_text k) + 1) args)

  -- the same of arguments, the first of which begins at this place
  pub args_in_place : ℕ → Args → Args
  args_in_place at (last e) = last (in_place at e)
  args_in_place at (number n args) = number n (args_in_place (at + length (numeral n)) args)
  args_in_place at (choice c args) = choice c (args_in_place (at + length (choice_text c) + 1) args)
  args_in_place at (layer e args) = layer (in_place at e) (args_in_place (at + length (canonical e) + 1) args)
