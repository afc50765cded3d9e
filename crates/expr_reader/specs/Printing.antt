-- The texts of the parts of a form, as the private functions of printing put them.
use Rattle.std.specs.Prelude.{ℕ, List, [], ◌∷◌, ◌++◌, codes}
use Rattle.expr_reader.specs.declared.token.Choice.TheVariants as choice
use Rattle.expr_reader.specs.declared.tree.Bounds.{Bounds}
use Rattle.expr_reader.specs.declared.tree.Bounds.TheVariants.{Any, Range}
use Rattle.expr_reader.specs.declared.tree.RoundKind.{RoundKind}
use Rattle.expr_reader.specs.declared.tree.RoundKind.TheVariants.{Pow2, Step}
use Rattle.expr_reader.specs.declared.tree.Part.{Part}
use Rattle.expr_reader.specs.declared.tree.Parts.{Parts}
use Rattle.expr_reader.specs.Parts.{parts}
use Rattle.expr_reader.specs.Trees.{tree_of}
use Rattle.expr_reader.specs.Canonical.{numeral, choice_text, canonical}

-- numbers, with a comma behind each
abbrev pub numerals : List ℕ → List ℕ
numerals [] = []
numerals (n ∷ ns) = numeral n ++ numerals ns

-- the sizes that a free list keeps
abbrev pub bounds_text : Bounds → List ℕ
bounds_text Any = choice_text choice.Any ++ codes ","
bounds_text (Range least greatest) = numeral least ++ numeral greatest

-- what a quantizer rounds up to
abbrev pub kind_text : RoundKind → List ℕ
kind_text Pow2 = choice_text choice.Pow2 ++ codes ","
kind_text (Step step) = numeral step

-- each threshold and member, with a comma behind each
abbrev pub parts_text : List Part → List ℕ
parts_text [] = []
parts_text (p ∷ ps) = numeral p.threshold ++ (canonical (tree_of p.member) ++ (codes "," ++ parts_text ps))

-- the members of a segregator but the last
abbrev pub members_text : Parts → List ℕ
members_text p = parts_text (parts p)
