-- The shape that a tree stands for, in a Space that has made some leaves already: its leaves take the next tags, in preorder.
use Rattle.std.specs.Prelude.{ℕ, ◌+◌, List, [], ◌∷◌}
use Rattle.size_round.specs.Sizes.{RoundingKind, multiple_of, power_of_two}
use Rattle.shapes.specs.Shape.{Shape}
use Rattle.shapes.specs.Shape as shape
use Rattle.expr_reader.specs.declared.token.Name.{Name}
use Rattle.expr_reader.specs.declared.token.Name.TheVariants as name
use Rattle.expr_reader.specs.declared.token.Choice.TheVariants.{Pow2}
use Rattle.expr_reader.specs.declared.node.Head.{Head}
use Rattle.expr_reader.specs.declared.node.Head.TheVariants.{Number, Chosen}
use Rattle.expr_reader.specs.declared.tree.RoundKind.{RoundKind}
use Rattle.expr_reader.specs.declared.tree.RoundKind.TheVariants as kind
use Rattle.expr_reader.specs.Trees.{Tree, leaf, node, Args, last, number, choice, layer}
use Rattle.expr_reader.specs.Flaws.{heads}

-- the shape of a word that stands alone
abbrev pub leaf_shape : Name → (made : ℕ) → Shape
leaf_shape name.Mem made = shape.mem (made + 1)
leaf_shape k made = shape.null

-- how many leaves of the Space the shape of such a word takes
abbrev pub leaves_of : Shape → ℕ
leaves_of (shape.mem tag) = 1
leaves_of s = 0

-- how many leaves of the Space the tree takes
abbrev mutual
  pub leaf_count : Tree → ℕ
  leaf_count (leaf at k) = leaves_of (leaf_shape k 0)
  leaf_count (node at k args) = leaf_count_in args

  -- how many leaves the layers of some arguments take
  pub leaf_count_in : Args → ℕ
  leaf_count_in (last e) = leaf_count e
  leaf_count_in (number n args) = leaf_count_in args
  leaf_count_in (choice c args) = leaf_count_in args
  leaf_count_in (layer e args) = leaf_count e + leaf_count_in args

-- the rounding of a quantizer
abbrev pub kind_of : RoundKind → RoundingKind
kind_of kind.Pow2 = power_of_two
kind_of (kind.Step step) = multiple_of step

-- The shape of a layer, from its numbers and the shapes below it. A word that isn't in the grammar yet stands for no memory at all.
abbrev pub layer_shape : Name → List Head → List Shape → Shape
layer_shape name.Region (Number size ∷ Number align ∷ []) (s ∷ []) = shape.region size align s
layer_shape name.FreeList (Number least ∷ Number greatest ∷ []) (s ∷ []) = shape.freelist least greatest s
layer_shape name.Quantize (Number step ∷ []) (s ∷ []) = shape.quantize (multiple_of step) s
layer_shape name.Quantize (Chosen Pow2 ∷ []) (s ∷ []) = shape.quantize power_of_two s
layer_shape name.Stats [] (s ∷ []) = shape.stats s
layer_shape name.Affix (Number prefix ∷ Number suffix ∷ []) (s ∷ []) = shape.affix prefix suffix s
layer_shape k hs ss = shape.null

-- the shape of a tree
abbrev mutual
  pub shape_of : Tree → (made : ℕ) → Shape
  shape_of (leaf at k) made = leaf_shape k made
  shape_of (node at k args) made = layer_shape k (heads args) (shapes args made)

  -- the shapes of the layers in order
  pub shapes : Args → (made : ℕ) → List Shape
  shapes (last e) made = shape_of e made ∷ []
  shapes (number n args) made = shapes args made
  shapes (choice c args) made = shapes args made
  shapes (layer e args) made = shape_of e made ∷ shapes args (made + leaf_count e)
