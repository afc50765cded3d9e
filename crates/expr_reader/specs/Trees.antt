-- Expressions as plain data: a word with what stands between its parentheses, in order.
use Rattle.std.specs.Prelude.{ℕ}
use Rattle.expr_reader.specs.declared.token.Name.{Name}
use Rattle.expr_reader.specs.declared.token.Name.TheVariants as name
use Rattle.expr_reader.specs.declared.token.Choice.{Choice}
use Rattle.expr_reader.specs.declared.token.Choice.TheVariants.{Any, Pow2}
use Rattle.expr_reader.specs.declared.tree.Bounds.{Bounds}
use Rattle.expr_reader.specs.declared.tree.Bounds.TheVariants as bounds
use Rattle.expr_reader.specs.declared.tree.RoundKind.{RoundKind}
use Rattle.expr_reader.specs.declared.tree.RoundKind.TheVariants as kind
use Rattle.expr_reader.specs.declared.tree.Expr.{Expr}
use Rattle.expr_reader.specs.declared.tree.Form.{Form, Null, Mem, Region', Bitmap', Kr', FreeList', Quantize', Stats', Affix', Segregate', Buckets', Fallback', List'}
use Rattle.expr_reader.specs.declared.tree.Form.TheBlock.{Row_of-Part, end_of-Part, more_of-Part}
use Rattle.expr_reader.specs.declared.tree.Parts.{Parts, Parts'}

-- a word with its place in the text, alone or with its arguments
mutual
  pub data Tree : Type 0 where
    leaf : (at : ℕ) → Name → Tree
    node : (at : ℕ) → Name → Args → Tree

  -- what stands between the parentheses: the last layer, or something with a comma behind it and then more
  pub data Args : Type 0 where
    last : Tree → Args
    number : (value : ℕ) → Args → Args
    choice : Choice → Args → Args
    layer : Tree → Args → Args

-- ---- the trees of the program's forms

pattern abbrev pub null : (at : ℕ) → Tree
null at = leaf at name.Null

pattern abbrev pub mem : (at : ℕ) → Tree
mem at = leaf at name.Mem

pattern abbrev pub region : (at size align : ℕ) → Tree → Tree
region at size align e = node at name.Region (number size (number align (last e)))

pattern abbrev pub bitmap : (at block count : ℕ) → Tree → Tree
bitmap at block count e = node at name.Bitmap (number block (number count (last e)))

pattern abbrev pub kr : (at size : ℕ) → Tree → Tree
kr at size e = node at name.Kr (number size (last e))

pattern abbrev pub stats : (at : ℕ) → Tree → Tree
stats at e = node at name.Stats (last e)

pattern abbrev pub affix : (at prefix suffix : ℕ) → Tree → Tree
affix at prefix suffix e = node at name.Affix (number prefix (number suffix (last e)))

pattern abbrev pub segregate : (at : ℕ) → Args → Tree
segregate at parts = node at name.Segregate parts

pattern abbrev pub buckets : (at least greatest step : ℕ) → Tree → Tree
buckets at least greatest step e = node at name.Buckets (number least (number greatest (number step (last e))))

pattern abbrev pub fallback : (at : ℕ) → (primary second : Tree) → Tree
fallback at p f = node at name.Fallback (layer p (last f))

pattern abbrev pub list : (at count : ℕ) → Tree → Tree
list at count e = node at name.List (number count (last e))

-- the sizes that a free list keeps, before what stands behind
abbrev pub bounds_args : Bounds → Args → Args
bounds_args bounds.Any args = choice Any args
bounds_args (bounds.Range least greatest) args = number least (number greatest args)

-- what a quantizer rounds up to, before what stands behind
abbrev pub kind_args : RoundKind → Args → Args
kind_args kind.Pow2 args = choice Pow2 args
kind_args (kind.Step step) args = number step args

-- a form whose word stands at this place
abbrev mutual
  pub form_tree : ℕ → Form → Tree
  form_tree at Null = null at
  form_tree at Mem = mem at
  form_tree at (Region' size align box below form) = region at size align (form_tree below form)
  form_tree at (Bitmap' block count box below form) = bitmap at block count (form_tree below form)
  form_tree at (Kr' size box below form) = kr at size (form_tree below form)
  form_tree at (FreeList' bounds box below form) = node at name.FreeList (bounds_args bounds (last (form_tree below form)))
  form_tree at (Quantize' kind box below form) = node at name.Quantize (kind_args kind (last (form_tree below form)))
  form_tree at (Stats' box below form) = stats at (form_tree below form)
  form_tree at (Affix' prefix suffix box below form) = affix at prefix suffix (form_tree below form)
  form_tree at (Segregate' parts box below form) = segregate at (members parts (last (form_tree below form)))
  form_tree at (Buckets' least greatest step box below form) = buckets at least greatest step (form_tree below form)
  form_tree at (Fallback' box below form box' below' form') = fallback at (form_tree below form) (form_tree below' form')
  form_tree at (List' count box below form) = list at count (form_tree below form)

  -- a segregator's parts, before what stands behind them
  pub members : Parts → Args → Args
  members (Parts' items row) args = members_of row args

  -- the same, part after part
  pub members_of : {m : _} → Row_of-Part m → Args → Args
  members_of end_of-Part args = args
  members_of (more_of-Part threshold below form rest) args = number threshold (layer (form_tree below form) (members_of rest args))

-- an expression of the program
abbrev pub tree_of : Expr → Tree
tree_of e = form_tree e.at e.form

-- the place of a tree's word
abbrev pub place_of : Tree → ℕ
place_of (leaf at k) = at
place_of (node at k args) = at
