-- Leaf: what contracts see of a leaf: its tag, and whether it is set up.
use Rattle.std.specs.Prelude.{ℕ, ◌≤◌, Bool}
use Rattle.space_core.specs.Memory.{most_leaves}

pub record Leaf : Type 0 where
  pub tag : ℕ
  pub is_set : Bool

-- the tag that a leaf can have, which is never that of a free cell
pub record IsMadeLeaf (leaf : Leaf) : Type 0 where
  pub some : 1 ≤ leaf.tag
  pub most : leaf.tag ≤ most_leaves
