-- What is proved of the compositions that buildable trees and accepted ones stand for.
use Rattle.std.specs.Prelude.{◌≡◌, ℕ, ◌+◌, ◌≤◌, ◌<◌, true, List}
use Rattle.space_core.specs.Memory.{Memory, most_leaves}
use Rattle.layer_rules.specs.Rules.{IsLeaf, HasDistinctTags}
use Rattle.layer_laws.specs.Lawful.{IsMade}
use Rattle.shapes.specs.RulesOf.{rules_of}
use Rattle.shapes.specs.Proper.{is_composition}
use Rattle.expr_reader.specs.Trees.{Tree}
use Rattle.expr_reader.specs.Answers.{IsAccepted}
use Rattle.expr_reader.specs.Buildable.{IsBuildable}
use Rattle.expr_builder.specs.ShapeOf.{shape_of}
pub use Rattle.expr_builder.specs.ShapeOf.{leaf_count}

-- the Space with so many leaves more
abbrev pub with_leaves : ℕ → Memory → Memory
with_leaves n m = record m { leaves = m.leaves + n }

-- The shape of the tree is one that code may make, its rules are lawful, and its leaves are the next of the Space, each once, no more
-- than a Space makes.
pub record IsComposition (e : Tree) (made : ℕ) : Type 0 where
  pub proper : is_composition (shape_of e made) ≡ true
  pub lawful : IsMade (rules_of (shape_of e made))
  pub distinct : HasDistinctTags (rules_of (shape_of e made))
  pub next : (tag : ℕ) → IsLeaf (rules_of (shape_of e made)) tag → (made < tag) × (tag ≤ made + leaf_count e)
  pub few : leaf_count e ≤ most_leaves

-- Each buildable tree stands for such a composition, whatever leaves the Space has made.
abbrev pub BuildableAreCompositions : Type 0
BuildableAreCompositions = (e : Tree) → IsBuildable e → (made : ℕ) → IsComposition e made

-- Each accepted tree stands for such a composition, whatever leaves the Space has made.
abbrev pub AcceptedAreCompositions : Type 0
AcceptedAreCompositions = (text : List ℕ) (e : Tree) → IsAccepted text e → (made : ℕ) → IsComposition e made
