-- Buildable trees: those that a composition may be built of, whether read from a text or made by hand.
use Rattle.std.specs.Prelude.{◌≡◌, ℕ, ◌≤◌, Bool, true, List, [], ◌∷◌, Option, None}
use Rattle.std.specs.Bool.{⊤}
use Rattle.expr_reader.specs.declared.token.Name.{Name}
use Rattle.expr_reader.specs.Trees.{Tree, leaf, node, Args, last, number, choice, layer}
use Rattle.expr_reader.specs.Grammar.{Fits, depth}
use Rattle.expr_reader.specs.Flaws.{heads, keeps_ranges, needs, gives, least_alignment}
use Rattle.expr_reader.specs.Faults.{most_layers}

-- each test is passed
abbrev pub ArePassed : List Bool → Type 0
ArePassed [] = ⊤
ArePassed (b ∷ bs) = (b ≡ true) × ArePassed bs

-- Below a layer that gives this, the word keeps its rules: its numbers are allowed, and what stands below it has the alignment that it needs.
pub record KeepsRules (given : Option ℕ) (k : Name) (args : Args) : Type 0 where
  pub in_range : ArePassed (keeps_ranges k given (heads args))
  pub aligned : needs k (heads args) ≤ least_alignment args

-- each word of the tree keeps its rules
abbrev mutual
  pub AllKeepRules : (given : Option ℕ) → Tree → Type 0
  AllKeepRules given (leaf at k) = ⊤
  AllKeepRules given (node at k args) = KeepsRules given k args × AllKeepRulesIn (gives k (heads args)) args

  -- so do those of the layers of some arguments
  pub AllKeepRulesIn : (given : Option ℕ) → Args → Type 0
  AllKeepRulesIn given (last e) = AllKeepRules given e
  AllKeepRulesIn given (number n args) = AllKeepRulesIn given args
  AllKeepRulesIn given (choice c args) = AllKeepRulesIn given args
  AllKeepRulesIn given (layer e args) = AllKeepRules given e × AllKeepRulesIn given args

-- Each word is one of the grammar, with what it takes, and keeps its rules; and no path has more layers than a composition has room for.
pub record IsBuildable (e : Tree) : Type 0 where
  pub fits : Fits e
  pub keeps : AllKeepRules None e
  pub shallow : depth e ≤ most_layers
