-- Lines of a statistics layer.
use Rattle.std.proofs.Common.{◌≡◌, ℕ, ◌≤◌, List, [], ◌∷◌, ◌++◌, length, take, ap, ◌∙◌, codes}
use Rattle.std.proofs.lemmas.List.{take_all}
use Rattle.layer_rules.specs.declared.Stats.{Stats}
use Rattle.layer_rules.specs.Fields.{stats_numbers}
use Rattle.fact_text.specs.FactText.{node_words, spaced, stats_line}

-- the line is there, once all its numbers are put
pub stats_told : (node i : ℕ) (stats : Stats) (numbers line all : List ℕ) → numbers ≡ stats_numbers stats → length numbers ≤ i → line ≡ node_words node (codes "stats") ++ spaced (take i numbers)
    → all ≡ line ++ 10 ∷ [] → all ≡ stats_line node stats
stats_told node i stats numbers line all n le l a =
    a ∙ ap (λ xs. xs ++ 10 ∷ []) (l ∙ ap (λ ns. node_words node (codes "stats") ++ spaced ns) (take_all i numbers le ∙ n))
