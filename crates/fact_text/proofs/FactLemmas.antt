-- Lines of nodes, one after another.
use Rattle.std.proofs.Common.{◌≡◌, ℕ, zero, suc, ◌+◌, List, [], ◌∷◌, ◌++◌, drop, Option, Some, None, refl, ap, ◌∙◌, arith}
use Rattle.std.specs.Prelude.{slice_get}
use Rattle.layer_rules.specs.declared.Fact.{Fact}
use Rattle.fact_text.specs.FactText.{and_lines, fact_line, node_lines}

and_append : (o : Option (List ℕ)) (lines : List (List ℕ)) → and_lines o lines ≡ and_lines o [] ++ lines
and_append None lines = refl
and_append (Some line) lines = refl

same_fact : {f fact : Fact} → Some f ≡ Some fact → f ≡ fact
same_fact h = cc

-- from the fact of a node on: its line, and then the lines of the rest
pub nodes_next : (facts : List Fact) (node k : ℕ) (fact : Fact) → slice_get facts k ≡ Some fact → node_lines node (drop k facts) ≡ and_lines (fact_line node fact) [] ++ node_lines (node + 1) (drop (k + 1) facts)
nodes_next [] node k fact h = absurd cc
nodes_next (f ∷ fs) node zero fact h = ap (λ g. and_lines (fact_line node g) (node_lines (node + 1) fs)) (same_fact h) ∙ and_append (fact_line node fact) (node_lines (node + 1) fs)
nodes_next (f ∷ fs) node (suc k) fact h =
    let e : suc (k + 1) ≡ suc k + 1 = omega arith in
    nodes_next fs node k fact h ∙ ap (λ n. and_lines (fact_line node fact) [] ++ node_lines (node + 1) (drop n (f ∷ fs))) e
