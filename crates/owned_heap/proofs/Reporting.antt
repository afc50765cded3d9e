-- Lines of a report, one node after another.
use Rattle.std.proofs.Common.{◌≡◌, ℕ, ◌+◌, ◌≤◌, List, [], ◌++◌, length, drop, Some, sym, ap, ◌∙◌, append_assoc, append-nil}
use Rattle.std.specs.Prelude.{slice_get}
use Rattle.std.specs.List.{concat}
use Rattle.std.proofs.Math.ListN.{drop_of_length-le}
use Rattle.std.proofs.lemmas.List.Folds.{concat-append}
use Rattle.layer_rules.specs.declared.Fact.{Fact}
use Rattle.layer_rules.specs.Layering.{LayerModel, state_of}
use Rattle.fact_text.specs.FactText.{and_lines, fact_line, node_lines}
use Rattle.fact_text.proofs.FactLemmas.{nodes_next}
use Rattle.owned_heap.specs.Owned.{Owned}
use Rattle.owned_heap.specs.Reports.{report_in}

-- nothing is told yet
pub none_told : (facts : List Fact) (text : List ℕ) → text ≡ [] → text ++ concat (node_lines 0 (drop 0 facts)) ≡ concat (node_lines 0 facts)
none_told facts text e = ap (λ xs. xs ++ concat (node_lines 0 facts)) e

-- one node more
pub node_told : (facts : List Fact) (k : ℕ) (fact : Fact) (text text' all : List ℕ) → slice_get facts k ≡ Some fact → text ++ concat (node_lines k (drop k facts)) ≡ all
    → text' ≡ text ++ concat (and_lines (fact_line k fact) []) → text' ++ concat (node_lines (k + 1) (drop (k + 1) facts)) ≡ all
node_told facts k fact text text' all is h e =
    let line = and_lines (fact_line k fact) [] in
    let rest = node_lines (k + 1) (drop (k + 1) facts) in
    let next : concat (node_lines k (drop k facts)) ≡ concat line ++ concat rest = ap concat (nodes_next facts k k fact is) ∙ concat-append line rest in
    ap (λ xs. xs ++ concat rest) e ∙ append_assoc text (concat line) (concat rest) ∙ ap (λ xs. text ++ xs) (sym next) ∙ h

-- all nodes
pub all_told : {L : Type 0} (model : L → LayerModel) (h : Owned L) (k : ℕ) (text : List ℕ)
    → let facts = (model h.root).rules.facts (state_of (model h.root) h.memory) h.memory.cells in length facts ≤ k → text ++ concat (node_lines k (drop k facts)) ≡ concat (node_lines 0 facts)
    → text ≡ report_in model h
unfolding report_in
all_told model h k text le e =
    let facts = (model h.root).rules.facts (state_of (model h.root) h.memory) h.memory.cells in
    let none : text ++ concat (node_lines k (drop k facts)) ≡ text = ap (λ fs. text ++ concat (node_lines k fs)) (drop_of_length-le facts le) ∙ append-nil text in
    sym none ∙ e
