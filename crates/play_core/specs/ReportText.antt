-- Report text: the lines that tell, at the end of a trace, what stands.
use Rattle.std.specs.Prelude.{ℕ, ◌-◌, List, [], ◌∷◌, ◌++◌, length, sum_by, codes}
use Rattle.std.specs.Fmt.{decimal}
use Rattle.layer_rules.specs.Rules.{Rules}
use Rattle.heap_core.specs.Performing.{Run}
use Rattle.fact_text.specs.FactText.{node_lines}

-- a word, a space, a number and a newline
abbrev pub total_line : (word : List ℕ) (number : ℕ) → List ℕ
total_line word number = word ++ 32 ∷ decimal number ++ 10 ∷ []

-- how many bytes the live blocks asked for, and how many they take up where their routes end
abbrev pub asked_in : Run → ℕ
asked_in run = sum_by (λ x. x.block.len) run.world

abbrev pub extent_in : Rules → Run → ℕ
extent_in root run = sum_by (λ x. (root.extent x.block run.state).len) run.world

-- the totals
abbrev pub total_lines : Rules → Run → List (List ℕ)
total_lines root run =
    total_line (codes "live") (length run.world) ∷ total_line (codes "asked") (asked_in run)
    ∷ total_line (codes "extent") (extent_in root run) ∷ total_line (codes "slack") (extent_in root run - asked_in run) ∷ []

-- the report
unfoldable pub report_of : Rules → Run → List (List ℕ)
report_of root run = total_lines root run ++ node_lines 0 (root.facts run.state run.cells)
