-- The root that an expression stands for, in a Space that is fresh.
use Rattle.std.proofs.Common.{◌≡◌, ℕ, zero, suc, ◌+◌, ◌≤◌, Bool, false, replicate, refl, sym, ap, ◌∙◌, subst, arith, fold, cond, nat_eq}
use Rattle.std.proofs.lemmas.Bool.Decides.{nat_tests}
use Rattle.space_core.specs.Memory.{Memory, IsMemory, fresh_memory}
use Rattle.layer_rules.specs.Layering.{LayerModel, Stands, IsShut}
use Rattle.layer_rules.specs.Rules.{HasDistinctTags, HasMadeTags, HasNoCells, Rules}
use Rattle.layer_laws.specs.Lawful.{IsMade}
use Rattle.layer_laws.proofs.StandingLaws.{shut-stands_again}
use Rattle.shapes.specs.RulesOf.{rules_of}
use Rattle.expr_builder.specs.ShapeOf.{shape_of}
use Rattle.expr_builder.specs.Sound.{IsComposition, leaf_count, with_leaves}
use Rattle.expr_reader.specs.Trees.{Tree as Expression}
use Rattle.play_core.specs.Asked.{root_of, free_cells}
use Rattle.play_core.specs.Runs.{HasAllFree}
use Rattle.play_core.proofs.Whole.{free_fresh}

none_used : (t n k : ℕ) → 1 ≤ t → fold (λ (a x : ℕ). a + cond (nat_eq x t) 1 0) k (replicate n 0) ≡ k
none_used zero n k h = absurd (omega arith)
none_used (suc t) zero k h = refl
none_used (suc t) (suc n) k h =
    let miss : nat_eq 0 (suc t) ≡ false = grind (arith, nat_tests) in
    let same : k + 0 ≡ k = omega arith in
    ap (λ (hit : Bool). fold (λ (a x : ℕ). a + cond (nat_eq x (suc t)) 1 0) (k + cond hit 1 0) (replicate n 0)) miss
    ∙ ap (λ j. fold (λ (a x : ℕ). a + cond (nat_eq x (suc t)) 1 0) j (replicate n 0)) same ∙ none_used (suc t) n k h

-- no leaf has a cell in a table of free ones
pub no_cells : (e : Expression) (n : ℕ) → IsComposition e 0 → HasNoCells (root_of e) (free_cells n)
no_cells e n h = record { none = λ t leaf. let k = h.next t leaf in none_used t n 0 (omega (arith, k.0)) }

-- each leaf is made
pub made_tags : (e : Expression) → IsComposition e 0 → HasMadeTags (leaf_count e) (root_of e)
made_tags e h = record { least = λ t leaf. let k = h.next t leaf in omega (arith, k.0); most = λ t leaf. let k = h.next t leaf in omega (arith, k.1) }

-- the Space in which the root was built
pub built_memory : (e : Expression) (m m' : Memory) (n : ℕ) → m ≡ fresh_memory n 0 → m' ≡ with_leaves (leaf_count e) m → m' ≡ fresh_memory n (leaf_count e)
built_memory e m m' n fresh built =
    let none : 0 + leaf_count e ≡ leaf_count e = omega arith in
    built ∙ ap (with_leaves (leaf_count e)) fresh ∙ ap (fresh_memory n) none

is_memory : (e : Expression) (m m' : Memory) (n : ℕ) → IsMemory m → m ≡ fresh_memory n 0 → IsComposition e 0 → m' ≡ with_leaves (leaf_count e) m → IsMemory m'
is_memory e m m' n memory fresh h built =
    subst IsMemory (sym built) (record { sizes = memory.sizes; cells = memory.cells; leaves = omega (arith, ap (λ (x : Memory). x.leaves) fresh, h.few) })

stands_there : (t : LayerModel) (m : Memory) (n : ℕ) (e : Expression) → t.rules ≡ root_of e → IsShut t → IsComposition e 0 → IsMemory m → m ≡ fresh_memory n (leaf_count e) → Stands t m
stands_there t m n e same shut h memory is =
    shut-stands_again t m (subst IsMade (sym same) h.lawful) memory (subst HasDistinctTags (sym same) h.distinct)
    (subst (λ (x : Rules). HasMadeTags m.leaves x) (sym same) (subst (λ (x : Memory). HasMadeTags x.leaves (root_of e)) (sym is) (made_tags e h)))
    shut
    (subst (λ (x : Rules). HasNoCells x m.cells) (sym same) (subst (λ (x : Memory). HasNoCells (root_of e) x.cells) (sym is) (no_cells e n h)))

-- a closed root stands there
pub root_stands : (t : LayerModel) (e : Expression) (m m' : Memory) (n : ℕ) → t.rules ≡ rules_of (shape_of e m.leaves) → IsShut t → IsComposition e 0 → IsMemory m → m ≡ fresh_memory n 0 → m' ≡ with_leaves (leaf_count e) m → Stands t m'
root_stands t e m m' n same shut h memory fresh built =
    stands_there t m' n e (same ∙ ap (λ (x : Memory). rules_of (shape_of e x.leaves)) fresh) shut h (is_memory e m m' n memory fresh h built) (built_memory e m m' n fresh built)

-- and no cell is taken
pub root_free : (e : Expression) (m m' : Memory) (n : ℕ) → m ≡ fresh_memory n 0 → m' ≡ with_leaves (leaf_count e) m → HasAllFree m'
root_free e m m' n fresh built = free_fresh m' n (leaf_count e) (built_memory e m m' n fresh built)
