-- What a leaf's call knows of the block that it takes.
use Rattle.std.proofs.Common.{◌≡◌, refl, inl, ℕ, zero, suc, List, [], ◌∷◌, ◌+◌, ◌-◌, ◌≤◌, ◌<◌, true, arith, length, get_or}
use Rattle.std.proofs.lemmas.Bool.Decides.{nat_tests}
use Rattle.size_round.specs.Sizes.{limit}
use Rattle.space_core.specs.Cells.{Cells, has_tag, cell_at, cells_touched}
use Rattle.space_core.specs.Leaf.{Leaf}
use Rattle.space_core.specs.Memory.{Memory}
use Rattle.layer_rules.specs.declared.Block.{Block}
use Rattle.leaf_rules.specs.MemRules.{mem_rules}
use Rattle.layer_rules.specs.Layering.{state_of, IsOutOf, IsRoutedIn, Stands}
use Rattle.leaf_rules.proofs.MemLawful.{out-mem}
use Rattle.layer_core.specs.LeafModel.{leaf_model}

-- a block that a leaf can name
pub record IsNamed (b : Block) : Type 0 where
  pub place : b.place < limit
  pub len : b.len ≤ limit

pub named : (l : Leaf) (b : Block) → IsRoutedIn (leaf_model l) b → IsNamed b
unfolding mem_rules
named l b h = record { place = grind (arith, nat_tests); len = grind (arith, nat_tests) }

-- a tag that isn't 0 stands in a cell that is there
tagged-inside : (T : List ℕ) (c tag : ℕ) → 1 ≤ tag → get_or T c 0 ≡ tag → c < length T
tagged-inside [] c tag h e = absurd (omega (arith, h, e))
tagged-inside (t ∷ T) zero tag h e = omega arith
tagged-inside (t ∷ T) (suc c) tag h e = let k = tagged-inside T c tag h e in omega arith

-- a block of a leaf, in cells with its tag
pub record IsServed (tag : ℕ) (b : Block) (cells : Cells) : Type 0 where
  pub some : 1 ≤ b.len
  pub most : b.len ≤ limit
  pub tagged : has_tag tag b.place b.len cells ≡ true

pub taken-back : (l : Leaf) (m : Memory) (b : Block) → Stands (leaf_model l) m → IsOutOf (leaf_model l) m b → IsServed l.tag b m.cells
unfolding mem_rules
taken-back l m b h o =
    let x = out-mem l.tag b (state_of (leaf_model l) m) m.cells o in
    let last = (cell_at b.place + cells_touched b.place b.len) - 1 in
    let e = x.tagged last (omega (arith, x.some)) (omega (arith, x.some)) in
    let k = tagged-inside m.cells.tags last l.tag (h.sound.made.least l.tag (inl refl)) e in
    record { some = x.some; most = omega (arith, x.some, h.memory.cells, k); tagged = grind (arith, nat_tests) }
