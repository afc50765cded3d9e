-- What a leaf says of a block at a path's end: neither yes nor no, since it offers no owns.
use Rattle.std.proofs.Common.{refl, ℕ}
use Rattle.layer_laws.specs.Lawful.{HoldingLaws, PathLaws}
use Rattle.layer_laws.proofs.PathEnds.{neither-no_layer, end-paths}
use Rattle.leaf_rules.specs.MemRules.{mem_rules}

pub mem-paths : (tag : ℕ) → HoldingLaws (mem_rules tag) → PathLaws (mem_rules tag)
unfolding mem_rules
mem-paths tag h = end-paths (mem_rules tag) (record { asked = λ b s. refl; size = λ b s z. absurd (cc) }) (λ i path b s. neither-no_layer) h
