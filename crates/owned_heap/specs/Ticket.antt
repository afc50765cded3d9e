-- Ticket: what contracts see of a block that a heap handed out.
use Rattle.std.specs.Prelude.{ℕ}
use Rattle.layer_rules.specs.declared.Block.{Block}

-- the how-manieth block of its heap it is, from a number that nothing tells, and where it stands
pub record Ticket : Type 0 where
  pub number : ℕ
  pub block : Block
