-- Layers that take one chunk of their parent: what the test of the chunk says, and what holds once it is taken.
use Rattle.std.proofs.Common.{◌≡◌, ◌≤◌, true}
use Rattle.size_round.specs.Sizes.{limit}
use Rattle.space_core.specs.Cells.{Cells}
use Rattle.layer_rules.specs.Rules.{Rules}
use Rattle.layer_rules.specs.State.{State}
use Rattle.layer_rules.specs.declared.Block.{Block}

-- the chunk is out of the parent, and no longer than what a layer serves
pub record HasChunk (e : Rules) (chunk : Block) (parent : State) (cells : Cells) : Type 0 where
  pub out : e.is_out chunk parent cells ≡ true
  pub bound : chunk.len ≤ limit
