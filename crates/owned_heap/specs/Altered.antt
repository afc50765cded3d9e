-- Altered: what a closure that was lent the bytes of a block left of a Space.
use Rattle.std.specs.Prelude.{ℕ, ◌≡◌, List, length, slice_range}
use Rattle.std.specs.Borrow.{MutBor}
use Rattle.std.specs.Fn.{Once, FnOnceReturnsAtMut}
use Rattle.space_core.specs.Memory.{Memory}
use Rattle.space_core.specs.Words.{write_from}
use Rattle.layer_rules.specs.Blocks.{end_of}
use Rattle.layer_rules.specs.declared.Block.{Block}

-- It was called once at the bytes of the block, and what it left of them, as many, stands in their place. All else is as before.
pub record IsAltered {F : Type 0} (once : Once F (MutBor (List ℕ) × Unit {0}) (Unit {0} × (MutBor (List ℕ) × Unit {0}))) (change : F) (old new : Memory) (b : Block) : Type 0 where
  pub left : List ℕ
  pub size : length left ≡ b.len
  pub called : FnOnceReturnsAtMut once change (slice_range old.bytes b.place (end_of b)) tt left
  pub same : new ≡ record old { bytes = write_from old.bytes b.place left }
