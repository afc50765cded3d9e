-- Chunks: what the layers share that take one chunk of their parent and serve from it alone.
use Rattle.layer_rules.specs.Owning.{at_chunk_holder, at_end}
use Rattle.layer_rules.specs.Rules.{Rules}
use Rattle.layer_rules.specs.State.{State}
use Rattle.layer_rules.specs.declared.Asked.{Asked}
use Rattle.layer_rules.specs.declared.Block.{Block}
use Rattle.size_round.specs.Sizes.{limit}
use Rattle.space_core.specs.Cells.{Cells}
use Rattle.std.specs.Prelude.{Bool, List, [], nat_le, true, ℕ, ◌&&◌, ◌∷◌}

-- the chunk is out of the parent, and no longer than what a layer serves
abbrev pub has_chunk : Rules → (chunk : Block) → (parent : State) → Cells → Bool
has_chunk e chunk t cells = e.is_out chunk t cells && nat_le chunk.len limit

-- what stands at a path's end: the layer itself, which offers owns, or its parent, which serves no block
abbrev pub at_chunk : (path : List ℕ) → (possible held : Bool) → Asked
at_chunk [] possible held = at_end true possible held
at_chunk (i ∷ path) possible held = at_chunk_holder i
