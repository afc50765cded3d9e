-- Holding: what is true of a heap in its Space between calls.
use Rattle.std.specs.Prelude.{ℕ, List, map, slice_range}
use Rattle.space_core.specs.Memory.{Memory}
use Rattle.layer_rules.specs.declared.Block.{Block}
use Rattle.layer_rules.specs.Blocks.{end_of}
use Rattle.layer_rules.specs.Rows.{Each, EachPair}
use Rattle.layer_rules.specs.Layering.{LayerModel, state_of, Stands, IsSetUp, IsOutOf, IsCleanOf, AreApartIn}
use Rattle.layer_laws.specs.Lawful.{IsMade}
use Rattle.layer_laws.specs.Standing.{route_of}
use Rattle.heap_core.specs.declared.Named.{Named}
use Rattle.heap_core.specs.World.{World, Live, live}
use Rattle.heap_core.specs.Performing.{Run, run_of}

-- the bytes of a block
abbrev pub bytes_of : Block → (bytes : List ℕ) → List ℕ
bytes_of b bytes = slice_range bytes b.place (end_of b)

-- a block of the table as it is live: with the bytes that the Space has there, and the route that the root finds
abbrev pub live_in : LayerModel → Memory → Named → Live
live_in t m x = live x.name x.block (bytes_of x.block m.bytes) (route_of t m x.block)

-- the live blocks of a table
abbrev pub world_of : LayerModel → List Named → Memory → World
world_of t table m = map (live_in t m) table

-- the run that a root and a table of blocks hold in a Space
abbrev pub run_in : LayerModel → List Named → Memory → Run
run_in t table m = run_of (state_of t m) m.cells (world_of t table m)

-- The root is open and stands, each live block is out and clean, and no byte is in the extents of two. Each is found on its recorded route:
-- the run that is held has no other.
pub record Held (t : LayerModel) (table : List Named) (m : Memory) : Type 0 where
  pub layer : IsMade t.rules
  pub opened : IsSetUp t
  pub stands : Stands t m
  pub out : Each (λ (x : Named). IsOutOf t m x.block) table
  pub clean : Each (λ (x : Named). IsCleanOf t m x.block) table
  pub apart : EachPair (λ (x y : Named). AreApartIn t m x.block y.block) table
