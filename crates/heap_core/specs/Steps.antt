-- Steps: the runs that a heap can be in, over the rules alone, and what a call does to one.
use Rattle.std.specs.Prelude.{ℕ, ◌≡◌, true, List, [], length, Ok, IfOk, sum_by}
use Rattle.space_core.specs.Cells.{Cells}
use Rattle.space_core.specs.Memory.{Memory}
use Rattle.layer_rules.specs.Blocks.{is_apart}
use Rattle.layer_rules.specs.Rows.{Each, EachPair}
use Rattle.layer_rules.specs.Rules.{Rules, IsSound, HasDistinctTags, HasMadeTags, HasNoCells}
use Rattle.layer_rules.specs.State.{is_open}
use Rattle.layer_rules.specs.After.{Opened}
use Rattle.layer_rules.specs.Layering.{LayerModel, state_of}
use Rattle.layer_laws.specs.Lawful.{IsMade}
use Rattle.heap_core.specs.declared.Named.{Named}
use Rattle.heap_core.specs.declared.Call.{Call}
use Rattle.heap_core.specs.World.{Live}
use Rattle.heap_core.specs.Names.{asked_by}
use Rattle.heap_core.specs.Performing.{IsCall, Run, run_of, performed}
use Rattle.heap_core.specs.Moves.{Moves}
use Rattle.heap_core.specs.Holding.{world_of, run_in, Held}
use Rattle.heap_core.specs.Heap.{extent_len, AreMeasured}

-- The root is open and sound in a table of so many cells; each live block is out, on the route that was recorded, and no byte is in the
-- extents of two.
pub record IsHeldRun (e : Rules) (count leaves : ℕ) (r : Run) : Type 0 where
  pub made : IsMade e
  pub opened : is_open r.state ≡ true
  pub sound : IsSound e r.state r.cells leaves
  pub size : length r.cells.tags ≡ count
  pub out : Each (λ (x : Live). e.is_out x.block r.state r.cells ≡ true) r.world
  pub found : Each (λ (x : Live). x.route ≡ e.route x.block r.state) r.world
  pub apart : EachPair (λ (x y : Live). is_apart (e.extent x.block r.state) (e.extent y.block r.state) ≡ true) r.world

-- what a heap holds in its Space is such a run
abbrev pub HeldRun : Type 0
HeldRun = (t : LayerModel) (table : List Named) (m : Memory) → Held t table m → IsHeldRun t.rules (length m.cells.tags) m.leaves (run_in t table m)

-- so is what a root begins with that opens where no cell has a tag of its leaves
abbrev pub BeginsHeld : Type 0
BeginsHeld =
    (e : Rules) (cells : Cells) (leaves : ℕ) (o : Opened) → IsMade e → HasDistinctTags e → HasMadeTags leaves e → HasNoCells e cells
    → e.set_up 0 cells ≡ Ok o → IsHeldRun e (length cells.tags) leaves (run_of o.state o.cells [])

-- so is what stands after a call whose condition holds, performed or in fault
abbrev pub PerformedHeld : Type 0
PerformedHeld =
    (e : Rules) (count leaves : ℕ) (call : Call) (r : Run) → IsCall call → IsHeldRun e count leaves r → IsHeldRun e count leaves (performed e call r).1

-- and a call that is performed is a step of the block machine
abbrev pub PerformedMoves : Type 0
PerformedMoves =
    (e : Rules) (count leaves : ℕ) (call : Call) (r : Run) → IsCall call → IsHeldRun e count leaves r
    → IfOk (performed e call r).0 (λ answer. Moves e.alignment count r.world call answer (performed e call r).1.world)

-- ---- the numbers of a heap

-- each live block is routed, and takes up no more than a layer serves
abbrev pub HeldMeasured : Type 0
HeldMeasured = (t : LayerModel) (table : List Named) (m : Memory) → Held t table m → AreMeasured t table

-- the extents are those in the run
abbrev pub ExtentsInRun : Type 0
ExtentsInRun =
    (t : LayerModel) (table : List Named) (m : Memory) → IsMade t.rules
    → sum_by (extent_len t) table ≡ sum_by (λ (x : Live). (t.rules.extent x.block (state_of t m)).len) (world_of t table m)

-- so are the lengths, and how many blocks there are
abbrev pub AskedInRun : Type 0
AskedInRun = (t : LayerModel) (table : List Named) (m : Memory) → asked_by table ≡ sum_by (λ (x : Live). x.block.len) (world_of t table m)

abbrev pub LiveInRun : Type 0
LiveInRun = (t : LayerModel) (table : List Named) (m : Memory) → length table ≡ length (world_of t table m)
