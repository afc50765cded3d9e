-- RunFacts: what is true of each run between calls, over the rules alone.
use Rattle.std.specs.Prelude.{ℕ, ◌*◌, ◌%◌, ◌≡◌, ◌≢◌, ◌≤◌, ◌<◌, ◌⊎◌, ◌↔◌, Bool, true, false, List, [], length, replicate, Some, None, Result, Ok, OnErr, nat_eq, ⊤}
use Rattle.std.specs.List.{starts_with}
use Rattle.space_core.specs.Cells.{Cells, cell_size}
use Rattle.space_core.specs.Memory.{Memory}
use Rattle.layer_rules.specs.Blocks.{end_of, is_apart}
use Rattle.layer_rules.specs.Rows.{Each, EachPair}
use Rattle.layer_rules.specs.Rules.{Rules, HasDistinctTags, HasMadeTags, HasNoCells}
use Rattle.layer_rules.specs.After.{Opened}
use Rattle.layer_rules.specs.Layering.{LayerModel}
use Rattle.layer_laws.specs.Lawful.{IsMade, Same}
use Rattle.heap_core.specs.declared.Named.{Named}
use Rattle.heap_core.specs.declared.Call.{Call}
use Rattle.heap_core.specs.declared.Call.TheVariants.{Allocate, Aligned, Expand, Reallocate, Owns, OwnsAt, Write}
use Rattle.heap_core.specs.declared.Answer.{Answer}
use Rattle.heap_core.specs.declared.CallFault.{CallFault}
use Rattle.heap_core.specs.World.{World, Live, live_at}
use Rattle.heap_core.specs.Names.{IsTable}
use Rattle.heap_core.specs.Performing.{IsCall, Run, run_of, most_live, performed}
use Rattle.heap_core.specs.Holding.{run_in, Held}
use Rattle.heap_core.specs.Steps.{IsHeldRun}
use Rattle.heap_core.specs.declared.Answer.TheVariants as answers

-- the names rise, there are at most 65,536, and each block has its bytes
pub record IsWorld (w : World) : Type 0 where
  pub rising : EachPair (λ (x y : Live). x.name < y.name) w
  pub most : length w ≤ most_live
  pub whole : Each (λ (x : Live). length x.bytes ≡ x.block.len) w

-- a run in which a heap can be
pub record IsRun (e : Rules) (count leaves : ℕ) (r : Run) : Type 0 where
  pub held : IsHeldRun e count leaves r
  pub world : IsWorld r.world

-- the call writes no byte
abbrev pub WritesNone : Call → Type 0
WritesNone (Write name offset given) = ⊥
WritesNone _ = ⊤

-- all bytes of the live blocks are 0, as they are while no call writes
pub record IsZeroed (w : World) : Type 0 where
  pub zeros : Each (λ (x : Live). x.bytes ≡ replicate x.block.len 0) w

-- Each block has a byte and lies in an area of so many cells, at a multiple of this number. No byte is in two blocks.
pub record AreBlocks (align cells : ℕ) (w : World) : Type 0 where
  pub some : Each (λ (x : Live). 1 ≤ x.block.len) w
  pub inside : Each (λ (x : Live). end_of x.block ≤ cell_size * cells) w
  pub aligned : Each (λ (x : Live). x.block.place % align ≡ 0) w
  pub apart : EachPair (λ (x y : Live). is_apart x.block y.block ≡ true) w

-- the route that was recorded for each live block is the one on which the root finds it
pub record AreFound (e : Rules) (r : Run) : Type 0 where
  pub routes : Each (λ (x : Live). x.route ≡ e.route x.block r.state) r.world

-- a block was served
abbrev pub IsPlaced : Result Answer CallFault → Type 0
IsPlaced (Ok (answers.Placed place)) = ⊤
IsPlaced _ = ⊥

-- ---- laws of runs

-- what a root opens with is a run, where no cell has a tag of its leaves
abbrev pub RunBegins : Type 0
RunBegins =
    (e : Rules) (need : ℕ) (cells : Cells) (leaves : ℕ) (o : Opened) → IsMade e → HasDistinctTags e → HasMadeTags leaves e → HasNoCells e cells
    → e.set_up need cells ≡ Ok o → IsRun e (length cells.tags) leaves (run_of o.state o.cells [])

-- so is what stands after a call whose condition holds, performed or in fault
abbrev pub RunGoesOn : Type 0
RunGoesOn = (e : Rules) (count leaves : ℕ) (call : Call) (r : Run) → IsCall call → IsRun e count leaves r → IsRun e count leaves (performed e call r).1

-- so is what a heap holds in its Space
abbrev pub HeldIsRun : Type 0
HeldIsRun = (t : LayerModel) (table : List Named) (m : Memory) → IsTable table → Held t table m → IsRun t.rules (length m.cells.tags) m.leaves (run_in t table m)

-- blocks come with zeros and grow by zeros, so while no call writes there are no others
abbrev pub ZerosStay : Type 0
ZerosStay = (e : Rules) (call : Call) (r : Run) → WritesNone call → IsZeroed r.world → IsZeroed (performed e call r).1.world

-- the blocks of a run are in their area, and apart
abbrev pub RunHasBlocks : Type 0
RunHasBlocks = (e : Rules) (count leaves : ℕ) (r : Run) → IsHeldRun e count leaves r → AreBlocks e.alignment count r.world

-- so two live names have no byte in common
abbrev pub NamesShareNoByte : Type 0
NamesShareNoByte =
    (e : Rules) (count leaves : ℕ) (r : Run) → IsHeldRun e count leaves r → (name other : ℕ) (x y : Live) → name ≢ other
    → live_at r.world name ≡ Some x → live_at r.world other ≡ Some y → is_apart x.block y.block ≡ true

-- and each live block is found on the route that was recorded
abbrev pub RunFindsBlocks : Type 0
RunFindsBlocks = (e : Rules) (count leaves : ℕ) (r : Run) → IsHeldRun e count leaves r → AreFound e r

-- ---- laws of answers

-- a fault changes nothing
abbrev pub FaultKeepsRun : Type 0
FaultKeepsRun = (e : Rules) (call : Call) (r : Run) → OnErr (performed e call r).0 ((performed e call r).1 ≡ r)

-- Under a new name, while fewer than 65,536 are live, the answer is no block exactly where 0 bytes are asked or the root refuses.
abbrev pub NullExactly : Type 0
NullExactly =
    (e : Rules) (count leaves name size : ℕ) (r : Run) → IsHeldRun e count leaves r → live_at r.world name ≡ None → length r.world < most_live
    → ((performed e (Allocate name size) r).0 ≡ Ok answers.Null) ↔ ((size ≡ 0) ⊎ (e.refuses size r.state r.cells ≡ true))

-- Elsewhere a block is served.
abbrev pub PlacedElse : Type 0
PlacedElse =
    (e : Rules) (count leaves name size : ℕ) (r : Run) → IsHeldRun e count leaves r → live_at r.world name ≡ None → length r.world < most_live
    → 1 ≤ size → e.refuses size r.state r.cells ≡ false → IsPlaced (performed e (Allocate name size) r).0

-- The same of a request at a multiple, where the root offers it.
abbrev pub AlignedNullExactly : Type 0
AlignedNullExactly =
    (e : Rules) (count leaves name size align : ℕ) (r : Run) → IsHeldRun e count leaves r → live_at r.world name ≡ None → length r.world < most_live → e.offers.aligned ≡ true
    → ((performed e (Aligned name size align) r).0 ≡ Ok answers.Null) ↔ ((size ≡ 0) ⊎ (e.refuses_aligned size align r.state r.cells ≡ true))

abbrev pub AlignedPlacedElse : Type 0
AlignedPlacedElse =
    (e : Rules) (count leaves name size align : ℕ) (r : Run) → IsHeldRun e count leaves r → live_at r.world name ≡ None → length r.world < most_live → e.offers.aligned ≡ true
    → 1 ≤ size → e.refuses_aligned size align r.state r.cells ≡ false → IsPlaced (performed e (Aligned name size align) r).0

-- Where the root offers owns, it owns each live block.
abbrev pub LiveIsOwned : Type 0
LiveIsOwned =
    (e : Rules) (count leaves name : ℕ) (r : Run) (x : Live) → IsHeldRun e count leaves r → live_at r.world name ≡ Some x → e.offers.owns ≡ true
    → (performed e (Owns name) r).0 ≡ Ok (answers.Said true)

-- Along a path it is answered by the recorded route: yes exactly where that begins with the path.
abbrev pub PathsAnswerRoutes : Type 0
PathsAnswerRoutes =
    (e : Rules) (count leaves name : ℕ) (path : List ℕ) (said : Bool) (r : Run) (x : Live) → IsHeldRun e count leaves r → live_at r.world name ≡ Some x
    → (performed e (OwnsAt name path) r).0 ≡ Ok (answers.Said said) → said ≡ starts_with nat_eq x.route path

-- of the run nothing is another but the root's statistics
pub record IsSameRun (old new : Run) : Type 0 where
  pub rest : Same old.state old.cells new.state new.cells
  pub world : new.world ≡ old.world

-- so where the call is answered like this
abbrev pub IsSameOn : Rules → Run → Call → Answer → Type 0
IsSameOn e r call answer = (performed e call r).0 ≡ Ok answer → IsSameRun r (performed e call r).1

-- where no block was served, and where a block could not grow or get another length
pub record IsSameOnRefusal (e : Rules) (r : Run) : Type 0 where
  pub allocate : (name size : ℕ) → IsSameOn e r (Allocate name size) answers.Null
  pub aligned : (name size align : ℕ) → IsSameOn e r (Aligned name size align) answers.Null
  pub expand : (name delta : ℕ) → IsSameOn e r (Expand name delta) (answers.Said false)
  pub reallocate : (name size : ℕ) → IsSameOn e r (Reallocate name size) (answers.Said false)

abbrev pub RefusedChangesNone : Type 0
RefusedChangesNone = (e : Rules) (count leaves : ℕ) (r : Run) → IsHeldRun e count leaves r → IsSameOnRefusal e r
