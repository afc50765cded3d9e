-- Heap: what contracts see of a heap, and what making one and a call on it do.
use Rattle.std.specs.Prelude.{ℕ, ◌≡◌, ◌≤◌, ◌<◌, true, List, [], length, None, is_some, Result, Ok, Err, IfOk, OnErr}
use Rattle.space_core.specs.Memory.{Memory}
use Rattle.space_core.specs.Words.{write_from}
use Rattle.size_round.specs.Sizes.{limit}
use Rattle.layer_rules.specs.Rows.{Each}
use Rattle.layer_rules.specs.After.{Opening}
use Rattle.layer_rules.specs.Layering.{LayerModel, kept_state, IsRoutedIn}
use Rattle.layer_rules.specs.declared.Block.{Block}
use Rattle.heap_core.specs.declared.Named.{Named}
use Rattle.heap_core.specs.declared.Call.{Call}
use Rattle.heap_core.specs.declared.Call.TheVariants.{Write}
use Rattle.heap_core.specs.declared.Answer.{Answer}
use Rattle.heap_core.specs.declared.Answer.TheVariants.{Done}
use Rattle.heap_core.specs.declared.CallFault.{CallFault}
use Rattle.heap_core.specs.declared.CallFault.TheVariants.{NameLive, TooManyLive}
use Rattle.heap_core.specs.declared.heap.Heap.{Heap}
use Rattle.heap_core.specs.declared.heap.MakeFault.{MakeFault}
use Rattle.heap_core.specs.declared.heap.MakeFault.TheVariants.{NoMemory, Refused}
use Rattle.heap_core.specs.Performing.{Run, run_of, most_live, performed, IsAnswerTo}
use Rattle.heap_core.specs.Moves.{Moves}
use Rattle.heap_core.specs.Names.{IsTable, named_at, block_of}
use Rattle.heap_core.specs.Holding.{world_of, run_in, Held}

-- what contracts see of the root
abbrev pub heap_model : {L : Type 0} → (L → LayerModel) → Heap L → LayerModel
heap_model tree heap = tree heap.root

-- the live blocks in order of their names
abbrev pub heap_table : {L : Type 0} → Heap L → List Named
heap_table heap = heap.table

-- the run that begins, by what opening the root gives
abbrev pub Begins : Opening → Run → Type 0
Begins (Ok o) run = run ≡ run_of o.state o.cells []
Begins (Err node) run = ⊥

-- why no heap is made: the process has no memory for its table, or opening refuses
abbrev pub IsMakeFault : MakeFault → Opening → (old new : Memory) → Type 0
IsMakeFault NoMemory opening old new = new ≡ old
IsMakeFault (Refused node) (Err refused) old new = (node ≡ refused) × (new.cells ≡ old.cells)
IsMakeFault (Refused node) (Ok o) old new = ⊥

-- What a call does: the rule's answer and run; the heap is held again; a fault changes nothing.
pub record Performs (t t' : LayerModel) (table table' : List Named) (m m' : Memory) (call : Call) (r : Result Answer CallFault) : Type 0 where
  pub after : (r, run_in t' table' m') ≡ performed t.rules call (run_in t table m)
  pub held : Held t' table' m'
  pub kind : IfOk r (IsAnswerTo call)
  pub fault : OnErr r ((run_in t' table' m' ≡ run_in t table m) × (m' ≡ m))
  pub moves : IfOk r (λ answer. Moves t.rules.alignment (length m.cells.tags) (world_of t table m) call answer (world_of t' table' m'))
  pub shape : t'.rules ≡ t.rules

-- how many bytes a block takes up where its route ends
abbrev pub block_extent : LayerModel → Block → ℕ
block_extent t block = (t.rules.extent block (kept_state t)).len

-- the same of a block under a name
abbrev pub extent_len : LayerModel → Named → ℕ
extent_len t x = block_extent t x.block

-- each live block is routed, and takes up no more than a layer serves
pub record AreMeasured (t : LayerModel) (table : List Named) : Type 0 where
  pub routed : Each (λ (x : Named). IsRoutedIn t x.block) table
  pub short : Each (λ (x : Named). extent_len t x ≤ limit) table

-- a block may be put under the name
pub record MayBegin (table : List Named) (name : ℕ) : Type 0 where
  pub fresh : named_at table name ≡ None
  pub room : length table < most_live

-- or why it may not: the name is live; or it isn't, and no more names may be
abbrev pub IsNewFault : List Named → (name : ℕ) → CallFault → Type 0
IsNewFault table name NameLive = is_some (named_at table name) ≡ true
IsNewFault table name TooManyLive = (named_at table name ≡ None) × (most_live ≤ length table)
IsNewFault table name _ = ⊥

-- ---- bytes that are lent

-- what is written over the first bytes of a live block, as a call that writes them does
abbrev pub LentIsWritten : Type 0
LentIsWritten =
    (t : LayerModel) (table : List Named) (m : Memory) (name : ℕ) (written : List ℕ) → IsTable table → Held t table m → is_some (named_at table name) ≡ true → length written ≤ (block_of table name).len
    → Performs t t table table m (record m { bytes = write_from m.bytes (block_of table name).place written }) (Write name 0 written) (Ok Done)
