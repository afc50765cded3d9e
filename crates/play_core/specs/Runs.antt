-- Runs: what a run of words did, from what is known of the source, the sink and the Space before and after it.
use Rattle.std.specs.Prelude.{◌≡◌, ℕ, ◌⊎◌, List, [], Ok, Err, ⊤}
use Rattle.space_core.specs.Memory.{Memory}
use Rattle.layer_rules.specs.Rows.{Each}
use Rattle.layer_rules.specs.Rules.{Rules}
use Rattle.layer_rules.specs.Layering.{LayerModel}
use Rattle.layer_rules.specs.After.{Opening}
use Rattle.heap_core.specs.declared.Named.{Named}
use Rattle.heap_core.specs.Holding.{Held, run_in}
use Rattle.heap_core.specs.Performing.{Run, run_of}
use Rattle.source_sink.specs.Sinks.{Appends}
use Rattle.play_core.specs.declared.Status.{Status}
use Rattle.play_core.specs.declared.Status.TheVariants.{Good, Usage, Expression, WriteFault, OpeningRefused, NoMemory}
use Rattle.play_core.specs.Asked.{Asked, Nothing, Refused, Checks, Replays, root_of, opening_of}
use Rattle.play_core.specs.CheckText.{check_text}
use Rattle.play_core.specs.Devices.{Reading, Writing, PutsAll, PutsUpTo, Fails}
use Rattle.play_core.specs.Ran.{Ran}
use Rattle.play_core.specs.Telling.{Telling, Only, Plays, usage_text, expression_text, refused_text}
use Rattle.play_core.specs.Told.{text_of}

-- no cell of the Space is taken
abbrev pub HasAllFree : Memory → Type 0
HasAllFree m = Each (λ tag. tag ≡ 0) m.cells.tags

-- a heap, with a root of these rules, holds in the Space what the run says
pub record Leaves (root : Rules) (run : Run) (m : Memory) : Type 0 where
  pub model : LayerModel
  pub table : List Named
  pub rules_are : model.rules ≡ root
  pub held : Held model table m
  pub run_is : run_in model table m ≡ run

-- what was put was handed on, and the status stays, or the sink failed
abbrev pub HandsOn : Status → (w w' : Writing) (end : Status) → Type 0
HandsOn status w w' end = ((end ≡ status) × (w' ≡ w)) ⊎ ((end ≡ WriteFault) × Fails w w' [])

-- one text was written with this status, or the sink failed within it or behind it
abbrev pub TextPut : Status → (text : List ℕ) (w w' : Writing) (end : Status) → Type 0
TextPut status text w w' end = ((end ≡ status) × PutsAll w w' text) ⊎ ((end ≡ WriteFault) × PutsUpTo w w' text)

-- one text, and nothing was read and no cell taken
pub record SaysOnly (status : Status) (text : List ℕ) (r r' : Reading) (w w' : Writing) (m : Memory) (end : Status) : Type 0 where
  pub put : TextPut status text w w' end
  pub unread : r' ≡ r
  pub free : HasAllFree m

-- there was no memory, and nothing was read or written and no cell taken
pub record GivesUp (r r' : Reading) (w w' : Writing) (m : Memory) (end : Status) : Type 0 where
  pub status : end ≡ NoMemory
  pub unread : r' ≡ r
  pub unwritten : w' ≡ w
  pub free : HasAllFree m

-- the trace was run, and its last run stands
abbrev pub Played : Rules → Run → (r r' : Reading) (w w' : Writing) → Memory → (end : Status) → Type 0
Played root run r r' w w' m end = (now : Run) × Leaves root now m × Ran root run now r r' w w' end

-- by what opening the root gives
abbrev pub Opens : Rules → Opening → (r r' : Reading) (w w' : Writing) → Memory → (end : Status) → Type 0
Opens root (Err node) r r' w w' m end = SaysOnly OpeningRefused (refused_text node) r r' w w' m end
Opens root (Ok o) r r' w w' m end = Played root (run_of o.state o.cells []) r r' w w' m end

-- a trace was run on a root with these rules, by what opening it gives, or there was no memory for it
abbrev pub PlaysOn : Rules → Opening → (r r' : Reading) (w w' : Writing) → Memory → (end : Status) → Type 0
PlaysOn root opening r r' w w' m end = GivesUp r r' w w' m end ⊎ Opens root opening r r' w w' m end

-- one text was written so, or there was no memory for it
abbrev pub MaySay : Status → (text : List ℕ) → (r r' : Reading) (w w' : Writing) → Memory → (end : Status) → Type 0
MaySay status text r r' w w' m end = GivesUp r r' w w' m end ⊎ SaysOnly status text r r' w w' m end

-- what a run of words did that ask for this
abbrev pub Runs : Asked → (r r' : Reading) (w w' : Writing) → Memory → (end : Status) → Type 0
Runs Nothing r r' w w' m end = SaysOnly Usage usage_text r r' w w' m end
Runs (Refused fault) r r' w w' m end = MaySay Expression (expression_text fault) r r' w w' m end
Runs (Checks e) r r' w w' m end = MaySay Good (check_text e) r r' w w' m end
Runs (Replays e cells) r r' w w' m end = PlaysOn (root_of e) (opening_of e cells) r r' w w' m end

-- the status and the text are those of what is told, and the Space is left as that says
abbrev pub IsTold : Telling → (w w' : Writing) → Memory → (end : Status) → Type 0
IsTold (Only status text) w w' m end = (end ≡ status) × Appends w.holds w'.holds text × HasAllFree m
IsTold (Plays root all) w w' m end = (end ≡ all.status) × Appends w.holds w'.holds (text_of all.pieces) × Leaves root all.run m

-- a run ends so before it reads
abbrev pub IsEarly : Status → Type 0
IsEarly Usage = ⊤
IsEarly Expression = ⊤
IsEarly OpeningRefused = ⊤
IsEarly NoMemory = ⊤
IsEarly _ = ⊥

-- the status is this one exactly where that holds, if nothing came between
abbrev pub IsStatusWhere : (end status : Status) (that between : Type 0) → Type 0
IsStatusWhere end status that between = (end ≡ status → that) × (that → (between → ⊥) → end ≡ status)
