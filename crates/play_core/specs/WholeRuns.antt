-- WholeRuns: what holds along the whole run that words and an input are told.
use Rattle.std.specs.Prelude.{ℕ, ◌≡◌, ◌⊎◌, ◌↔◌, true, false, List, [], ◌∷◌, Option, Some, None, Ok, ⊤}
use Rattle.layer_rules.specs.Rows.{Each}
use Rattle.layer_rules.specs.Rules.{Rules}
use Rattle.layer_rules.specs.After.{Opened}
use Rattle.heap_core.specs.declared.Call.{Call}
use Rattle.heap_core.specs.declared.Call.TheVariants.{Allocate, Aligned, Expand, Reallocate}
use Rattle.heap_core.specs.declared.Answer.{Answer}
use Rattle.heap_core.specs.declared.Answer.TheVariants.{Null, Said}
use Rattle.heap_core.specs.Moves.{Moves}
use Rattle.heap_core.specs.Performing.{Run, run_of}
use Rattle.heap_core.specs.RunFacts.{AreBlocks, AreFound, IsSameRun}
use Rattle.expr_reader.specs.Trees.{Tree as Expression}
use Rattle.play_core.specs.Asked.{Asks, Replays, free_cells}
use Rattle.play_core.specs.Told.{Piece, Exchange}
use Rattle.play_core.specs.Telling.{Telling, Only, Plays, telling}

-- null is the answer exactly where 0 bytes are asked or the root refuses in this run
abbrev pub IsNullExactly : Rules → Run → Call → Answer → Type 0
IsNullExactly root run (Allocate name size) answer = (answer ≡ Null) ↔ ((size ≡ 0) ⊎ (root.refuses size run.state run.cells ≡ true))
IsNullExactly root run (Aligned name size align) answer = (answer ≡ Null) ↔ ((size ≡ 0) ⊎ (root.refuses_aligned size align run.state run.cells ≡ true))
IsNullExactly root run _ answer = ⊤

-- no block was served, or a block could not grow or get another length
abbrev pub IsRefusal : Call → Answer → Type 0
IsRefusal (Allocate name size) Null = ⊤
IsRefusal (Aligned name size align) Null = ⊤
IsRefusal (Expand name delta) (Said false) = ⊤
IsRefusal (Reallocate name size) (Said false) = ⊤
IsRefusal _ _ = ⊥

-- An answer is a step of the block machine, in which each live block is owned, and along a path that is answered by the route that was
-- recorded. With a refusal nothing changes but statistics.
pub record IsStep (root : Rules) (cells : ℕ) (old : Run) (x : Exchange) (new : Run) : Type 0 where
  pub moves : Moves root.alignment cells old.world x.call x.answer new.world
  pub null : IsNullExactly root old x.call x.answer
  pub refused : IsRefusal x.call x.answer → IsSameRun old new

-- From one run to the next: any other piece changes nothing.
abbrev pub StepsTo : Rules → (cells : ℕ) → Run → Option Exchange → Run → Type 0
StepsTo root cells old None new = new ≡ old
StepsTo root cells old (Some x) new = IsStep root cells old x new

-- so along these pieces, one after another
abbrev pub StepsAlong : Rules → (cells : ℕ) → Run → List Piece → Type 0
StepsAlong root cells run [] = ⊤
StepsAlong root cells run (p ∷ ps) = StepsTo root cells run p.exchange p.run × StepsAlong root cells p.run ps

-- a run of the block machine, from what opening the root gives, with nothing live; when a piece is put the live blocks lie in the area,
-- aligned and apart, and each is found on the route that was recorded
pub record IsBlockRun (root : Rules) (cells : ℕ) (pieces : List Piece) : Type 0 where
  pub opened : Opened
  pub opens : root.set_up 0 (free_cells cells) ≡ Ok opened
  pub steps : StepsAlong root cells (run_of opened.state opened.cells []) pieces
  pub blocks : Each (λ (p : Piece). AreBlocks root.alignment cells p.run.world) pieces
  pub found : Each (λ (p : Piece). AreFound root p.run) pieces

-- what is told after a granted opening is such a run
abbrev pub TellsBlockRun : (cells : ℕ) → Telling → Type 0
TellsBlockRun cells (Only status text) = ⊤
TellsBlockRun cells (Plays root all) = IsBlockRun root cells all.pieces

-- so for all words that ask for a trace to be run, and every input
abbrev pub WholeRuns : Type 0
WholeRuns = (words : List (List ℕ)) (e : Expression) (cells : ℕ) → Asks words (Replays e cells) → (input : List ℕ) → TellsBlockRun cells (telling (Replays e cells) input)
