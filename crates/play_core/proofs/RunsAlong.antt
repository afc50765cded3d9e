-- Along a run: the step of each piece, and what stands when it is put.
use Rattle.std.proofs.Common.{◌≡◌, refl, sym, ◌∙◌, ap, subst, ℕ, ◌+◌, ◌<◌, Bool, true, false, ◌&&◌, List, [], ◌∷◌, length, map, Option, Some, None, is_some, Result, Ok, Err, nat_le, nat_lt, cond, IfOk, arith}
use Rattle.std.proofs.lemmas.Bool.Decides.{nat_tests}
use Rattle.std.proofs.lemmas.List.{length-replicate}
use Rattle.layer_rules.specs.Rows.{Each}
use Rattle.layer_rules.specs.Rules.{Rules}
use Rattle.layer_rules.specs.After.{Opened, Opening}
use Rattle.heap_core.specs.declared.Call.{Call}
use Rattle.heap_core.specs.declared.Call.TheVariants.{Allocate, Aligned, Expand, Reallocate}
use Rattle.heap_core.specs.declared.Answer.{Answer}
use Rattle.heap_core.specs.declared.Answer.TheVariants.{Null, Said}
use Rattle.heap_core.specs.declared.CallFault.{CallFault}
use Rattle.heap_core.specs.World.{Live, live_at, is_live}
use Rattle.heap_core.specs.Performing.{IsCall, Run, run_of, Performed, under_new_name, if_offered, served, performed, most_live}
use Rattle.heap_core.specs.Moves.{Moves}
use Rattle.heap_core.specs.RunFacts.{IsRun, AreBlocks, AreFound, IsSameRun, RunBegins, RunGoesOn, RunHasBlocks, RunFindsBlocks, NullExactly, AlignedNullExactly, RefusedChangesNone}
use Rattle.heap_core.specs.Steps.{PerformedMoves}
use Rattle.trace_text.specs.declared.LineFault.{LineFault}
use Rattle.trace_text.specs.declared.LineFault.TheVariants.{TooLong}
use Rattle.trace_text.specs.declared.TraceFault.TheVariants.{Line as LineIn, TooMuchInput}
use Rattle.trace_text.specs.Grammar.{line_call, most_bytes}
use Rattle.trace_text.specs.Laws.{ReadIsSayable}
use Rattle.expr_builder.specs.Sound.{IsComposition, AcceptedAreCompositions, leaf_count}
use Rattle.expr_reader.specs.Trees.{Tree as Expression}
use Rattle.play_core.specs.Asked.{Replays, MayAsk, root_of, opening_of, free_cells}
use Rattle.play_core.specs.Command.{Command, check, replay, command_of}
use Rattle.play_core.specs.Lines.{lines_of, body_of}
use Rattle.play_core.specs.Outcome.{Outcome, Answers, Silent, Stops, most_input, call_outcome, read_outcome, outcome}
use Rattle.play_core.specs.ReportText.{report_of}
use Rattle.play_core.specs.Told.{Told, Piece, told_from, told_on, line_piece}
use Rattle.play_core.specs.Telling.{told_opening, telling}
use Rattle.play_core.specs.WholeRuns.{IsNullExactly, IsRefusal, IsStep, StepsAlong, TellsBlockRun, WholeRuns}
use Rattle.play_core.proofs.RootLemmas.{made_tags, no_cells}

-- a call for a new name that was answered had a new name, and room for it
pub record HadRoom (name : ℕ) (r : Run) : Type 0 where
  pub fresh : live_at r.world name ≡ None
  pub room : length r.world < most_live

had : (r : Run) (a : Answer) (o : Option Live) (full : Bool) (p : Performed) → (under_new_name (is_some o) full r p).0 ≡ Ok a → (o ≡ None) × (full ≡ false)
had r a (Some x) full p h = absurd (cc)
had r a None true p h = absurd (cc)
had r a None false p h = (refl, refl)

had_room : (name : ℕ) (r : Run) (a : Answer) (p : Performed) → (under_new_name (is_live r.world name) (nat_le most_live (length r.world)) r p).0 ≡ Ok a → HadRoom name r
had_room name r a p h =
    let k = had r a (live_at r.world name) (nat_le most_live (length r.world)) p h in
    let full : nat_le most_live (length r.world) ≡ false = k.1 in
    record { fresh = k.0; room = grind (arith, nat_tests) }

allocate_had_room : (e : Rules) (name size : ℕ) (r : Run) (a : Answer) → (performed e (Allocate name size) r).0 ≡ Ok a → HadRoom name r
unfolding performed
allocate_had_room e name size r a h = had_room name r a (served name r.world (e.allocate size r.state r.cells)) h

-- and was offered
was_offered : (r : Run) (a : Answer) (offered : Bool) (p : Performed) → (if_offered offered r p).0 ≡ Ok a → offered ≡ true
was_offered r a true p h = refl
was_offered r a false p h = absurd (cc)

aligned_had : (e : Rules) (name size align : ℕ) (r : Run) (a : Answer) → (performed e (Aligned name size align) r).0 ≡ Ok a → HadRoom name r × (e.offers.aligned ≡ true)
unfolding performed
aligned_had e name size align r a h =
    let serve = served name r.world (e.aligned_allocate size align r.state r.cells) in
    let p = if_offered e.offers.aligned r serve in
    let k = had_room name r a p h in
    let few : nat_le most_live (length r.world) ≡ false = let room = k.room in grind (arith, nat_tests) in
    let none : is_live r.world name ≡ false = ap is_some k.fresh in
    (k, was_offered r a e.offers.aligned serve (ap (λ (q : Performed). q.0) (sym (ap (λ b. under_new_name b (nat_le most_live (length r.world)) r p) none ∙ ap (λ b. under_new_name false b r p) few)) ∙ h))

-- what is known of runs, lines and expressions
pub record RunLaws : Type 0 where
  pub begins : RunBegins
  pub goes_on : RunGoesOn
  pub moves : PerformedMoves
  pub blocks : RunHasBlocks
  pub found : RunFindsBlocks
  pub null : NullExactly
  pub null_aligned : AlignedNullExactly
  pub refused : RefusedChangesNone
  pub sayable : ReadIsSayable
  pub accepted : AcceptedAreCompositions

module _ (law : RunLaws) where
  null_exact : (e : Rules) (count leaves : ℕ) (r : Run) (call : Call) (a : Answer) → IsRun e count leaves r → (performed e call r).0 ≡ Ok a → IsNullExactly e r call a
  null_exact e count leaves r (Allocate name size) a g h =
      let k = allocate_had_room e name size r a h in
      let x = law.null e count leaves name size r g.held k.fresh k.room in
      ((λ (n : a ≡ Null). x.0 (h ∙ ap Ok n)), (λ z. let y = x.1 z in cc))
  null_exact e count leaves r (Aligned name size align) a g h =
      let k = aligned_had e name size align r a h in
      let x = law.null_aligned e count leaves name size align r g.held k.0.fresh k.0.room k.1 in
      ((λ (n : a ≡ Null). x.0 (h ∙ ap Ok n)), (λ z. let y = x.1 z in cc))
  null_exact e count leaves r _ a g h = tt

  refusal_keeps : (e : Rules) (count leaves : ℕ) (r : Run) (call : Call) (a : Answer) → IsRun e count leaves r → (performed e call r).0 ≡ Ok a → IsRefusal call a → IsSameRun r (performed e call r).1
  refusal_keeps e count leaves r (Allocate name size) Null g h q = (law.refused e count leaves r g.held).allocate name size h
  refusal_keeps e count leaves r (Aligned name size align) Null g h q = (law.refused e count leaves r g.held).aligned name size align h
  refusal_keeps e count leaves r (Expand name delta) (Said false) g h q = (law.refused e count leaves r g.held).expand name delta h
  refusal_keeps e count leaves r (Reallocate name size) (Said false) g h q = (law.refused e count leaves r g.held).reallocate name size h
  refusal_keeps e count leaves r _ _ g h q = absurd q

  step_moves : (e : Rules) (count leaves : ℕ) (r : Run) (call : Call) (a : Answer) → IsCall call → IsRun e count leaves r → (performed e call r).0 ≡ Ok a
      → Moves e.alignment count r.world call a (performed e call r).1.world
  step_moves e count leaves r call a c g h =
      subst (λ (x : Result Answer CallFault). IfOk x (λ answer. Moves e.alignment count r.world call answer (performed e call r).1.world)) h
      (law.moves e count leaves call r c g.held)

  step_of : (e : Rules) (count leaves : ℕ) (r : Run) (call : Call) (a : Answer) → IsCall call → IsRun e count leaves r → (performed e call r).0 ≡ Ok a
      → IsStep e count r (record { call = call; answer = a }) (performed e call r).1
  step_of e count leaves r call a c g h = record {
    moves = step_moves e count leaves r call a c g h;
    null = null_exact e count leaves r call a g h;
    refused = refusal_keeps e count leaves r call a g h;
  }

  -- what holds along these pieces from a run on
  pub record IsAlong (e : Rules) (count : ℕ) (r : Run) (pieces : List Piece) : Type 0 where
    pub steps : StepsAlong e count r pieces
    pub blocks : Each (λ (p : Piece). AreBlocks e.alignment count p.run.world) pieces
    pub found : Each (λ (p : Piece). AreFound e p.run) pieces

  lines_along : (e : Rules) (count leaves : ℕ) (r : Run) (lines : List (List ℕ)) → IsRun e count leaves r → IsAlong e count r (map (line_piece r) lines)
  lines_along e count leaves r [] g = record { steps = tt; blocks = tt; found = tt }
  lines_along e count leaves r (line ∷ lines) g =
      let h = lines_along e count leaves r lines g in
      record { steps = (refl, h.steps); blocks = (law.blocks e count leaves r g.held, h.blocks); found = (law.found e count leaves r g.held, h.found) }

  -- the call was answered so
  pub record IsAnswered (e : Rules) (r : Run) (call : Call) (answer : Answer) (next : Run) : Type 0 where
    pub proper : IsCall call
    pub answered : (performed e call r).0 ≡ Ok answer
    pub leads : (performed e call r).1 ≡ next

  -- an outcome that is an answer is what the call was answered
  abbrev IsOutcome : Rules → Run → Outcome → Type 0
  IsOutcome e r (Answers call answer next) = IsAnswered e r call answer next
  IsOutcome e r _ = Unit {0}

  call_is : (e : Rules) (r : Run) (call : Call) (x : Result Answer CallFault) (n : Run) → IsCall call → (performed e call r).0 ≡ x → (performed e call r).1 ≡ n → IsOutcome e r (call_outcome call x n)
  call_is e r call (Ok answer) n c p q = record { proper = c; answered = p; leads = q }
  call_is e r call (Err fault) n c p q = tt

  read_is : (e : Rules) (r : Run) (x : Result (Option Call) LineFault) → ((call : Call) → x ≡ Ok (Some call) → IsCall call) → IsOutcome e r (read_outcome e r x)
  read_is e r (Ok (Some call)) c = call_is e r call (performed e call r).0 (performed e call r).1 (c call refl) refl refl
  read_is e r (Ok None) c = tt
  read_is e r (Err fault) c = tt

  either_is : (e : Rules) (r : Run) (b : Bool) (x y : Outcome) → IsOutcome e r x → IsOutcome e r y → IsOutcome e r (cond b x y)
  either_is e r true x y p q = p
  either_is e r false x y p q = q

  outcome_is : (e : Rules) (before : ℕ) (r : Run) (line : List ℕ) → IsOutcome e r (outcome e before r line)
  unfolding outcome
  outcome_is e before r line =
      let read = read_outcome e r (line_call (body_of line)) in
      either_is e r (nat_lt most_bytes (length (body_of line)) && nat_le (before + 257) most_input) (Stops (LineIn TooLong))
      (cond (nat_lt most_input (before + length line)) (Stops TooMuchInput) read) tt
      (either_is e r (nat_lt most_input (before + length line)) (Stops TooMuchInput) read tt (read_is e r (line_call (body_of line)) (λ call h. (law.sayable (body_of line) call h).0)))

  on_along : (e : Rules) (count leaves number : ℕ) (r : Run) (o : Outcome) (rest : Run → Told) → IsRun e count leaves r → IsOutcome e r o → ((next : Run) → IsRun e count leaves next → IsAlong e count next (rest next).pieces)
      → IsAlong e count r (told_on number r o rest).pieces
  on_along e count leaves number r (Stops fault) rest g w f = record { steps = (refl, tt); blocks = (law.blocks e count leaves r g.held, tt); found = (law.found e count leaves r g.held, tt) }
  on_along e count leaves number r Silent rest g w f = f r g
  on_along e count leaves number r (Answers call answer next) rest g w f =
      let n : IsRun e count leaves next = subst (λ (x : Run). IsRun e count leaves x) w.leads (law.goes_on e count leaves call r w.proper g) in
      let h = f next n in
      let s : IsStep e count r (record { call = call; answer = answer }) next =
      subst (λ (x : Run). IsStep e count r (record { call = call; answer = answer }) x) w.leads (step_of e count leaves r call answer w.proper g w.answered) in
      record { steps = (s, h.steps); blocks = (law.blocks e count leaves next n.held, h.blocks); found = (law.found e count leaves next n.held, h.found) }

  told_along : (e : Rules) (count leaves number before : ℕ) (r : Run) (lines : List (List ℕ)) → IsRun e count leaves r → IsAlong e count r (told_from e number before r lines).pieces
  told_along e count leaves number before r [] g = lines_along e count leaves r (report_of e r) g
  told_along e count leaves number before r (line ∷ lines) g =
      on_along e count leaves number r (outcome e before r line) (λ next. told_from e (number + 1) (before + length line) next lines) g (outcome_is e before r line)
      (λ next n. told_along e count leaves (number + 1) (before + length line) next lines n)

  -- ---- the first run

  begins : (e : Expression) (cells : ℕ) (o : Opened) → IsComposition e 0 → opening_of e cells ≡ Ok o → IsRun (root_of e) cells (leaf_count e) (run_of o.state o.cells [])
  begins e cells o t h =
      let k = law.begins (root_of e) 0 (free_cells cells) (leaf_count e) o t.lawful t.distinct (made_tags e t) (no_cells e cells t) h in
      subst (λ (n : ℕ). IsRun (root_of e) n (leaf_count e) (run_of o.state o.cells [])) (length-replicate cells 0) k

  opened_tells : (e : Expression) (cells : ℕ) (p : Opening) (input : List ℕ) → IsComposition e 0 → opening_of e cells ≡ p → TellsBlockRun cells (told_opening (root_of e) p input)
  opened_tells e cells (Err node) input t q = tt
  opened_tells e cells (Ok o) input t q =
      let r = run_of o.state o.cells [] in
      let along = told_along (root_of e) cells (leaf_count e) 1 0 r (lines_of input) (begins e cells o t q) in
      record { opened = o; opens = q; steps = along.steps; blocks = along.blocks; found = along.found }

  accepted_tells : (c : Option Command) (e : Expression) (cells : ℕ) → MayAsk c (Replays e cells) → (input : List ℕ) → TellsBlockRun cells (telling (Replays e cells) input)
  accepted_tells None e cells a input = absurd (cc)
  accepted_tells (Some (check text)) e cells a input = absurd a
  accepted_tells (Some (replay text n)) e cells a input = opened_tells e cells (opening_of e cells) input (law.accepted text e a.0 0) refl

  -- whatever the words and the input
  pub whole_runs : WholeRuns
  whole_runs words e cells a input = accepted_tells (command_of words) e cells a input
