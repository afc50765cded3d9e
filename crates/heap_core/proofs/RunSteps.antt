-- What a call does to a run that a heap can be in.
use Rattle.std.proofs.Common.{[], Ok, ◌≡◌, subst, ◌≢◌, refl, sym, ap, ◌∙◌, ℕ, ◌+◌, ◌≤◌, Bool, true, false, nat_le, inl, inr, List, length, replicate, Option, Some, None, is_some, Err, IfOk, arith}
use Rattle.std.proofs.lemmas.Bool.Decides.{nat_tests}
use Rattle.std.specs.List.{slice_range}
use Rattle.size_round.proofs.PowerLaws.{powers_pass}
use Rattle.space_core.specs.Cells.{Cells}
use Rattle.space_core.specs.Words.{write_from}
use Rattle.layer_rules.specs.declared.Asked.{Asked}
use Rattle.layer_rules.specs.declared.Asked.TheVariants as asked
use Rattle.layer_rules.specs.declared.Block.{Block}
use Rattle.layer_rules.specs.Blocks.{block, lies_in, is_apart}
use Rattle.layer_rules.specs.Rows.{Each, EachPair}
use Rattle.layer_rules.specs.Rules.{Rules, HasSomeTags, HasDistinctTags, HasMadeTags, HasNoCells, IsSettled, AreApart, longer_if, owns_along}
use Rattle.layer_rules.specs.Layering.{is_done}
use Rattle.layer_rules.specs.State.{State, is_open}
use Rattle.layer_rules.specs.After.{After, after, Placed, Opened, Reallocated, moved_to, emptied, unmoved}
use Rattle.layer_laws.proofs.BlockLaws.{inside-of}
use Rattle.layer_laws.proofs.CellRooms.{rest_of_multiple}
use Rattle.layer_laws.proofs.StandingLaws.{out-in_range}
use Rattle.layer_laws.proofs.Tests.{no-cell, none-all}
use Rattle.layer_laws.specs.Lawful.{AnswersRoute, IsGood, IsGrown, IsReallocated, IsLawful, IsMade}
use Rattle.heap_core.specs.declared.Answer.{Answer}
use Rattle.heap_core.specs.declared.Call.{Call}
use Rattle.heap_core.specs.declared.Call.TheVariants.{Allocate, Aligned, Expand, Reallocate, Free, FreeAll, Owns, OwnsAt, Good, Write, Read}
use Rattle.heap_core.specs.declared.CallFault.{CallFault}
use Rattle.heap_core.specs.declared.CallFault.TheVariants.{NameLive, NameNotLive, TooManyLive, OutOfBlock, NotOffered, NotServing, NoSuchLayer}
use Rattle.heap_core.specs.World.{World, Live, live, live_at, with_live, without, replaced, resized}
use Rattle.heap_core.specs.Performing.{IsCall, Run, run_of, most_live, Performed, under_new_name, on_live, if_offered, if_inside, placed_under, served, grown_under, grown, moved_under, moved, freed, all_freed, owned, asked_at, written, bytes_read, performed}
use Rattle.heap_core.specs.Moves.{most_steps, Places, Resizes, KeepsOthers, Moves}
use Rattle.heap_core.specs.Steps.{IsHeldRun, BeginsHeld, PerformedHeld, PerformedMoves}
use Rattle.heap_core.specs.declared.Answer.TheVariants as answers
use Rattle.heap_core.proofs.ByteLemmas.{inner-apart, apart-flip}
use Rattle.heap_core.proofs.RunBlocks.{each-found}
use Rattle.heap_core.proofs.WorldLemmas.{live-with_same, live-with_other, live-without_same, live-without_other, each-from, each-both, each_pair-under, each-live_with, each_pair-live_with, each-live_without, each_pair-live_without, each-live_at, each-live_other}

-- what a call leaves: a run again, and where it is performed a step
pub record IsStepBy (M : Answer → World → Type 0) (e : Rules) (count leaves : ℕ) (p : Performed) : Type 0 where
  pub held : IsHeldRun e count leaves p.1
  pub moves : IfOk p.0 (λ answer. M answer p.1.world)

abbrev pub IsStep : Rules → (count leaves : ℕ) → Call → World → Performed → Type 0
IsStep e count leaves call old p = IsStepBy (Moves e.alignment count old call) e count leaves p

module _ (e : Rules) (count leaves : ℕ) (r : Run) (h : IsHeldRun e count leaves r) where
  tags : HasSomeTags e
  tags = record { least = h.sound.made.least }

  law : IsLawful e
  law = h.made.lawful h.sound.distinct tags

  -- the extents of two blocks have no byte in common
  abbrev Beside : State → Live → Live → Type 0
  Beside s x y = is_apart (e.extent x.block s) (e.extent y.block s) ≡ true

  abbrev Same : State → Live → Type 0
  Same s x = e.extent x.block s ≡ e.extent x.block r.state

  -- the recorded route is the one that is found
  abbrev Found : State → Live → Type 0
  Found s x = x.route ≡ e.route x.block s

  kept-run : (s : State) (cells : Cells) (w : World) → is_open s ≡ true → IsSettled e s cells → length cells.tags ≡ count
      → Each (λ (x : Live). e.is_out x.block s cells ≡ true) w → Each (Found s) w → EachPair (Beside s) w → IsHeldRun e count leaves (run_of s cells w)
  kept-run s cells w o settled size out found apart =
      record { made = h.made; opened = o; sound = record { distinct = h.sound.distinct; made = h.sound.made; settled = settled }; size = size; out = out; found = found; apart = apart }

  -- no route that the root finds is longer than eight steps
  short-route : (b : Block) (s : State) → length (e.route b s) ≤ most_steps
  short-route b s = omega (arith, h.made.regular.telling.route_depth b s, h.made.shallow)

  -- blocks whose extents stay are apart still
  still-apart : (s : State) (w : World) → Each (Same s) w → EachPair (Beside r.state) w → EachPair (Beside s) w
  still-apart s w same apart = each_pair-under (Same s) (Beside r.state) (Beside s) w (λ x y p q a. rw (p, q) a) same apart

  -- blocks that are out, and whose routes stay, are found as before
  still-found : (s : State) → ((b : Block) → e.is_out b r.state r.cells ≡ true → e.route b s ≡ e.route b r.state) → Each (Found s) r.world
  still-found s routes = each-both (λ (y : Live). e.is_out y.block r.state r.cells ≡ true) (Found r.state) (Found s) r.world (λ y o f. f ∙ sym (routes y.block o)) h.out h.found

  -- every live block stays out
  same-run : (s : State) (cells : Cells) → is_open s ≡ true → IsSettled e s cells → length cells.tags ≡ count → ((b : Block) → e.is_out b r.state r.cells ≡ true → e.extent b s ≡ e.extent b r.state)
      → ((b : Block) → e.is_out b r.state r.cells ≡ true → e.route b s ≡ e.route b r.state)
      → ((b : Block) → e.is_out b r.state r.cells ≡ true → e.is_out b s cells ≡ true) → IsHeldRun e count leaves (run_of s cells r.world)
  same-run s cells o settled size same routes stays =
      kept-run s cells r.world o settled size
      (each-from (λ (y : Live). e.is_out y.block r.state r.cells ≡ true) (λ (y : Live). e.is_out y.block s cells ≡ true) r.world (λ y. stays y.block) h.out)
      (still-found s routes)
      (still-apart s r.world (each-from (λ (y : Live). e.is_out y.block r.state r.cells ≡ true) (Same s) r.world (λ y. same y.block) h.out) h.apart)

  -- a fault changes nothing, nor does a call that only looks
  fault-step : (M : Answer → World → Type 0) (f : CallFault) → IsStepBy M e count leaves (Err f, r)
  fault-step M f = record { held = h; moves = tt }

  look-step : (M : Answer → World → Type 0) (a : Answer) → M a r.world → IsStepBy M e count leaves (Ok a, r)
  look-step M a m = record { held = h; moves = m }

  -- ---- a new block

  -- the step that a new block is, by what it needs of the block
  abbrev MovesTo : (M : Answer → World → Type 0) (name size : ℕ) → Option Placed → Type 0
  MovesTo M name size o = (p : Placed) → o ≡ Some p → (new : World) → Places e.alignment count r.world new name size p.block.place → M (answers.Placed p.block.place) new

  none-step : (M : Answer → World → Type 0) → M answers.Null r.world → (name size : ℕ) (x : After (Option Placed)) → IsGood e r.state r.cells size x → length x.cells.tags ≡ count
      → IsStepBy M e count leaves (placed_under name r.world x.state x.cells None)
  none-step M m name size x g n = record { held = same-run x.state x.cells g.is_set g.settled n g.extents g.routes g.stays; moves = m }

  some-step : (M : Answer → World → Type 0) (name size : ℕ) (x : After (Option Placed)) (p : Placed) → MovesTo M name size x.answer → live_at r.world name ≡ None → IsGood e r.state r.cells size x
      → length x.cells.tags ≡ count → x.answer ≡ Some p → IsStepBy M e count leaves (placed_under name r.world x.state x.cells (Some p))
  some-step M name size x p m fresh g n q =
      let b = p.block in
      let w = r.world in
      let new = live name b (replicate b.len 0) p.route in
      let len = g.len p q in
      let out = g.out p q in
      let here = law.placing.covers b x.state x.cells g.settled out in
      let same : block b.place size ≡ b = ap (block b.place) (sym len) in
      let beside : (y : Live) → e.is_out y.block r.state r.cells ≡ true → is_apart b y.block ≡ true = λ y o.
      let there = law.placing.covers y.block x.state x.cells g.settled (g.stays y.block o) in
      inner-apart b y.block (e.extent b x.state) (e.extent y.block x.state) (inside-of b (e.extent b x.state) here.from here.upto)
      (inside-of y.block (e.extent y.block x.state) there.from there.upto) (g.fresh p q y.block o).either in
      let now : live_at (with_live new w) name ≡ Some new = live-with_same new w fresh in
      record {
        held = kept-run x.state x.cells (with_live new w) g.is_set g.settled n
            (each-live_with (λ (y : Live). e.is_out y.block x.state x.cells ≡ true) new w out
            (each-from (λ (y : Live). e.is_out y.block r.state r.cells ≡ true) (λ (y : Live). e.is_out y.block x.state x.cells ≡ true) w (λ y. g.stays y.block) h.out))
            (each-live_with (Found x.state) new w (sym (g.found p q)) (still-found x.state g.routes))
            (each_pair-live_with (Beside x.state) (λ y z. apart-flip (e.extent y.block x.state) (e.extent z.block x.state)) new w
            (each-from (λ (y : Live). e.is_out y.block r.state r.cells ≡ true) (λ (y : Live). is_apart (e.extent b x.state) (e.extent y.block x.state) ≡ true) w (λ y o. (g.fresh p q y.block o).either) h.out)
            (still-apart x.state w (each-from (λ (y : Live). e.is_out y.block r.state r.cells ≡ true) (Same x.state) w (λ y. g.extents y.block) h.out) h.apart));
        moves = m p q (with_live new w) (record {
          route = p.route;
          short = let l = short-route b x.state in subst (λ route. length route ≤ most_steps) (g.found p q) l;
          fresh = fresh;
          some = let l = law.keeping.out_some b x.state x.cells out in omega (arith, l, len);
          fits = rw same (record {
            inside = let l = out-in_range e tags law.placing.covers b x.state x.cells g.settled out in omega (arith, l, n);
            apart = each-from (λ (y : Live). e.is_out y.block r.state r.cells ≡ true) (λ (y : Live). is_apart b y.block ≡ true) w beside h.out;
          });
          aligned = rest_of_multiple b.place e.alignment (law.placing.aligned b x.state x.cells g.settled out);
          now = rw (same, ← len) now;
          others = record { at = λ other ne. live-with_other new w other ne };
        });
      }

  served-step : (M : Answer → World → Type 0) → M answers.Null r.world → (name size : ℕ) (x : After (Option Placed)) (o : Option Placed) → MovesTo M name size x.answer → live_at r.world name ≡ None
      → IsGood e r.state r.cells size x → length x.cells.tags ≡ count → x.answer ≡ o → IsStepBy M e count leaves (placed_under name r.world x.state x.cells o)
  served-step M z name size x None m fresh g n q = none-step M z name size x g n
  served-step M z name size x (Some p) m fresh g n q = some-step M name size x p m fresh g n q

  allocate-step : (name size : ℕ) (o : Option Live) (many : Bool) → live_at r.world name ≡ o
      → IsStep e count leaves (Allocate name size) r.world (under_new_name (is_some o) many r (served name r.world (e.allocate size r.state r.cells)))
  allocate-step name size (Some x) many q = fault-step _ NameLive
  allocate-step name size None true q = fault-step _ TooManyLive
  allocate-step name size None false q =
      let x = e.allocate size r.state r.cells in
      served-step (Moves e.alignment count r.world (Allocate name size)) refl name size x x.answer (λ p e new k. k) q (law.keeping.good size r.state r.cells h.opened h.sound.settled)
      ((h.made.regular.taking.allocate size r.state r.cells).count ∙ h.size) refl

  aligned-step : (name size align : ℕ) (o : Option Live) (many offered : Bool) → live_at r.world name ≡ o → IsCall (Aligned name size align)
      → IsStep e count leaves (Aligned name size align) r.world (under_new_name (is_some o) many r (if_offered offered r (served name r.world (e.aligned_allocate size align r.state r.cells))))
  aligned-step name size align (Some x) many offered q c = fault-step _ NameLive
  aligned-step name size align None true offered q c = fault-step _ TooManyLive
  aligned-step name size align None false false q c = fault-step _ NotOffered
  aligned-step name size align None false true q c =
      let x = e.aligned_allocate size align r.state r.cells in
      let g = law.keeping.aligned size align r.state r.cells ((powers_pass align).0 c.0) c.1 h.opened h.sound.settled in
      served-step (Moves e.alignment count r.world (Aligned name size align)) refl name size x x.answer (λ p u new k. (k, rest_of_multiple p.block.place align (g.aligned p u))) q g.good
      ((h.made.regular.taking.aligned_allocate size align r.state r.cells).count ∙ h.size) refl

  -- ---- another block, or other bytes, under a live name

  -- what the others of a live block are to it
  others-of : (name : ℕ) (x : Live) → live_at r.world name ≡ Some x → Each (λ (y : Live). (e.is_out y.block r.state r.cells ≡ true) × AreApart e r.state x.block y.block) (without name r.world)
  others-of name x q =
      let R : Block → Block → Type 0 = λ c d. is_apart (e.extent c r.state) (e.extent d r.state) ≡ true in
      each-live_without (λ (y : Live). (e.is_out y.block r.state r.cells ≡ true) × AreApart e r.state x.block y.block) name r.world
      (each-both (λ (y : Live). e.is_out y.block r.state r.cells ≡ true) (λ (y : Live). y.name ≢ name → R x.block y.block)
      (λ (y : Live). y.name ≢ name → (e.is_out y.block r.state r.cells ≡ true) × AreApart e r.state x.block y.block) r.world
      (λ y o a ne. (o, record { either = a ne })) h.out (each-live_other R (λ c d. apart-flip (e.extent c r.state) (e.extent d r.state)) r.world name x h.apart q))

  -- their routes stay where those of blocks stay that are apart from it
  others-found : (name : ℕ) (x : Live) (s : State) → live_at r.world name ≡ Some x → ((c : Block) → e.is_out c r.state r.cells ≡ true → AreApart e r.state x.block c → e.route c s ≡ e.route c r.state)
      → Each (Found s) (without name r.world)
  others-found name x s q routes =
      each-both (λ (y : Live). (e.is_out y.block r.state r.cells ≡ true) × AreApart e r.state x.block y.block) (Found r.state) (Found s) (without name r.world) (λ y o f. f ∙ sym (routes y.block o.0 o.1)) (others-of name x q)
      (each-live_without (Found r.state) name r.world (each-from (Found r.state) (λ (y : Live). y.name ≢ name → Found r.state y) r.world (λ y f n. f) h.found))

  live_found : (name : ℕ) (x : Live) → live_at r.world name ≡ Some x → x.route ≡ e.route x.block r.state
  live_found name x q = (each-found (Found r.state) r.world name x h.found q).0

  live_out : (name : ℕ) (x : Live) → live_at r.world name ≡ Some x → e.is_out x.block r.state r.cells ≡ true
  live_out name x q = each-live_at (λ c. e.is_out c r.state r.cells ≡ true) r.world name x h.out q

  -- what a call leaves that changes a live block alone
  record Changes (was b : Block) (s : State) (cells : Cells) : Type 0 where
    pub opened : is_open s ≡ true
    pub settled : IsSettled e s cells
    pub size : length cells.tags ≡ count
    pub extents : (c : Block) → e.is_out c r.state r.cells ≡ true → AreApart e r.state was c → e.extent c s ≡ e.extent c r.state
    pub routes : (c : Block) → e.is_out c r.state r.cells ≡ true → AreApart e r.state was c → e.route c s ≡ e.route c r.state
    pub out : e.is_out b s cells ≡ true
    pub stays : (c : Block) → e.is_out c r.state r.cells ≡ true → AreApart e r.state was c → e.is_out c s cells ≡ true
    pub fresh : (c : Block) → e.is_out c r.state r.cells ≡ true → AreApart e r.state was c → AreApart e s b c

  changed-run : (name : ℕ) (x : Live) (b : Block) (bytes route : List ℕ) (s : State) (cells : Cells) → live_at r.world name ≡ Some x → route ≡ e.route b s → Changes x.block b s cells
      → IsHeldRun e count leaves (run_of s cells (replaced (live name b bytes route) r.world))
  changed-run name x b bytes route s cells q found k =
      let new = live name b bytes route in
      let w = without name r.world in
      let Other : Live → Type 0 = λ y. (e.is_out y.block r.state r.cells ≡ true) × AreApart e r.state x.block y.block in
      let others = others-of name x q in
      kept-run s cells (with_live new w) k.opened k.settled k.size
      (each-live_with (λ (y : Live). e.is_out y.block s cells ≡ true) new w k.out (each-from Other (λ (y : Live). e.is_out y.block s cells ≡ true) w (λ y o. k.stays y.block o.0 o.1) others))
      (each-live_with (Found s) new w found (others-found name x s q k.routes))
      (each_pair-live_with (Beside s) (λ y z. apart-flip (e.extent y.block s) (e.extent z.block s)) new w
      (each-from Other (Beside s new) w (λ y o. (k.fresh y.block o.0 o.1).either) others)
      (still-apart s w (each-from Other (Same s) w (λ y o. k.extents y.block o.0 o.1) others) (each_pair-live_without (Beside r.state) name r.world h.apart)))

  others-kept : (name : ℕ) (new : Live) → new.name ≡ name → KeepsOthers name r.world (with_live new (without name r.world))
  others-kept name new n = record { at = λ other ne. live-with_other new (without name r.world) other (λ z. ne (z ∙ n)) ∙ live-without_other name r.world other ne }

  inside-extent : (b : Block) (s : State) (cells : Cells) → IsSettled e s cells → e.is_out b s cells ≡ true → lies_in b (e.extent b s) ≡ true
  inside-extent b s cells z o = let here = law.placing.covers b s cells z o in inside-of b (e.extent b s) here.from here.upto

  changed-moves : (name : ℕ) (x : Live) (b : Block) (route : List ℕ) (s : State) (cells : Cells) → live_at r.world name ≡ Some x → Changes x.block b s cells
      → Resizes e.alignment count r.world (replaced (live name b (resized x b.len) route) r.world) name x b route
  changed-moves name x b route s cells q k =
      let new = live name b (resized x b.len) route in
      let w = without name r.world in
      let Other : Live → Type 0 = λ y. (e.is_out y.block r.state r.cells ≡ true) × AreApart e r.state x.block y.block in
      record {
        found = q;
        some = law.keeping.out_some b s cells k.out;
        fits = record {
          inside = let l = out-in_range e tags law.placing.covers b s cells k.settled k.out in omega (arith, l, k.size);
          apart = each-from Other (λ (y : Live). is_apart b y.block ≡ true) w
              (λ y o. inner-apart b y.block (e.extent b s) (e.extent y.block s) (inside-extent b s cells k.settled k.out) (inside-extent y.block s cells k.settled (k.stays y.block o.0 o.1)) (k.fresh y.block o.0 o.1).either)
              (others-of name x q);
        };
        aligned = rest_of_multiple b.place e.alignment (law.placing.aligned b s cells k.settled k.out);
        now = live-with_same new w (live-without_same name r.world);
        others = others-kept name new refl;
      }

  -- ---- a block grows

  grown-changes : (b : Block) (delta : ℕ) (y : After Bool) → IsGrown e r.state r.cells b delta y → length y.cells.tags ≡ count → y.answer ≡ true → Changes b (longer_if true delta b) y.state y.cells
  grown-changes b delta y g n q =
      let longer = ap (λ d. longer_if d delta b) q in
      record {
        opened = g.is_set;
        settled = g.settled;
        size = n;
        extents = λ c o a. g.extents c o (λ d. a);
        routes = λ c o a. g.routes c o (λ d. a);
        out = subst (λ (c : Block). e.is_out c y.state y.cells ≡ true) longer g.out;
        stays = λ c o a. g.stays c o (λ d. a);
        fresh = λ c o a. subst (λ (d : Block). AreApart e y.state d c) longer (g.fresh c o a);
      }

  grow-step : (name delta : ℕ) (x : Live) (y : After Bool) (done : Bool) → live_at r.world name ≡ Some x → IsGrown e r.state r.cells x.block delta y → length y.cells.tags ≡ count → y.answer ≡ done
      → IsStep e count leaves (Expand name delta) r.world (grown_under name delta x r.world y.state y.cells done)
  grow-step name delta x y true q g n a =
      let b = longer_if true delta x.block in
      let k = grown-changes x.block delta y g n a in
      let longer = ap (λ d. longer_if d delta x.block) a in
      let found = live_found name x q ∙ sym (subst (λ (c : Block). e.route c y.state ≡ e.route x.block r.state) longer g.found) in
      record {
        held = changed-run name x b (resized x b.len) x.route y.state y.cells q found k;
        moves = record { was = x; grows = changed-moves name x b x.route y.state y.cells q k };
      }
  grow-step name delta x y false q g n a = record {
    held = same-run y.state y.cells g.is_set g.settled n (λ b o. g.extents b o (λ d. absurd (cc))) (λ b o. g.routes b o (λ d. absurd (cc))) (λ b o. g.stays b o (λ d. absurd (cc)));
    moves = refl;
  }

  expand-step : (name delta : ℕ) (o : Option Live) (offered : Bool) → live_at r.world name ≡ o
      → IsStep e count leaves (Expand name delta) r.world (on_live o r (λ x. if_offered offered r (grown name delta x r.world (e.expand delta x.block r.state r.cells))))
  expand-step name delta None offered q = fault-step _ NameNotLive
  expand-step name delta (Some x) false q = fault-step _ NotOffered
  expand-step name delta (Some x) true q =
      let y = e.expand delta x.block r.state r.cells in
      let g = law.keeping.grown delta x.block r.state r.cells h.opened h.sound.settled (live_out name x q) in
      grow-step name delta x y y.answer q g (g.table.count ∙ h.size) refl

  -- ---- a block gets another length

  -- where it has that length already its route stays
  abbrev KeepsRoute : (size : ℕ) → Live → After Reallocated → Type 0
  KeepsRoute size x y = (b : Block) → y.answer ≡ moved_to b → size ≡ x.block.len → e.route b y.state ≡ e.route x.block r.state

  move-step : (name size : ℕ) (x : Live) (y : After Reallocated) (a : Reallocated) → live_at r.world name ≡ Some x → IsReallocated e r.state r.cells x.block size y → KeepsRoute size x y → y.answer ≡ a
      → IsStep e count leaves (Reallocate name size) r.world (moved_under e name x r.world y.state y.cells a)
  move-step name size x y (moved_to b) q g same_route a =
      let k : Changes x.block b y.state y.cells = record {
        opened = g.is_set;
        settled = g.settled;
        size = g.count ∙ h.size;
        extents = λ c o p. g.extents c o (λ d. p);
        routes = λ c o p. g.routes c o (λ d. p);
        out = g.out b a;
        stays = λ c o p. g.stays c o (λ d. p);
        fresh = g.fresh b a;
      } in
      let same : b ≡ block b.place size = ap (block b.place) (g.len b a) in
      let route = e.route b y.state in
      record {
        held = changed-run name x b (resized x b.len) route y.state y.cells q refl k;
        moves = record {
          was = x;
          route = route;
          gets = subst (λ (c : Block). Resizes e.alignment count r.world (replaced (live name b (resized x b.len) route) r.world) name x c route) same (changed-moves name x b route y.state y.cells q k);
          short = short-route b y.state;
          same = λ z. same_route b a z ∙ sym (live_found name x q);
          where_to = elim (g.place b a) [
            | inl p ↦ inl p
            | inr p ↦ inr (subst (λ (c : Block). is_apart c x.block ≡ true) same
                (inner-apart b x.block (e.extent b y.state) (e.extent x.block r.state) (inside-extent b y.state y.cells g.settled k.out)
                (inside-extent x.block r.state r.cells h.sound.settled (live_out name x q)) p.either))
          ];
        };
      }
  move-step name size x y emptied q g same_route a = record {
    held = kept-run y.state y.cells (without name r.world) g.is_set g.settled (g.count ∙ h.size)
        (each-from (λ (z : Live). (e.is_out z.block r.state r.cells ≡ true) × AreApart e r.state x.block z.block) (λ (z : Live). e.is_out z.block y.state y.cells ≡ true) (without name r.world)
        (λ z o. g.stays z.block o.0 (λ d. o.1)) (others-of name x q))
        (others-found name x y.state q (λ c o p. g.routes c o (λ d. p)))
        (still-apart y.state (without name r.world)
        (each-from (λ (z : Live). (e.is_out z.block r.state r.cells ≡ true) × AreApart e r.state x.block z.block) (Same y.state) (without name r.world) (λ z o. g.extents z.block o.0 (λ d. o.1)) (others-of name x q))
        (each_pair-live_without (Beside r.state) name r.world h.apart));
    moves = (g.some a, record { gone = live-without_same name r.world; others = record { at = λ other ne. live-without_other name r.world other ne } });
  }
  move-step name size x y unmoved q g same_route a = record {
    held = same-run y.state y.cells g.is_set g.settled (g.count ∙ h.size) (λ b o. g.extents b o (undone b)) (λ b o. g.routes b o (undone b)) (λ b o. g.stays b o (undone b));
    moves = refl;
  }
    where
      undone : (c : Block) → is_done y.answer ≡ true → AreApart e r.state x.block c
      undone c d = absurd (let z : is_done unmoved ≡ true = subst (λ (c : Reallocated). is_done c ≡ true) a d in cc)

  -- a block that is to have the length that it has stays where it is, and nothing else changes
  stays-on_route : (size : ℕ) (x : Live) → KeepsRoute size x (e.reallocate size x.block r.state r.cells)
  stays-on_route size x b a n =
      let y = e.reallocate size x.block r.state r.cells in
      let same : y ≡ after (moved_to x.block) r.state r.cells = ap (λ n. e.reallocate n x.block r.state r.cells) n ∙ law.keeping.same_length x.block r.state r.cells in
      let answer : y.answer ≡ moved_to x.block = ap (λ (z : After Reallocated). z.answer) same in
      let there : b ≡ x.block = cc in
      ap (λ c. e.route c y.state) there ∙ ap (λ (z : After Reallocated). e.route x.block z.state) same

  reallocate-step : (name size : ℕ) (o : Option Live) → live_at r.world name ≡ o
      → IsStep e count leaves (Reallocate name size) r.world (on_live o r (λ x. moved e name x r.world (e.reallocate size x.block r.state r.cells)))
  reallocate-step name size None q = fault-step _ NameNotLive
  reallocate-step name size (Some x) q =
      let y = e.reallocate size x.block r.state r.cells in
      move-step name size x y y.answer q (law.keeping.reallocated size x.block r.state r.cells h.opened h.sound.settled (live_out name x q)) (stays-on_route size x) refl

  -- ---- blocks are given back

  free-step : (name : ℕ) (o : Option Live) → live_at r.world name ≡ o → IsStep e count leaves (Free name) r.world (on_live o r (λ x. freed name r.world (e.deallocate x.block r.state r.cells)))
  free-step name None q = fault-step _ NameNotLive
  free-step name (Some x) q =
      let b = x.block in
      let w = r.world in
      let y = e.deallocate b r.state r.cells in
      let g = law.keeping.freed b r.state r.cells h.opened h.sound.settled (live_out name x q) in
      record {
        held = kept-run y.state y.cells (without name w) g.is_set g.settled (h.made.regular.taking.deallocate_count b r.state r.cells ∙ h.size)
            (each-from (λ (z : Live). (e.is_out z.block r.state r.cells ≡ true) × AreApart e r.state b z.block) (λ (z : Live). e.is_out z.block y.state y.cells ≡ true) (without name w)
            (λ z o. g.stays z.block o.0 o.1) (others-of name x q))
            (others-found name x y.state q g.routes)
            (still-apart y.state (without name w)
            (each-from (λ (z : Live). (e.is_out z.block r.state r.cells ≡ true) × AreApart e r.state b z.block) (Same y.state) (without name w) (λ z o. g.extents z.block o.0 o.1) (others-of name x q))
            (each_pair-live_without (Beside r.state) name w h.apart));
        moves = record { gone = live-without_same name w; others = record { at = λ other ne. live-without_other name w other ne } };
      }

  free_all-step : (offered : Bool) → IsStep e count leaves FreeAll r.world (if_offered offered r (all_freed (e.deallocate_all r.state r.cells)))
  free_all-step false = fault-step _ NotOffered
  free_all-step true =
      let o = e.deallocate_all r.state r.cells in
      let g = law.keeping.emptied r.state r.cells h.opened h.sound.settled in
      record {
        held = record {
          made = h.made;
          opened = g.is_set;
          sound = record { distinct = h.sound.distinct; made = h.sound.made; settled = g.settled };
          size = h.made.regular.taking.deallocate_all_count r.state r.cells ∙ h.size;
          out = tt;
          found = tt;
          apart = tt;
        };
        moves = refl;
      }

  -- ---- a block is asked for

  -- what is said along a path goes by the recorded route
  along-route : (name : ℕ) (path : List ℕ) (x : Live) → live_at r.world name ≡ Some x → AnswersRoute path x.route (owns_along e path x.block r.state)
  along-route name path x q =
      subst (λ route. AnswersRoute path route (owns_along e path x.block r.state)) (sym (live_found name x q)) (law.paths.said_route path x.block r.state r.cells h.sound.settled (live_out name x q))

  owns-step : (name : ℕ) (o : Option Live) (offered : Bool) → live_at r.world name ≡ o → e.offers.owns ≡ offered → IsStep e count leaves (Owns name) r.world (on_live o r (λ x. if_offered offered r (owned r (e.owns x.block r.state))))
  owns-step name None offered q offers = fault-step _ NameNotLive
  owns-step name (Some x) false q offers = fault-step _ NotOffered
  owns-step name (Some x) true q offers =
      let y = e.owns x.block r.state in
      let g = law.keeping.owned x.block r.state r.cells h.sound.settled in
      let yes : y.owned ≡ true = h.made.regular.owning.answer x.block r.state ∙ law.holding.out_held offers x.block r.state r.cells h.sound.settled (live_out name x q) in
      record {
        held = same-run y.state r.cells (h.made.regular.openness.owns x.block r.state ∙ h.opened) g.settled h.size (λ b o. g.extents b) g.routes (λ b o. g.out b ∙ o);
        moves = subst (λ (said : Bool). Moves e.alignment count r.world (Owns name) (answers.Said said) r.world) (sym yes) (record { was = x; found = q; same = refl });
      }

  asked-step : (name : ℕ) (path : List ℕ) (x : Live) (a : Asked) → live_at r.world name ≡ Some x → AnswersRoute path x.route a → IsStep e count leaves (OwnsAt name path) r.world (asked_at r a)
  asked-step name path x asked.Yes q along = look-step _ (answers.Said true) (record { asks = record { was = x; found = q; same = refl }; exact = sym (along.yes refl) })
  asked-step name path x asked.No q along = look-step _ (answers.Said false) (record { asks = record { was = x; found = q; same = refl }; exact = sym (along.no refl) })
  asked-step name path x asked.NotServing q along = fault-step _ NotServing
  asked-step name path x asked.NotOffered q along = fault-step _ NotOffered
  asked-step name path x asked.NoSuchLayer q along = fault-step _ NoSuchLayer

  owns_at-step : (name : ℕ) (path : List ℕ) (o : Option Live) → live_at r.world name ≡ o → IsStep e count leaves (OwnsAt name path) r.world (on_live o r (λ x. asked_at r (owns_along e path x.block r.state)))
  owns_at-step name path None q = fault-step _ NameNotLive
  owns_at-step name path (Some x) q = asked-step name path x (owns_along e path x.block r.state) q (along-route name path x q)

  -- ---- bytes are written and read

  write-step : (name offset : ℕ) (given : List ℕ) (x : Live) (inside : Bool) → live_at r.world name ≡ Some x → nat_le (offset + length given) x.block.len ≡ inside
      → IsStep e count leaves (Write name offset given) r.world (if_inside inside r (written name offset given x r))
  write-step name offset given x false q i = fault-step _ OutOfBlock
  write-step name offset given x true q i =
      let k : Changes x.block x.block r.state r.cells = record {
        opened = h.opened;
        settled = h.sound.settled;
        size = h.size;
        extents = λ c o a. refl;
        routes = λ c o a. refl;
        out = live_out name x q;
        stays = λ c o a. o;
        fresh = λ c o a. a;
      } in
      let new = live name x.block (write_from x.bytes offset given) x.route in
      record {
        held = changed-run name x x.block (write_from x.bytes offset given) x.route r.state r.cells q (live_found name x q) k;
        moves = record {
          was = x;
          found = q;
          inside = grind (arith, nat_tests);
          now = live-with_same new (without name r.world) (live-without_same name r.world);
          others = others-kept name new refl;
        };
      }

  write_live-step : (name offset : ℕ) (given : List ℕ) (o : Option Live) → live_at r.world name ≡ o
      → IsStep e count leaves (Write name offset given) r.world (on_live o r (λ x. if_inside (nat_le (offset + length given) x.block.len) r (written name offset given x r)))
  write_live-step name offset given None q = fault-step _ NameNotLive
  write_live-step name offset given (Some x) q = write-step name offset given x (nat_le (offset + length given) x.block.len) q refl

  read-step : (name offset len : ℕ) (x : Live) (inside : Bool) → live_at r.world name ≡ Some x → nat_le (offset + len) x.block.len ≡ inside
      → IsStep e count leaves (Read name offset len) r.world (if_inside inside r (bytes_read offset len x r))
  read-step name offset len x false q i = fault-step _ OutOfBlock
  read-step name offset len x true q i =
      look-step _ (answers.Bytes (slice_range x.bytes offset (offset + len))) (record { asks = record { was = x; found = q; same = refl }; inside = grind (arith, nat_tests); read = refl })

  read_live-step : (name offset len : ℕ) (o : Option Live) → live_at r.world name ≡ o
      → IsStep e count leaves (Read name offset len) r.world (on_live o r (λ x. if_inside (nat_le (offset + len) x.block.len) r (bytes_read offset len x r)))
  read_live-step name offset len None q = fault-step _ NameNotLive
  read_live-step name offset len (Some x) q = read-step name offset len x (nat_le (offset + len) x.block.len) q refl

performed-step : (e : Rules) (count leaves : ℕ) (call : Call) (r : Run) → IsCall call → IsHeldRun e count leaves r → IsStep e count leaves call r.world (performed e call r)
unfolding performed
performed-step e count leaves (Allocate name size) r c h = allocate-step e count leaves r h name size (live_at r.world name) (nat_le most_live (length r.world)) refl
performed-step e count leaves (Aligned name size align) r c h = aligned-step e count leaves r h name size align (live_at r.world name) (nat_le most_live (length r.world)) e.offers.aligned refl c
performed-step e count leaves (Expand name delta) r c h = expand-step e count leaves r h name delta (live_at r.world name) e.offers.expand refl
performed-step e count leaves (Reallocate name size) r c h = reallocate-step e count leaves r h name size (live_at r.world name) refl
performed-step e count leaves (Free name) r c h = free-step e count leaves r h name (live_at r.world name) refl
performed-step e count leaves FreeAll r c h = free_all-step e count leaves r h e.offers.all
performed-step e count leaves (Owns name) r c h = owns-step e count leaves r h name (live_at r.world name) e.offers.owns refl refl
performed-step e count leaves (OwnsAt name path) r c h = owns_at-step e count leaves r h name path (live_at r.world name) refl
performed-step e count leaves (Good size) r c h = record { held = h; moves = (h.made.regular.telling.enough size, refl) }
performed-step e count leaves (Write name offset given) r c h = write_live-step e count leaves r h name offset given (live_at r.world name) refl
performed-step e count leaves (Read name offset len) r c h = read_live-step e count leaves r h name offset len (live_at r.world name) refl

pub performed-held : PerformedHeld
performed-held e count leaves call r c h = (performed-step e count leaves call r c h).held

pub performed-moves : PerformedMoves
performed-moves e count leaves call r c h = (performed-step e count leaves call r c h).moves

-- ---- the first run

pub opened-held_run : (e : Rules) (need : ℕ) (cells : Cells) (leaves : ℕ) (o : Opened) → IsMade e → HasDistinctTags e → HasMadeTags leaves e → HasNoCells e cells
    → e.set_up need cells ≡ Ok o → IsHeldRun e (length cells.tags) leaves (run_of o.state o.cells [])
opened-held_run e need cells leaves o p d m n q =
    let tags : HasSomeTags e = record { least = m.least } in
    let settled = (p.lawful d tags).opening.opens need cells o (no-cell e cells tags (none-all e.leaf_tags cells n.none)) q in
    record { made = p; opened = p.regular.openness.set_up need cells o q; sound = record { distinct = d; made = m; settled = settled }; size = (p.regular.taking.set_up need cells o q).count; out = tt; found = tt; apart = tt }

pub begins-held_run : BeginsHeld
begins-held_run e cells leaves o p d m n q = opened-held_run e 0 cells leaves o p d m n q
