-- What a call answers: a fault changes nothing, and a new block is refused exactly where the rules refuse it.
use Rattle.std.proofs.Common.{◌≡◌, refl, sym, ap, subst, ◌∙◌, ℕ, ◌+◌, zero, suc, ◌≤◌, ◌<◌, ◌⊎◌, inl, inr, ◌↔◌, Bool, true, false, ◌||◌, nat_eq, nat_le, List, length, Option, Some, None, is_some, is_none, Result, Ok, OnErr, arith}
use Rattle.std.specs.List.{starts_with}
use Rattle.std.proofs.lemmas.Bool.Decides.{nat_tests}
use Rattle.space_core.specs.Cells.{Cells}
use Rattle.layer_rules.specs.declared.Asked.{Asked}
use Rattle.layer_rules.specs.declared.Asked.TheVariants as asked
use Rattle.layer_rules.specs.Rules.{Rules, owns_along}
use Rattle.layer_rules.specs.State.{State}
use Rattle.layer_rules.specs.After.{After, Placed, Reallocated, moved_to, emptied, unmoved}
use Rattle.layer_laws.specs.Lawful.{AnswersRoute, RefusingLaws, KeptOnNone, KeptOnFalse, KeptUnmoved}
use Rattle.heap_core.specs.declared.Answer.{Answer}
use Rattle.heap_core.specs.declared.CallFault.{CallFault}
use Rattle.heap_core.specs.declared.Call.TheVariants.{Allocate, Aligned, Expand, Reallocate, Free, FreeAll, Owns, OwnsAt, Good, Write, Read}
use Rattle.heap_core.specs.World.{World, Live, live_at}
use Rattle.heap_core.specs.Performing.{Run, most_live, Performed, under_new_name, on_live, if_offered, if_inside, placed_under, served, grown_under, grown, moved_under, moved, freed, all_freed, owned, asked_at, written, bytes_read, performed}
use Rattle.heap_core.specs.Steps.{IsHeldRun}
use Rattle.heap_core.specs.RunFacts.{IsPlaced, IsSameRun, FaultKeepsRun, NullExactly, PlacedElse, AlignedNullExactly, AlignedPlacedElse, LiveIsOwned, PathsAnswerRoutes, RefusedChangesNone}
use Rattle.heap_core.proofs.RunBlocks.{each-found}
use Rattle.heap_core.specs.declared.Answer.TheVariants as answers

-- ---- faults

abbrev pub KeepsInFault : Run → Performed → Type 0
KeepsInFault r p = OnErr p.0 (p.1 ≡ r)

module _ (e : Rules) (r : Run) where
  new-fault : (is_live too_many : Bool) (p : Performed) → KeepsInFault r p → KeepsInFault r (under_new_name is_live too_many r p)
  new-fault true too_many p k = refl
  new-fault false true p k = refl
  new-fault false false p k = k

  live-fault : (o : Option Live) (p : Live → Performed) → ((x : Live) → KeepsInFault r (p x)) → KeepsInFault r (on_live o r p)
  live-fault None p k = refl
  live-fault (Some x) p k = k x

  offered-fault : (offered : Bool) (p : Performed) → KeepsInFault r p → KeepsInFault r (if_offered offered r p)
  offered-fault true p k = k
  offered-fault false p k = refl

  inside-fault : (inside : Bool) (p : Performed) → KeepsInFault r p → KeepsInFault r (if_inside inside r p)
  inside-fault true p k = k
  inside-fault false p k = refl

  placed-no_fault : (name : ℕ) (s : State) (cells : Cells) (o : Option Placed) → KeepsInFault r (placed_under name r.world s cells o)
  placed-no_fault name s cells None = tt
  placed-no_fault name s cells (Some p) = tt

  grown-no_fault : (name delta : ℕ) (x : Live) (s : State) (cells : Cells) (done : Bool) → KeepsInFault r (grown_under name delta x r.world s cells done)
  grown-no_fault name delta x s cells true = tt
  grown-no_fault name delta x s cells false = tt

  moved-no_fault : (name : ℕ) (x : Live) (s : State) (cells : Cells) (a : Reallocated) → KeepsInFault r (moved_under e name x r.world s cells a)
  moved-no_fault name x s cells (moved_to b) = tt
  moved-no_fault name x s cells emptied = tt
  moved-no_fault name x s cells unmoved = tt

  asked-fault : (a : Asked) → KeepsInFault r (asked_at r a)
  asked-fault asked.Yes = tt
  asked-fault asked.No = tt
  asked-fault asked.NotServing = refl
  asked-fault asked.NotOffered = refl
  asked-fault asked.NoSuchLayer = refl

  served-no_fault : (name : ℕ) (x : After (Option Placed)) → KeepsInFault r (served name r.world x)
  served-no_fault name x = placed-no_fault name x.state x.cells x.answer

pub fault-keeps_run : FaultKeepsRun
unfolding performed
fault-keeps_run e (Allocate name size) r = new-fault e r _ _ _ (served-no_fault e r name (e.allocate size r.state r.cells))
fault-keeps_run e (Aligned name size align) r = new-fault e r _ _ _ (offered-fault e r e.offers.aligned _ (served-no_fault e r name (e.aligned_allocate size align r.state r.cells)))
fault-keeps_run e (Expand name delta) r =
    live-fault e r (live_at r.world name) _ (λ x. offered-fault e r e.offers.expand _ (let y = e.expand delta x.block r.state r.cells in grown-no_fault e r name delta x y.state y.cells y.answer))
fault-keeps_run e (Reallocate name size) r = live-fault e r (live_at r.world name) _ (λ x. let y = e.reallocate size x.block r.state r.cells in moved-no_fault e r name x y.state y.cells y.answer)
fault-keeps_run e (Free name) r = live-fault e r (live_at r.world name) (λ x. freed name r.world (e.deallocate x.block r.state r.cells)) (λ x. tt)
fault-keeps_run e FreeAll r = offered-fault e r e.offers.all (all_freed (e.deallocate_all r.state r.cells)) tt
fault-keeps_run e (Owns name) r = live-fault e r (live_at r.world name) _ (λ x. offered-fault e r e.offers.owns (owned r (e.owns x.block r.state)) tt)
fault-keeps_run e (OwnsAt name path) r = live-fault e r (live_at r.world name) _ (λ x. asked-fault e r (owns_along e path x.block r.state))
fault-keeps_run e (Good size) r = tt
fault-keeps_run e (Write name offset given) r = live-fault e r (live_at r.world name) _ (λ x. inside-fault e r (nat_le (offset + length given) x.block.len) (written name offset given x r) tt)
fault-keeps_run e (Read name offset len) r = live-fault e r (live_at r.world name) _ (λ x. inside-fault e r (nat_le (offset + len) x.block.len) (bytes_read offset len x r) tt)

-- ---- a new name, below the greatest number

fresh-by_rule : (r : Run) (name : ℕ) (p : Performed) → live_at r.world name ≡ None → length r.world < most_live → under_new_name (is_some (live_at r.world name)) (nat_le most_live (length r.world)) r p ≡ p
fresh-by_rule r name p fresh room =
    let few : nat_le most_live (length r.world) ≡ false = grind (arith, nat_tests) in
    ap (λ o. under_new_name (is_some o) (nat_le most_live (length r.world)) r p) fresh ∙ ap (λ b. under_new_name false b r p) few

performed-fresh : (e : Rules) (name size : ℕ) (r : Run) → live_at r.world name ≡ None → length r.world < most_live → performed e (Allocate name size) r ≡ served name r.world (e.allocate size r.state r.cells)
unfolding performed
performed-fresh e name size r fresh room = fresh-by_rule r name (served name r.world (e.allocate size r.state r.cells)) fresh room

performed-fresh_at : (e : Rules) (name size align : ℕ) (r : Run) → live_at r.world name ≡ None → length r.world < most_live → e.offers.aligned ≡ true
    → performed e (Aligned name size align) r ≡ served name r.world (e.aligned_allocate size align r.state r.cells)
unfolding performed
performed-fresh_at e name size align r fresh room offered =
    let p = served name r.world (e.aligned_allocate size align r.state r.cells) in
    fresh-by_rule r name (if_offered e.offers.aligned r p) fresh room ∙ ap (λ b. if_offered b r p) offered

-- no block exactly where 0 bytes are asked or the rule refuses
none-by_rule : (e : Rules) (count leaves size : ℕ) (r : Run) → IsHeldRun e count leaves r → is_none (e.allocate size r.state r.cells).answer ≡ (nat_eq size 0 || e.refuses size r.state r.cells)
none-by_rule e count leaves size r h = let k = h.made.regular.refusing in k.none size r.state r.cells (k.free_tails r.state r.cells h.sound.settled)

abbrev pub IsRefusal : (size : ℕ) (refused : Bool) → Type 0
IsRefusal size refused = (size ≡ 0) ⊎ (refused ≡ true)

refusal-then : (size : ℕ) (refused : Bool) → (nat_eq size 0 || refused) ≡ true → IsRefusal size refused
refusal-then zero refused h = inl refl
refusal-then (suc n) refused h = inr (let no : nat_eq (suc n) 0 ≡ false = grind (arith, nat_tests) in subst (λ t. (t || refused) ≡ true) no h)

then-refusal : (size : ℕ) (refused : Bool) → IsRefusal size refused → (nat_eq size 0 || refused) ≡ true
then-refusal size refused (inl z) = let yes : nat_eq size 0 ≡ true = grind (arith, nat_tests) in rw yes refl
then-refusal size refused (inr y) = rw y (any (nat_eq size 0))
  where
    any : (b : Bool) → (b || true) ≡ true
    any true = refl
    any false = refl

null-exact : (name : ℕ) (w : World) (s : State) (cells : Cells) (o : Option Placed) (size : ℕ) (refused : Bool) → is_none o ≡ (nat_eq size 0 || refused)
    → ((placed_under name w s cells o).0 ≡ Ok answers.Null) ↔ IsRefusal size refused
null-exact name w s cells None size refused q = ((λ n. refusal-then size refused (sym q)), (λ r. refl))
null-exact name w s cells (Some p) size refused q =
    ((λ (n : (placed_under name w s cells (Some p)).0 ≡ Ok answers.Null). absurd (cc)), (λ r. let t = then-refusal size refused r in absurd (cc)))

pub null-exactly : NullExactly
null-exactly e count leaves name size r h fresh room =
    let x = e.allocate size r.state r.cells in
    rw (performed-fresh e name size r fresh room) (null-exact name r.world x.state x.cells x.answer size (e.refuses size r.state r.cells) (none-by_rule e count leaves size r h))

pub aligned-null_exactly : AlignedNullExactly
aligned-null_exactly e count leaves name size align r h fresh room offered =
    let x = e.aligned_allocate size align r.state r.cells in
    rw (performed-fresh_at e name size align r fresh room offered)
    (null-exact name r.world x.state x.cells x.answer size (e.refuses_aligned size align r.state r.cells) (h.made.regular.refusing.none_aligned size align r.state r.cells))

placed-by : (name : ℕ) (w : World) (s : State) (cells : Cells) (o : Option Placed) → is_none o ≡ false → IsPlaced (placed_under name w s cells o).0
placed-by name w s cells None q = absurd (cc)
placed-by name w s cells (Some p) q = tt

-- at least one byte is asked, and the rule doesn't refuse
serves-some : (size : ℕ) (none refused : Bool) → none ≡ (nat_eq size 0 || refused) → 1 ≤ size → refused ≡ false → none ≡ false
serves-some size none refused q some serves =
    let asks : nat_eq size 0 ≡ false = grind (arith, nat_tests) in
    q ∙ (ap (λ t. t || refused) asks ∙ serves)

pub placed-else : PlacedElse
placed-else e count leaves name size r h fresh room some serves =
    let x = e.allocate size r.state r.cells in
    rw (performed-fresh e name size r fresh room)
    (placed-by name r.world x.state x.cells x.answer (serves-some size (is_none x.answer) (e.refuses size r.state r.cells) (none-by_rule e count leaves size r h) some serves))

pub aligned-placed_else : AlignedPlacedElse
aligned-placed_else e count leaves name size align r h fresh room offered some serves =
    let x = e.aligned_allocate size align r.state r.cells in
    let none = h.made.regular.refusing.none_aligned size align r.state r.cells in
    rw (performed-fresh_at e name size align r fresh room offered)
    (placed-by name r.world x.state x.cells x.answer (serves-some size (is_none x.answer) (e.refuses_aligned size align r.state r.cells) none some serves))

-- ---- whose a block is

owned-by_rule : (e : Rules) (count leaves name : ℕ) (r : Run) (x : Live) → IsHeldRun e count leaves r → live_at r.world name ≡ Some x → e.offers.owns ≡ true → (e.owns x.block r.state).owned ≡ true
owned-by_rule e count leaves name r x h q offered =
    let law = h.made.lawful h.sound.distinct (record { least = h.sound.made.least }) in
    let out = (each-found (λ (y : Live). e.is_out y.block r.state r.cells ≡ true) r.world name x h.out q).0 in
    h.made.regular.owning.answer x.block r.state ∙ law.holding.out_held offered x.block r.state r.cells h.sound.settled out

pub live-is_owned : LiveIsOwned
unfolding performed
live-is_owned e count leaves name r x h q offered =
    let y = e.owns x.block r.state in
    ap (λ (o : Option Live). (on_live o r (λ x. if_offered e.offers.owns r (owned r (e.owns x.block r.state)))).0) q
    ∙ (ap (λ b. (if_offered b r (owned r y)).0) offered ∙ ap (λ b. let a : Result Answer CallFault = Ok (answers.Said b) in a) (owned-by_rule e count leaves name r x h q offered))

-- what is said at a path's end, of the answer by the rule
said-along : (r : Run) (path route : List ℕ) (a : Asked) (said : Bool) → AnswersRoute path route a → (asked_at r a).0 ≡ Ok (answers.Said said) → said ≡ starts_with nat_eq route path
said-along r path route asked.Yes said k h = let yes : said ≡ true = cc in yes ∙ sym (k.yes refl)
said-along r path route asked.No said k h = let no : said ≡ false = cc in no ∙ sym (k.no refl)
said-along r path route asked.NotServing said k h = absurd (cc)
said-along r path route asked.NotOffered said k h = absurd (cc)
said-along r path route asked.NoSuchLayer said k h = absurd (cc)

pub paths-answer_routes : PathsAnswerRoutes
unfolding performed
paths-answer_routes e count leaves name path said r x h q a =
    let law = h.made.lawful h.sound.distinct (record { least = h.sound.made.least }) in
    let out = (each-found (λ (y : Live). e.is_out y.block r.state r.cells ≡ true) r.world name x h.out q).0 in
    let found = (each-found (λ (y : Live). y.route ≡ e.route y.block r.state) r.world name x h.found q).0 in
    let by_route = law.paths.said_route path x.block r.state r.cells h.sound.settled out in
    let now : (asked_at r (owns_along e path x.block r.state)).0 ≡ Ok (answers.Said said) =
    sym (ap (λ (o : Option Live). (on_live o r (λ x. asked_at r (owns_along e path x.block r.state))).0) q) ∙ a in
    said-along r path x.route (owns_along e path x.block r.state) said (subst (λ route. AnswersRoute path route (owns_along e path x.block r.state)) (sym found) by_route) now

-- ---- refusals

-- an answer that leaves the run but for statistics
abbrev pub IsSameAt : Run → Performed → Answer → Type 0
IsSameAt r p answer = p.0 ≡ Ok answer → IsSameRun r p.1

module _ (r : Run) where
  new-same : (is_live too_many : Bool) (p : Performed) (answer : Answer) → IsSameAt r p answer → IsSameAt r (under_new_name is_live too_many r p) answer
  new-same true too_many p answer k q = absurd (cc)
  new-same false true p answer k q = absurd (cc)
  new-same false false p answer k q = k q

  live-same : (o : Option Live) (p : Live → Performed) (answer : Answer) → ((x : Live) → IsSameAt r (p x) answer) → IsSameAt r (on_live o r p) answer
  live-same None p answer k q = absurd (cc)
  live-same (Some x) p answer k q = k x q

  offered-same : (offered : Bool) (p : Performed) (answer : Answer) → IsSameAt r p answer → IsSameAt r (if_offered offered r p) answer
  offered-same true p answer k q = k q
  offered-same false p answer k q = absurd (cc)

  none-same : (name : ℕ) (x : After (Option Placed)) (o : Option Placed) → x.answer ≡ o → KeptOnNone r.state r.cells x → IsSameAt r (placed_under name r.world x.state x.cells o) answers.Null
  none-same name x None a k q = record { rest = k a; world = refl }
  none-same name x (Some p) a k q = absurd (cc)

  ungrown-same : (name delta : ℕ) (x : Live) (y : After Bool) (done : Bool) → y.answer ≡ done → KeptOnFalse r.state r.cells y → IsSameAt r (grown_under name delta x r.world y.state y.cells done) (answers.Said false)
  ungrown-same name delta x y true a k q = absurd (cc)
  ungrown-same name delta x y false a k q = record { rest = k a; world = refl }

  unmoved-same : (e : Rules) (name : ℕ) (x : Live) (y : After Reallocated) (a : Reallocated) → y.answer ≡ a → KeptUnmoved r.state r.cells y → IsSameAt r (moved_under e name x r.world y.state y.cells a) (answers.Said false)
  unmoved-same e name x y (moved_to b) a k q = absurd (cc)
  unmoved-same e name x y emptied a k q = absurd (cc)
  unmoved-same e name x y unmoved a k q = record { rest = k a; world = refl }

module _ (e : Rules) (r : Run) (k : RefusingLaws e) where
  allocate-same : (name size : ℕ) → IsSameAt r (performed e (Allocate name size) r) answers.Null
  unfolding performed
  allocate-same name size = let x = e.allocate size r.state r.cells in new-same r _ _ (served name r.world x) answers.Null (none-same r name x x.answer refl (k.allocate size r.state r.cells))

  aligned-same : (name size align : ℕ) → IsSameAt r (performed e (Aligned name size align) r) answers.Null
  unfolding performed
  aligned-same name size align =
      let x = e.aligned_allocate size align r.state r.cells in
      new-same r _ _ (if_offered e.offers.aligned r (served name r.world x)) answers.Null
      (offered-same r e.offers.aligned (served name r.world x) answers.Null (none-same r name x x.answer refl (k.aligned_allocate size align r.state r.cells)))

  expand-same : (name delta : ℕ) → IsSameAt r (performed e (Expand name delta) r) (answers.Said false)
  unfolding performed
  expand-same name delta =
      live-same r (live_at r.world name) (λ x. if_offered e.offers.expand r (grown name delta x r.world (e.expand delta x.block r.state r.cells))) (answers.Said false)
      (λ x.
      let y = e.expand delta x.block r.state r.cells in
      offered-same r e.offers.expand (grown name delta x r.world y) (answers.Said false) (ungrown-same r name delta x y y.answer refl (k.expand delta x.block r.state r.cells)))

  reallocate-same : (name size : ℕ) → IsSameAt r (performed e (Reallocate name size) r) (answers.Said false)
  unfolding performed
  reallocate-same name size =
      live-same r (live_at r.world name) (λ x. moved e name x r.world (e.reallocate size x.block r.state r.cells)) (answers.Said false)
      (λ x. let y = e.reallocate size x.block r.state r.cells in unmoved-same r e name x y y.answer refl (k.reallocate size x.block r.state r.cells))

pub refused-changes_none : RefusedChangesNone
refused-changes_none e count leaves r h =
    let k = h.made.regular.refusing in record { allocate = allocate-same e r k; aligned = aligned-same e r k; expand = expand-same e r k; reallocate = reallocate-same e r k }
