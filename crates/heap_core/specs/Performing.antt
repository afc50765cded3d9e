-- Performing: what a call by name does, by the rules of the layers.
use Rattle.std.specs.Prelude.{ℕ, ◌≡◌, ◌+◌, ◌≤◌, Bool, true, false, List, [], Option, Some, None, Result, Ok, Err, length, replicate, slice_range, nat_le, ⊤}
use Rattle.size_round.specs.Sizes.{is_power_of_two}
use Rattle.space_core.specs.Cells.{Cells}
use Rattle.space_core.specs.Words.{write_from}
use Rattle.layer_rules.specs.declared.Asked.{Asked}
use Rattle.layer_rules.specs.declared.Asked.TheVariants as asked
use Rattle.layer_rules.specs.Rules.{Rules, owns_along, longer_if}
use Rattle.layer_rules.specs.State.{State}
use Rattle.layer_rules.specs.After.{After, Placed, Opened, Reply, Reallocated, moved_to, emptied, unmoved}
use Rattle.heap_core.specs.declared.Call.{Call}
use Rattle.heap_core.specs.declared.Call.TheVariants.{Allocate, Aligned, Expand, Reallocate, Free, FreeAll, Owns, OwnsAt, Good, Write, Read}
use Rattle.heap_core.specs.declared.Answer.{Answer}
use Rattle.heap_core.specs.declared.CallFault.{CallFault}
use Rattle.heap_core.specs.declared.CallFault.TheVariants.{NameLive, NameNotLive, TooManyLive, OutOfBlock, NotOffered, NotServing, NoSuchLayer}
use Rattle.heap_core.specs.World.{World, Live, live, live_at, is_live, with_live, without, replaced, resized}
use Rattle.heap_core.specs.declared.Answer.TheVariants as answers

-- the condition of a call: an alignment is a power of two up to 4,096, and from 1 to 64 bytes are read
abbrev pub IsCall : Call → Type 0
IsCall (Aligned name size align) = (is_power_of_two align ≡ true) × (align ≤ 4096)
IsCall (Read name offset len) = (1 ≤ len) × (len ≤ 64)
IsCall _ = ⊤

-- the root's state, the table of cells, and the live blocks
pub record Run : Type 0 where
  pub state : State
  pub cells : Cells
  pub world : World

abbrev pub run_of : State → Cells → World → Run
run_of s cells w = record { state = s; cells = cells; world = w }

-- the answer, or the fault, and what stands then
abbrev pub Performed : Type 0
Performed = Result Answer CallFault × Run

abbrev pub most_live : ℕ
most_live = 65536

-- ---- faults: each leaves all as before

-- a call for a new name
abbrev pub under_new_name : (is_live too_many : Bool) → Run → Performed → Performed
under_new_name true too_many r p = (Err NameLive, r)
under_new_name false true r p = (Err TooManyLive, r)
under_new_name false false r p = p

-- a call on what is live under a name
abbrev pub on_live : Option Live → Run → (Live → Performed) → Performed
on_live None r p = (Err NameNotLive, r)
on_live (Some x) r p = p x

-- a call that the root may not offer
abbrev pub if_offered : Bool → Run → Performed → Performed
if_offered true r p = p
if_offered false r p = (Err NotOffered, r)

-- a call on so many bytes of a block from an offset on
abbrev pub if_inside : Bool → Run → Performed → Performed
if_inside true r p = p
if_inside false r p = (Err OutOfBlock, r)

-- ---- what each call does

-- the block that was served goes under the name, with zeros and the route that served it
abbrev pub placed_under : (name : ℕ) → World → State → Cells → Option Placed → Performed
placed_under name w s cells None = (Ok answers.Null, run_of s cells w)
placed_under name w s cells (Some p) =
    (Ok (answers.Placed p.block.place), run_of s cells (with_live (live name p.block (replicate p.block.len 0) p.route) w))

-- a new name: what a rule gives
abbrev pub served : (name : ℕ) → World → After (Option Placed) → Performed
served name w x = placed_under name w x.state x.cells x.answer

-- a block that was to grow: where it did, the new bytes are 0, and its route stays
abbrev pub grown_under : (name delta : ℕ) → Live → World → State → Cells → (done : Bool) → Performed
grown_under name delta x w s cells true =
    let b = longer_if true delta x.block in (Ok (answers.Said true), run_of s cells (replaced (live name b (resized x b.len) x.route) w))
grown_under name delta x w s cells false = (Ok (answers.Said false), run_of s cells w)

abbrev pub grown : (name delta : ℕ) → Live → World → After Bool → Performed
grown name delta x w y = grown_under name delta x w y.state y.cells y.answer

-- a block that was to get another length, here or elsewhere: its route is the one that is found in the next state
abbrev pub moved_under : Rules → (name : ℕ) → Live → World → State → Cells → Reallocated → Performed
moved_under e name x w s cells (moved_to b) = (Ok (answers.Moved b.place), run_of s cells (replaced (live name b (resized x b.len) (e.route b s)) w))
moved_under e name x w s cells emptied = (Ok answers.Gone, run_of s cells (without name w))
moved_under e name x w s cells unmoved = (Ok (answers.Said false), run_of s cells w)

abbrev pub moved : Rules → (name : ℕ) → Live → World → After Reallocated → Performed
moved e name x w y = moved_under e name x w y.state y.cells y.answer

-- the block was given back, and whatever the answer the name isn't live
abbrev pub freed : (name : ℕ) → World → After Bool → Performed
freed name w y = (Ok (answers.Said y.answer), run_of y.state y.cells (without name w))

abbrev pub all_freed : Opened → Performed
all_freed o = (Ok answers.Done, run_of o.state o.cells [])

abbrev pub owned : Run → Reply → Performed
owned r y = (Ok (answers.Said y.owned), run_of y.state r.cells r.world)

-- what is answered at a path's end
abbrev pub asked_at : Run → Asked → Performed
asked_at r asked.Yes = (Ok (answers.Said true), r)
asked_at r asked.No = (Ok (answers.Said false), r)
asked_at r asked.NotServing = (Err NotServing, r)
asked_at r asked.NotOffered = (Err NotOffered, r)
asked_at r asked.NoSuchLayer = (Err NoSuchLayer, r)

-- the bytes of the block from an offset on are the given ones
abbrev pub written : (name offset : ℕ) → (given : List ℕ) → Live → Run → Performed
written name offset given x r = (Ok answers.Done, run_of r.state r.cells (replaced (live name x.block (write_from x.bytes offset given) x.route) r.world))

abbrev pub bytes_read : (offset len : ℕ) → Live → Run → Performed
bytes_read offset len x r = (Ok (answers.Bytes (slice_range x.bytes offset (offset + len))), r)

-- a call on a root of this shape
unfoldable pub performed : Rules → Call → Run → Performed
performed e (Allocate name size) r =
    under_new_name (is_live r.world name) (nat_le most_live (length r.world)) r (served name r.world (e.allocate size r.state r.cells))
performed e (Aligned name size align) r =
    under_new_name (is_live r.world name) (nat_le most_live (length r.world)) r
    (if_offered e.offers.aligned r (served name r.world (e.aligned_allocate size align r.state r.cells)))
performed e (Expand name delta) r =
    on_live (live_at r.world name) r (λ x. if_offered e.offers.expand r (grown name delta x r.world (e.expand delta x.block r.state r.cells)))
performed e (Reallocate name size) r = on_live (live_at r.world name) r (λ x. moved e name x r.world (e.reallocate size x.block r.state r.cells))
performed e (Free name) r = on_live (live_at r.world name) r (λ x. freed name r.world (e.deallocate x.block r.state r.cells))
performed e FreeAll r = if_offered e.offers.all r (all_freed (e.deallocate_all r.state r.cells))
performed e (Owns name) r = on_live (live_at r.world name) r (λ x. if_offered e.offers.owns r (owned r (e.owns x.block r.state)))
performed e (OwnsAt name path) r = on_live (live_at r.world name) r (λ x. asked_at r (owns_along e path x.block r.state))
performed e (Good size) r = (Ok (answers.Size (e.good_alloc_size size)), r)
performed e (Write name offset given) r =
    on_live (live_at r.world name) r (λ x. if_inside (nat_le (offset + length given) x.block.len) r (written name offset given x r))
performed e (Read name offset len) r =
    on_live (live_at r.world name) r (λ x. if_inside (nat_le (offset + len) x.block.len) r (bytes_read offset len x r))

-- an answer of the call's kind
abbrev pub IsAnswerTo : Call → Answer → Type 0
IsAnswerTo (Allocate name size) (answers.Placed place) = ⊤
IsAnswerTo (Allocate name size) answers.Null = ⊤
IsAnswerTo (Aligned name size align) (answers.Placed place) = ⊤
IsAnswerTo (Aligned name size align) answers.Null = ⊤
IsAnswerTo (Expand name delta) (answers.Said said) = ⊤
IsAnswerTo (Reallocate name size) (answers.Moved place) = ⊤
IsAnswerTo (Reallocate name size) answers.Gone = ⊤
IsAnswerTo (Reallocate name size) (answers.Said false) = ⊤
IsAnswerTo (Free name) (answers.Said said) = ⊤
IsAnswerTo FreeAll answers.Done = ⊤
IsAnswerTo (Owns name) (answers.Said said) = ⊤
IsAnswerTo (OwnsAt name path) (answers.Said said) = ⊤
IsAnswerTo (Good size) (answers.Size good) = ⊤
IsAnswerTo (Write name offset given) answers.Done = ⊤
IsAnswerTo (Read name offset len) (answers.Bytes bytes) = ⊤
IsAnswerTo _ _ = ⊥
