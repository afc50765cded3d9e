-- A call keeps what holds of the live blocks by name: rising names, their greatest number, whole bytes, zeros.
use Rattle.std.proofs.Common.{◌≡◌, ◌≢◌, refl, ap, ◌∙◌, ℕ, zero, suc, ◌+◌, ◌-◌, ◌≤◌, ◌<◌, Bool, true, false, not, nat_eq, nat_lt, nat_le, cond, if◌then◌else◌, List, [], ◌∷◌, ◌++◌, length, take, drop, length-drop, length-append, replicate, Option, Some, None, is_some, arith}
use Rattle.std.specs.Bool.{⊤}
use Rattle.std.proofs.lemmas.List.{length-take, length-replicate}
use Rattle.std.proofs.lemmas.Bool.Decides.{nat_tests}
use Rattle.space_core.specs.Cells.{Cells}
use Rattle.space_core.specs.Words.{write_from}
use Rattle.space_core.proofs.Writes.{length-write_from}
use Rattle.layer_rules.specs.declared.Asked.{Asked}
use Rattle.layer_rules.specs.declared.Asked.TheVariants as asked
use Rattle.layer_rules.specs.declared.Block.{Block}
use Rattle.layer_rules.specs.Blocks.{end_of}
use Rattle.layer_rules.specs.Rows.{Each, EachPair}
use Rattle.layer_rules.specs.Rules.{Rules, longer_if, owns_along}
use Rattle.layer_rules.specs.State.{State}
use Rattle.layer_rules.specs.After.{After, Placed, Reallocated, moved_to, emptied, unmoved}
use Rattle.space_core.specs.Memory.{Memory}
use Rattle.layer_rules.specs.Layering.{LayerModel, IsOutOf}
use Rattle.layer_laws.proofs.StandingLaws.{out-in_space}
use Rattle.heap_core.specs.declared.Named.{Named}
use Rattle.heap_core.specs.declared.Call.{Call}
use Rattle.heap_core.specs.declared.Call.TheVariants.{Allocate, Aligned, Expand, Reallocate, Free, FreeAll, Owns, OwnsAt, Good, Write, Read}
use Rattle.heap_core.specs.World.{World, Live, live, live_at, with_live, without, replaced, resized}
use Rattle.heap_core.specs.Names.{name_at}
use Rattle.heap_core.specs.Performing.{Run, most_live, under_new_name, on_live, if_offered, if_inside, placed_under, served, grown_under, grown, moved_under, moved, freed, all_freed, owned, asked_at, written, bytes_read, performed}
use Rattle.heap_core.specs.Holding.{bytes_of, world_of}
use Rattle.heap_core.specs.RunFacts.{IsWorld, WritesNone, IsZeroed, RunBegins, RunGoesOn, HeldIsRun, ZerosStay}
use Rattle.heap_core.proofs.NameLemmas.{IsRising}
use Rattle.heap_core.proofs.WorldLemmas.{length-world, live-without_same, each-from, each-live_with, each-live_without, each_pair-live_without}
use Rattle.heap_core.proofs.RunBlocks.{each-found}
use Rattle.heap_core.proofs.HeldLemmas.{held-run}
use Rattle.heap_core.proofs.RunSteps.{opened-held_run, performed-held}

-- ---- what each edit of a world keeps, a call keeps

-- P of a world, with Q of each live block, stays as a block comes under a new name, as one is replaced, and as a name goes. Q
-- holds of a new block, of one with another length, and after a write that may be.
pub record IsKept (P : World → Type 0) (Q : Live → Type 0) (May : Call → Type 0) : Type 0 where
  pub more : (w : World) (x : Live) → Q x → live_at w x.name ≡ None → nat_le most_live (length w) ≡ false → P w → P (with_live x w)
  pub other : (w : World) (name : ℕ) (was : Live) (b : Block) (bytes route : List ℕ) → live_at w name ≡ Some was → Q (live name b bytes route) → P w → P (replaced (live name b bytes route) w)
  pub less : (w : World) (name : ℕ) → P w → P (without name w)
  pub none : P []
  pub has : (w : World) (name : ℕ) (x : Live) → P w → live_at w name ≡ Some x → Q x
  pub zeros : (name : ℕ) (b : Block) (route : List ℕ) → Q (live name b (replicate b.len 0) route)
  pub sized : (name : ℕ) (x : Live) (b : Block) (route : List ℕ) → Q x → Q (live name b (resized x b.len) route)
  pub given : (name offset : ℕ) (given : List ℕ) (x : Live) → May (Write name offset given) → Q x → Q (live name x.block (write_from x.bytes offset given) x.route)

module _ (P : World → Type 0) (Q : Live → Type 0) (May : Call → Type 0) (k : IsKept P Q May) (e : Rules) (r : Run) (p : P r.world) where
  placed-kept : (name : ℕ) (s : State) (cells : Cells) (o : Option Placed) → live_at r.world name ≡ None → nat_le most_live (length r.world) ≡ false → P (placed_under name r.world s cells o).1.world
  placed-kept name s cells None q few = p
  placed-kept name s cells (Some x) q few = k.more r.world (live name x.block (replicate x.block.len 0) x.route) (k.zeros name x.block x.route) q few p

  new-kept : (name : ℕ) (offered : Bool) (x : After (Option Placed)) (o : Option Live) (many : Bool) → live_at r.world name ≡ o → nat_le most_live (length r.world) ≡ many
      → P (under_new_name (is_some o) many r (if_offered offered r (served name r.world x))).1.world
  new-kept name offered x (Some y) many q few = p
  new-kept name offered x None true q few = p
  new-kept name false x None false q few = p
  new-kept name true x None false q few = placed-kept name x.state x.cells x.answer q few

  grown-kept : (name delta : ℕ) (x : Live) (s : State) (cells : Cells) (done : Bool) → live_at r.world name ≡ Some x → P (grown_under name delta x r.world s cells done).1.world
  grown-kept name delta x s cells true q =
      let b = longer_if true delta x.block in k.other r.world name x b (resized x b.len) x.route q (k.sized name x b x.route (k.has r.world name x p q)) p
  grown-kept name delta x s cells false q = p

  expand-kept : (name delta : ℕ) (o : Option Live) (offered : Bool) → live_at r.world name ≡ o → P (on_live o r (λ x. if_offered offered r (grown name delta x r.world (e.expand delta x.block r.state r.cells)))).1.world
  expand-kept name delta None offered q = p
  expand-kept name delta (Some x) false q = p
  expand-kept name delta (Some x) true q = let y = e.expand delta x.block r.state r.cells in grown-kept name delta x y.state y.cells y.answer q

  moved-kept : (name : ℕ) (x : Live) (s : State) (cells : Cells) (a : Reallocated) → live_at r.world name ≡ Some x → P (moved_under e name x r.world s cells a).1.world
  moved-kept name x s cells (moved_to b) q = let route = e.route b s in k.other r.world name x b (resized x b.len) route q (k.sized name x b route (k.has r.world name x p q)) p
  moved-kept name x s cells emptied q = k.less r.world name p
  moved-kept name x s cells unmoved q = p

  reallocate-kept : (name size : ℕ) (o : Option Live) → live_at r.world name ≡ o → P (on_live o r (λ x. moved e name x r.world (e.reallocate size x.block r.state r.cells))).1.world
  reallocate-kept name size None q = p
  reallocate-kept name size (Some x) q = let y = e.reallocate size x.block r.state r.cells in moved-kept name x y.state y.cells y.answer q

  free-kept : (name : ℕ) (o : Option Live) → P (on_live o r (λ x. freed name r.world (e.deallocate x.block r.state r.cells))).1.world
  free-kept name None = p
  free-kept name (Some x) = k.less r.world name p

  all-kept : (offered : Bool) → P (if_offered offered r (all_freed (e.deallocate_all r.state r.cells))).1.world
  all-kept true = k.none
  all-kept false = p

  owns-kept : (o : Option Live) (offered : Bool) → P (on_live o r (λ x. if_offered offered r (owned r (e.owns x.block r.state)))).1.world
  owns-kept None offered = p
  owns-kept (Some x) true = p
  owns-kept (Some x) false = p

  asked-kept : (a : Asked) → P (asked_at r a).1.world
  asked-kept asked.Yes = p
  asked-kept asked.No = p
  asked-kept asked.NotServing = p
  asked-kept asked.NotOffered = p
  asked-kept asked.NoSuchLayer = p

  owns_at-kept : (path : List ℕ) (o : Option Live) → P (on_live o r (λ x. asked_at r (owns_along e path x.block r.state))).1.world
  owns_at-kept path None = p
  owns_at-kept path (Some x) = asked-kept (owns_along e path x.block r.state)

  inside-kept : (name offset : ℕ) (given : List ℕ) (x : Live) (inside : Bool) → live_at r.world name ≡ Some x → May (Write name offset given) → P (if_inside inside r (written name offset given x r)).1.world
  inside-kept name offset given x true q may = k.other r.world name x x.block (write_from x.bytes offset given) x.route q (k.given name offset given x may (k.has r.world name x p q)) p
  inside-kept name offset given x false q may = p

  write-kept : (name offset : ℕ) (given : List ℕ) (o : Option Live) → live_at r.world name ≡ o → May (Write name offset given)
      → P (on_live o r (λ x. if_inside (nat_le (offset + length given) x.block.len) r (written name offset given x r))).1.world
  write-kept name offset given None q may = p
  write-kept name offset given (Some x) q may = inside-kept name offset given x (nat_le (offset + length given) x.block.len) q may

  looked-kept : (offset len : ℕ) (x : Live) (inside : Bool) → P (if_inside inside r (bytes_read offset len x r)).1.world
  looked-kept offset len x true = p
  looked-kept offset len x false = p

  read-kept : (offset len : ℕ) (o : Option Live) → P (on_live o r (λ x. if_inside (nat_le (offset + len) x.block.len) r (bytes_read offset len x r))).1.world
  read-kept offset len None = p
  read-kept offset len (Some x) = looked-kept offset len x (nat_le (offset + len) x.block.len)

pub performed-kept : (P : World → Type 0) (Q : Live → Type 0) (May : Call → Type 0) → IsKept P Q May → (e : Rules) (call : Call) (r : Run) → May call → P r.world → P (performed e call r).1.world
unfolding performed
performed-kept P Q May k e (Allocate name size) r may p = new-kept P Q May k e r p name true (e.allocate size r.state r.cells) (live_at r.world name) (nat_le most_live (length r.world)) refl refl
performed-kept P Q May k e (Aligned name size align) r may p =
    new-kept P Q May k e r p name e.offers.aligned (e.aligned_allocate size align r.state r.cells) (live_at r.world name) (nat_le most_live (length r.world)) refl refl
performed-kept P Q May k e (Expand name delta) r may p = expand-kept P Q May k e r p name delta (live_at r.world name) e.offers.expand refl
performed-kept P Q May k e (Reallocate name size) r may p = reallocate-kept P Q May k e r p name size (live_at r.world name) refl
performed-kept P Q May k e (Free name) r may p = free-kept P Q May k e r p name (live_at r.world name)
performed-kept P Q May k e FreeAll r may p = all-kept P Q May k e r p e.offers.all
performed-kept P Q May k e (Owns name) r may p = owns-kept P Q May k e r p (live_at r.world name) e.offers.owns
performed-kept P Q May k e (OwnsAt name path) r may p = owns_at-kept P Q May k e r p path (live_at r.world name)
performed-kept P Q May k e (Good size) r may p = p
performed-kept P Q May k e (Write name offset given) r may p = write-kept P Q May k e r p name offset given (live_at r.world name) refl may
performed-kept P Q May k e (Read name offset len) r may p = read-kept P Q May k e r p offset len (live_at r.world name)

-- ---- names rise

abbrev pub Rises : Live → Live → Type 0
Rises x y = x.name < y.name

abbrev pub FreshTail : (y : Live) (w : World) → ℕ → Type 0
FreshTail y w name = (y.name ≢ name) × (live_at w name ≡ None)

fresh-by : (y : Live) (w : World) (name : ℕ) (t : Bool) → nat_eq y.name name ≡ t → (if t then Some y else live_at w name) ≡ None → FreshTail y w name
fresh-by y w name true q h = absurd (cc)
fresh-by y w name false q h = ((λ n. absurd (grind (arith, nat_tests))), h)

fresh-tail : (y : Live) (w : World) (name : ℕ) → live_at (y ∷ w) name ≡ None → FreshTail y w name
fresh-tail y w name h = fresh-by y w name (nat_eq y.name name) refl h

rising-here : (x y : Live) (w : World) (t : Bool) → nat_lt x.name y.name ≡ t → x.name ≢ y.name → EachPair Rises (y ∷ w) → EachPair Rises (with_live x w) → EachPair Rises (if t then x ∷ y ∷ w else y ∷ with_live x w)
rising-here x y w true q ne h rest =
    let first : x.name < y.name = grind (arith, nat_tests) in
    ((first, each-from (Rises y) (Rises x) w (λ z l. omega (arith, first, l)) h.0), h)
rising-here x y w false q ne h rest =
    let first : y.name < x.name = grind (arith, nat_tests) in
    (each-live_with (Rises y) x w first h.0, rest)

rising-with : (x : Live) (w : World) → live_at w x.name ≡ None → EachPair Rises w → EachPair Rises (with_live x w)
rising-with x [] f h = (tt, tt)
rising-with x (y ∷ w) f h =
    let t = fresh-tail y w x.name f in
    rising-here x y w (nat_lt x.name y.name) refl (λ (e : x.name ≡ y.name). t.0 (cc)) h (rising-with x w t.1 h.1)

length-with_by : (x y : Live) (w : World) (t : Bool) → length (with_live x w) ≡ suc (length w) → length (if t then x ∷ y ∷ w else y ∷ with_live x w) ≡ suc (suc (length w))
length-with_by x y w true h = refl
length-with_by x y w false h = ap suc h

length-with : (x : Live) (w : World) → length (with_live x w) ≡ suc (length w)
length-with x [] = refl
length-with x (y ∷ w) = length-with_by x y w (nat_lt x.name y.name) (length-with x w)

length-without_by : (y : Live) (v w : World) (t : Bool) → length v ≤ length w → length (cond t (y ∷ v) v) ≤ suc (length w)
length-without_by y v w true h = omega arith
length-without_by y v w false h = omega arith

length-without : (name : ℕ) (w : World) → length (without name w) ≤ length w
length-without name [] = omega arith
length-without name (y ∷ w) = length-without_by y (without name w) w (not (nat_eq y.name name)) (length-without name w)

-- where the name is live, a block less
less-by : (name : ℕ) (y : Live) (w : World) (x : Live) (t : Bool) → nat_eq y.name name ≡ t → (live_at w name ≡ Some x → length (without name w) < length w) → (if t then Some y else live_at w name) ≡ Some x
    → length (cond (not t) (y ∷ without name w) (without name w)) < suc (length w)
less-by name y w x true q k e = omega (arith, length-without name w)
less-by name y w x false q k e = omega (arith, k e)

length-less : (name : ℕ) (w : World) (x : Live) → live_at w name ≡ Some x → length (without name w) < length w
length-less name [] x h = absurd (cc)
length-less name (y ∷ w) x h = less-by name y w x (nat_eq y.name name) refl (length-less name w x) h

abbrev pub HasBytes : Live → Type 0
HasBytes x = length x.bytes ≡ x.block.len

length-resized : (x : Live) (n : ℕ) → HasBytes x → length (resized x n) ≡ n
length-resized x n h =
    let more : List ℕ = replicate (n - x.block.len) 0 in
    let all = length-append (take n x.bytes) more in
    let first = length-take n x.bytes in
    let rest : length more ≡ n - x.block.len = length-replicate (n - x.block.len) 0 in
    omega (arith, all, first, rest, h)

world-more : (w : World) (x : Live) → HasBytes x → live_at w x.name ≡ None → length w < most_live → IsWorld w → IsWorld (with_live x w)
world-more w x q fresh room h = record {
  rising = rising-with x w fresh h.rising;
  most = omega (arith, length-with x w, room);
  whole = each-live_with HasBytes x w q h.whole;
}

world-less : (w : World) (name : ℕ) → IsWorld w → IsWorld (without name w)
world-less w name h = record {
  rising = each_pair-live_without Rises name w h.rising;
  most = omega (arith, length-without name w, h.most);
  whole = each-live_without HasBytes name w (each-from HasBytes (λ (x : Live). x.name ≢ name → HasBytes x) w (λ x k n. k) h.whole);
}

abbrev pub AnyCall : Call → Type 0
AnyCall call = ⊤

world-kept : IsKept IsWorld HasBytes AnyCall
world-kept = record {
  more = λ w x q fresh few h. world-more w x q fresh (grind (arith, nat_tests)) h;
  other = λ w name was b bytes route found q h.
      world-more (without name w) (live name b bytes route) q (live-without_same name w) (omega (arith, length-less name w was found, h.most)) (world-less w name h);
  less = world-less;
  none = record { rising = tt; most = omega arith; whole = tt };
  has = λ w name x h found. (each-found HasBytes w name x h.whole found).0;
  zeros = λ name b route. length-replicate b.len 0;
  sized = λ name x b route q. length-resized x b.len q;
  given = λ name offset given x may q. length-write_from x.bytes offset given ∙ q;
}

pub run-goes_on : RunGoesOn
run-goes_on e count leaves call r c h = record { held = performed-held e count leaves call r c h.held; world = performed-kept IsWorld HasBytes AnyCall world-kept e call r tt h.world }

-- ---- zeros

abbrev pub HasZeros : Live → Type 0
HasZeros x = x.bytes ≡ replicate x.block.len 0

abbrev zeros : ℕ → List ℕ
zeros n = replicate n 0

zeros-resized : (n len : ℕ) → take n (zeros len) ++ zeros (n - len) ≡ zeros n
zeros-resized zero len = let e : zero - len ≡ 0 = omega arith in rw e refl
zeros-resized (suc n) zero = let e : suc n - zero ≡ suc n = omega arith in rw e refl
zeros-resized (suc n) (suc len) = let e : suc n - suc len ≡ n - len = omega arith in rw e (ap (λ xs. 0 ∷ xs) (zeros-resized n len))

zeros-with : (w : World) (x : Live) → HasZeros x → IsZeroed w → IsZeroed (with_live x w)
zeros-with w x q h = record { zeros = each-live_with HasZeros x w q h.zeros }

zeros-less : (w : World) (name : ℕ) → IsZeroed w → IsZeroed (without name w)
zeros-less w name h = record { zeros = each-live_without HasZeros name w (each-from HasZeros (λ (x : Live). x.name ≢ name → HasZeros x) w (λ x k n. k) h.zeros) }

zeros-kept : IsKept IsZeroed HasZeros WritesNone
zeros-kept = record {
  more = λ w x q fresh few h. zeros-with w x q h;
  other = λ w name was b bytes route found q h. zeros-with (without name w) (live name b bytes route) q (zeros-less w name h);
  less = zeros-less;
  none = record { zeros = tt };
  has = λ w name x h found. (each-found HasZeros w name x h.zeros found).0;
  zeros = λ name b route. refl;
  sized = λ name x b route q. ap (λ bytes. take b.len bytes ++ zeros (b.len - x.block.len)) q ∙ zeros-resized b.len x.block.len;
  given = λ name offset given x may q. absurd may;
}

pub zeros-stay : ZerosStay
zeros-stay e call r quiet h = performed-kept IsZeroed HasZeros WritesNone zeros-kept e call r quiet h

-- ---- the first run

pub run-begins : RunBegins
run-begins e need cells leaves o p d m n q =
    record {
      held = opened-held_run e need cells leaves o p d m n q;
      world = record { rising = tt; most = omega arith; whole = tt };
    }

-- ---- what a heap holds

above-world : (n : ℕ) (t : LayerModel) (table : List Named) (m : Memory) → ((i : ℕ) → i < length table → n < name_at table i) → Each (λ (y : Live). n < y.name) (world_of t table m)
above-world n t [] m h = tt
above-world n t (x ∷ table) m h = (h 0 (omega arith), above-world n t table m (λ i lt. h (suc i) (omega arith)))

rising-world : (t : LayerModel) (table : List Named) (m : Memory) → IsRising table → EachPair Rises (world_of t table m)
rising-world t [] m h = tt
rising-world t (x ∷ table) m h =
    (above-world x.name t table m (λ i lt. h 0 (suc i) (omega arith) (omega arith)), rising-world t table m (λ i j lt in_range. h (suc i) (suc j) (omega arith) (omega arith)))

length-bytes : (b : Block) (bytes : List ℕ) → end_of b ≤ length bytes → length (bytes_of b bytes) ≡ b.len
length-bytes b bytes h =
    let all = length-take (end_of b - b.place) (drop b.place bytes) in
    let rest = length-drop b.place bytes in
    omega (arith, all, rest)

whole-world : (t : LayerModel) (table : List Named) (m : Memory) → Each (λ (x : Named). end_of x.block ≤ length m.bytes) table → Each HasBytes (world_of t table m)
whole-world t [] m h = tt
whole-world t (x ∷ table) m h = (length-bytes x.block m.bytes h.0, whole-world t table m h.1)

pub held-is_run : HeldIsRun
held-is_run t table m k h = record {
  held = held-run t table m h;
  world = record {
    rising = rising-world t table m k.rising;
    most = omega (arith, length-world t table m, k.most);
    whole = whole-world t table m (each-from (λ (x : Named). IsOutOf t m x.block) (λ (x : Named). end_of x.block ≤ length m.bytes) table (λ x o. out-in_space t m x.block h.layer h.stands o) h.out);
  };
}
