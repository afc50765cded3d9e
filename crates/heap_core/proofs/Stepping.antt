-- What a call on a heap leaves: the run, the live blocks, and that the heap is held again.
use Rattle.std.proofs.Common.{◌≡◌, ◌≢◌, refl, sym, ap, subst, ◌∙◌, ℕ, Bool, true, false, not, nat_le, List, [], length, Option, Some, None, is_some, Result, Ok, Err, is_ok, IfOk, IsErrAnd, arith}
use Rattle.std.proofs.lemmas.Bool.Decides.{nat_tests}
use Rattle.space_core.specs.Cells.{Cells}
use Rattle.space_core.specs.Memory.{Memory}
use Rattle.layer_rules.specs.declared.Block.{Block}
use Rattle.layer_rules.specs.declared.Refused.{Refused}
use Rattle.std.specs.Option.{unwrap_or}
use Rattle.layer_rules.specs.Blocks.{end_of, no_block}
use Rattle.layer_rules.specs.Rows.{Each, EachPair}
use Rattle.layer_rules.specs.State.{State}
use Rattle.layer_rules.specs.Layering.{LayerModel, state_of, Stands, IsSetUp, IsShut, IsOutOf, IsCleanOf, IsMarkedOf, AreApartIn, KeepsBytes, SetsUp}
use Rattle.layer_laws.specs.Lawful.{IsMade}
use Rattle.layer_laws.specs.Standing.{extent_of, route_of}
use Rattle.layer_laws.proofs.StandingLaws.{set_up-stands}
use Rattle.heap_core.specs.declared.Named.{Named}
use Rattle.heap_core.specs.declared.Call.{Call}
use Rattle.heap_core.specs.declared.Answer.{Answer}
use Rattle.heap_core.specs.declared.CallFault.{CallFault}
use Rattle.heap_core.specs.declared.CallFault.TheVariants.{NameLive, NameNotLive, TooManyLive}
use Rattle.heap_core.specs.World.{World, Live, live, live_at, is_live, with_live, without, replaced}
use Rattle.heap_core.specs.Names.{named, named_at, with_named, without_name, block_of}
use Rattle.heap_core.specs.Performing.{IsCall, Run, run_of, most_live, Performed, under_new_name, on_live, IsAnswerTo, performed}
use Rattle.heap_core.specs.Moves.{Moves}
use Rattle.heap_core.specs.Holding.{bytes_of, live_in, world_of, run_in, Held}
use Rattle.heap_core.specs.Heap.{Performs, MayBegin, IsNewFault}
use Rattle.heap_core.proofs.WorldLemmas.{length-world, is_live-world, live-none, live-some, world-with, world-without, world-same, each-from, each-both, each_pair-under, each-at, each-with, each_pair-with, each-without, each_pair-without, each-other}
use Rattle.heap_core.proofs.ByteLemmas.{slice-same, apart-flip}
use Rattle.heap_core.proofs.HeldLemmas.{held-run}
use Rattle.heap_core.proofs.RunSteps.{performed-moves}

-- ---- tests in the code

pub not_true : (b : Bool) → not b ≡ true → b ≡ false
not_true true h = absurd (cc)
not_true false h = refl

pub not_false : (b : Bool) → not b ≡ false → b ≡ true
not_false true h = refl
not_false false h = absurd (cc)

-- ---- a fault that is handed on

pub handed-on : (r : Result Answer CallFault) (f : CallFault) → IsErrAnd r (λ g. g ≡ f) → r ≡ Err f
handed-on (Ok a) f h = absurd h
handed-on (Err g) f h = ap (λ x. let y : Result Answer CallFault = Err x in y) h

-- ---- extents

-- what is apart stays apart where the extents stay
pub apart-moved : (t t' : LayerModel) (m m' : Memory) (b c : Block) → extent_of t' m' b ≡ extent_of t m b → extent_of t' m' c ≡ extent_of t m c → AreApartIn t m b c → AreApartIn t' m' b c
apart-moved t t' m m' b c p q a = record { either = rw (p, q) a.either }

pub apart-turned : (t : LayerModel) (m : Memory) (b c : Block) → AreApartIn t m b c → AreApartIn t m c b
apart-turned t m b c a = record { either = apart-flip (extent_of t m b) (extent_of t m c) a.either }

-- ---- a new heap

pub begins-held : (t t' : LayerModel) (m m' : Memory) (r : Result (Unit {0}) Refused) → IsMade t.rules → IsMade t'.rules → Stands t m → IsShut t → is_ok r ≡ true → SetsUp t t' m m' 0 r → Held t' [] m'
begins-held t t' m m' r l l' h s o a = record { layer = l'; opened = a.opened ∙ o; stands = set_up-stands t t' m m' 0 r l h s a; out = tt; clean = tt; apart = tt }

-- ---- answers and faults

-- a call that is answered is a step, by the law over the rules
pub call-answered : (t t' : LayerModel) (table table' : List Named) (m m' : Memory) (call : Call) (a : Answer) → Held t table m → Held t' table' m' → length m'.bytes ≡ length m.bytes → t'.rules ≡ t.rules → IsCall call
    → IsAnswerTo call a → (Ok a, run_in t' table' m') ≡ performed t.rules call (run_in t table m) → Performs t t' table table' m m' call (Ok a)
call-answered t t' table table' m m' call a h h' size rules c kind e =
    let P : Performed → Type 0 = λ p. IfOk p.0 (λ answer. Moves t.rules.alignment (length m.cells.tags) (world_of t table m) call answer p.1.world) in
    record {
      after = e;
      held = h';
      kind = kind;
      fault = tt;
      moves = subst P (sym e) (performed-moves t.rules (length m.cells.tags) m.leaves call (run_in t table m) c (held-run t table m h));
      shape = rules;
    }

pub call-in_fault : (t : LayerModel) (table : List Named) (m : Memory) (call : Call) (f : CallFault) → Held t table m → (Err f, run_in t table m) ≡ performed t.rules call (run_in t table m)
    → Performs t t table table m m call (Err f)
call-in_fault t table m call f h e = record { after = e; held = h; kind = tt; fault = (refl, refl); moves = tt; shape = refl }

-- an answer with the run that the rules give
pub answer-is : (a : Answer) (t' : LayerModel) (table' : List Named) (m' : Memory) (s : State) (cells : Cells) (w : World) → state_of t' m' ≡ s → m'.cells ≡ cells → world_of t' table' m' ≡ w
    → (let p : Performed = (Ok a, run_in t' table' m') in p) ≡ (Ok a, run_of s cells w)
answer-is a t' table' m' s cells w p q u =
    let run : run_in t' table' m' ≡ run_of s cells w =
    ap (λ s. run_of s m'.cells (world_of t' table' m')) p ∙ (ap (λ c. run_of s c (world_of t' table' m')) q ∙ ap (run_of s cells) u) in
    ap (λ (r : Run). let q : Performed = (Ok a, r) in q) run

-- ---- the faults of names

module _ (t : LayerModel) (table : List Named) (m : Memory) (name : ℕ) where
  abbrev many : Bool
  many = nat_le most_live (length (world_of t table m))

  -- a call for a new name, where it is live or not
  new_name-is : (p : Performed) (b : Bool) → is_some (named_at table name) ≡ b → under_new_name (is_live (world_of t table m) name) many (run_in t table m) p ≡ under_new_name b many (run_in t table m) p
  new_name-is p b e = ap (λ b. under_new_name b many (run_in t table m) p) (is_live-world t table m name ∙ e)

  pub new-fault : (p : Performed) (f : CallFault) → IsNewFault table name f
      → (let q : Performed = (Err f, run_in t table m) in q) ≡ under_new_name (is_live (world_of t table m) name) many (run_in t table m) p
  new-fault p NameLive e = sym (new_name-is p true e)
  new-fault p TooManyLive e =
      let k : many ≡ true = let full = e.1 in rw (length-world t table m) (grind (arith, nat_tests)) in
      sym (new_name-is p false (ap is_some e.0) ∙ ap (λ b. under_new_name false b (run_in t table m) p) k)
  new-fault p _ e = absurd e

  pub name-fresh : (p : Performed) → MayBegin table name → p ≡ under_new_name (is_live (world_of t table m) name) many (run_in t table m) p
  name-fresh p e =
      let k : many ≡ false = let room = e.room in rw (length-world t table m) (grind (arith, nat_tests)) in
      sym (new_name-is p false (ap is_some e.fresh) ∙ ap (λ b. under_new_name false b (run_in t table m) p) k)

  pub fault-not_live : (p : Live → Performed) → named_at table name ≡ None
      → (let q : Performed = (Err NameNotLive, run_in t table m) in q) ≡ on_live (live_at (world_of t table m) name) (run_in t table m) p
  fault-not_live p e = sym (ap (λ o. on_live o (run_in t table m) p) (live-none t table m name e))

  pub name-found : (b : Block) (p : Live → Performed) → named_at table name ≡ Some b
      → p (live_in t m (named name b)) ≡ on_live (live_at (world_of t table m) name) (run_in t table m) p
  name-found b p e = sym (ap (λ o. on_live o (run_in t table m) p) (live-some t table m name b e))

-- ---- a live block

pub live-block : (table : List Named) (name : ℕ) → is_some (named_at table name) ≡ true → named_at table name ≡ Some (block_of table name)
live-block table name some = some-value (named_at table name) some
  where
    some-value : (o : Option Block) → is_some o ≡ true → o ≡ Some (unwrap_or o no_block)
    some-value None q = absurd (cc)
    some-value (Some b) q = refl

pub live-out : (t : LayerModel) (table : List Named) (m : Memory) (name : ℕ) (b : Block) → Held t table m → named_at table name ≡ Some b → IsOutOf t m b
live-out t table m name b h e = each-at (IsOutOf t m) table name b h.out e

pub live-clean : (t : LayerModel) (table : List Named) (m : Memory) (name : ℕ) (b : Block) → Held t table m → named_at table name ≡ Some b → IsCleanOf t m b
live-clean t table m name b h e = each-at (IsCleanOf t m) table name b h.clean e

pub live-marked : (t : LayerModel) (table : List Named) (m : Memory) (name : ℕ) (b : Block) → Held t table m → named_at table name ≡ Some b → IsMarkedOf t m b
live-marked t table m name b h e =
    let law = h.layer.lawful h.stands.sound.distinct (record { least = h.stands.sound.made.least }) in
    law.framing.marked b (state_of t m) m.bytes (live-clean t table m name b h e)

-- ---- what a call leaves of live blocks

pub record IsLeft (t t' : LayerModel) (m m' : Memory) (c : Block) : Type 0 where
  pub out : IsOutOf t' m' c
  pub extent : extent_of t' m' c ≡ extent_of t m c
  pub route : route_of t' m' c ≡ route_of t m c
  pub clean : IsCleanOf t' m' c
  pub bytes : KeepsBytes m.bytes m'.bytes c.place (end_of c)

-- what the call leaves of the layer
pub record IsAgain (t t' : LayerModel) (m m' : Memory) : Type 0 where
  pub made : IsMade t'.rules
  pub opened : IsSetUp t'
  pub stands : Stands t' m'
  pub size : length m'.bytes ≡ length m.bytes

module _ (t t' : LayerModel) (m m' : Memory) (g : IsAgain t t' m m') where
  -- blocks that are left keep their bytes and their routes
  left-live : (x : Named) → IsLeft t t' m m' x.block → live_in t' m' x ≡ live_in t m x
  left-live x l =
      let b = x.block in
      ap (λ bytes. live x.name b bytes (route_of t' m' b)) (slice-same m.bytes m'.bytes b.place (end_of b) g.size l.bytes) ∙ ap (live x.name b (bytes_of b m.bytes)) l.route

  pub left-world : (table : List Named) → Each (λ (x : Named). IsLeft t t' m m' x.block) table → world_of t' table m' ≡ world_of t table m
  left-world table k = world-same t t' table m m' (each-from (λ (x : Named). IsLeft t t' m m' x.block) (λ (x : Named). live_in t' m' x ≡ live_in t m x) table left-live k)

  -- a heap of blocks that are left
  pub left-held : (table : List Named) → Each (λ (x : Named). IsLeft t t' m m' x.block) table → EachPair (λ (x y : Named). AreApartIn t m x.block y.block) table → Held t' table m'
  left-held table k apart = record {
    layer = g.made;
    opened = g.opened;
    stands = g.stands;
    out = each-from (λ (x : Named). IsLeft t t' m m' x.block) (λ (x : Named). IsOutOf t' m' x.block) table (λ x l. l.out) k;
    clean = each-from (λ (x : Named). IsLeft t t' m m' x.block) (λ (x : Named). IsCleanOf t' m' x.block) table (λ x l. l.clean) k;
    apart = each_pair-under (λ (x : Named). IsLeft t t' m m' x.block) (λ (x y : Named). AreApartIn t m x.block y.block) (λ (x y : Named). AreApartIn t' m' x.block y.block) table
        (λ x y p q. apart-moved t t' m m' x.block y.block p.extent q.extent) k apart;
  }

  -- with one more block, apart from them
  pub more-held : (table : List Named) (x : Named) → Each (λ (y : Named). IsLeft t t' m m' y.block) table → EachPair (λ (y z : Named). AreApartIn t m y.block z.block) table
      → IsOutOf t' m' x.block → IsCleanOf t' m' x.block → Each (λ (y : Named). AreApartIn t' m' x.block y.block) table → Held t' (with_named x table) m'
  more-held table x k apart out clean beside =
      let h = left-held table k apart in
      record {
        layer = g.made;
        opened = g.opened;
        stands = g.stands;
        out = each-with (λ (y : Named). IsOutOf t' m' y.block) x table out h.out;
        clean = each-with (λ (y : Named). IsCleanOf t' m' y.block) x table clean h.clean;
        apart = each_pair-with (λ (y z : Named). AreApartIn t' m' y.block z.block) (λ y z. apart-turned t' m' y.block z.block) x table beside h.apart;
      }

  pub more-world : (table : List Named) (x : Named) → Each (λ (y : Named). IsLeft t t' m m' y.block) table
      → world_of t' (with_named x table) m' ≡ with_live (live_in t' m' x) (world_of t table m)
  more-world table x k = world-with t' x table m' ∙ ap (with_live (live_in t' m' x)) (left-world table k)

-- ---- all live blocks, and all but one

pub all-left : (t t' : LayerModel) (table : List Named) (m m' : Memory) → Held t table m → ((c : Block) → IsOutOf t m c → IsCleanOf t m c → IsLeft t t' m m' c) → Each (λ (x : Named). IsLeft t t' m m' x.block) table
all-left t t' table m m' h f =
    each-both (λ (x : Named). IsOutOf t m x.block) (λ (x : Named). IsCleanOf t m x.block) (λ (x : Named). IsLeft t t' m m' x.block) table (λ x. f x.block) h.out h.clean

-- another live block, which is apart from this one
pub record IsOther (t : LayerModel) (m : Memory) (b c : Block) : Type 0 where
  pub out : IsOutOf t m c
  pub clean : IsCleanOf t m c
  pub apart : AreApartIn t m b c

pub each_other : (t : LayerModel) (table : List Named) (m : Memory) (name : ℕ) (b : Block) → Held t table m → named_at table name ≡ Some b → Each (λ (x : Named). IsOther t m b x.block) (without_name name table)
each_other t table m name b h e =
    each-without (λ (x : Named). IsOther t m b x.block) name table
    (each-both (λ (x : Named). IsOutOf t m x.block × IsCleanOf t m x.block) (λ (x : Named). x.name ≢ name → AreApartIn t m b x.block) (λ (x : Named). x.name ≢ name → IsOther t m b x.block) table
    (λ x o a ne. record { out = o.0; clean = o.1; apart = a ne })
    (each-both (λ (x : Named). IsOutOf t m x.block) (λ (x : Named). IsCleanOf t m x.block) (λ (x : Named). IsOutOf t m x.block × IsCleanOf t m x.block) table (λ x o k. (o, k)) h.out h.clean)
    (each-other (AreApartIn t m) (apart-turned t m) table name b h.apart e))

module _ (t t' : LayerModel) (table : List Named) (m m' : Memory) (name : ℕ) (b : Block) (h : Held t table m) (e : named_at table name ≡ Some b) (g : IsAgain t t' m m')
    (left : (c : Block) → IsOther t m b c → IsLeft t t' m m' c) where
  others-left : Each (λ (x : Named). IsLeft t t' m m' x.block) (without_name name table)
  others-left = each-from (λ (x : Named). IsOther t m b x.block) (λ (x : Named). IsLeft t t' m m' x.block) (without_name name table) (λ x. left x.block) (each_other t table m name b h e)

  others-apart : EachPair (λ (x y : Named). AreApartIn t m x.block y.block) (without_name name table)
  others-apart = each_pair-without (λ (x y : Named). AreApartIn t m x.block y.block) name table h.apart

  -- the name isn't live then
  pub freed-held : Held t' (without_name name table) m'
  freed-held = left-held t t' m m' g (without_name name table) others-left others-apart

  pub freed-world : world_of t' (without_name name table) m' ≡ without name (world_of t table m)
  freed-world = left-world t t' m m' g (without_name name table) others-left ∙ world-without t name table m

  -- another block, or other bytes, under the name
  pub changed-held : (c : Block) → IsOutOf t' m' c → IsCleanOf t' m' c → ((d : Block) → IsOutOf t m d → AreApartIn t m b d → AreApartIn t' m' c d) → Held t' (with_named (named name c) (without_name name table)) m'
  changed-held c out clean fresh =
      more-held t t' m m' g (without_name name table) (named name c) others-left others-apart out clean
      (each-from (λ (x : Named). IsOther t m b x.block) (λ (x : Named). AreApartIn t' m' c x.block) (without_name name table) (λ x o. fresh x.block o.out o.apart) (each_other t table m name b h e))

  pub changed-world : (c : Block) → world_of t' (with_named (named name c) (without_name name table)) m' ≡ replaced (live_in t' m' (named name c)) (world_of t table m)
  changed-world c =
      more-world t t' m m' g (without_name name table) (named name c) others-left
      ∙ ap (with_live (live_in t' m' (named name c))) (world-without t name table m)
