-- A call on a live block that changes it, its bytes, or takes it away: what stands then, outcome by outcome.
use Rattle.std.proofs.Common.{◌≡◌, ◌≢◌, refl, sym, ap, subst, ◌∙◌, ℕ, ◌+◌, ◌-◌, ◌≤◌, ◌<◌, Bool, true, false, min, nat_le, List, [], length, get_or, Some, None, Ok, Err, inl, inr, arith}
use Rattle.std.proofs.lemmas.Bool.Decides.{nat_tests}
use Rattle.size_round.specs.Sizes.{limit}
use Rattle.space_core.specs.Memory.{Memory}
use Rattle.space_core.specs.Words.{filled, write_from}
use Rattle.space_core.proofs.Writes.{length-write_from}
use Rattle.space_core.proofs.CellRuns.{length-put_run}
use Rattle.layer_rules.specs.declared.Block.{Block}
use Rattle.layer_rules.specs.Blocks.{end_of}
use Rattle.layer_rules.specs.Rules.{Rules, longer_if}
use Rattle.layer_rules.specs.After.{Reallocated, moved_to, emptied, unmoved}
use Rattle.layer_rules.specs.Layering.{LayerModel, state_of, IsOutOf, IsCleanOf, AreApartIn, is_done, block_after, Expands, Reallocates, Deallocates, DeallocatesAll}
use Rattle.layer_rules.specs.Layering as layering
use Rattle.layer_laws.specs.Lawful.{IsMade, IsReallocated}
use Rattle.layer_laws.specs.Standing.{extent_of, route_of, Writes, ReallocateKeeps, WriteKeeps}
use Rattle.layer_laws.proofs.StandingLaws.{keeping, out-in_space, expanded-keeps, deallocated-stands, deallocated-keeps_out, deallocated-keeps_extents, deallocated-keeps_routes, all_deallocated-keeps}
use Rattle.layer_laws.proofs.StandingReallocated.{reallocated-keeps}
use Rattle.layer_laws.proofs.Placement.{write-keeps, out-placed}
use Rattle.layer_laws.proofs.Runs.{put_run-below, put_run-above}
use Rattle.heap_core.specs.declared.Named.{Named}
use Rattle.heap_core.specs.declared.Call.TheVariants.{Expand, Reallocate, Free, FreeAll, Write}
use Rattle.heap_core.specs.declared.CallFault.TheVariants.{NameNotLive, OutOfBlock, NotOffered}
use Rattle.heap_core.specs.World.{Live, live, without, replaced, resized}
use Rattle.heap_core.specs.Names.{named, IsTable, named_at, block_of, with_named, without_name}
use Rattle.heap_core.specs.Performing.{run_of, Performed, if_offered, if_inside, grown_under, grown, moved_under, moved, freed, all_freed, written, performed}
use Rattle.heap_core.specs.Holding.{bytes_of, live_in, world_of, run_in, Held}
use Rattle.heap_core.specs.Heap.{Performs, LentIsWritten}
use Rattle.heap_core.proofs.NameLemmas.{named-back}
use Rattle.heap_core.proofs.ByteLemmas.{inner-apart, inside-keeps, slice-resized, slice-written, written-below, written-above}
use Rattle.heap_core.proofs.Stepping.{live-block, call-answered, call-in_fault, answer-is, fault-not_live, name-found, live-out, live-clean, IsLeft, IsAgain, left-world, left-held, all-left, IsOther, freed-held, freed-world, changed-held, changed-world}
use Rattle.heap_core.specs.declared.Answer.TheVariants as answers

-- the table with this block under a live name
abbrev pub changed : (name : ℕ) → Block → List Named → List Named
changed name c table = with_named (named name c) (without_name name table)

-- What the root's call leaves where the block b is c then.
pub record IsChanged (t t' : LayerModel) (m m' : Memory) (b c : Block) : Type 0 where
  pub again : IsAgain t t' m m'
  pub out : IsOutOf t' m' c
  pub clean : IsCleanOf t' m' c
  pub apart : (d : Block) → IsOutOf t m d → AreApartIn t m b d → AreApartIn t' m' c d
  pub left : (d : Block) → IsOther t m b d → IsLeft t t' m m' d

-- ---- bytes of the block are written then

module _ (t t' : LayerModel) (table : List Named) (m m' v : Memory) (name : ℕ) (b c : Block) (h : Held t table m) (e : named_at table name ≡ Some b) (g : IsChanged t t' m m' b c) (w : Writes c m' v) where
  keeps : WriteKeeps t' m' v c
  keeps = write-keeps t' m' v c g.again.made g.again.stands g.out w

  put-again : IsAgain t t' m v
  put-again = record {
    made = g.again.made;
    opened = g.again.opened;
    stands = keeps.stands;
    size = w.bytes.length_same ∙ g.again.size;
  }

  put-left : (d : Block) → IsOther t m b d → IsLeft t t' m v d
  put-left d o =
      let first = g.left d o in
      let beside = g.apart d o.out o.apart in
      let here = (out-placed t' m' c g.again.made g.again.stands g.out).inside in
      let there = (out-placed t' m' d g.again.made g.again.stands first.out).inside in
      let blocks = inner-apart c d (extent_of t' m' c) (extent_of t' m' d) here there beside.either in
      let second = inside-keeps m'.bytes v.bytes c d w.bytes blocks in
      record {
        out = keeps.out d first.out;
        extent = ap (t'.rules.extent d) keeps.state ∙ first.extent;
        route = ap (t'.rules.route d) keeps.state ∙ first.route;
        clean = keeps.clean d first.out (inr beside) first.clean;
        bytes = record { at = λ i from upto. second.at i from upto ∙ first.bytes.at i from upto };
      }

  pub put-held : Held t' (changed name c table) v
  put-held = changed-held t t' table m v name b h e put-again put-left c (keeps.out c g.out) (keeps.clean c g.out (inl refl) g.clean)
      (λ d o p. let a = g.apart d o p in record { either = rw keeps.state a.either })

  pub put-world : world_of t' (changed name c table) v ≡ replaced (live_in t' v (named name c)) (world_of t table m)
  put-world = changed-world t t' table m v name b h e put-again put-left c

-- ---- another length: the added bytes are made 0

-- the first bytes that both lengths have
abbrev pub both : (b c : Block) → ℕ
both b c = min b.len c.len

module _ (t t' : LayerModel) (table : List Named) (m m' v : Memory) (name : ℕ) (b c : Block) (h : Held t table m) (e : named_at table name ≡ Some b) (g : IsChanged t t' m m' b c)
    (carried : (i : ℕ) → i < both b c → get_or m'.bytes (c.place + i) 0 ≡ get_or m.bytes (b.place + i) 0) (f : v ≡ record m' { bytes = filled m'.bytes (c.place + both b c) (c.len - both b c) 0 }) where
  clears : Writes c m' v
  clears =
      let u : Memory = record m' { bytes = filled m'.bytes (c.place + both b c) (c.len - both b c) 0 } in
      subst (λ (u : Memory). Writes c m' u) (sym f) (record {
        cells = refl;
        leaves = refl;
        bytes = record {
          length_same = length-put_run 0 (c.place + both b c) (c.len - both b c) m'.bytes;
          below = λ i lt. put_run-below 0 (c.place + both b c) (c.len - both b c) m'.bytes i 0 (omega arith);
          above = λ i le. put_run-above 0 (c.place + both b c) (c.len - both b c) m'.bytes i 0 (omega arith);
        };
      })

  pub resized-held : Held t' (changed name c table) v
  resized-held = put-held t t' table m m' v name b c h e g clears

  pub resized-state : state_of t' v ≡ state_of t' m'
  resized-state = (write-keeps t' m' v c g.again.made g.again.stands g.out clears).state

  pub resized-world : world_of t' (changed name c table) v ≡ replaced (live name c (resized (live_in t m (named name b)) c.len) (route_of t' m' c)) (world_of t table m)
  resized-world =
      let inside = out-in_space t m b h.layer h.stands (live-out t table m name b h e) in
      let room = out-in_space t' m' c g.again.made g.again.stands g.out in
      let bytes = slice-resized m.bytes m'.bytes v.bytes b c inside room carried (ap (λ (u : Memory). u.bytes) f) in
      put-world t t' table m m' v name b c h e g clears
      ∙ (ap (λ (bytes : List ℕ). replaced (live name c bytes (route_of t' v c)) (world_of t table m)) bytes
      ∙ ap (λ (route : List ℕ). replaced (live name c (resized (live_in t m (named name b)) c.len) route) (world_of t table m)) (ap (t'.rules.route c) resized-state))

-- ---- `Expand`

pub expand-not_live : (t : LayerModel) (table : List Named) (m : Memory) (name delta : ℕ) → Held t table m → named_at table name ≡ None → Performs t t table table m m (Expand name delta) (Err NameNotLive)
unfolding performed
expand-not_live t table m name delta h e =
    call-in_fault t table m (Expand name delta) NameNotLive h
    (fault-not_live t table m name (λ x. if_offered t.rules.offers.expand (run_in t table m) (grown name delta x (world_of t table m) (layering.expanded t m x.block delta))) e)

module _ (t : LayerModel) (table : List Named) (m : Memory) (name delta : ℕ) (b : Block) (h : Held t table m) (e : named_at table name ≡ Some b) where
  abbrev was : Live
  was = live_in t m (named name b)

  expand-found : if_offered t.rules.offers.expand (run_in t table m) (grown name delta was (world_of t table m) (layering.expanded t m b delta)) ≡ performed t.rules (Expand name delta) (run_in t table m)
  unfolding performed
  expand-found = name-found t table m name b (λ x. if_offered t.rules.offers.expand (run_in t table m) (grown name delta x (world_of t table m) (layering.expanded t m x.block delta))) e

  pub expand-not_offered : t.rules.offers.expand ≡ false → Performs t t table table m m (Expand name delta) (Err NotOffered)
  expand-not_offered none =
      call-in_fault t table m (Expand name delta) NotOffered h
      (sym (ap (λ o. if_offered o (run_in t table m) (grown name delta was (world_of t table m) (layering.expanded t m b delta))) none) ∙ expand-found)

  module _ (t' : LayerModel) (m' : Memory) (c : Block) (l' : IsMade t'.rules) (offered : t.rules.offers.expand ≡ true) where
    abbrev performed_as : Bool → Performed
    performed_as done = grown_under name delta was (world_of t table m) (layering.expanded t m b delta).state (layering.expanded t m b delta).cells done

    expand-done : (r : Bool) → r ≡ (layering.expanded t m b delta).answer → performed_as r ≡ performed t.rules (Expand name delta) (run_in t table m)
    expand-done r q =
        ap performed_as q
        ∙ (sym (ap (λ o. if_offered o (run_in t table m) (grown name delta was (world_of t table m) (layering.expanded t m b delta))) offered) ∙ expand-found)

    pub expand-refused : (r : Bool) → r ≡ false → Expands t t' m m' b c delta r → Performs t t' table table m m' (Expand name delta) (Ok (answers.Said false))
    expand-refused r no_more given =
        let a : Expands t t' m m' b c delta false = subst (Expands t t' m m' b c delta) no_more given in
        let k = expanded-keeps t t' m m' b c delta false h.layer h.stands (live-out t table m name b h e) a in
        let again : IsAgain t t' m m' = record { made = l'; opened = a.opened ∙ h.opened; stands = k.stands; size = a.frame.size } in
        let left = all-left t t' table m m' h (λ d o z. record { out = k.out d o (λ x. absurd (cc)); extent = k.extents d o (λ x. absurd (cc)); route = k.routes d o (λ x. absurd (cc)); clean = (a.others d o (λ x. absurd (cc))).clean z; bytes = (a.others d o (λ x. absurd (cc))).bytes }) in
        call-answered t t' table table m m' (Expand name delta) (answers.Said false) h (left-held t t' m m' again table left h.apart) a.frame.size a.frame.rules tt tt
        (answer-is (answers.Said false) t' table m' (layering.expanded t m b delta).state (layering.expanded t m b delta).cells (world_of t table m) a.state a.cells (left-world t t' m m' again table left)
        ∙ expand-done false a.answer)

    module _ (r : Bool) (done : r ≡ true) (given : Expands t t' m m' b c delta r) where
      a : Expands t t' m m' b c delta true
      a = subst (Expands t t' m m' b c delta) done given

      grows : IsChanged t t' m m' b c
      grows =
          let k = expanded-keeps t t' m m' b c delta true h.layer h.stands (live-out t table m name b h e) a in
          record {
            again = record { made = l'; opened = a.opened ∙ h.opened; stands = k.stands; size = a.frame.size };
            out = k.gives;
            clean = a.carried.clean (live-clean t table m name b h e);
            apart = k.apart;
            left = λ d o. record { out = k.out d o.out (λ x. o.apart); extent = k.extents d o.out (λ x. o.apart); route = k.routes d o.out (λ x. o.apart); clean = (a.others d o.out (λ x. o.apart)).clean o.clean; bytes = (a.others d o.out (λ x. o.apart)).bytes };
          }

      pub expand-room : end_of c ≤ length m'.bytes
      expand-room = out-in_space t' m' c l' grows.again.stands grows.out

      pub expand-short : c.len ≤ limit
      expand-short = let s = grows.again.stands.memory in omega (arith, expand-room, s.sizes, s.cells)

      pub expand-grown : (v : Memory) → v ≡ record m' { bytes = filled m'.bytes (c.place + both b c) (c.len - both b c) 0 } → Performs t t' table (changed name c table) m v (Expand name delta) (Ok (answers.Said true))
      expand-grown v f =
          let carried : (i : ℕ) → i < both b c → get_or m'.bytes (c.place + i) 0 ≡ get_or m.bytes (b.place + i) 0 = λ i lt. a.carried.bytes i (omega arith) in
          let held = resized-held t t' table m m' v name b c h e grows carried f in
          let w = world_of t table m in
          let k = expanded-keeps t t' m m' b c delta true h.layer h.stands (live-out t table m name b h e) a in
          let world = resized-world t t' table m m' v name b c h e grows carried f ∙ ap (λ (route : List ℕ). replaced (live name c (resized was c.len) route) w) k.found in
          let state = resized-state t t' table m m' v name b c h e grows carried f in
          let x = layering.expanded t m b delta in
          let cells : v.cells ≡ m'.cells = ap (λ (u : Memory). u.cells) f in
          let size : length v.bytes ≡ length m.bytes = ap (λ (u : Memory). length u.bytes) f ∙ (length-put_run 0 (c.place + both b c) (c.len - both b c) m'.bytes ∙ a.frame.size) in
          let block : c ≡ longer_if true delta b = a.block in
          call-answered t t' table (changed name c table) m v (Expand name delta) (answers.Said true) h held size a.frame.rules tt tt
          (answer-is (answers.Said true) t' (changed name c table) v x.state x.cells (replaced (live name c (resized was c.len) was.route) w) (state ∙ a.state) (cells ∙ a.cells) world
          ∙ (ap (λ (d : Block). let q : Performed = (Ok (answers.Said true), run_of x.state x.cells (replaced (live name d (resized was d.len) was.route) w)) in q) block ∙ expand-done true a.answer))

-- ---- `Reallocate`

pub reallocate-not_live : (t : LayerModel) (table : List Named) (m : Memory) (name size : ℕ) → Held t table m → named_at table name ≡ None
    → Performs t t table table m m (Reallocate name size) (Err NameNotLive)
unfolding performed
reallocate-not_live t table m name size h e =
    call-in_fault t table m (Reallocate name size) NameNotLive h (fault-not_live t table m name (λ x. moved t.rules name x (world_of t table m) (layering.reallocated t m x.block size)) e)

undone : (a : Reallocated) → false ≡ is_done a → a ≡ unmoved
undone (moved_to c) e = absurd (cc)
undone emptied e = absurd (cc)
undone unmoved e = refl

-- where it was done, and for at least one byte
done-moved : (b : Block) (a : Reallocated) (n : ℕ) → true ≡ is_done a → n ≢ 0 → (a ≡ emptied → n ≡ 0) → a ≡ moved_to (block_after b a)
done-moved b (moved_to c) n e some none = refl
done-moved b emptied n e some none = absurd (some (none refl))
done-moved b unmoved n e some none = absurd (cc)

module _ (t : LayerModel) (table : List Named) (m : Memory) (name size : ℕ) (b : Block) (h : Held t table m) (e : named_at table name ≡ Some b) (t' : LayerModel) (m' : Memory) (c : Block) (l' : IsMade t'.rules) where
  abbrev before : Live
  before = live_in t m (named name b)

  abbrev moved_as : Reallocated → Performed
  moved_as a = moved_under t.rules name before (world_of t table m) (layering.reallocated t m b size).state (layering.reallocated t m b size).cells a

  reallocate-found : (a : Reallocated) → (layering.reallocated t m b size).answer ≡ a → moved_as a ≡ performed t.rules (Reallocate name size) (run_in t table m)
  unfolding performed
  reallocate-found a q = ap moved_as (sym q) ∙ name-found t table m name b (λ x. moved t.rules name x (world_of t table m) (layering.reallocated t m x.block size)) e

  by_rule : IsReallocated t.rules (state_of t m) m.cells b size (layering.reallocated t m b size)
  by_rule =
      let k = keeping t m h.layer h.stands in
      let o = live-out t table m name b h e in
      k.reallocated size b (state_of t m) m.cells (k.out_open b (state_of t m) m.cells o) h.stands.sound.settled o

  pub reallocate-refused : (r : Bool) → r ≡ false → Reallocates t t' m m' b c size r → Performs t t' table table m m' (Reallocate name size) (Ok (answers.Said false))
  reallocate-refused r no_more given =
      let a : Reallocates t t' m m' b c size false = subst (Reallocates t t' m m' b c size) no_more given in
      let x = layering.reallocated t m b size in
      let k = reallocated-keeps t t' m m' b c size false h.layer h.stands (live-out t table m name b h e) a in
      let again : IsAgain t t' m m' = record { made = l'; opened = a.opened ∙ h.opened; stands = k.stands; size = a.frame.size } in
      let left = all-left t t' table m m' h (λ d o z. record { out = k.out d o (λ x. absurd (cc)); extent = k.extents d o (λ x. absurd (cc)); route = k.routes d o (λ x. absurd (cc)); clean = (a.others d o (λ x. absurd (cc))).clean z; bytes = (a.others d o (λ x. absurd (cc))).bytes }) in
      call-answered t t' table table m m' (Reallocate name size) (answers.Said false) h (left-held t t' m m' again table left h.apart) a.frame.size a.frame.rules tt tt
      (answer-is (answers.Said false) t' table m' x.state x.cells (world_of t table m) a.state a.cells (left-world t t' m m' again table left) ∙ reallocate-found unmoved (undone x.answer a.answer))

  module _ (r : Bool) (done : r ≡ true) (given : Reallocates t t' m m' b c size r) where
    z : Reallocates t t' m m' b c size true
    z = subst (Reallocates t t' m m' b c size) done given

    relocates : ReallocateKeeps t t' m m' b c size true
    relocates = reallocated-keeps t t' m m' b c size true h.layer h.stands (live-out t table m name b h e) z

    reallocate-again : IsAgain t t' m m'
    reallocate-again = record { made = l'; opened = z.opened ∙ h.opened; stands = relocates.stands; size = z.frame.size }

    reallocate-left : (d : Block) → IsOther t m b d → IsLeft t t' m m' d
    reallocate-left d o = record { out = relocates.out d o.out (λ x. o.apart); extent = relocates.extents d o.out (λ x. o.apart); route = relocates.routes d o.out (λ x. o.apart); clean = (z.others d o.out (λ x. o.apart)).clean o.clean; bytes = (z.others d o.out (λ x. o.apart)).bytes }

    pub reallocate-gone : size ≡ 0 → Performs t t' table (without_name name table) m m' (Reallocate name size) (Ok answers.Gone)
    reallocate-gone none =
        let x = layering.reallocated t m b size in
        call-answered t t' table (without_name name table) m m' (Reallocate name size) answers.Gone h (freed-held t t' table m m' name b h e reallocate-again reallocate-left) z.frame.size z.frame.rules tt tt
        (answer-is answers.Gone t' (without_name name table) m' x.state x.cells (without name (world_of t table m)) z.state z.cells (freed-world t t' table m m' name b h e reallocate-again reallocate-left)
        ∙ reallocate-found emptied (by_rule.empty none))

    module _ (some : size ≢ 0) where
      moves_to : (layering.reallocated t m b size).answer ≡ moved_to c
      moves_to = done-moved b (layering.reallocated t m b size).answer size z.answer some by_rule.some ∙ ap moved_to (sym z.block)

      some_bytes : 1 ≤ c.len
      some_bytes = omega (arith, relocates.len refl, some)

      moves : IsChanged t t' m m' b c
      moves = record {
        again = reallocate-again;
        out = relocates.gives some_bytes;
        clean = (z.carried some_bytes).clean (live-clean t table m name b h e);
        apart = relocates.apart some_bytes;
        left = reallocate-left;
      }

      pub reallocate-room : end_of c ≤ length m'.bytes
      reallocate-room = out-in_space t' m' c l' relocates.stands moves.out

      pub reallocate-short : c.len ≤ limit
      reallocate-short = let s = relocates.stands.memory in omega (arith, reallocate-room, s.sizes, s.cells)

      pub reallocate-moved : (v : Memory) → v ≡ record m' { bytes = filled m'.bytes (c.place + both b c) (c.len - both b c) 0 }
          → Performs t t' table (changed name c table) m v (Reallocate name size) (Ok (answers.Moved c.place))
      reallocate-moved v f =
          let carried = (z.carried some_bytes).bytes in
          let held = resized-held t t' table m m' v name b c h e moves carried f in
          let w = world_of t table m in
          let x = layering.reallocated t m b size in
          let route : route_of t' m' c ≡ t.rules.route c x.state = ap (λ (e : Rules). e.route c (state_of t' m')) z.frame.rules ∙ ap (t.rules.route c) z.state in
          let world = resized-world t t' table m m' v name b c h e moves carried f ∙ ap (λ (route : List ℕ). replaced (live name c (resized before c.len) route) w) route in
          let state = resized-state t t' table m m' v name b c h e moves carried f in
          let cells : v.cells ≡ m'.cells = ap (λ (u : Memory). u.cells) f in
          let length_same : length v.bytes ≡ length m.bytes = ap (λ (u : Memory). length u.bytes) f ∙ (length-put_run 0 (c.place + both b c) (c.len - both b c) m'.bytes ∙ z.frame.size) in
          call-answered t t' table (changed name c table) m v (Reallocate name size) (answers.Moved c.place) h held length_same z.frame.rules tt tt
          (answer-is (answers.Moved c.place) t' (changed name c table) v x.state x.cells (replaced (live name c (resized before c.len) (t.rules.route c x.state)) w) (state ∙ z.state) (cells ∙ z.cells) world ∙ reallocate-found (moved_to c) moves_to)

-- ---- blocks are given back

pub free-not_live : (t : LayerModel) (table : List Named) (m : Memory) (name : ℕ) → Held t table m → named_at table name ≡ None → Performs t t table table m m (Free name) (Err NameNotLive)
unfolding performed
free-not_live t table m name h e =
    call-in_fault t table m (Free name) NameNotLive h (fault-not_live t table m name (λ x. freed name (world_of t table m) (layering.deallocated t m x.block)) e)

pub block-freed : (t t' : LayerModel) (table : List Named) (m m' : Memory) (name : ℕ) (b : Block) (said : Bool) → Held t table m → IsMade t'.rules → named_at table name ≡ Some b → Deallocates t t' m m' b said
    → Performs t t' table (without_name name table) m m' (Free name) (Ok (answers.Said said))
unfolding performed
block-freed t t' table m m' name b said h l' e a =
    let x = layering.deallocated t m b in
    let o = live-out t table m name b h e in
    let w = world_of t table m in
    let again : IsAgain t t' m m' = record {
      made = l';
      opened = a.opened ∙ h.opened;
      stands = deallocated-stands t t' m m' b said h.layer h.stands o a;
      size = a.frame.size;
    } in
    let left : (d : Block) → IsOther t m b d → IsLeft t t' m m' d = λ d p. record {
      out = deallocated-keeps_out t t' m m' b said h.layer h.stands o a d p.out p.apart;
      extent = deallocated-keeps_extents t t' m m' b said h.layer h.stands o a d p.out p.apart;
      route = deallocated-keeps_routes t t' m m' b said h.layer h.stands o a d p.out p.apart;
      clean = (a.others d p.out p.apart).clean p.clean;
      bytes = (a.others d p.out p.apart).bytes;
    } in
    call-answered t t' table (without_name name table) m m' (Free name) (answers.Said said) h (freed-held t t' table m m' name b h e again left) a.frame.size a.frame.rules tt tt
    (answer-is (answers.Said said) t' (without_name name table) m' x.state x.cells (without name w) a.state a.cells (freed-world t t' table m m' name b h e again left)
    ∙ (ap (λ (y : Bool). let q : Performed = (Ok (answers.Said y), run_of x.state x.cells (without name w)) in q) a.answer
    ∙ name-found t table m name b (λ x. freed name w (layering.deallocated t m x.block)) e))

pub free_all-not_offered : (t : LayerModel) (table : List Named) (m : Memory) → Held t table m → t.rules.offers.all ≡ false → Performs t t table table m m FreeAll (Err NotOffered)
unfolding performed
free_all-not_offered t table m h none = call-in_fault t table m FreeAll NotOffered h (sym (ap (λ o. if_offered o (run_in t table m) (all_freed (layering.all_deallocated t m))) none))

pub all-freed : (t t' : LayerModel) (table : List Named) (m m' : Memory) → Held t table m → IsMade t'.rules → t.rules.offers.all ≡ true → DeallocatesAll t t' m m' → Performs t t' table [] m m' FreeAll (Ok answers.Done)
unfolding performed
all-freed t t' table m m' h l' offered a =
    let k = all_deallocated-keeps t t' m m' h.layer h.stands h.opened a in
    let x = layering.all_deallocated t m in
    let held : Held t' [] m' = record { layer = l'; opened = a.opened ∙ h.opened; stands = k.stands; out = tt; clean = tt; apart = tt } in
    call-answered t t' table [] m m' FreeAll answers.Done h held a.frame.size a.frame.rules tt tt
    (answer-is answers.Done t' [] m' x.state x.cells [] a.state a.cells refl ∙ sym (ap (λ o. if_offered o (run_in t table m) (all_freed x)) offered))

-- ---- `Write`

pub write-not_live : (t : LayerModel) (table : List Named) (m : Memory) (name offset : ℕ) (given : List ℕ) → Held t table m → named_at table name ≡ None
    → Performs t t table table m m (Write name offset given) (Err NameNotLive)
unfolding performed
write-not_live t table m name offset given h e =
    call-in_fault t table m (Write name offset given) NameNotLive h
    (fault-not_live t table m name (λ x. if_inside (nat_le (offset + length given) x.block.len) (run_in t table m) (written name offset given x (run_in t table m))) e)

module _ (t : LayerModel) (table : List Named) (m : Memory) (name offset : ℕ) (given : List ℕ) (b : Block) (h : Held t table m) (e : named_at table name ≡ Some b) where
  write-found : (inside : Bool) → nat_le (offset + length given) b.len ≡ inside
      → if_inside inside (run_in t table m) (written name offset given (live_in t m (named name b)) (run_in t table m)) ≡ performed t.rules (Write name offset given) (run_in t table m)
  unfolding performed
  write-found inside q =
      sym (ap (λ i. if_inside i (run_in t table m) (written name offset given (live_in t m (named name b)) (run_in t table m))) q)
      ∙ name-found t table m name b (λ x. if_inside (nat_le (offset + length given) x.block.len) (run_in t table m) (written name offset given x (run_in t table m))) e

  pub write-out : nat_le (offset + length given) b.len ≡ false → Performs t t table table m m (Write name offset given) (Err OutOfBlock)
  write-out q = call-in_fault t table m (Write name offset given) OutOfBlock h (write-found false q)

  module _ (inside : nat_le (offset + length given) b.len ≡ true) where
    fits : offset + length given ≤ b.len
    fits = grind (arith, nat_tests)

    pub write-room : b.place + offset + length given ≤ length m.bytes
    write-room = let room = out-in_space t m b h.layer h.stands (live-out t table m name b h e) in omega (arith, room, fits)

    pub write-done : (v : Memory) → IsTable table → v ≡ record m { bytes = write_from m.bytes (b.place + offset) given } → Performs t t table table m v (Write name offset given) (Ok answers.Done)
    write-done v k f =
        let g : IsChanged t t m m b b = record {
          again = record { made = h.layer; opened = h.opened; stands = h.stands; size = refl };
          out = live-out t table m name b h e;
          clean = live-clean t table m name b h e;
          apart = λ d o p. p;
          left = λ d o. record { out = o.out; extent = refl; route = refl; clean = o.clean; bytes = record { at = λ i from upto. refl } };
        } in
        let writes : Writes b m v = subst (λ (u : Memory). Writes b m u) (sym f) (record {
          cells = refl;
          leaves = refl;
          bytes = record {
            length_same = length-write_from m.bytes (b.place + offset) given;
            below = λ i lt. written-below m.bytes (b.place + offset) given i (omega arith);
            above = λ i le. written-above m.bytes (b.place + offset) given i (omega (arith, fits));
          };
        }) in
        let back = named-back table name b k.rising e in
        let w = world_of t table m in
        let bytes : bytes_of b v.bytes ≡ write_from (bytes_of b m.bytes) offset given =
        ap (λ (u : Memory). bytes_of b u.bytes) f ∙ slice-written m.bytes b.place b.len offset given fits in
        let state = (write-keeps t m v b h.layer h.stands g.out writes).state in
        let put = write_from (bytes_of b m.bytes) offset given in
        let world = put-world t t table m m v name b b h e g writes
        ∙ (ap (λ (xs : List ℕ). replaced (live name b xs (route_of t v b)) w) bytes ∙ ap (λ (route : List ℕ). replaced (live name b put route) w) (ap (t.rules.route b) state)) in
        let new = replaced (live name b put (route_of t m b)) w in
        call-answered t t table table m v (Write name offset given) answers.Done h (subst (λ (k : List Named). Held t k v) back (put-held t t table m m v name b b h e g writes)) writes.bytes.length_same refl tt tt
        (answer-is answers.Done t table v (state_of t m) m.cells new state writes.cells (subst (λ (k : List Named). world_of t k v ≡ new) back world) ∙ write-found true inside)

-- ---- bytes that are lent

pub lent-is_written : LentIsWritten
lent-is_written t table m name written k h some short =
    let b = block_of table name in
    let e = live-block table name some in
    let inside : nat_le (0 + length written) b.len ≡ true = grind (arith, nat_tests) in
    let place : b.place + 0 ≡ b.place = omega arith in
    write-done t table m name 0 written b h e inside _ k (rw place refl)
