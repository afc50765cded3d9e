-- A call that asks of a live block, or of a size: what stands then, outcome by outcome.
use Rattle.std.proofs.Common.{◌≡◌, refl, sym, ap, ◌∙◌, ℕ, ◌+◌, ◌≤◌, Bool, true, false, nat_le, List, [], length, Some, None, Ok, Err, arith}
use Rattle.std.proofs.lemmas.Bool.Decides.{nat_tests}
use Rattle.std.specs.List.{slice_range}
use Rattle.space_core.specs.Memory.{Memory}
use Rattle.layer_rules.specs.declared.Asked.{Asked}
use Rattle.layer_rules.specs.declared.Asked.TheVariants as asked
use Rattle.layer_rules.specs.declared.Block.{Block}
use Rattle.layer_rules.specs.State.{State}
use Rattle.layer_rules.specs.Rules.{owns_along}
use Rattle.layer_rules.specs.Layering.{LayerModel, state_of, kept_state, Owns}
use Rattle.layer_laws.specs.Lawful.{IsMade}
use Rattle.layer_laws.proofs.StandingLaws.{out-in_space}
use Rattle.layer_laws.proofs.FurtherLaws.{owned-keeps}
use Rattle.heap_core.specs.declared.Named.{Named}
use Rattle.heap_core.specs.declared.Call.TheVariants.{Owns as OwnsOf, OwnsAt, Good, Read}
use Rattle.heap_core.specs.declared.CallFault.TheVariants.{NameNotLive, OutOfBlock, NotOffered, NotServing, NoSuchLayer}
use Rattle.heap_core.specs.World.{Live}
use Rattle.heap_core.specs.Names.{named, named_at}
use Rattle.heap_core.specs.Performing.{IsCall, run_of, Performed, if_offered, if_inside, owned, asked_at, bytes_read, performed}
use Rattle.heap_core.specs.Holding.{live_in, world_of, run_in, Held}
use Rattle.heap_core.specs.Heap.{Performs}
use Rattle.heap_core.proofs.ByteLemmas.{slice-inner}
use Rattle.heap_core.proofs.Stepping.{call-answered, call-in_fault, answer-is, fault-not_live, name-found, live-out, IsAgain, left-world, left-held, all-left}
use Rattle.heap_core.specs.declared.Answer.TheVariants as answers

-- ---- `Owns`

abbrev owns_performed : LayerModel → List Named → Memory → Live → Performed
owns_performed t table m x = if_offered t.rules.offers.owns (run_in t table m) (owned (run_in t table m) (t.rules.owns x.block (state_of t m)))

pub owns-not_live : (t : LayerModel) (table : List Named) (m : Memory) (name : ℕ) → Held t table m → named_at table name ≡ None → Performs t t table table m m (OwnsOf name) (Err NameNotLive)
unfolding performed
owns-not_live t table m name h e = call-in_fault t table m (OwnsOf name) NameNotLive h (fault-not_live t table m name (owns_performed t table m) e)

-- `owns` answers by the fields alone what it answers in the Space
owned-kept : (t : LayerModel) (m : Memory) (b : Block) → IsMade t.rules → (t.rules.owns b (kept_state t)).owned ≡ (t.rules.owns b (state_of t m)).owned
owned-kept t m b l =
    let r = l.regular.reading in
    sym (r.owned b (kept_state t)) ∙ (ap (λ (s : State). (t.rules.owns b s).owned) (r.read t.fields [] m.bytes) ∙ r.owned b (state_of t m))

module _ (t : LayerModel) (table : List Named) (m : Memory) (name : ℕ) (b : Block) (h : Held t table m) (e : named_at table name ≡ Some b) where
  owns-found : owns_performed t table m (live_in t m (named name b)) ≡ performed t.rules (OwnsOf name) (run_in t table m)
  unfolding performed
  owns-found = name-found t table m name b (owns_performed t table m) e

  pub owns-not_offered : t.rules.offers.owns ≡ false → Performs t t table table m m (OwnsOf name) (Err NotOffered)
  owns-not_offered none =
      call-in_fault t table m (OwnsOf name) NotOffered h (sym (ap (λ o. if_offered o (run_in t table m) (owned (run_in t table m) (t.rules.owns b (state_of t m)))) none) ∙ owns-found)

  pub owns-said : (t' : LayerModel) (said : Bool) → IsMade t'.rules → t.rules.offers.owns ≡ true → Owns t t' b said → Performs t t' table table m m (OwnsOf name) (Ok (answers.Said said))
  owns-said t' said l' offered a =
      let k = owned-keeps t t' m b said h.layer h.stands a in
      let y = t.rules.owns b (state_of t m) in
      let w = world_of t table m in
      let again : IsAgain t t' m m = record { made = l'; opened = a.opened ∙ h.opened; stands = k.stands; size = refl } in
      let left = all-left t t' table m m h (λ c o z. record { out = k.out c o; extent = k.extents c; route = k.routes c o; clean = k.clean c z; bytes = record { at = λ i from upto. refl } }) in
      let answer : said ≡ y.owned = a.answer ∙ owned-kept t m b h.layer in
      call-answered t t' table table m m (OwnsOf name) (answers.Said said) h (left-held t t' m m again table left h.apart) refl a.rules tt tt
      (answer-is (answers.Said said) t' table m y.state m.cells w (a.state m.bytes) refl (left-world t t' m m again table left)
      ∙ (ap (λ (d : Bool). let q : Performed = (Ok (answers.Said d), run_of y.state m.cells w) in q) answer
      ∙ (sym (ap (λ o. if_offered o (run_in t table m) (owned (run_in t table m) y)) offered) ∙ owns-found)))

-- ---- `OwnsAt`

abbrev asked_performed : LayerModel → List Named → Memory → (path : List ℕ) → Live → Performed
asked_performed t table m path x = asked_at (run_in t table m) (owns_along t.rules path x.block (state_of t m))

pub owns_at-not_live : (t : LayerModel) (table : List Named) (m : Memory) (name : ℕ) (path : List ℕ) → Held t table m → named_at table name ≡ None
    → Performs t t table table m m (OwnsAt name path) (Err NameNotLive)
unfolding performed
owns_at-not_live t table m name path h e = call-in_fault t table m (OwnsAt name path) NameNotLive h (fault-not_live t table m name (asked_performed t table m path) e)

module _ (t : LayerModel) (table : List Named) (m : Memory) (name : ℕ) (path : List ℕ) (b : Block) (h : Held t table m) (e : named_at table name ≡ Some b) where
  asked-kept : owns_along t.rules path b (kept_state t) ≡ owns_along t.rules path b (state_of t m)
  asked-kept =
      let r = h.layer.regular.reading in
      sym (r.owns_at path true b (kept_state t)) ∙ (ap (λ (s : State). t.rules.owns_at path true b s) (r.read t.fields [] m.bytes) ∙ r.owns_at path true b (state_of t m))

  owns_at-found : (a : Asked) → a ≡ owns_along t.rules path b (kept_state t) → asked_at (run_in t table m) a ≡ performed t.rules (OwnsAt name path) (run_in t table m)
  unfolding performed
  owns_at-found a q = ap (asked_at (run_in t table m)) (q ∙ asked-kept) ∙ name-found t table m name b (asked_performed t table m path) e

  pub owns_at-yes : asked.Yes ≡ owns_along t.rules path b (kept_state t) → Performs t t table table m m (OwnsAt name path) (Ok (answers.Said true))
  owns_at-yes q = call-answered t t table table m m (OwnsAt name path) (answers.Said true) h h refl refl tt tt (owns_at-found asked.Yes q)

  pub owns_at-no : asked.No ≡ owns_along t.rules path b (kept_state t) → Performs t t table table m m (OwnsAt name path) (Ok (answers.Said false))
  owns_at-no q = call-answered t t table table m m (OwnsAt name path) (answers.Said false) h h refl refl tt tt (owns_at-found asked.No q)

  pub owns_at-not_serving : asked.NotServing ≡ owns_along t.rules path b (kept_state t) → Performs t t table table m m (OwnsAt name path) (Err NotServing)
  owns_at-not_serving q = call-in_fault t table m (OwnsAt name path) NotServing h (owns_at-found asked.NotServing q)

  pub owns_at-not_offered : asked.NotOffered ≡ owns_along t.rules path b (kept_state t) → Performs t t table table m m (OwnsAt name path) (Err NotOffered)
  owns_at-not_offered q = call-in_fault t table m (OwnsAt name path) NotOffered h (owns_at-found asked.NotOffered q)

  pub owns_at-no_layer : asked.NoSuchLayer ≡ owns_along t.rules path b (kept_state t) → Performs t t table table m m (OwnsAt name path) (Err NoSuchLayer)
  owns_at-no_layer q = call-in_fault t table m (OwnsAt name path) NoSuchLayer h (owns_at-found asked.NoSuchLayer q)

-- ---- `Good`

pub good-said : (t : LayerModel) (table : List Named) (m : Memory) (size good : ℕ) → Held t table m → good ≡ t.rules.good_alloc_size size → Performs t t table table m m (Good size) (Ok (answers.Size good))
unfolding performed
good-said t table m size good h q =
    call-answered t t table table m m (Good size) (answers.Size good) h h refl refl tt tt (ap (λ n. let p : Performed = (Ok (answers.Size n), run_in t table m) in p) q)

-- ---- `Read`

abbrev read_performed : LayerModel → List Named → Memory → (offset len : ℕ) → Live → Performed
read_performed t table m offset len x = if_inside (nat_le (offset + len) x.block.len) (run_in t table m) (bytes_read offset len x (run_in t table m))

pub read-not_live : (t : LayerModel) (table : List Named) (m : Memory) (name offset len : ℕ) → Held t table m → named_at table name ≡ None → Performs t t table table m m (Read name offset len) (Err NameNotLive)
unfolding performed
read-not_live t table m name offset len h e = call-in_fault t table m (Read name offset len) NameNotLive h (fault-not_live t table m name (read_performed t table m offset len) e)

module _ (t : LayerModel) (table : List Named) (m : Memory) (name offset len : ℕ) (b : Block) (h : Held t table m) (e : named_at table name ≡ Some b) where
  read-found : (inside : Bool) → nat_le (offset + len) b.len ≡ inside
      → if_inside inside (run_in t table m) (bytes_read offset len (live_in t m (named name b)) (run_in t table m)) ≡ performed t.rules (Read name offset len) (run_in t table m)
  unfolding performed
  read-found inside q =
      sym (ap (λ i. if_inside i (run_in t table m) (bytes_read offset len (live_in t m (named name b)) (run_in t table m))) q) ∙ name-found t table m name b (read_performed t table m offset len) e

  pub read-out : nat_le (offset + len) b.len ≡ false → Performs t t table table m m (Read name offset len) (Err OutOfBlock)
  read-out q = call-in_fault t table m (Read name offset len) OutOfBlock h (read-found false q)

  module _ (inside : nat_le (offset + len) b.len ≡ true) where
    fits : offset + len ≤ b.len
    fits = grind (arith, nat_tests)

    pub read-room : b.place + offset + len ≤ length m.bytes
    read-room = let room = out-in_space t m b h.layer h.stands (live-out t table m name b h e) in omega (arith, room, fits)

    pub read-bytes : (bytes : List ℕ) → IsCall (Read name offset len) → bytes ≡ slice_range m.bytes (b.place + offset) ((b.place + offset) + len) → Performs t t table table m m (Read name offset len) (Ok (answers.Bytes bytes))
    read-bytes bytes c q =
        let room = out-in_space t m b h.layer h.stands (live-out t table m name b h e) in
        let inner = slice-inner m.bytes b.place b.len offset len fits room in
        call-answered t t table table m m (Read name offset len) (answers.Bytes bytes) h h refl refl c tt
        (ap (λ (xs : List ℕ). let p : Performed = (Ok (answers.Bytes xs), run_in t table m) in p) (q ∙ sym inner) ∙ read-found true inside)
