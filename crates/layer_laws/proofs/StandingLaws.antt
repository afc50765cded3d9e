-- Standing: what callers may rest on, whatever the form of a layer.
use Rattle.std.proofs.Common.{ℕ, ◌≡◌, ◌≤◌, ◌<◌, ◌-◌, ◌*◌, ◌/◌, ◌⊎◌, inl, inr, List, length, get_or, Option, Some, None, Result, Ok, Err, Bool, true, false, nat_le, refl, ap, sym, ◌∙◌, subst, arith}
use Rattle.std.specs.Prelude.{is_ok}
use Rattle.std.proofs.lemmas.Bool.Decides.{nat_tests}
use Rattle.layer_laws.proofs.Basics.{and-fst}
use Rattle.layer_rules.specs.declared.Block.{Block}
use Rattle.layer_rules.specs.declared.Refused.{Refused}
use Rattle.layer_rules.specs.Blocks.{end_of}
use Rattle.space_core.specs.Cells.{Cells, cell_size}
use Rattle.space_core.specs.Memory.{Memory, IsMemory}
use Rattle.layer_rules.specs.State.{State, closed, open_with, is_open}
use Rattle.layer_rules.specs.Fields.{Fields, are_open, closed_fields, open_fields}
use Rattle.layer_rules.specs.After.{After, Placed, Serve, refuse, Opened, Opening}
use Rattle.layer_rules.specs.Allocating.{served_unless}
use Rattle.layer_laws.proofs.TornDown.{freed-cells}
use Rattle.layer_laws.proofs.Tables.{tag-in_range}
use Rattle.layer_rules.specs.Rules.{Rules, IsLeaf, IsSettled, AreApart, IsSound, HasDistinctTags, HasMadeTags, HasSomeTags, without_leaves, longer_if}
use Rattle.layer_rules.specs.Testing.{has_no_cells}
use Rattle.layer_rules.specs.Layering.{LayerModel, state_of, Stands, IsSetUp, IsShut, IsOutOf, AreApartIn, Frames, SetsUp, TearsDown, OpensAs, Allocates, Deallocates, Expands, DeallocatesAll, block_in, allocated, deallocated, expanded, all_deallocated}
use Rattle.layer_laws.specs.Lawful.{IsFreeOrOwn, OnlyOwnChanged, IsGood, IsFreed, IsGrown, IsEmptied, Covers, Covering, OnlyOwnCells, ReadingLaws, KeepingLaws, PlacingLaws, FramingLaws, OpeningLaws, HoldingLaws, IsLawful, IsMade}
use Rattle.layer_laws.specs.Standing.{AllocateFinds, OutIsHeld, HeldIsOwn, OthersHoldNone, PathsAnswerRoutes, ExpandLeaves, DeallocateAllLeaves, ShutHasNoCells, ShutStands, extent_of, IsNewBlock, ChangesOwn, route_of}
use Rattle.layer_laws.proofs.OwnChanges.{changed-taken, changed-freed, changed-then}
use Rattle.layer_laws.proofs.Tests.{no-cell, no-cells-from, none-at, none-all}

-- ---- a layer that stands is lawful

pub some-tags : (t : LayerModel) (m : Memory) → Stands t m → HasSomeTags t.rules
some-tags t m h = record { least = h.sound.made.least }

pub lawful : (t : LayerModel) (m : Memory) → IsMade t.rules → Stands t m → IsLawful t.rules
lawful t m l h = l.lawful h.sound.distinct (some-tags t m h)

-- its families, for who rests on one
pub keeping : (t : LayerModel) (m : Memory) → IsMade t.rules → Stands t m → KeepingLaws t.rules
keeping t m l h = (lawful t m l h).keeping

pub placing : (t : LayerModel) (m : Memory) → IsMade t.rules → Stands t m → PlacingLaws t.rules
placing t m l h = (lawful t m l h).placing

pub framing : (t : LayerModel) (m : Memory) → IsMade t.rules → Stands t m → FramingLaws t.rules
framing t m l h = (lawful t m l h).framing

pub opening : (t : LayerModel) (m : Memory) → IsMade t.rules → Stands t m → OpeningLaws t.rules
opening t m l h = (lawful t m l h).opening

-- ---- closed layers

shut-fields : (fs : Fields) → are_open fs ≡ false → fs ≡ closed_fields
shut-fields closed_fields h = refl
shut-fields (open_fields kept fss) h = absurd (cc)

closed-by : (s : State) → is_open s ≡ false → s ≡ closed
closed-by closed h = refl
closed-by (open_with own ss) h = absurd (cc)

-- the state of a closed layer, whether it stands or not
pub read-shut : (e : Rules) → ReadingLaws e → (fs : Fields) (bytes : List ℕ) → are_open fs ≡ false → e.read fs bytes ≡ closed
read-shut e w fs bytes h = closed-by (e.read fs bytes) (w.opens_as_fields fs bytes ∙ h)

pub made-shut : (e : Rules) → IsMade e → (fs : Fields) (bytes : List ℕ) → are_open fs ≡ false → e.read fs bytes ≡ closed
made-shut e w = read-shut e w.regular.reading

pub shut-no_cells : (t : LayerModel) (m : Memory) → IsMade t.rules → Stands t m → IsShut t → has_no_cells t.rules.leaf_tags m.cells ≡ true
shut-no_cells t m l h u =
    sym ((opening t m l h).closed_settled m.cells) ∙ (subst (λ s. t.rules.is_settled s m.cells ≡ true) (read-shut t.rules l.regular.reading t.fields m.bytes u) h.sound.settled)

pub shut-stands : (t : LayerModel) (m : Memory) → IsMemory m → HasDistinctTags t.rules → HasMadeTags m.leaves t.rules → ReadingLaws t.rules → OpeningLaws t.rules → IsShut t → has_no_cells t.rules.leaf_tags m.cells ≡ true → Stands t m
shut-stands t m i d k r w u n =
    let q : closed ≡ state_of t m = sym (read-shut t.rules r t.fields m.bytes u) in
    record {
      memory = i;
      sound = record { distinct = d; made = k; settled = subst (λ s. t.rules.is_settled s m.cells ≡ true) q (w.closed_settled m.cells ∙ n) };
      image = subst (λ s. t.rules.is_image t.fields s m.bytes ≡ true) q (subst (λ fs. t.rules.is_image fs closed m.bytes ≡ true) (sym (shut-fields t.fields u)) (w.closed_image m.bytes));
    }

-- ---- what calls share

-- Soundness depends on the rules, the state and the table, and on how many leaves the Space has made.
pub sound-again : (t t' : LayerModel) (m m' : Memory) → Stands t m → Frames t t' m m' → (s : State) (cells : Cells) → state_of t' m' ≡ s → m'.cells ≡ cells → IsSettled t.rules s cells → Stands t' m'
sound-again t t' m m' h f s cells es ec g =
    record {
      memory = f.memory;
      sound = subst (λ e. IsSound e (state_of t' m') m'.cells m'.leaves) (sym f.rules)
          (record { distinct = h.sound.distinct; made = subst (λ n. HasMadeTags n t.rules) (sym f.leaves) h.sound.made; settled = rw (es, ec) g });
      image = f.image;
    }

pub out-again : (t t' : LayerModel) (m m' : Memory) (s : State) (cells : Cells) (b : Block) → Frames t t' m m' → state_of t' m' ≡ s → m'.cells ≡ cells → t.rules.is_out b s cells ≡ true → IsOutOf t' m' b
out-again t t' m m' s cells b f es ec o = subst (λ e. e.is_out b (state_of t' m') m'.cells ≡ true) (sym f.rules) (rw (es, ec) o)

pub extent-again : (t t' : LayerModel) (m m' : Memory) (s : State) (b : Block) → Frames t t' m m' → state_of t' m' ≡ s → t.rules.extent b s ≡ extent_of t m b → extent_of t' m' b ≡ extent_of t m b
extent-again t t' m m' s b f es q = ap (λ e. e.extent b (state_of t' m')) f.rules ∙ (ap (λ s. t.rules.extent b s) es ∙ q)

pub apart-again : (t t' : LayerModel) (m m' : Memory) (s : State) (b c : Block) → Frames t t' m m' → state_of t' m' ≡ s → AreApart t.rules s b c → AreApartIn t' m' b c
apart-again t t' m m' s b c f es a = subst (λ e. AreApart e (state_of t' m') b c) (sym f.rules) (record { either = rw es a.either })

-- what a call changes, by what it does to the table
pub changes-from : (t t' : LayerModel) (m m' : Memory) → Frames t t' m m' → OnlyOwnChanged t.rules m.cells m'.cells → ChangesOwn t.rules m m'
changes-from t t' m m' f k = record { memory = f.memory; size = f.size; leaves = f.leaves; cells = k; foreign = f.foreign }

pub route-again : (t t' : LayerModel) (m m' : Memory) (s : State) (b : Block) → Frames t t' m m' → state_of t' m' ≡ s → t.rules.route b s ≡ route_of t m b → route_of t' m' b ≡ route_of t m b
route-again t t' m m' s b f es q = ap (λ e. e.route b (state_of t' m')) f.rules ∙ (ap (λ s. t.rules.route b s) es ∙ q)

-- ---- a block is served

pub good-of : (t : LayerModel) (m : Memory) (n : ℕ) → IsMade t.rules → Stands t m → IsSetUp t → IsGood t.rules (state_of t m) m.cells n (allocated t m n)
good-of t m n l h u = (keeping t m l h).good n (state_of t m) m.cells (l.regular.reading.opens_as_fields t.fields m.bytes ∙ u) h.sound.settled

pub answered : (b : Block) (o : Option Placed) → Some b ≡ block_in o → (p : Placed) × (o ≡ Some p) × (p.block ≡ b)
answered b None e = absurd (cc)
answered b (Some p) e = let q : p.block ≡ b = cc in (p, refl, q)

-- what a request does, by a rule that gives what is good and takes for its own leaves alone
pub record Serves (rule : After (Option Placed)) (t t' : LayerModel) (m m' : Memory) (n : ℕ) (r : Option Block) : Type 0 where
  pub frame : Frames t t' m m'
  pub answer : r ≡ block_in rule.answer
  pub state : state_of t' m' ≡ rule.state
  pub cells : m'.cells ≡ rule.cells
  pub good : IsGood t.rules (state_of t m) m.cells n rule
  pub taken : OnlyOwnCells t.rules m.cells rule.cells

pub served-stands : (rule : After (Option Placed)) (t t' : LayerModel) (m m' : Memory) (n : ℕ) (r : Option Block) → Stands t m → Serves rule t t' m m' n r → Stands t' m'
served-stands rule t t' m m' n r h a = sound-again t t' m m' h a.frame rule.state rule.cells a.state a.cells a.good.settled

pub served-gives : (rule : After (Option Placed)) (t t' : LayerModel) (m m' : Memory) (n : ℕ) (b : Block) → Serves rule t t' m m' n (Some b) → IsNewBlock t t' m m' n b
served-gives rule t t' m m' n b a =
    let g = a.good in
    let x = answered b rule.answer a.answer in
    record {
      len = ap (λ (b : Block). b.len) (sym x.2) ∙ g.len x.0 x.1;
      out = out-again t t' m m' rule.state rule.cells b a.frame a.state a.cells (subst (λ k. t.rules.is_out k rule.state rule.cells ≡ true) x.2 (g.out x.0 x.1));
      fresh = λ c o. apart-again t t' m m' rule.state b c a.frame a.state (subst (λ k. AreApart t.rules rule.state k c) x.2 (g.fresh x.0 x.1 c o));
    }

pub served-keeps_out : (rule : After (Option Placed)) (t t' : LayerModel) (m m' : Memory) (n : ℕ) (r : Option Block) → Serves rule t t' m m' n r → (c : Block) → IsOutOf t m c → IsOutOf t' m' c
served-keeps_out rule t t' m m' n r a c o = out-again t t' m m' rule.state rule.cells c a.frame a.state a.cells (a.good.stays c o)

pub served-keeps_extents : (rule : After (Option Placed)) (t t' : LayerModel) (m m' : Memory) (n : ℕ) (r : Option Block) → Serves rule t t' m m' n r → (c : Block) → IsOutOf t m c → extent_of t' m' c ≡ extent_of t m c
served-keeps_extents rule t t' m m' n r a c o = extent-again t t' m m' rule.state c a.frame a.state (a.good.extents c o)

pub served-keeps_routes : (rule : After (Option Placed)) (t t' : LayerModel) (m m' : Memory) (n : ℕ) (r : Option Block) → Serves rule t t' m m' n r → (c : Block) → IsOutOf t m c → route_of t' m' c ≡ route_of t m c
served-keeps_routes rule t t' m m' n r a c o = route-again t t' m m' rule.state c a.frame a.state (a.good.routes c o)

pub served-finds : (rule : After (Option Placed)) (t t' : LayerModel) (m m' : Memory) (n : ℕ) (r : Option Block) → Serves rule t t' m m' n r → (p : Placed) → rule.answer ≡ Some p → route_of t' m' p.block ≡ p.route
served-finds rule t t' m m' n r a p q = ap (λ e. e.route p.block (state_of t' m')) a.frame.rules ∙ (ap (λ s. t.rules.route p.block s) a.state ∙ a.good.found p q)

pub served-changes_own : (rule : After (Option Placed)) (t t' : LayerModel) (m m' : Memory) (n : ℕ) (r : Option Block) → Serves rule t t' m m' n r → ChangesOwn t.rules m m'
served-changes_own rule t t' m m' n r a =
    changes-from t t' m m' a.frame (subst (λ (new : Cells). OnlyOwnChanged t.rules m.cells new) (sym a.cells) (changed-taken t.rules m.cells rule.cells a.taken))

allocated-serves : (t t' : LayerModel) (m m' : Memory) (n : ℕ) (r : Option Block) → IsMade t.rules → Stands t m → IsSetUp t → Allocates t t' m m' n r → Serves (allocated t m n) t t' m m' n r
allocated-serves t t' m m' n r l h u a =
    record { frame = a.frame; answer = a.answer; state = a.state; cells = a.cells; good = good-of t m n l h u; taken = l.regular.taking.allocate n (state_of t m) m.cells }

pub allocated-stands : (t t' : LayerModel) (m m' : Memory) (n : ℕ) (r : Option Block) → IsMade t.rules → Stands t m → IsSetUp t → Allocates t t' m m' n r → Stands t' m'
allocated-stands t t' m m' n r l h u a = served-stands (allocated t m n) t t' m m' n r h (allocated-serves t t' m m' n r l h u a)

pub allocated-gives : (t t' : LayerModel) (m m' : Memory) (n : ℕ) (b : Block) → IsMade t.rules → Stands t m → IsSetUp t → Allocates t t' m m' n (Some b) → IsNewBlock t t' m m' n b
allocated-gives t t' m m' n b l h u a = served-gives (allocated t m n) t t' m m' n b (allocated-serves t t' m m' n (Some b) l h u a)

pub allocated-keeps_out : (t t' : LayerModel) (m m' : Memory) (n : ℕ) (r : Option Block) → IsMade t.rules → Stands t m → IsSetUp t → Allocates t t' m m' n r → (c : Block) → IsOutOf t m c → IsOutOf t' m' c
allocated-keeps_out t t' m m' n r l h u a = served-keeps_out (allocated t m n) t t' m m' n r (allocated-serves t t' m m' n r l h u a)

pub allocated-keeps_extents : (t t' : LayerModel) (m m' : Memory) (n : ℕ) (r : Option Block) → IsMade t.rules → Stands t m → IsSetUp t → Allocates t t' m m' n r → (c : Block) → IsOutOf t m c → extent_of t' m' c ≡ extent_of t m c
allocated-keeps_extents t t' m m' n r l h u a = served-keeps_extents (allocated t m n) t t' m m' n r (allocated-serves t t' m m' n r l h u a)

pub allocated-keeps_routes : (t t' : LayerModel) (m m' : Memory) (n : ℕ) (r : Option Block) → IsMade t.rules → Stands t m → IsSetUp t → Allocates t t' m m' n r → (c : Block) → IsOutOf t m c → route_of t' m' c ≡ route_of t m c
allocated-keeps_routes t t' m m' n r l h u a = served-keeps_routes (allocated t m n) t t' m m' n r (allocated-serves t t' m m' n r l h u a)

pub allocated-changes_own : (t t' : LayerModel) (m m' : Memory) (n : ℕ) (r : Option Block) → IsMade t.rules → Stands t m → IsSetUp t → Allocates t t' m m' n r → ChangesOwn t.rules m m'
allocated-changes_own t t' m m' n r l h u a = served-changes_own (allocated t m n) t t' m m' n r (allocated-serves t t' m m' n r l h u a)

pub allocated-finds : AllocateFinds
allocated-finds t t' m m' n r l h u a = served-finds (allocated t m n) t t' m m' n r (allocated-serves t t' m m' n r l h u a)

-- ---- a block is given back

pub freed-of : (t : LayerModel) (m : Memory) (b : Block) → IsMade t.rules → Stands t m → IsOutOf t m b → IsFreed t.rules (state_of t m) m.cells b (deallocated t m b)
freed-of t m b l h o = let w = keeping t m l h in w.freed b (state_of t m) m.cells (w.out_open b (state_of t m) m.cells o) h.sound.settled o

pub deallocated-stands : (t t' : LayerModel) (m m' : Memory) (b : Block) (r : Bool) → IsMade t.rules → Stands t m → IsOutOf t m b → Deallocates t t' m m' b r → Stands t' m'
deallocated-stands t t' m m' b r l h o a = sound-again t t' m m' h a.frame (deallocated t m b).state (deallocated t m b).cells a.state a.cells (freed-of t m b l h o).settled

pub deallocated-keeps_out : (t t' : LayerModel) (m m' : Memory) (b : Block) (r : Bool) → IsMade t.rules → Stands t m → IsOutOf t m b → Deallocates t t' m m' b r → (c : Block) → IsOutOf t m c → AreApartIn t m b c → IsOutOf t' m' c
deallocated-keeps_out t t' m m' b r l h o a c p z =
    out-again t t' m m' (deallocated t m b).state (deallocated t m b).cells c a.frame a.state a.cells ((freed-of t m b l h o).stays c p (record { either = z.either }))

pub deallocated-keeps_extents : (t t' : LayerModel) (m m' : Memory) (b : Block) (r : Bool) → IsMade t.rules → Stands t m → IsOutOf t m b → Deallocates t t' m m' b r → (c : Block) → IsOutOf t m c → AreApartIn t m b c → extent_of t' m' c ≡ extent_of t m c
deallocated-keeps_extents t t' m m' b r l h o a c p z = extent-again t t' m m' (deallocated t m b).state c a.frame a.state ((freed-of t m b l h o).extents c p (record { either = z.either }))

pub deallocated-keeps_routes : (t t' : LayerModel) (m m' : Memory) (b : Block) (r : Bool) → IsMade t.rules → Stands t m → IsOutOf t m b → Deallocates t t' m m' b r → (c : Block) → IsOutOf t m c → AreApartIn t m b c → route_of t' m' c ≡ route_of t m c
deallocated-keeps_routes t t' m m' b r l h o a c p z = route-again t t' m m' (deallocated t m b).state c a.frame a.state ((freed-of t m b l h o).routes c p (record { either = z.either }))

pub deallocated-changes_own : (t t' : LayerModel) (m m' : Memory) (b : Block) (r : Bool) → IsMade t.rules → Stands t m → IsOutOf t m b → Deallocates t t' m m' b r → ChangesOwn t.rules m m'
deallocated-changes_own t t' m m' b r l h o a =
    changes-from t t' m m' a.frame (subst (λ (new : Cells). OnlyOwnChanged t.rules m.cells new) (sym a.cells) (changed-freed t.rules m.cells (deallocated t m b).cells (freed-of t m b l h o).table))

-- ---- a block grows

pub expanded-of : (t : LayerModel) (m : Memory) (b : Block) (delta : ℕ) → IsMade t.rules → Stands t m → IsOutOf t m b → IsGrown t.rules (state_of t m) m.cells b delta (expanded t m b delta)
expanded-of t m b delta l h o = let w = keeping t m l h in w.grown delta b (state_of t m) m.cells (w.out_open b (state_of t m) m.cells o) h.sound.settled o

pub expanded-stands : (t t' : LayerModel) (m m' : Memory) (b b' : Block) (delta : ℕ) (r : Bool) → IsMade t.rules → Stands t m → IsOutOf t m b → Expands t t' m m' b b' delta r → Stands t' m'
expanded-stands t t' m m' b b' delta r l h o a = sound-again t t' m m' h a.frame (expanded t m b delta).state (expanded t m b delta).cells a.state a.cells (expanded-of t m b delta l h o).settled

-- the block as the record says it, and as the law does
longer-as : (t t' : LayerModel) (m m' : Memory) (b b' : Block) (delta : ℕ) (r : Bool) → Expands t t' m m' b b' delta r → longer_if (expanded t m b delta).answer delta b ≡ b'
longer-as t t' m m' b b' delta r a = ap (λ q. longer_if q delta b) (sym a.answer) ∙ sym a.block

pub expanded-gives : (t t' : LayerModel) (m m' : Memory) (b b' : Block) (delta : ℕ) (r : Bool) → IsMade t.rules → Stands t m → IsOutOf t m b → Expands t t' m m' b b' delta r → IsOutOf t' m' b'
expanded-gives t t' m m' b b' delta r l h o a =
    out-again t t' m m' (expanded t m b delta).state (expanded t m b delta).cells b' a.frame a.state a.cells
    (subst (λ k. t.rules.is_out k (expanded t m b delta).state (expanded t m b delta).cells ≡ true) (longer-as t t' m m' b b' delta r a) (expanded-of t m b delta l h o).out)

pub expanded-keeps_extents : (t t' : LayerModel) (m m' : Memory) (b b' : Block) (delta : ℕ) (r : Bool) → IsMade t.rules → Stands t m → IsOutOf t m b → Expands t t' m m' b b' delta r → (c : Block) → IsOutOf t m c → (r ≡ true → AreApartIn t m b c) → extent_of t' m' c ≡ extent_of t m c
expanded-keeps_extents t t' m m' b b' delta r l h o a c p z =
    extent-again t t' m m' (expanded t m b delta).state c a.frame a.state ((expanded-of t m b delta l h o).extents c p (λ q. let y = z (a.answer ∙ q) in record { either = y.either }))

pub expanded-keeps_apart : (t t' : LayerModel) (m m' : Memory) (b b' : Block) (delta : ℕ) (r : Bool) → IsMade t.rules → Stands t m → IsOutOf t m b → Expands t t' m m' b b' delta r → (c : Block) → IsOutOf t m c → AreApartIn t m b c → AreApartIn t' m' b' c
expanded-keeps_apart t t' m m' b b' delta r l h o a c p z =
    let y = (expanded-of t m b delta l h o).fresh c p (record { either = z.either }) in
    apart-again t t' m m' (expanded t m b delta).state b' c a.frame a.state (subst (λ k. AreApart t.rules (expanded t m b delta).state k c) (longer-as t t' m m' b b' delta r a) y)

pub expanded-keeps_out : (t t' : LayerModel) (m m' : Memory) (b b' : Block) (delta : ℕ) (r : Bool) → IsMade t.rules → Stands t m → IsOutOf t m b → Expands t t' m m' b b' delta r → (c : Block) → IsOutOf t m c → (r ≡ true → AreApartIn t m b c) → IsOutOf t' m' c
expanded-keeps_out t t' m m' b b' delta r l h o a c p z =
    out-again t t' m m' (expanded t m b delta).state (expanded t m b delta).cells c a.frame a.state a.cells ((expanded-of t m b delta l h o).stays c p (λ q. let y = z (a.answer ∙ q) in record { either = y.either }))

pub expanded-keeps_routes : (t t' : LayerModel) (m m' : Memory) (b b' : Block) (delta : ℕ) (r : Bool) → IsMade t.rules → Stands t m → IsOutOf t m b → Expands t t' m m' b b' delta r → (c : Block) → IsOutOf t m c → (r ≡ true → AreApartIn t m b c) → route_of t' m' c ≡ route_of t m c
expanded-keeps_routes t t' m m' b b' delta r l h o a c p z = route-again t t' m m' (expanded t m b delta).state c a.frame a.state ((expanded-of t m b delta l h o).routes c p (λ q. let y = z (a.answer ∙ q) in record { either = y.either }))

-- the block keeps its route
pub expanded-finds : (t t' : LayerModel) (m m' : Memory) (b b' : Block) (delta : ℕ) (r : Bool) → IsMade t.rules → Stands t m → IsOutOf t m b → Expands t t' m m' b b' delta r → route_of t' m' b' ≡ route_of t m b
expanded-finds t t' m m' b b' delta r l h o a =
    let x = expanded t m b delta in
    ap (λ e. e.route b' (state_of t' m')) a.frame.rules
    ∙ (ap (λ s. t.rules.route b' s) a.state ∙ subst (λ k. t.rules.route k x.state ≡ route_of t m b) (longer-as t t' m m' b b' delta r a) (expanded-of t m b delta l h o).found)

pub expanded-changes_own : (t t' : LayerModel) (m m' : Memory) (b b' : Block) (delta : ℕ) (r : Bool) → IsMade t.rules → Stands t m → IsOutOf t m b → Expands t t' m m' b b' delta r → ChangesOwn t.rules m m'
expanded-changes_own t t' m m' b b' delta r l h o a =
    changes-from t t' m m' a.frame (subst (λ (new : Cells). OnlyOwnChanged t.rules m.cells new) (sym a.cells)
    (changed-taken t.rules m.cells (expanded t m b delta).cells (expanded-of t m b delta l h o).table))

-- ---- all blocks are taken back

pub emptied-of : (t : LayerModel) (m : Memory) → IsMade t.rules → Stands t m → IsSetUp t → IsEmptied t.rules m.cells (all_deallocated t m)
emptied-of t m l h u = (keeping t m l h).emptied (state_of t m) m.cells (l.regular.reading.opens_as_fields t.fields m.bytes ∙ u) h.sound.settled

pub all_deallocated-stands : (t t' : LayerModel) (m m' : Memory) → IsMade t.rules → Stands t m → IsSetUp t → DeallocatesAll t t' m m' → Stands t' m'
all_deallocated-stands t t' m m' l h u a = sound-again t t' m m' h a.frame (all_deallocated t m).state (all_deallocated t m).cells a.state a.cells (emptied-of t m l h u).settled

pub all_deallocated-leaves_none : (t t' : LayerModel) (m m' : Memory) → IsMade t.rules → Stands t m → IsSetUp t → DeallocatesAll t t' m m' → (b : Block) → IsOutOf t' m' b → ⊥
all_deallocated-leaves_none t t' m m' l h u a b o = (emptied-of t m l h u).none b (rw (a.state, a.cells) at (subst (λ e. e.is_out b (state_of t' m') m'.cells ≡ true) a.frame.rules o))

pub all_deallocated-changes_own : (t t' : LayerModel) (m m' : Memory) → IsMade t.rules → Stands t m → IsSetUp t → DeallocatesAll t t' m m' → ChangesOwn t.rules m m'
all_deallocated-changes_own t t' m m' l h u a =
    changes-from t t' m m' a.frame (subst (λ (new : Cells). OnlyOwnChanged t.rules m.cells new) (sym a.cells)
    (changed-freed t.rules m.cells (all_deallocated t m).cells (emptied-of t m l h u).table))

-- ---- changes in turn

-- another layer's cell keeps its tag
foreign-tag : (e : Rules) (old mid : ℕ) → (old ≡ 0 → ⊥) → (IsLeaf e old → ⊥) → (mid ≡ old) ⊎ (IsFreeOrOwn e old × IsFreeOrOwn e mid) → mid ≡ old
foreign-tag e old mid a z (inl x) = x
foreign-tag e old mid a z (inr x) = absurd (elim x.0 [ inl q ↦ a q | inr q ↦ z q ])

pub changes-in_turn : (e : Rules) (m m' m'' : Memory) → ChangesOwn e m m' → ChangesOwn e m' m'' → ChangesOwn e m m''
changes-in_turn e m m' m'' k l =
    record {
      memory = l.memory;
      size = l.size ∙ k.size;
      leaves = l.leaves ∙ k.leaves;
      cells = changed-then e m.cells m'.cells m''.cells k.cells l.cells;
      foreign = record {
        at = λ i a z.
            let q = foreign-tag e (get_or m.cells.tags (i / cell_size) 0) (get_or m'.cells.tags (i / cell_size) 0) a z (k.cells (i / cell_size)) in
            l.foreign.at i (λ y. a (sym q ∙ y)) (λ y. z (subst (IsLeaf e) q y)) ∙ k.foreign.at i a z;
      };
    }

-- ---- setting up and tearing down

-- a closed layer whose cells are none
shut-again : (t t' : LayerModel) (m m' : Memory) → ReadingLaws t.rules → OpeningLaws t.rules → Stands t m → Frames t t' m m' → IsShut t' → has_no_cells t.rules.leaf_tags m'.cells ≡ true → Stands t' m'
shut-again t t' m m' r w h f u n =
    shut-stands t' m' f.memory (subst HasDistinctTags (sym f.rules) h.sound.distinct)
    (subst (λ e. HasMadeTags m'.leaves e) (sym f.rules) (subst (λ n. HasMadeTags n t.rules) (sym f.leaves) h.sound.made)) (subst ReadingLaws (sym f.rules) r) (subst OpeningLaws (sym f.rules) w) u
    (subst (λ (e : Rules). has_no_cells e.leaf_tags m'.cells ≡ true) (sym f.rules) n)

-- ---- setting up

-- what was opened is sound
pub opened-of : (t : LayerModel) (m : Memory) (need : ℕ) (o : Opened) → IsMade t.rules → Stands t m → IsShut t → t.rules.set_up need m.cells ≡ Ok o → IsSettled t.rules o.state o.cells
opened-of t m need o l h u q =
    (opening t m l h).opens need m.cells o (no-cell t.rules m.cells (some-tags t m h) (shut-no_cells t m l h u)) q

pub set_up-case : (t t' : LayerModel) (m m' : Memory) (x : Opening) (r : Result (Unit {0}) Refused) → IsMade t.rules → Stands t m → IsShut t → Frames t t' m m' → are_open t'.fields ≡ is_ok r → ((o : Opened) → x ≡ Ok o → IsSettled t.rules o.state o.cells) → OpensAs x t' m m' r → Stands t' m'
set_up-case t t' m m' (Ok o) (Ok done) l h u f a g z = sound-again t t' m m' h f o.state o.cells z.0 z.1 (g o refl)
set_up-case t t' m m' (Err node) (Err refused) l h u f a g z = shut-again t t' m m' l.regular.reading (opening t m l h) h f a (subst (λ (k : Cells). has_no_cells t.rules.leaf_tags k ≡ true) (sym z.1) (shut-no_cells t m l h u))
set_up-case t t' m m' (Ok o) (Err refused) l h u f a g z = absurd z
set_up-case t t' m m' (Err node) (Ok done) l h u f a g z = absurd z

pub set_up-stands : (t t' : LayerModel) (m m' : Memory) (need : ℕ) (r : Result (Unit {0}) Refused) → IsMade t.rules → Stands t m → IsShut t → SetsUp t t' m m' need r → Stands t' m'
set_up-stands t t' m m' need r l h u s = set_up-case t t' m m' (t.rules.set_up need m.cells) r l h u s.frame s.opened (λ o q. opened-of t m need o l h u q) s.answer

set_up-cells : (t t' : LayerModel) (m m' : Memory) (x : Opening) (r : Result (Unit {0}) Refused) → ((o : Opened) → x ≡ Ok o → OnlyOwnCells t.rules m.cells o.cells) → OpensAs x t' m m' r
    → (c : ℕ) → (get_or m'.cells.tags c 0 ≡ get_or m.cells.tags c 0) ⊎ (IsFreeOrOwn t.rules (get_or m.cells.tags c 0) × IsFreeOrOwn t.rules (get_or m'.cells.tags c 0))
set_up-cells t t' m m' (Ok o) (Ok done) g z c =
    let q : get_or o.cells.tags c 0 ≡ get_or m'.cells.tags c 0 = ap (λ (x : Cells). get_or x.tags c 0) (sym z.1) in
    elim ((g o refl).each c) [ inl y ↦ inl (sym q ∙ y) | inr y ↦ inr (inl y.0, inr (subst (IsLeaf t.rules) q y.1)) ]
set_up-cells t t' m m' (Err node) (Err refused) g z c = inl (ap (λ (x : Cells). get_or x.tags c 0) z.1)
set_up-cells t t' m m' (Ok o) (Err refused) g z c = absurd z
set_up-cells t t' m m' (Err node) (Ok done) g z c = absurd z

pub set_up-changes_own : (t t' : LayerModel) (m m' : Memory) (need : ℕ) (r : Result (Unit {0}) Refused) → IsMade t.rules → Stands t m → IsShut t → SetsUp t t' m m' need r → ChangesOwn t.rules m m'
set_up-changes_own t t' m m' need r l h u s =
    changes-from t t' m m' s.frame (set_up-cells t t' m m' (t.rules.set_up need m.cells) r (λ o q. l.regular.taking.set_up need m.cells o q) s.answer)

-- ---- tearing down

-- no cell is left, and no other cell has changed
pub torn-cells : (t t' : LayerModel) (m m' : Memory) → TearsDown t t' m m'
    → (c : ℕ) → ((get_or m'.cells.tags c 0 ≡ get_or m.cells.tags c 0) × (IsLeaf t.rules (get_or m.cells.tags c 0) → ⊥)) ⊎ ((get_or m'.cells.tags c 0 ≡ 0) × IsLeaf t.rules (get_or m.cells.tags c 0))
torn-cells t t' m m' k c =
    let q : get_or (without_leaves t.rules m.cells).tags c 0 ≡ get_or m'.cells.tags c 0 = ap (λ (x : Cells). get_or x.tags c 0) (sym k.cells) in
    elim (freed-cells t.rules.leaf_tags m.cells c) [ inl z ↦ inl (sym q ∙ z.0, z.1) | inr z ↦ inr (sym q ∙ z.0, z.1) ]

pub torn-stands : (t t' : LayerModel) (m m' : Memory) → IsMade t.rules → Stands t m → TearsDown t t' m m' → Stands t' m'
torn-stands t t' m m' l h k =
    shut-again t t' m m' l.regular.reading (opening t m l h) h k.frame k.shut (no-cells-from t.rules m'.cells (λ c i l.
    elim (torn-cells t t' m m' k c) [ inl z ↦ z.1 (subst (IsLeaf t.rules) z.0 l) | inr z ↦ let y = h.sound.made.least _ l in absurd (omega (arith, z.0)) ]))

pub torn-changes_own : (t t' : LayerModel) (m m' : Memory) → Stands t m → TearsDown t t' m m' → ChangesOwn t.rules m m'
torn-changes_own t t' m m' h k =
    changes-from t t' m m' k.frame (λ c. elim (torn-cells t t' m m' k c) [ inl z ↦ inl z.0 | inr z ↦ inr (inr z.1, inl z.0) ])

-- ---- where a block lies

-- a block that is out lies in the table's cells
pub out-in_range : (e : Rules) → HasSomeTags e → Covering e → (b : Block) (s : State) (cells : Cells) → IsSettled e s cells → e.is_out b s cells ≡ true → end_of b ≤ 64 * length cells.tags
out-in_range e w cover b s cells h o =
    let c = cover b s cells h o in
    let i = end_of (e.extent b s) - 1 in
    let l = tag-in_range cells.tags (i / 64) (w.least _ (c.leaf i (omega (arith, c.some)) (omega (arith, c.some)))) in
    omega (arith, c.upto, c.some)

pub covers-of : (t : LayerModel) (m : Memory) (b : Block) → IsMade t.rules → Stands t m → IsOutOf t m b → Covers t.rules b (state_of t m) m.cells
covers-of t m b l h o = (placing t m l h).covers b (state_of t m) m.cells h.sound.settled o

pub room-of : (x : Block) (m : Memory) → IsMemory m → x.place < end_of x → 1 ≤ get_or m.cells.tags ((end_of x - 1) / 64) 0 → end_of x ≤ length m.bytes
room-of x m h s t = let l = tag-in_range m.cells.tags ((end_of x - 1) / 64) t in omega (arith, h.sizes)

pub out-in_space : (t : LayerModel) (m : Memory) (b : Block) → IsMade t.rules → Stands t m → IsOutOf t m b → end_of b ≤ length m.bytes
out-in_space t m b l h o =
    let c = covers-of t m b l h o in
    let x = extent_of t m b in
    let r = room-of x m h.memory c.some (h.sound.made.least _ (c.leaf (end_of x - 1) (omega (arith, c.some)) (omega (arith, c.some)))) in
    omega (arith, c.upto, r)

-- ---- whose a block is

holding : (t : LayerModel) (m : Memory) → IsMade t.rules → Stands t m → HoldingLaws t.rules
holding t m l h = (lawful t m l h).holding

pub out-is_held : OutIsHeld
out-is_held t m b l h w o = (holding t m l h).out_held w b (state_of t m) m.cells h.sound.settled o

pub held-is_own : HeldIsOwn
held-is_own t m b l h o = (holding t m l h).own b (state_of t m) m.cells h.sound.settled o

pub others-hold_none : OthersHoldNone
others-hold_none t u m b l h k g beside x y =
    let size = l.regular.owning.held_size b (state_of t m) x in
    let first : nat_le 1 b.len ≡ true = and-fst (nat_le 1 b.len) _ size in
    let some : 1 ≤ b.len = grind (arith, nat_tests) in
    beside.apart _ ((held-is_own t m b l h x).at b.place (omega arith) (omega arith)) ((held-is_own u m b k g y).at b.place (omega arith) (omega arith))

pub paths-answer : PathsAnswerRoutes
paths-answer t m path b l h o = (lawful t m l h).paths.said_route path b (state_of t m) m.cells h.sound.settled o

-- ---- for a layer's code: a refused request leaves all as it was

pub unless-refuses : (a b : Bool) (serve : Serve) (s : State) (cells : Cells) → serve s cells ≡ refuse s cells → served_unless a b serve s cells ≡ refuse s cells
unless-refuses true b serve s cells h = refl
unless-refuses false true serve s cells h = refl
unless-refuses false false serve s cells h = h

pub refused : (t : LayerModel) (m : Memory) (n : ℕ) → Stands t m → t.rules.allocate n (state_of t m) m.cells ≡ refuse (state_of t m) m.cells → Allocates t t m m n None
refused t m n h q =
    record {
      frame = record { rules = refl; image = h.image; memory = h.memory; size = refl; leaves = refl; foreign = record { at = λ i a z. refl } };
      opened = refl;
      answer = ap (λ (x : After (Option Placed)). block_in x.answer) (sym q);
      state = ap (λ (x : After (Option Placed)). x.state) (sym q);
      cells = ap (λ (x : After (Option Placed)). x.cells) (sym q);
      others = λ b o. record { bytes = record { at = λ i x y. refl }; clean = λ x. x; marked = λ x. x };
      made = λ b e. absurd (cc);
    }

-- ---- the laws as callers see them

pub expanded-keeps : ExpandLeaves
expanded-keeps t t' m m' b b' delta r l h o a =
    record {
      stands = expanded-stands t t' m m' b b' delta r l h o a;
      gives = expanded-gives t t' m m' b b' delta r l h o a;
      found = expanded-finds t t' m m' b b' delta r l h o a;
      apart = expanded-keeps_apart t t' m m' b b' delta r l h o a;
      out = expanded-keeps_out t t' m m' b b' delta r l h o a;
      extents = expanded-keeps_extents t t' m m' b b' delta r l h o a;
      routes = expanded-keeps_routes t t' m m' b b' delta r l h o a;
      changes_own = expanded-changes_own t t' m m' b b' delta r l h o a;
    }

pub all_deallocated-keeps : DeallocateAllLeaves
all_deallocated-keeps t t' m m' l h u a =
    record { stands = all_deallocated-stands t t' m m' l h u a; none = all_deallocated-leaves_none t t' m m' l h u a; changes_own = all_deallocated-changes_own t t' m m' l h u a }

pub shut-has_no_cells : ShutHasNoCells
shut-has_no_cells t m l h u = record { none = λ k i. none-at t.rules.leaf_tags m.cells k (shut-no_cells t m l h u) i }

pub shut-stands_again : ShutStands
shut-stands_again t m l i d k u n =
    shut-stands t m i d k l.regular.reading (l.lawful d (record { least = k.least })).opening u (none-all t.rules.leaf_tags m.cells (λ t l. n.none t l))
