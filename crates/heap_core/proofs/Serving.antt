-- A call for a new name: what the root's request leaves, and what stands once the bytes of the new block are 0.
use Rattle.std.proofs.Common.{◌≡◌, refl, sym, ap, subst, ◌∙◌, ℕ, ◌≤◌, true, false, List, length, replicate, Option, Some, None, Ok, Err, inl, inr, arith}
use Rattle.size_round.specs.Sizes.{limit}
use Rattle.space_core.specs.Memory.{Memory}
use Rattle.space_core.specs.Words.{filled}
use Rattle.space_core.proofs.CellRuns.{length-put_run}
use Rattle.layer_rules.specs.declared.Block.{Block}
use Rattle.layer_rules.specs.Blocks.{end_of}
use Rattle.layer_rules.specs.After.{After, Placed}
use Rattle.layer_rules.specs.Layering.{LayerModel, state_of, Stands, IsOutOf, IsCleanOf, AreApartIn, KeepsBytes, block_in, Allocates, AlignedAllocates}
use Rattle.layer_rules.specs.Layering as layering
use Rattle.layer_laws.specs.Lawful.{IsMade}
use Rattle.layer_laws.specs.Standing.{extent_of, route_of, Writes, IsNewBlock}
use Rattle.layer_laws.proofs.StandingLaws.{out-in_space, answered, allocated-stands, allocated-gives, allocated-keeps_out, allocated-keeps_extents, allocated-keeps_routes, allocated-finds}
use Rattle.layer_laws.proofs.FurtherLaws.{aligned_allocated-keeps}
use Rattle.layer_laws.proofs.Placement.{write-keeps, out-placed}
use Rattle.layer_laws.proofs.Runs.{put_run-below, put_run-above}
use Rattle.heap_core.specs.declared.Named.{Named}
use Rattle.heap_core.specs.declared.Call.{Call}
use Rattle.heap_core.specs.declared.Call.TheVariants.{Allocate, Aligned}
use Rattle.heap_core.specs.declared.CallFault.{CallFault}
use Rattle.heap_core.specs.declared.CallFault.TheVariants.{NotOffered}
use Rattle.heap_core.specs.World.{live, with_live}
use Rattle.heap_core.specs.Names.{named, with_named}
use Rattle.heap_core.specs.Performing.{IsCall, run_of, Performed, placed_under, served, if_offered, IsAnswerTo, performed}
use Rattle.heap_core.specs.Holding.{bytes_of, world_of, run_in, Held}
use Rattle.heap_core.specs.Heap.{Performs, MayBegin, IsNewFault}
use Rattle.heap_core.proofs.WorldLemmas.{each-from}
use Rattle.heap_core.proofs.ByteLemmas.{slice-filled, inner-apart, inside-keeps}
use Rattle.heap_core.proofs.Stepping.{call-answered, call-in_fault, answer-is, new-fault, name-fresh, IsLeft, IsAgain, left-world, left-held, more-held, more-world, all-left}
use Rattle.heap_core.specs.declared.Answer.TheVariants as answers

-- ---- what a request leaves, whatever the rule by which it is served

pub record IsServed (rule : After (Option Placed)) (t t' : LayerModel) (m m' : Memory) (size : ℕ) (r : Option Block) : Type 0 where
  pub rules : t'.rules ≡ t.rules
  pub again : IsAgain t t' m m'
  pub answer : r ≡ block_in rule.answer
  pub state : state_of t' m' ≡ rule.state
  pub cells : m'.cells ≡ rule.cells
  pub gives : (b : Block) → r ≡ Some b → IsNewBlock t t' m m' size b
  pub found : (p : Placed) → rule.answer ≡ Some p → route_of t' m' p.block ≡ p.route
  pub made : (b : Block) → r ≡ Some b → IsCleanOf t' m' b
  pub left : (c : Block) → IsOutOf t m c → IsCleanOf t m c → IsLeft t t' m m' c

pub allocate-served : (t t' : LayerModel) (table : List Named) (m m' : Memory) (size : ℕ) (r : Option Block) → Held t table m → IsMade t'.rules → Allocates t t' m m' size r
    → IsServed (layering.allocated t m size) t t' m m' size r
allocate-served t t' table m m' size r h l' a = record {
  rules = a.frame.rules;
  again = record {
    made = l';
    opened = a.opened ∙ h.opened;
    stands = allocated-stands t t' m m' size r h.layer h.stands h.opened a;
    size = a.frame.size;
  };
  answer = a.answer;
  state = a.state;
  cells = a.cells;
  gives = λ b q. allocated-gives t t' m m' size b h.layer h.stands h.opened (subst (Allocates t t' m m' size) q a);
  found = allocated-finds t t' m m' size r h.layer h.stands h.opened a;
  made = a.made;
  left = λ c o k. record {
    out = allocated-keeps_out t t' m m' size r h.layer h.stands h.opened a c o;
    extent = allocated-keeps_extents t t' m m' size r h.layer h.stands h.opened a c o;
    route = allocated-keeps_routes t t' m m' size r h.layer h.stands h.opened a c o;
    clean = (a.others c o).clean k;
    bytes = (a.others c o).bytes;
  };
}

pub aligned-served : (t t' : LayerModel) (table : List Named) (m m' : Memory) (name size align : ℕ) (r : Option Block) → Held t table m → IsMade t'.rules → IsCall (Aligned name size align)
    → AlignedAllocates t t' m m' size align r → IsServed (layering.aligned_allocated t m size align) t t' m m' size r
aligned-served t t' table m m' name size align r h l' c a =
    let k = aligned_allocated-keeps t t' m m' size align r h.layer h.stands h.opened c.0 c.1 a in
    record {
      rules = a.frame.rules;
      again = record { made = l'; opened = a.opened ∙ h.opened; stands = k.stands; size = a.frame.size };
      answer = a.answer;
      state = a.state;
      cells = a.cells;
      gives = λ b q. (k.gives b q).0;
      found = k.found;
      made = a.made;
      left = λ c o x. record { out = k.out c o; extent = k.extents c o; route = k.routes c o; clean = (a.others c o).clean x; bytes = (a.others c o).bytes };
    }

-- ---- no block

none-in : (o : Option Placed) → None ≡ block_in o → o ≡ None
none-in None q = refl
none-in (Some p) q = absurd (cc)

pub none-placed : (rule : After (Option Placed)) (t t' : LayerModel) (table : List Named) (m m' : Memory) (call : Call) (name size : ℕ) → Held t table m → IsServed rule t t' m m' size None → IsCall call
    → IsAnswerTo call answers.Null → served name (world_of t table m) rule ≡ performed t.rules call (run_in t table m) → Performs t t' table table m m' call (Ok answers.Null)
none-placed rule t t' table m m' call name size h a c kind e =
    let left = all-left t t' table m m' h a.left in
    let w = world_of t table m in
    let to : Performed = (Ok answers.Null, run_of rule.state rule.cells w) in
    let one : placed_under name w rule.state rule.cells rule.answer ≡ to = ap (placed_under name w rule.state rule.cells) (none-in rule.answer a.answer) in
    call-answered t t' table table m m' call answers.Null h (left-held t t' m m' a.again table left h.apart) a.again.size a.rules c kind
    (answer-is answers.Null t' table m' rule.state rule.cells w a.state a.cells (left-world t t' m m' a.again table left) ∙ (sym one ∙ e))

-- ---- a new block, with zeros

module _ (rule : After (Option Placed)) (t t' : LayerModel) (table : List Named) (m m' : Memory) (size : ℕ) (b : Block) (h : Held t table m) (a : IsServed rule t t' m m' size (Some b)) where
  pub new-in_space : end_of b ≤ length m'.bytes
  new-in_space = out-in_space t' m' b a.again.made a.again.stands (a.gives b refl).out

  pub new-short : b.len ≤ limit
  new-short = let s = a.again.stands.memory in omega (arith, new-in_space, s.sizes, s.cells)

  module _ (v : Memory) (f : v ≡ record m' { bytes = filled m'.bytes b.place b.len 0 }) where
    fill-changes : Writes b m' v
    fill-changes =
        let w : Memory = record m' { bytes = filled m'.bytes b.place b.len 0 } in
        subst (λ (u : Memory). Writes b m' u) (sym f) (record {
          cells = refl;
          leaves = refl;
          bytes = record {
            length_same = length-put_run 0 b.place b.len m'.bytes;
            below = λ i lt. put_run-below 0 b.place b.len m'.bytes i 0 lt;
            above = λ i le. put_run-above 0 b.place b.len m'.bytes i 0 le;
          };
        })

    fill-bytes : v.bytes ≡ filled m'.bytes b.place b.len 0
    fill-bytes = ap (λ (u : Memory). u.bytes) f

    filled-again : IsAgain t t' m v
    filled-again =
        let w = write-keeps t' m' v b a.again.made a.again.stands (a.gives b refl).out fill-changes in
        record {
          made = a.again.made;
          opened = a.again.opened;
          stands = w.stands;
          size = fill-changes.bytes.length_same ∙ a.again.size;
        }

    -- a block that was live, once the bytes of the new one are 0
    filled-left : (c : Block) → IsOutOf t m c → IsCleanOf t m c → IsLeft t t' m v c
    filled-left c o k =
        let g = a.gives b refl in
        let fresh = g.fresh c o in
        let first = a.left c o k in
        let here = (out-placed t' m' b a.again.made a.again.stands g.out).inside in
        let there = (out-placed t' m' c a.again.made a.again.stands first.out).inside in
        let blocks = inner-apart b c (extent_of t' m' b) (extent_of t' m' c) here there fresh.either in
        let w = write-keeps t' m' v b a.again.made a.again.stands g.out fill-changes in
        let second : KeepsBytes m'.bytes v.bytes c.place (end_of c) = inside-keeps m'.bytes v.bytes b c fill-changes.bytes blocks in
        record {
          out = w.out c first.out;
          extent = ap (t'.rules.extent c) w.state ∙ first.extent;
          route = ap (t'.rules.route c) w.state ∙ first.route;
          clean = w.clean c first.out (inr fresh) first.clean;
          bytes = record { at = λ i from upto. second.at i from upto ∙ first.bytes.at i from upto };
        }

    pub block-placed : (call : Call) (name : ℕ) → IsCall call → IsAnswerTo call (answers.Placed b.place) → served name (world_of t table m) rule ≡ performed t.rules call (run_in t table m)
        → Performs t t' table (with_named (named name b) table) m v call (Ok (answers.Placed b.place))
    block-placed call name c kind e =
        let x = named name b in
        let g = a.gives b refl in
        let again = filled-again in
        let left = all-left t t' table m v h filled-left in
        let wk = write-keeps t' m' v b a.again.made a.again.stands g.out fill-changes in
        let fresh = each-from (λ (y : Named). IsOutOf t m y.block) (λ (y : Named). AreApartIn t' v b y.block) table (λ y o. let z = g.fresh y.block o in record { either = rw wk.state z.either }) h.out in
        let held = more-held t t' m v again table x left h.apart (wk.out b g.out) (wk.clean b g.out (inl refl) (a.made b refl)) fresh in
        let zeros : bytes_of b v.bytes ≡ replicate b.len 0 = rw fill-bytes (slice-filled m'.bytes b.place b.len new-in_space) in
        let w = world_of t table m in
        let p = answered b rule.answer a.answer in
        let route : route_of t' v b ≡ (p.0).route = ap (t'.rules.route b) wk.state ∙ subst (λ c. route_of t' m' c ≡ (p.0).route) p.2 (a.found p.0 p.1) in
        let new = with_live (live name b (replicate b.len 0) (p.0).route) w in
        let world = more-world t t' m v again table x left
        ∙ (ap (λ bytes. with_live (live name b bytes (route_of t' v b)) w) zeros ∙ ap (λ route. with_live (live name b (replicate b.len 0) route) w) route) in
        let to : Performed = (Ok (answers.Placed b.place), run_of rule.state rule.cells new) in
        let one : placed_under name w rule.state rule.cells rule.answer ≡ to =
        ap (placed_under name w rule.state rule.cells) p.1
        ∙ ap (λ (c : Block). let q : Performed = (Ok (answers.Placed c.place), run_of rule.state rule.cells (with_live (live name c (replicate c.len 0) (p.0).route) w)) in q) p.2 in
        call-answered t t' table (with_named x table) m v call (answers.Placed b.place) h held again.size a.rules c kind
        (answer-is (answers.Placed b.place) t' (with_named x table) v rule.state rule.cells new (wk.state ∙ a.state) (fill-changes.cells ∙ a.cells) world ∙ (sym one ∙ e))

-- ---- what is performed for a new name

pub allocate-fresh : (t : LayerModel) (table : List Named) (m : Memory) (name size : ℕ) → MayBegin table name
    → served name (world_of t table m) (layering.allocated t m size) ≡ performed t.rules (Allocate name size) (run_in t table m)
unfolding performed
allocate-fresh t table m name size e = name-fresh t table m name (served name (world_of t table m) (layering.allocated t m size)) e

pub aligned-fresh : (t : LayerModel) (table : List Named) (m : Memory) (name size align : ℕ) → MayBegin table name → t.rules.offers.aligned ≡ true
    → served name (world_of t table m) (layering.aligned_allocated t m size align) ≡ performed t.rules (Aligned name size align) (run_in t table m)
unfolding performed
aligned-fresh t table m name size align e offered =
    let p = served name (world_of t table m) (layering.aligned_allocated t m size align) in
    sym (ap (λ o. if_offered o (run_in t table m) p) offered) ∙ name-fresh t table m name (if_offered t.rules.offers.aligned (run_in t table m) p) e

-- ---- `Allocate`, outcome by outcome

pub allocate-fault : (t : LayerModel) (table : List Named) (m : Memory) (name size : ℕ) (f : CallFault) → Held t table m → IsNewFault table name f → Performs t t table table m m (Allocate name size) (Err f)
unfolding performed
allocate-fault t table m name size f h e = call-in_fault t table m (Allocate name size) f h (new-fault t table m name (served name (world_of t table m) (layering.allocated t m size)) f e)

pub allocate-null : (t t' : LayerModel) (table : List Named) (m m' : Memory) (name size : ℕ) → Held t table m → IsMade t'.rules → MayBegin table name
    → Allocates t t' m m' size None → Performs t t' table table m m' (Allocate name size) (Ok answers.Null)
allocate-null t t' table m m' name size h l' e a =
    none-placed (layering.allocated t m size) t t' table m m' (Allocate name size) name size h (allocate-served t t' table m m' size None h l' a) tt tt (allocate-fresh t table m name size e)

module _ (t t' : LayerModel) (table : List Named) (m m' : Memory) (name size : ℕ) (b : Block) (h : Held t table m) (l' : IsMade t'.rules) (a : Allocates t t' m m' size (Some b)) where
  pub allocate-room : end_of b ≤ length m'.bytes
  allocate-room = new-in_space (layering.allocated t m size) t t' table m m' size b h (allocate-served t t' table m m' size (Some b) h l' a)

  pub allocate-short : b.len ≤ limit
  allocate-short = new-short (layering.allocated t m size) t t' table m m' size b h (allocate-served t t' table m m' size (Some b) h l' a)

  pub allocate-placed : (v : Memory) → MayBegin table name → v ≡ record m' { bytes = filled m'.bytes b.place b.len 0 }
      → Performs t t' table (with_named (named name b) table) m v (Allocate name size) (Ok (answers.Placed b.place))
  allocate-placed v e f =
      block-placed (layering.allocated t m size) t t' table m m' size b h (allocate-served t t' table m m' size (Some b) h l' a) v f (Allocate name size) name tt tt (allocate-fresh t table m name size e)

-- ---- `Aligned`, outcome by outcome

abbrev aligned_performed : LayerModel → List Named → Memory → (name size align : ℕ) → Performed
aligned_performed t table m name size align = if_offered t.rules.offers.aligned (run_in t table m) (served name (world_of t table m) (layering.aligned_allocated t m size align))

pub aligned-fault : (t : LayerModel) (table : List Named) (m : Memory) (name size align : ℕ) (f : CallFault) → Held t table m → IsNewFault table name f
    → Performs t t table table m m (Aligned name size align) (Err f)
unfolding performed
aligned-fault t table m name size align f h e = call-in_fault t table m (Aligned name size align) f h (new-fault t table m name (aligned_performed t table m name size align) f e)

pub aligned-not_offered : (t : LayerModel) (table : List Named) (m : Memory) (name size align : ℕ) → Held t table m → MayBegin table name
    → t.rules.offers.aligned ≡ false → Performs t t table table m m (Aligned name size align) (Err NotOffered)
unfolding performed
aligned-not_offered t table m name size align h e none =
    let p = served name (world_of t table m) (layering.aligned_allocated t m size align) in
    call-in_fault t table m (Aligned name size align) NotOffered h
    (sym (ap (λ o. if_offered o (run_in t table m) p) none) ∙ name-fresh t table m name (aligned_performed t table m name size align) e)

pub aligned-null : (t t' : LayerModel) (table : List Named) (m m' : Memory) (name size align : ℕ) → Held t table m → IsMade t'.rules → IsCall (Aligned name size align) → MayBegin table name
    → t.rules.offers.aligned ≡ true → AlignedAllocates t t' m m' size align None → Performs t t' table table m m' (Aligned name size align) (Ok answers.Null)
aligned-null t t' table m m' name size align h l' c e offered a =
    none-placed (layering.aligned_allocated t m size align) t t' table m m' (Aligned name size align) name size h (aligned-served t t' table m m' name size align None h l' c a) c tt
    (aligned-fresh t table m name size align e offered)

module _ (t t' : LayerModel) (table : List Named) (m m' : Memory) (name size align : ℕ) (b : Block) (h : Held t table m) (l' : IsMade t'.rules) (c : IsCall (Aligned name size align)) (a : AlignedAllocates t t' m m' size align (Some b)) where
  pub aligned-room : end_of b ≤ length m'.bytes
  aligned-room = new-in_space (layering.aligned_allocated t m size align) t t' table m m' size b h (aligned-served t t' table m m' name size align (Some b) h l' c a)

  pub aligned-short : b.len ≤ limit
  aligned-short = new-short (layering.aligned_allocated t m size align) t t' table m m' size b h (aligned-served t t' table m m' name size align (Some b) h l' c a)

  pub aligned-placed : (v : Memory) → MayBegin table name → t.rules.offers.aligned ≡ true → v ≡ record m' { bytes = filled m'.bytes b.place b.len 0 }
      → Performs t t' table (with_named (named name b) table) m v (Aligned name size align) (Ok (answers.Placed b.place))
  aligned-placed v e offered f =
      block-placed (layering.aligned_allocated t m size align) t t' table m m' size b h (aligned-served t t' table m m' name size align (Some b) h l' c a) v f (Aligned name size align) name c tt
      (aligned-fresh t table m name size align e offered)
