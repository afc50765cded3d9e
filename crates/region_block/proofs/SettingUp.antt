-- What setting up a region leaves, by how it ended.
use Rattle.std.proofs.Common.{◌≡◌, refl, sym, ◌∙◌, ap, subst, ℕ, ◌≤◌, false, Option, Some, None, Ok, Err}
use Rattle.size_round.specs.Sizes.{limit}
use Rattle.space_core.specs.Cells.{Cells}
use Rattle.space_core.specs.Memory.{Memory}
use Rattle.layer_rules.specs.declared.Block.{Block}
use Rattle.layer_rules.specs.Fields.{are_open}
use Rattle.layer_rules.specs.Rules.{Rules, without_leaves}
use Rattle.region_rules.specs.RegionRules.{region_rules}
use Rattle.layer_rules.specs.State.{State, open_with, region_own, one_child}
use Rattle.layer_rules.specs.After.{After, Placed, Opened, Opening}
use Rattle.region_rules.specs.RegionRules.{region_chunk}
use Rattle.layer_rules.specs.Setting.{need_of}
use Rattle.layer_rules.specs.Layering.{LayerModel, state_of, IsShut, allocated, block_in, Stands, OpensAs, SetsUp, TearsDown, Allocates}
use Rattle.region_block.specs.declared.bump.Bump.{Bump}
use Rattle.region_block.specs.RegionModel.{region_model}
use Rattle.layer_laws.specs.Lawful.{IsMade}
use Rattle.std.proofs.lemmas.Bool.{and_from}
use Rattle.layer_laws.specs.Standing.{ChangesOwn}
use Rattle.layer_laws.proofs.StandingLaws.{allocated-changes_own, changes-in_turn, set_up-stands, set_up-changes_own, torn-changes_own, shut-has_no_cells}
use Rattle.layer_laws.proofs.TornDown.{asked-torn_down}
use Rattle.region_block.proofs.Opening.{granted-by, region-chunk_refused, region-granted}

-- the empty region over a closed parent, as contracts see it
abbrev shut : (size align : ℕ) → LayerModel → LayerModel
shut size align t = region_model size align None t

opens-err : (p : Opening) (t' : LayerModel) (m m' : Memory) (k : ℕ) → p ≡ Err k → m'.cells ≡ m.cells → OpensAs p t' m m' (Err (record { node = k }))
opens-err p t' m m' k e c = subst (λ (q : Opening). OpensAs q t' m m' (Err (record { node = k }))) (sym e) (refl, c)

opens-ok : (p : Opening) (t' : LayerModel) (m m' : Memory) (d : Unit {0}) (o : Opened) → p ≡ Ok o → state_of t' m' ≡ o.state → m'.cells ≡ o.cells → OpensAs p t' m m' (Ok d)
opens-ok p t' m m' d o e s c = subst (λ (q : Opening). OpensAs q t' m m' (Ok d)) (sym e) (s, c)

-- what the parent's two calls gave, said of the rule alone
pub record IsServedChunk (c need : ℕ) (t t' t'' : LayerModel) (m m' m'' : Memory) (r : Option Block) : Type 0 where
  pub after : Opened
  pub granted : t.rules.set_up need m.cells ≡ Ok after
  pub answer : block_in (t.rules.allocate c after.state after.cells).answer ≡ r
  pub state : state_of t'' m'' ≡ (t.rules.allocate c after.state after.cells).state
  pub cells : m''.cells ≡ (t.rules.allocate c after.state after.cells).cells
  pub rules : t''.rules ≡ t.rules
  pub changes : ChangesOwn t.rules m m''

pub served-chunk : (c need : ℕ) (t t' t'' : LayerModel) (m m' m'' : Memory) (d : Unit {0}) (r : Option Block) → IsMade t.rules → IsMade t'.rules → Stands t m → IsShut t
    → SetsUp t t' m m' need (Ok d) → Allocates t' t'' m' m'' c r → IsServedChunk c need t t' t'' m m' m'' r
served-chunk c need t t' t'' m m' m'' d r l l' h z u a =
    let g = granted-by (t.rules.set_up need m.cells) t' m m' d u.answer in
    let same : allocated t' m' c ≡ t.rules.allocate c g.after.state g.after.cells =
    ap (λ (e : Rules). e.allocate c (state_of t' m') m'.cells) u.frame.rules ∙ ap (λ (s : State). t.rules.allocate c s m'.cells) g.state ∙ ap (λ (k : Cells). t.rules.allocate c g.after.state k) g.cells in
    let first = set_up-changes_own t t' m m' need (Ok d) l h z u in
    let second = allocated-changes_own t' t'' m' m'' c r l' (set_up-stands t t' m m' need (Ok d) l h z u) u.opened a in
    record {
      after = g.after;
      granted = g.granted;
      answer = sym (a.answer ∙ ap (λ (x : After (Option Placed)). block_in x.answer) same);
      state = a.state ∙ ap (λ (x : After (Option Placed)). x.state) same;
      cells = a.cells ∙ ap (λ (x : After (Option Placed)). x.cells) same;
      rules = a.frame.rules ∙ u.frame.rules;
      changes = changes-in_turn t.rules m m' m'' first (subst (λ (e : Rules). ChangesOwn e m' m'') u.frame.rules second);
    }

-- the chunk was served
pub granted : (size align need : ℕ) (t t' t'' : LayerModel) (m m' m'' : Memory) (d d' : Unit {0}) (chunk : Block) → region_chunk size align need ≤ limit → IsMade t.rules → IsMade t'.rules → Stands t m → IsShut t
    → SetsUp t t' m m' (need_of need (region_chunk size align need)) (Ok d) → Allocates t' t'' m' m'' (region_chunk size align need) (Some chunk)
    → SetsUp (shut size align t) (region_model size align (Some (record { chunk = chunk; position = chunk.place })) t'') m m'' need (Ok d')
unfolding region_rules
granted size align need t t' t'' m m' m'' d d' chunk x l l' h z u a =
    let s = served-chunk (region_chunk size align need) _ t t' t'' m m' m'' d (Some chunk) l l' h z u a in
    record {
      frame = record {
        rules = ap (region_rules size align) s.rules;
        image = and_from _ _ (a.made chunk refl) a.frame.image;
        memory = s.changes.memory;
        size = s.changes.size;
        leaves = s.changes.leaves;
        foreign = record { at = s.changes.foreign.at };
      };
      opened = refl;
      answer = opens-ok _ _ m m'' d' _ (region-granted size align need t.rules m.cells s.after chunk x s.granted s.answer) (ap (λ (z : State). open_with (region_own chunk chunk.place) (one_child z)) s.state) s.cells;
    }

-- the chunk was refused, and the parent torn down
pub chunk-refused : (size align need : ℕ) (t t' t'' t3 : LayerModel) (m m' m'' m3 : Memory) (d : Unit {0}) → region_chunk size align need ≤ limit → IsMade t.rules → IsMade t'.rules → Stands t m → IsShut t → Stands t'' m''
    → SetsUp t t' m m' (need_of need (region_chunk size align need)) (Ok d) → Allocates t' t'' m' m'' (region_chunk size align need) None → TearsDown t'' t3 m'' m3
    → SetsUp (shut size align t) (shut size align t3) m m3 need (Err (record { node = 0 }))
unfolding region_rules
chunk-refused size align need t t' t'' t3 m m' m'' m3 d x l l' h z k u a w =
    let s = served-chunk (region_chunk size align need) _ t t' t'' m m' m'' d None l l' h z u a in
    let e : m3.cells ≡ m.cells =
    w.cells ∙ ap (λ (e : Rules). without_leaves e m''.cells) s.rules ∙ ap (without_leaves t.rules) s.cells
    ∙ asked-torn_down t.rules _ (region_chunk size align need) m.cells s.after l.regular.taking (shut-has_no_cells t m l h z) s.granted in
    let last = torn-changes_own t'' t3 m'' m3 k w in
    let all = changes-in_turn t.rules m m'' m3 s.changes (subst (λ (e : Rules). ChangesOwn e m'' m3) s.rules last) in
    record {
      frame = record {
        rules = ap (region_rules size align) (w.frame.rules ∙ s.rules);
        image = refl;
        memory = all.memory;
        size = all.size;
        leaves = all.leaves;
        foreign = record { at = all.foreign.at };
      };
      opened = refl;
      answer = opens-err _ _ m m3 0 (region-chunk_refused size align need t.rules m.cells s.after x s.granted s.answer) e;
    }

-- ---- the same for the numbers that the code computes

-- a closed region has no chunk
pub no_bump : (b : Option Bump) (t : LayerModel) (size align : ℕ) → are_open (region_model size align b t).fields ≡ false → b ≡ None
no_bump None t size align h = refl
no_bump (Some b) t size align h = absurd (cc)

-- the size that was computed is that of the chunk, and the parent was asked for it where something is needed
pub record IsAskedFor (size align need k n : ℕ) : Type 0 where
  pub chunk : k ≡ region_chunk size align need
  pub parent : n ≡ need_of need k
  pub fits : k ≤ limit

below-need : (size align need k n : ℕ) → IsAskedFor size align need k n → n ≡ need_of need (region_chunk size align need)
below-need size align need k n a = a.parent ∙ ap (need_of need) a.chunk

chunk-fits : (size align need k n : ℕ) → IsAskedFor size align need k n → region_chunk size align need ≤ limit
chunk-fits size align need k n a = subst (λ (z : ℕ). z ≤ limit) a.chunk a.fits

pub asked-granted : (size align need k n : ℕ) (b : Option Bump) (t t' t'' : LayerModel) (m m' m'' : Memory) (d d' : Unit {0}) (chunk : Block) → b ≡ None → IsAskedFor size align need k n → IsMade t.rules → IsMade t'.rules → Stands t m → IsShut t
    → SetsUp t t' m m' n (Ok d) → Allocates t' t'' m' m'' k (Some chunk)
    → SetsUp (region_model size align b t) (region_model size align (Some (record { chunk = chunk; position = chunk.place })) t'') m m'' need (Ok d')
asked-granted size align need k n b t t' t'' m m' m'' d d' chunk e x l l' h w u a =
    subst (λ (z : Option Bump). SetsUp (region_model size align z t) (region_model size align (Some (record { chunk = chunk; position = chunk.place })) t'') m m'' need (Ok d')) (sym e)
    (granted size align need t t' t'' m m' m'' d d' chunk (chunk-fits size align need k n x) l l' h w
    (subst (λ (z : ℕ). SetsUp t t' m m' z (Ok d)) (below-need size align need k n x) u)
    (subst (λ (z : ℕ). Allocates t' t'' m' m'' z (Some chunk)) x.chunk a))

pub asked-refused : (size align need k n : ℕ) (b : Option Bump) (t t' t'' t3 : LayerModel) (m m' m'' m3 : Memory) (d : Unit {0}) → b ≡ None → IsAskedFor size align need k n
    → IsMade t.rules → IsMade t'.rules → Stands t m → IsShut t → Stands t'' m''
    → SetsUp t t' m m' n (Ok d) → Allocates t' t'' m' m'' k None → TearsDown t'' t3 m'' m3
    → SetsUp (region_model size align b t) (region_model size align b t3) m m3 need (Err (record { node = 0 }))
asked-refused size align need k n b t t' t'' t3 m m' m'' m3 d e x l l' h w s u a v =
    subst (λ (z : Option Bump). SetsUp (region_model size align z t) (region_model size align z t3) m m3 need (Err (record { node = 0 }))) (sym e)
    (chunk-refused size align need t t' t'' t3 m m' m'' m3 d (chunk-fits size align need k n x) l l' h w s
    (subst (λ (z : ℕ). SetsUp t t' m m' z (Ok d)) (below-need size align need k n x) u)
    (subst (λ (z : ℕ). Allocates t' t'' m' m'' z None) x.chunk a) v)
