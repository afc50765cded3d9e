-- What setting up a bitmap leaves, by how it ended.
use Rattle.std.proofs.Common.{◌≡◌, refl, sym, ◌∙◌, ap, subst, ℕ, ◌+◌, ◌*◌, ◌≤◌, inl, true, false, Option, Some, None, Ok, Err, arith}
use Rattle.size_round.specs.Sizes.{limit}
use Rattle.space_core.specs.Cells.{Cells}
use Rattle.space_core.specs.Memory.{Memory}
use Rattle.layer_rules.specs.declared.Block.{Block}
use Rattle.layer_rules.specs.Fields.{are_open}
use Rattle.layer_rules.specs.Rules.{Rules, without_leaves}
use Rattle.layer_rules.specs.State.{State}
use Rattle.layer_rules.specs.After.{After, Placed, Opened, Opening}
use Rattle.layer_rules.specs.Setting.{need_of}
use Rattle.layer_rules.specs.Layering.{LayerModel, state_of, IsSetUp, IsShut, allocated, block_in, Stands, OpensAs, SetsUp, TearsDown, Allocates}
use Rattle.layer_laws.specs.Lawful.{IsMade}
use Rattle.layer_laws.specs.Standing.{ChangesOwn}
use Rattle.layer_laws.proofs.Placement.{write-keeps, write-changes_own}
use Rattle.layer_laws.proofs.StandingLaws.{allocated-changes_own, allocated-gives, allocated-stands, changes-in_turn, out-in_space, set_up-stands, set_up-changes_own, torn-changes_own, shut-has_no_cells}
use Rattle.layer_laws.proofs.TornDown.{asked-torn_down}
use Rattle.bitmap_rules.specs.BitmapRules.{bitmap_chunk, bitmap_front, bitmap_rules}
use Rattle.bitmap_rules.proofs.BitmapParts.{open_bitmap_has_image}
use Rattle.bitmapped_block.specs.declared.bits.BitRow.{BitRow}
use Rattle.bitmapped_block.specs.declared.bitmapped.Bitmap.{Bitmap}
use Rattle.bitmapped_block.specs.BitmapModel.{bitmap_model}
use Rattle.bitmapped_block.specs.BitmapSizes.{IsSized, row_of}
use Rattle.bitmapped_block.specs.UnitBits.{units_at, HasWords, IsClearedRow}
use Rattle.bitmapped_block.proofs.Marking.{chunk-written, words-below}
use Rattle.bitmapped_block.proofs.Opening.{granted-by, units_for, chunk_for, bitmap-chunk_refused, bitmap-granted}
use Rattle.bitmapped_block.proofs.Standing.{bitmap_state, state-is}

-- the bitmap over a closed parent, as contracts see it
abbrev shut : (unit count : ℕ) → LayerModel → LayerModel
shut unit count t = bitmap_model unit count None t

-- the bitmap in a chunk
abbrev pub bitmap_in : (chunk : Block) (units front : ℕ) → Bitmap
bitmap_in chunk units front = record { chunk = chunk; base = chunk.place + front; count = units }

opens-err : (p : Opening) (t' : LayerModel) (m m' : Memory) (k : ℕ) → p ≡ Err k → m'.cells ≡ m.cells → OpensAs p t' m m' (Err (record { node = k }))
opens-err p t' m m' k e c = subst (λ (q : Opening). OpensAs q t' m m' (Err (record { node = k }))) (sym e) (refl, c)

opens-ok : (p : Opening) (t' : LayerModel) (m m' : Memory) (d : Unit {0}) (o : Opened) → p ≡ Ok o → state_of t' m' ≡ o.state → m'.cells ≡ o.cells → OpensAs p t' m m' (Ok d)
opens-ok p t' m m' d o e s c = subst (λ (q : Opening). OpensAs q t' m m' (Ok d)) (sym e) (s, c)

-- what the parent's two calls gave, said of the rule alone
record IsServedChunk (c need : ℕ) (t t' t'' : LayerModel) (m m' m'' : Memory) (r : Option Block) : Type 0 where
  after : Opened
  granted : t.rules.set_up need m.cells ≡ Ok after
  answer : block_in (t.rules.allocate c after.state after.cells).answer ≡ r
  state : state_of t'' m'' ≡ (t.rules.allocate c after.state after.cells).state
  cells : m''.cells ≡ (t.rules.allocate c after.state after.cells).cells
  rules : t''.rules ≡ t.rules
  changes : ChangesOwn t.rules m m''

served-chunk : (c need : ℕ) (t t' t'' : LayerModel) (m m' m'' : Memory) (d : Unit {0}) (r : Option Block) → IsMade t.rules → IsMade t'.rules → Stands t m → IsShut t
    → SetsUp t t' m m' need (Ok d) → Allocates t' t'' m' m'' c r → IsServedChunk c need t t' t'' m m' m'' r
served-chunk c need t t' t'' m m' m'' d r l l' h z u a =
    let g = granted-by (t.rules.set_up need m.cells) t' m m' d u.answer in
    let same : allocated t' m' c ≡ t.rules.allocate c g.after.state g.after.cells =
    ap (λ (e : Rules). e.allocate c (state_of t' m') m'.cells) u.frame.rules ∙ ap (λ (s : State). t.rules.allocate c s m'.cells) g.state ∙ ap (λ (k : Cells). t.rules.allocate c g.after.state k) g.cells in
    let first = set_up-changes_own t t' m m' need (Ok d) l h z u in
    let second = allocated-changes_own t' t'' m' m'' c r l' (set_up-stands t t' m m' need (Ok d) l h z u) u.opened a in
    record {
      after = g.after;
      granted = g.granted;
      answer = sym (a.answer ∙ ap (λ (x : After (Option Placed)). block_in x.answer) same);
      state = a.state ∙ ap (λ (x : After (Option Placed)). x.state) same;
      cells = a.cells ∙ ap (λ (x : After (Option Placed)). x.cells) same;
      rules = a.frame.rules ∙ u.frame.rules;
      changes = changes-in_turn t.rules m m' m'' first (subst (λ (e : Rules). ChangesOwn e m' m'') u.frame.rules second);
    }

-- a chunk of that length has room for so many units, and their bits
pub sized-chunk : (unit units front : ℕ) (chunk : Block) → front ≡ bitmap_front units → front + units * unit ≤ limit → chunk.len ≡ front + units * unit → IsSized unit (bitmap_in chunk units front)
sized-chunk unit units front chunk f x e = record { len = e ∙ ap (λ (n : ℕ). n + units * unit) f; start = ap (λ (n : ℕ). chunk.place + n) f; most = omega arith }

-- the chunk was served, and its bits cleared
granted : (unit count need : ℕ) (t t' t'' : LayerModel) (m m' m'' m3 : Memory) (d d' : Unit {0}) (chunk : Block) → 1 ≤ unit → chunk_for unit count need ≤ limit → IsMade t.rules → IsMade t'.rules → IsMade t''.rules → Stands t m → IsShut t
    → SetsUp t t' m m' (need_of need (chunk_for unit count need)) (Ok d) → Allocates t' t'' m' m'' (chunk_for unit count need) (Some chunk)
    → IsClearedRow (row_of (bitmap_in chunk (units_for unit count need) (bitmap_front (units_for unit count need)))) m'' m3
    → SetsUp (shut unit count t) (bitmap_model unit count (Some (bitmap_in chunk (units_for unit count need) (bitmap_front (units_for unit count need)))) t'') m m3 need (Ok d')
unfolding bitmap_rules
granted unit count need t t' t'' m m' m'' m3 d d' chunk some x l l' l'' h z u a k =
    let units = units_for unit count need in
    let b = bitmap_in chunk units (bitmap_front units) in
    let s = served-chunk (chunk_for unit count need) _ t t' t'' m m' m'' d (Some chunk) l l' h z u a in
    let stands' = set_up-stands t t' m m' _ (Ok d) l h z u in
    let stands'' = allocated-stands t' t'' m' m'' (chunk_for unit count need) (Some chunk) l' stands' u.opened a in
    let new = allocated-gives t' t'' m' m'' (chunk_for unit count need) chunk l' stands' u.opened a in
    let sized = sized-chunk unit units (bitmap_front units) chunk refl x new.len in
    let writes = chunk-written unit b m'' m3 sized k.others k.after in
    let w = write-keeps t'' m'' m3 chunk l'' stands'' new.out writes in
    let o = write-changes_own t'' m'' m3 chunk l'' stands'' new.out writes in
    let all = changes-in_turn t.rules m m'' m3 s.changes (subst (λ (e : Rules). ChangesOwn e m'' m3) s.rules o) in
    let v = bitmap_model unit count (Some b) t'' in
    let state = state-is unit count b t'' m3 some sized in
    let image = (open_bitmap_has_image unit count t''.rules v.fields (bitmap_state b (units_at m3.bytes (row_of b)) (state_of t'' m3)) m3.bytes refl).1 (record { words = k.whole.bits; clean = w.clean chunk new.out (inl refl) (a.made chunk refl); below = w.stands.image }) in
    record {
      frame = record {
        rules = ap (bitmap_rules unit count) s.rules;
        image = subst (λ (q : State). (bitmap_rules unit count t''.rules).is_image v.fields q m3.bytes ≡ true) (sym state) image;
        memory = all.memory;
        size = all.size;
        leaves = all.leaves;
        foreign = record { at = all.foreign.at };
      };
      opened = refl;
      answer = opens-ok _ _ m m3 d' _ (bitmap-granted unit count need t.rules m.cells s.after chunk x s.granted s.answer)
          (state ∙ ap (λ us. bitmap_state b us (state_of t'' m3)) k.units ∙ ap (bitmap_state b _) (w.state ∙ s.state)) (writes.cells ∙ s.cells);
    }

-- the chunk was refused, and the parent torn down
chunk-refused : (unit count need : ℕ) (t t' t'' t3 : LayerModel) (m m' m'' m3 : Memory) (d : Unit {0}) → chunk_for unit count need ≤ limit → IsMade t.rules → IsMade t'.rules → Stands t m → IsShut t
    → SetsUp t t' m m' (need_of need (chunk_for unit count need)) (Ok d) → Allocates t' t'' m' m'' (chunk_for unit count need) None → TearsDown t'' t3 m'' m3
    → SetsUp (shut unit count t) (shut unit count t3) m m3 need (Err (record { node = 0 }))
unfolding bitmap_rules
chunk-refused unit count need t t' t'' t3 m m' m'' m3 d x l l' h z u a w =
    let s = served-chunk (chunk_for unit count need) _ t t' t'' m m' m'' d None l l' h z u a in
    let stands'' = allocated-stands t' t'' m' m'' (chunk_for unit count need) None l' (set_up-stands t t' m m' _ (Ok d) l h z u) u.opened a in
    let e : m3.cells ≡ m.cells =
    w.cells ∙ ap (λ (e : Rules). without_leaves e m''.cells) s.rules ∙ ap (without_leaves t.rules) s.cells
    ∙ asked-torn_down t.rules _ (chunk_for unit count need) m.cells s.after l.regular.taking (shut-has_no_cells t m l h z) s.granted in
    let last = torn-changes_own t'' t3 m'' m3 stands'' w in
    let all = changes-in_turn t.rules m m'' m3 s.changes (subst (λ (e : Rules). ChangesOwn e m'' m3) s.rules last) in
    record {
      frame = record {
        rules = ap (bitmap_rules unit count) (w.frame.rules ∙ s.rules);
        image = refl;
        memory = all.memory;
        size = all.size;
        leaves = all.leaves;
        foreign = record { at = all.foreign.at };
      };
      opened = refl;
      answer = opens-err _ _ m m3 0 (bitmap-chunk_refused unit count need t.rules m.cells s.after x s.granted s.answer) e;
    }

-- ---- the same for the numbers that the code computes

-- a closed bitmap has no chunk
pub no_bitmap : (o : Option Bitmap) (t : LayerModel) (unit count : ℕ) → are_open (bitmap_model unit count o t).fields ≡ false → o ≡ None
no_bitmap None t unit count h = refl
no_bitmap (Some b) t unit count h = absurd (cc)

-- the numbers that were computed: of units, of the bytes in front of them, and what the parent was opened with
pub record AreAsked (unit count need units front n : ℕ) : Type 0 where
  pub many : units ≡ units_for unit count need
  pub room : front ≡ bitmap_front units
  pub parent : n ≡ need_of need (front + units * unit)
  pub fits : front + units * unit ≤ limit

abbrev Granting : (unit count need : ℕ) (o : Option Bitmap) (t t' t'' : LayerModel) (m m' m'' m3 : Memory) (d d' : Unit {0}) (chunk : Block) (units front n : ℕ) → Type 0
Granting unit count need o t t' t'' m m' m'' m3 d d' chunk units front n =
    front + units * unit ≤ limit → SetsUp t t' m m' n (Ok d) → Allocates t' t'' m' m'' (front + units * unit) (Some chunk) → IsClearedRow (row_of (bitmap_in chunk units front)) m'' m3
    → SetsUp (bitmap_model unit count o t) (bitmap_model unit count (Some (bitmap_in chunk units front)) t'') m m3 need (Ok d')

pub asked-granted : (unit count need units front n : ℕ) (o : Option Bitmap) (row : BitRow) (t t' t'' : LayerModel) (m m' m'' m3 : Memory) (d d' : Unit {0}) (chunk : Block) → 1 ≤ unit → o ≡ None → row ≡ row_of (bitmap_in chunk units front) → AreAsked unit count need units front n
    → IsMade t.rules → IsMade t'.rules → IsMade t''.rules → Stands t m → IsShut t → SetsUp t t' m m' n (Ok d) → Allocates t' t'' m' m'' (front + units * unit) (Some chunk) → IsClearedRow row m'' m3
    → SetsUp (bitmap_model unit count o t) (bitmap_model unit count (Some (bitmap_in chunk units front)) t'') m m3 need (Ok d')
asked-granted unit count need units front n o row t t' t'' m m' m'' m3 d d' chunk some e r x l l' l'' h w u a k =
    let K = units_for unit count need in
    let base : Granting unit count need None t t' t'' m m' m'' m3 d d' chunk K (bitmap_front K) (need_of need (chunk_for unit count need)) = λ f u a k. granted unit count need t t' t'' m m' m'' m3 d d' chunk some f l l' l'' h w u a k in
    let by_units : Granting unit count need None t t' t'' m m' m'' m3 d d' chunk units (bitmap_front units) (need_of need (bitmap_chunk unit units)) =
    subst (λ (z : ℕ). Granting unit count need None t t' t'' m m' m'' m3 d d' chunk z (bitmap_front z) (need_of need (bitmap_chunk unit z))) (sym x.many) base in
    let by_front : Granting unit count need None t t' t'' m m' m'' m3 d d' chunk units front (need_of need (front + units * unit)) =
    subst (λ (z : ℕ). Granting unit count need None t t' t'' m m' m'' m3 d d' chunk units z (need_of need (z + units * unit))) (sym x.room) by_units in
    let by_need : Granting unit count need None t t' t'' m m' m'' m3 d d' chunk units front n =
    subst (λ (z : ℕ). Granting unit count need None t t' t'' m m' m'' m3 d d' chunk units front z) (sym x.parent) by_front in
    let by_model : Granting unit count need o t t' t'' m m' m'' m3 d d' chunk units front n =
    subst (λ (z : Option Bitmap). Granting unit count need z t t' t'' m m' m'' m3 d d' chunk units front n) (sym e) by_need in
    by_model x.fits u a (subst (λ (z : BitRow). IsClearedRow z m'' m3) r k)

abbrev Refusing : (unit count need : ℕ) (o : Option Bitmap) (t t' t'' t3 : LayerModel) (m m' m'' m3 : Memory) (d : Unit {0}) (units front n : ℕ) → Type 0
Refusing unit count need o t t' t'' t3 m m' m'' m3 d units front n =
    front + units * unit ≤ limit → SetsUp t t' m m' n (Ok d) → Allocates t' t'' m' m'' (front + units * unit) None → SetsUp (bitmap_model unit count o t) (bitmap_model unit count o t3) m m3 need (Err (record { node = 0 }))

pub asked-refused : (unit count need units front n : ℕ) (o : Option Bitmap) (t t' t'' t3 : LayerModel) (m m' m'' m3 : Memory) (d : Unit {0}) → o ≡ None → AreAsked unit count need units front n
    → IsMade t.rules → IsMade t'.rules → Stands t m → IsShut t → SetsUp t t' m m' n (Ok d) → Allocates t' t'' m' m'' (front + units * unit) None → TearsDown t'' t3 m'' m3
    → SetsUp (bitmap_model unit count o t) (bitmap_model unit count o t3) m m3 need (Err (record { node = 0 }))
asked-refused unit count need units front n o t t' t'' t3 m m' m'' m3 d e x l l' h w u a v =
    let K = units_for unit count need in
    let base : Refusing unit count need None t t' t'' t3 m m' m'' m3 d K (bitmap_front K) (need_of need (chunk_for unit count need)) = λ f u a. chunk-refused unit count need t t' t'' t3 m m' m'' m3 d f l l' h w u a v in
    let by_units : Refusing unit count need None t t' t'' t3 m m' m'' m3 d units (bitmap_front units) (need_of need (bitmap_chunk unit units)) =
    subst (λ (z : ℕ). Refusing unit count need None t t' t'' t3 m m' m'' m3 d z (bitmap_front z) (need_of need (bitmap_chunk unit z))) (sym x.many) base in
    let by_front : Refusing unit count need None t t' t'' t3 m m' m'' m3 d units front (need_of need (front + units * unit)) =
    subst (λ (z : ℕ). Refusing unit count need None t t' t'' t3 m m' m'' m3 d units z (need_of need (z + units * unit))) (sym x.room) by_units in
    let by_need : Refusing unit count need None t t' t'' t3 m m' m'' m3 d units front n = subst (λ (z : ℕ). Refusing unit count need None t t' t'' t3 m m' m'' m3 d units front z) (sym x.parent) by_front in
    let by_model : Refusing unit count need o t t' t'' t3 m m' m'' m3 d units front n = subst (λ (z : Option Bitmap). Refusing unit count need z t t' t'' t3 m m' m'' m3 d units front n) (sym e) by_need in
    by_model x.fits u a

-- the bitmap in the chunk that was served, before its bits are cleared
pub record IsServed (unit : ℕ) (b : Bitmap) (row : BitRow) (m : Memory) : Type 0 where
  pub sized : IsSized unit b
  pub words : HasWords m row
  pub base : b.base ≤ 16777216

pub is-served : (unit units front : ℕ) (row : BitRow) (t t' : LayerModel) (m m' : Memory) (chunk : Block) → row ≡ row_of (bitmap_in chunk units front) → front ≡ bitmap_front units → front + units * unit ≤ limit → IsMade t.rules → IsMade t'.rules → Stands t m → IsSetUp t
    → Allocates t t' m m' (front + units * unit) (Some chunk) → IsServed unit (bitmap_in chunk units front) row m'
is-served unit units front row t t' m m' chunk r f x l l' h u a =
    let b = bitmap_in chunk units front in
    let new = allocated-gives t t' m m' (front + units * unit) chunk l h u a in
    let stands = allocated-stands t t' m m' (front + units * unit) (Some chunk) l h u a in
    let sized = sized-chunk unit units front chunk f x new.len in
    let inside = out-in_space t' m' chunk l' stands new.out in
    let w = words-below unit b sized in
    let memory = a.frame.memory in
    let words : HasWords m' (row_of b) = record { memory = memory; inside = omega (arith, inside, w, sized.len, sized.start) } in
    record { sized = sized; words = subst (λ (z : BitRow). HasWords m' z) (sym r) words; base = omega (arith, inside, memory.sizes, memory.cells, new.len) }
