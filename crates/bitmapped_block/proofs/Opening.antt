-- Opening a bitmap: what the rule gives, by what its parent does.
use Rattle.std.proofs.Common.{◌≡◌, refl, sym, ◌∙◌, ap, ℕ, ◌+◌, ◌≤◌, ◌<◌, Bool, true, false, Option, Some, None, Ok, Err, arith}
use Rattle.std.proofs.lemmas.Bool.Decides.{nat_tests}
use Rattle.size_round.specs.Sizes.{limit}
use Rattle.space_core.specs.Cells.{Cells}
use Rattle.space_core.specs.Memory.{Memory}
use Rattle.layer_rules.specs.declared.Block.{Block}
use Rattle.layer_rules.specs.declared.Refused.{Refused}
use Rattle.layer_rules.specs.Rules.{Rules}
use Rattle.layer_rules.specs.State.{Own, open_with, one_child}
use Rattle.layer_rules.specs.After.{After, Placed, Opened, opened, Opening}
use Rattle.layer_rules.specs.Setting.{need_of, within_limit, chunk_given, then_open}
use Rattle.layer_rules.specs.Layering.{LayerModel, state_of, block_in, OpensAs}
use Rattle.bitmap_rules.specs.BitmapRules.{bitmap_chunk, bitmap_count, bitmap_opened, bitmap_rules}

-- an opening that was granted
pub record IsOpened (p : Opening) (t' : LayerModel) (m' : Memory) : Type 0 where
  pub after : Opened
  pub granted : p ≡ Ok after
  pub state : state_of t' m' ≡ after.state
  pub cells : m'.cells ≡ after.cells

pub granted-by : (p : Opening) (t' : LayerModel) (m m' : Memory) (d : Unit {0}) → OpensAs p t' m m' (Ok d) → IsOpened p t' m'
granted-by (Ok o) t' m m' d h = record { after = o; granted = refl; state = h.0; cells = h.1 }
granted-by (Err k) t' m m' d h = absurd h

-- an opening that was refused
pub record IsRefused (p : Opening) (m m' : Memory) (node : ℕ) : Type 0 where
  pub refused : p ≡ Err node
  pub cells : m'.cells ≡ m.cells

pub refused-by : (p : Opening) (t' : LayerModel) (m m' : Memory) (r : Refused) → OpensAs p t' m m' (Err r) → IsRefused p m m' r.node
refused-by (Ok o) t' m m' r h = absurd h
refused-by (Err k) t' m m' r h = record { refused = ap Err (sym h.0); cells = h.1 }

within : (o : Opening) (b : Bool) → b ≡ true → elim b as (λ _. Opening) [ true ↦ o | false ↦ Err 0 ] ≡ o
within o true e = refl
within o false e = absurd (cc)

within_limit-fits : (size : ℕ) (o : Opening) → size ≤ limit → within_limit size o ≡ o
within_limit-fits size o h = within o _ (grind (arith, nat_tests))

beyond : (o : Opening) (b : Bool) → b ≡ false → elim b as (λ _. Opening) [ true ↦ o | false ↦ Err 0 ] ≡ Err 0
beyond o true e = absurd (cc)
beyond o false e = refl

within_limit-refuses : (size : ℕ) (o : Opening) → limit < size → within_limit size o ≡ Err 0
within_limit-refuses size o h = beyond o _ (grind (arith, nat_tests))

given-none : (own : Block → Own) (r : After (Option Placed)) → block_in r.answer ≡ None → chunk_given own r ≡ Err 0
given-none own r h = by r r.answer refl h where
  by : (r : After (Option Placed)) (o : Option Placed) → r.answer ≡ o → block_in r.answer ≡ None → chunk_given own r ≡ Err 0
  by r None e h = ap (λ (o : Option Placed). elim o as (λ _. Opening) [ None ↦ Err 0 | Some p ↦ Ok (opened (open_with (own p.block) (one_child r.state)) r.cells) ]) e
  by r (Some p) e h = absurd (let z : Some p.block ≡ None = ap block_in (sym e) ∙ h in cc)

given-some : (own : Block → Own) (r : After (Option Placed)) (b : Block) → block_in r.answer ≡ Some b → chunk_given own r ≡ Ok (opened (open_with (own b) (one_child r.state)) r.cells)
given-some own r b h = by r r.answer refl h where
  by : (r : After (Option Placed)) (o : Option Placed) → r.answer ≡ o → block_in r.answer ≡ Some b → chunk_given own r ≡ Ok (opened (open_with (own b) (one_child r.state)) r.cells)
  by r None e h = absurd (let z : None ≡ Some b = ap block_in (sym e) ∙ h in cc)
  by r (Some p) e h =
      let z : p.block ≡ b = (let y : Some p.block ≡ Some b = ap block_in (sym e) ∙ h in cc) in
      ap (λ (o : Option Placed). elim o as (λ _. Opening) [ None ↦ Err 0 | Some p ↦ Ok (opened (open_with (own p.block) (one_child r.state)) r.cells) ]) e
      ∙ ap (λ (c : Block). Ok (opened (open_with (own c) (one_child r.state)) r.cells)) z

-- how many units there will be, and the chunk that they need
abbrev pub units_for : (unit count need : ℕ) → ℕ
units_for unit count need = bitmap_count unit count need

abbrev pub chunk_for : (unit count need : ℕ) → ℕ
chunk_for unit count need = bitmap_chunk unit (bitmap_count unit count need)

-- a chunk above the limit is refused at the bitmap
pub bitmap-too_long : (unit count need : ℕ) (e : Rules) (cells : Cells) → limit < chunk_for unit count need → (bitmap_rules unit count e).set_up need cells ≡ Err 0
unfolding bitmap_rules
bitmap-too_long unit count need e cells h = within_limit-refuses _ _ h

-- what the parent refuses to be opened with is refused one node further
pub bitmap-parent_refused : (unit count need node : ℕ) (e : Rules) (cells : Cells) → chunk_for unit count need ≤ limit → e.set_up (need_of need (chunk_for unit count need)) cells ≡ Err node → (bitmap_rules unit count e).set_up need cells ≡ Err (1 + node)
unfolding bitmap_rules
bitmap-parent_refused unit count need node e cells h q =
    let c = chunk_for unit count need in
    within_limit-fits _ _ h ∙ ap (λ p. then_open 1 p (λ o. chunk_given (bitmap_opened (units_for unit count need)) (e.allocate c o.state o.cells))) q

-- a chunk that the parent refuses is refused at the bitmap
pub bitmap-chunk_refused : (unit count need : ℕ) (e : Rules) (cells : Cells) (o : Opened) → chunk_for unit count need ≤ limit → e.set_up (need_of need (chunk_for unit count need)) cells ≡ Ok o
    → block_in (e.allocate (chunk_for unit count need) o.state o.cells).answer ≡ None → (bitmap_rules unit count e).set_up need cells ≡ Err 0
unfolding bitmap_rules
bitmap-chunk_refused unit count need e cells o h q n =
    let c = chunk_for unit count need in
    within_limit-fits _ _ h ∙ ap (λ p. then_open 1 p (λ o. chunk_given (bitmap_opened (units_for unit count need)) (e.allocate c o.state o.cells))) q ∙ given-none _ _ n

-- a chunk that the parent serves opens the bitmap
pub bitmap-granted : (unit count need : ℕ) (e : Rules) (cells : Cells) (o : Opened) (b : Block) → chunk_for unit count need ≤ limit → e.set_up (need_of need (chunk_for unit count need)) cells ≡ Ok o
    → block_in (e.allocate (chunk_for unit count need) o.state o.cells).answer ≡ Some b
    → (bitmap_rules unit count e).set_up need cells
    ≡ Ok (opened (open_with (bitmap_opened (units_for unit count need) b) (one_child (e.allocate (chunk_for unit count need) o.state o.cells).state)) (e.allocate (chunk_for unit count need) o.state o.cells).cells)
unfolding bitmap_rules
bitmap-granted unit count need e cells o b h q n =
    let c = chunk_for unit count need in
    within_limit-fits _ _ h ∙ ap (λ p. then_open 1 p (λ o. chunk_given (bitmap_opened (units_for unit count need)) (e.allocate c o.state o.cells))) q ∙ given-some _ _ b n
