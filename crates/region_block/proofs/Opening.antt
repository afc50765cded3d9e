-- Opening a region: what the rule gives, by what its parent does.
use Rattle.std.proofs.Common.{◌≡◌, refl, sym, ◌∙◌, ap, ℕ, ◌≤◌, Bool, true, false, Option, Some, None, Ok, Err, arith}
use Rattle.std.proofs.lemmas.Bool.Decides.{nat_tests}
use Rattle.size_round.specs.Sizes.{limit}
use Rattle.space_core.specs.Cells.{Cells}
use Rattle.space_core.specs.Memory.{Memory}
use Rattle.layer_rules.specs.declared.Block.{Block}
use Rattle.layer_rules.specs.declared.Refused.{Refused}
use Rattle.layer_rules.specs.Rules.{Rules}
use Rattle.region_rules.specs.RegionRules.{region_rules}
use Rattle.layer_rules.specs.State.{open_with, region_own, one_child}
use Rattle.layer_rules.specs.After.{After, Placed, Opened, opened, Opening}
use Rattle.region_rules.specs.RegionRules.{region_chunk, region_opened}
use Rattle.layer_rules.specs.Setting.{need_of, within_limit, chunk_given, then_open}
use Rattle.layer_rules.specs.Layering.{LayerModel, state_of, block_in, OpensAs}

-- an opening that was granted
pub record IsOpened (p : Opening) (t' : LayerModel) (m' : Memory) : Type 0 where
  pub after : Opened
  pub granted : p ≡ Ok after
  pub state : state_of t' m' ≡ after.state
  pub cells : m'.cells ≡ after.cells

pub granted-by : (p : Opening) (t' : LayerModel) (m m' : Memory) (d : Unit {0}) → OpensAs p t' m m' (Ok d) → IsOpened p t' m'
granted-by (Ok o) t' m m' d h = record { after = o; granted = refl; state = h.0; cells = h.1 }
granted-by (Err k) t' m m' d h = absurd h

-- an opening that was refused
pub record IsRefused (p : Opening) (m m' : Memory) (node : ℕ) : Type 0 where
  pub refused : p ≡ Err node
  pub cells : m'.cells ≡ m.cells

pub refused-by : (p : Opening) (t' : LayerModel) (m m' : Memory) (r : Refused) → OpensAs p t' m m' (Err r) → IsRefused p m m' r.node
refused-by (Ok o) t' m m' r h = absurd h
refused-by (Err k) t' m m' r h = record { refused = ap Err (sym h.0); cells = h.1 }

within : (size : ℕ) (o : Opening) (b : Bool) → b ≡ true → elim b as (λ _. Opening) [ true ↦ o | false ↦ Err 0 ] ≡ o
within size o true e = refl
within size o false e = absurd (cc)

pub within_limit-fits : (size : ℕ) (o : Opening) → size ≤ limit → within_limit size o ≡ o
within_limit-fits size o h = within size o _ (grind (arith, nat_tests))

given-none : (r : After (Option Placed)) → block_in r.answer ≡ None → chunk_given region_opened r ≡ Err 0
given-none r h = by r r.answer refl h where
  by : (r : After (Option Placed)) (o : Option Placed) → r.answer ≡ o → block_in r.answer ≡ None → chunk_given region_opened r ≡ Err 0
  by r None e h = ap (λ (o : Option Placed). elim o as (λ _. Opening) [ None ↦ Err 0 | Some p ↦ Ok (opened (open_with (region_opened p.block) (one_child r.state)) r.cells) ]) e
  by r (Some p) e h = absurd (let z : Some p.block ≡ None = ap block_in (sym e) ∙ h in cc)

given-some : (r : After (Option Placed)) (b : Block) → block_in r.answer ≡ Some b → chunk_given region_opened r ≡ Ok (opened (open_with (region_opened b) (one_child r.state)) r.cells)
given-some r b h = by r r.answer refl h where
  by : (r : After (Option Placed)) (o : Option Placed) → r.answer ≡ o → block_in r.answer ≡ Some b → chunk_given region_opened r ≡ Ok (opened (open_with (region_opened b) (one_child r.state)) r.cells)
  by r None e h = absurd (let z : None ≡ Some b = ap block_in (sym e) ∙ h in cc)
  by r (Some p) e h =
      let z : p.block ≡ b = (let y : Some p.block ≡ Some b = ap block_in (sym e) ∙ h in cc) in
      ap (λ (o : Option Placed). elim o as (λ _. Opening) [ None ↦ Err 0 | Some p ↦ Ok (opened (open_with (region_opened p.block) (one_child r.state)) r.cells) ]) e
      ∙ ap (λ (c : Block). Ok (opened (open_with (region_opened c) (one_child r.state)) r.cells)) z

-- a chunk that the parent refuses is refused at the region
pub region-chunk_refused : (size align need : ℕ) (e : Rules) (cells : Cells) (o : Opened) → region_chunk size align need ≤ limit → e.set_up (need_of need (region_chunk size align need)) cells ≡ Ok o
    → block_in (e.allocate (region_chunk size align need) o.state o.cells).answer ≡ None → (region_rules size align e).set_up need cells ≡ Err 0
unfolding region_rules
region-chunk_refused size align need e cells o h q n =
    within_limit-fits _ _ h ∙ ap (λ p. then_open 1 p (λ o. chunk_given region_opened (e.allocate (region_chunk size align need) o.state o.cells))) q ∙ given-none _ n

-- a chunk that the parent serves opens the region
pub region-granted : (size align need : ℕ) (e : Rules) (cells : Cells) (o : Opened) (b : Block) → region_chunk size align need ≤ limit → e.set_up (need_of need (region_chunk size align need)) cells ≡ Ok o
    → block_in (e.allocate (region_chunk size align need) o.state o.cells).answer ≡ Some b
    → (region_rules size align e).set_up need cells ≡ Ok (opened (open_with (region_own b b.place) (one_child (e.allocate (region_chunk size align need) o.state o.cells).state)) (e.allocate (region_chunk size align need) o.state o.cells).cells)
unfolding region_rules
region-granted size align need e cells o b h q n =
    within_limit-fits _ _ h ∙ ap (λ p. then_open 1 p (λ o. chunk_given region_opened (e.allocate (region_chunk size align need) o.state o.cells))) q ∙ given-some _ b n
