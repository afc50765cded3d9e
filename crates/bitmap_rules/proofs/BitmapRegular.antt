-- A bitmap is regular over a regular parent.
use Rattle.std.proofs.Common.{◌≡◌, refl, sym, subst, ◌∙◌, ap, ap₂, ℕ, ◌+◌, ◌-◌, ◌*◌, ◌/◌, inl, inr, Bool, true, false, arith, max, Option, Some, None, is_none}
use Rattle.size_round.specs.Sizes.{ceil_div}
use Rattle.size_round.proofs.UpLeast.{enough_times}
use Rattle.space_core.specs.Cells.{Cells}
use Rattle.space_core.specs.Runs.{first_run, put_run}
use Rattle.layer_rules.specs.After.{After, after, Placed, refuse}
use Rattle.layer_rules.specs.Blocks.{block, end_of, with_len}
use Rattle.layer_rules.specs.Rules.{Rules}
use Rattle.layer_rules.specs.State.{State, Own, bitmap_own, base_of, chunk_of, units_of}
use Rattle.layer_rules.specs.UnitRows.{has_no_run}
use Rattle.layer_rules.specs.Units.{first_unit, unit_count, touched_block}
use Rattle.layer_rules.specs.declared.Block.{Block}
use Rattle.layer_laws.proofs.CarvingParts.{no-tail}
use Rattle.layer_laws.proofs.CarvingRegular.{carving-regular, carving-unranged}
use Rattle.layer_laws.proofs.GoodSizes.{power-alignment}
use Rattle.layer_laws.proofs.Requests.{is_refusal}
use Rattle.layer_laws.proofs.Uncounting.{base-uncounted, chunk-uncounted, units-uncounted}
use Rattle.layer_laws.proofs.Unreading.{base-unread, chunk-unread}
use Rattle.layer_laws.specs.Carves.{Serves, Changes, AnyPlace, AnyOwn, CarvesAnyhow, CarvesRegularly}
use Rattle.layer_laws.specs.Lawful.{UnrangedLaws}
use Rattle.bitmap_rules.specs.BitmapRules.{bitmap_allocate, bitmap_carving, bitmap_expand, bitmap_place_at, bitmap_rules, bitmap_take, bitmap_with, free_place, further_units_free}
use Rattle.bitmap_rules.specs.BitmapMeanings.{BitmapIsRegular, IsBitmapSize}

-- ---- what a call leaves

-- what it holds of its own with the units of a block taken or free
abbrev pub own_with : (taken : Bool) (unit : ℕ) → Block → State → Own
own_with taken unit b s = bitmap_own (chunk_of s) (base_of s) (put_run taken (first_unit unit (base_of s) b) (unit_count unit (base_of s) b) (units_of s))

-- a request of which it is known what holds where a place is found
pub bitmap-takes : (Fits : ℕ → Own → Type 0) (unit n : ℕ) (o : Option ℕ) (s : State) (cells : Cells) → ((p : ℕ) → o ≡ Some p → Fits p (own_with true unit (block p n) s)) → Serves Fits n s cells (bitmap_take unit n o s cells)
bitmap-takes Fits unit n None s cells h = inl refl
bitmap-takes Fits unit n (Some p) s cells h = inr (record { place = p; own = own_with true unit (block p n) s; leaves = refl; fits = h p refl })

-- the run that is found, and the place of its first unit
abbrev pub run_found : (unit n : ℕ) → State → Option ℕ
run_found unit n s = first_run (λ i. true) (ceil_div n unit) 0 (units_of s)

abbrev place_of : (unit base : ℕ) → Option ℕ → Option ℕ
place_of unit base None = None
place_of unit base (Some i) = Some (base + unit * i)

none-place : (unit base : ℕ) (o : Option ℕ) → is_none (place_of unit base o) ≡ is_none o
none-place unit base None = refl
none-place unit base (Some i) = refl

-- the least run is taken at its place
taken-at : (unit n : ℕ) (s : State) (cells : Cells) → bitmap_allocate unit n s cells ≡ bitmap_take unit n (place_of unit (base_of s) (run_found unit n s)) s cells
taken-at unit n s cells = go (run_found unit n s)
  where
    go : (o : Option ℕ) → elim o as (λ _. After (Option Placed)) [ None ↦ refuse s cells | Some i ↦ bitmap_take unit n (Some (base_of s + unit * i)) s cells ] ≡ bitmap_take unit n (place_of unit (base_of s) o) s cells
    go None = refl
    go (Some i) = refl

pub bitmap-serves : (Fits : ℕ → Own → Type 0) (unit n : ℕ) (s : State) (cells : Cells) → ((i : ℕ) → run_found unit n s ≡ Some i → (let p = base_of s + unit * i in Fits p (own_with true unit (block p n) s)))
    → Serves Fits n s cells (bitmap_allocate unit n s cells)
bitmap-serves Fits unit n s cells h =
    subst (Serves Fits n s cells) (sym (taken-at unit n s cells)) (bitmap-takes Fits unit n (place_of unit (base_of s) (run_found unit n s)) s cells (λ p q. of-run (run_found unit n s) h p q))
  where
    of-run : (o : Option ℕ) → ((i : ℕ) → o ≡ Some i → (let p = base_of s + unit * i in Fits p (own_with true unit (block p n) s))) → (p : ℕ) → place_of unit (base_of s) o ≡ Some p → Fits p (own_with true unit (block p n) s)
    of-run None k p q = absurd (cc)
    of-run (Some i) k p q = let y : base_of s + unit * i ≡ p = cc in subst (λ p. Fits p (own_with true unit (block p n) s)) y (k i refl)

pub bitmap-expands : (Fits : Own → Type 0) (unit delta : ℕ) (b : Block) (s : State) (cells : Cells) → (further_units_free unit (b.len + delta) b s ≡ true → Fits (own_with true unit (with_len b (b.len + delta)) s))
    → Changes Fits s cells (bitmap_expand unit delta b s cells)
bitmap-expands Fits unit delta b s cells h = go (further_units_free unit (b.len + delta) b s) h
  where
    go : (x : Bool) → (x ≡ true → Fits (own_with true unit (with_len b (b.len + delta)) s))
        → Changes Fits s cells (elim x as (λ _. After Bool) [ true ↦ after true (bitmap_with true unit (with_len b (b.len + delta)) s) cells | false ↦ after false s cells ])
    go true k = inr (record { own = own_with true unit (with_len b (b.len + delta)) s; leaves = refl; fits = k refl })
    go false k = inl refl

-- ---- when a request is refused

none-take : (unit n : ℕ) (o : Option ℕ) (s : State) (cells : Cells) → is_refusal (bitmap_take unit n o s cells) ≡ is_none o
none-take unit n None s cells = refl
none-take unit n (Some p) s cells = refl

none-allocate : (unit n : ℕ) (s : State) (cells : Cells) → is_refusal (bitmap_allocate unit n s cells) ≡ has_no_run (ceil_div n unit) (units_of s)
none-allocate unit n s cells =
    ap is_refusal (taken-at unit n s cells) ∙ none-take unit n (place_of unit (base_of s) (run_found unit n s)) s cells ∙ none-place unit (base_of s) (run_found unit n s)

-- ---- what the kit asks

bitmap-anyhow : (unit count : ℕ) → CarvesAnyhow (bitmap_carving unit count)
bitmap-anyhow unit count = record {
  changes = record {
    allocate = λ n s cells. bitmap-serves AnyPlace unit n s cells (λ i q. tt);
    aligned_allocate = λ n a s cells. bitmap-takes AnyPlace unit n (bitmap_place_at unit n (max a 16) s) s cells (λ p q. tt);
    expand = λ delta b s cells. bitmap-expands AnyOwn unit delta b s cells (λ q. tt);
    deallocate = λ b s cells. inr (record { own = own_with false unit b s; leaves = refl; fits = tt });
  };
  goes_by = record {
    read = λ k x y. refl;
    room = λ own. ap₂ (λ (base : ℕ) (d : Block). block base (unit * ((end_of d - base) / unit))) (base-unread own) (chunk-unread own);
    extent = λ b own. ap (λ (base : ℕ). touched_block unit base b) (base-unread own);
    room_uncounted = λ own. ap₂ (λ (base : ℕ) (d : Block). block base (unit * ((end_of d - base) / unit))) (base-uncounted own) (chunk-uncounted own);
    refuses = λ n own. ap (has_no_run (ceil_div n unit)) (units-uncounted own);
    refuses_aligned = λ n a own. ap₂ (λ (base : ℕ) us. is_none (free_place unit n (max a 16) base us)) (base-uncounted own) (units-uncounted own);
  };
  tail = no-tail (bitmap_carving unit count) (λ s. refl);
}

pub bitmap-regularly : (unit count : ℕ) (e : Rules) → IsBitmapSize unit count e → CarvesRegularly (bitmap_carving unit count)
bitmap-regularly unit count e w =
    let least = w.unit_least in
    record {
      anyhow = bitmap-anyhow unit count;
      tells = record {
        enough = λ n. enough_times n unit (omega arith);
        aligned = power-alignment 16 (4, refl) (omega arith);
        none = λ n s cells l t. none-allocate unit n s cells;
        none_aligned = λ o n a s cells l. none-take unit n (bitmap_place_at unit n (max a 16) s) s cells;
      };
    }

-- whatever its numbers
pub bitmap-unranged : (unit count : ℕ) (e : Rules) → UnrangedLaws e → UnrangedLaws (bitmap_rules unit count e)
unfolding bitmap_rules
bitmap-unranged unit count e p = carving-unranged (bitmap_carving unit count) e (bitmap-anyhow unit count) p

pub bitmap_is_regular : BitmapIsRegular
unfolding bitmap_rules
bitmap_is_regular unit count e w p = carving-regular (bitmap_carving unit count) e (bitmap-regularly unit count e w) p
