-- A region is regular over a regular parent.
use Rattle.std.proofs.Common.{◌≡◌, refl, ap₂, ℕ, ◌≤◌, ◌+◌, inl, inr, Bool, true, false, not, arith, [], Option, Some, nat_le, max}
use Rattle.std.proofs.lemmas.Bool.Decides.{nat_tests}
use Rattle.size_round.specs.Sizes.{up}
use Rattle.size_round.proofs.UpLeast.{enough_times}
use Rattle.size_round.proofs.PowerLaws.{power_is_some}
use Rattle.space_core.specs.Cells.{Cells}
use Rattle.layer_rules.specs.declared.Block.{Block}
use Rattle.layer_rules.specs.After.{After, after, Placed, placed, refuse}
use Rattle.layer_rules.specs.Blocks.{block, end_of}
use Rattle.layer_rules.specs.Rules.{Rules}
use Rattle.layer_rules.specs.State.{State, Own, region_own, chunk_of, position_of, own_of, with_own}
use Rattle.layer_laws.proofs.CarvingParts.{no-tail}
use Rattle.layer_laws.proofs.CarvingRegular.{carving-regular, carving-unranged}
use Rattle.layer_laws.proofs.GoodSizes.{power-alignment}
use Rattle.layer_laws.proofs.Requests.{is_refusal}
use Rattle.layer_laws.proofs.Uncounting.{chunk-uncounted, position-uncounted}
use Rattle.layer_laws.proofs.Unreading.{chunk-unread}
use Rattle.layer_laws.specs.Carves.{Serves, Changes, AnyPlace, AnyOwn, CarvesAnyhow, CarvesRegularly}
use Rattle.layer_laws.specs.Lawful.{UnrangedLaws}
use Rattle.region_rules.specs.RegionRules.{region_allocate, is_last, region_is_full, region_carving, region_rules}
use Rattle.region_rules.specs.RegionMeanings.{IsRegionSize, RegionIsRegular}

-- ---- what a call leaves

-- a request of which it is known what holds where its size lies in the chunk
pub region-serves : (Fits : ℕ → Own → Type 0) (p size n : ℕ) (s : State) (cells : Cells) → (p + size ≤ end_of (chunk_of s) → Fits p (region_own (chunk_of s) (p + size))) → Serves Fits n s cells (region_allocate p size n s cells)
region-serves Fits p size n s cells h = go (nat_le (p + size) (end_of (chunk_of s))) (λ q. h (within _ _ q))
  where
    within : (x y : ℕ) → nat_le x y ≡ true → x ≤ y
    within x y q = grind (arith, nat_tests)

    go : (q : Bool) → (q ≡ true → Fits p (region_own (chunk_of s) (p + size)))
        → Serves Fits n s cells (elim q as (λ _. After (Option Placed)) [ true ↦ after (Some (placed (block p n) [])) (with_own s (region_own (chunk_of s) (p + size))) cells | false ↦ refuse s cells ])
    go true k = inr (record { place = p; own = region_own (chunk_of s) (p + size); leaves = refl; fits = k refl })
    go false k = inl refl

-- the position moves to p, or all stays
pub region-moves : (Fits : Own → Type 0) (p : ℕ) (done : Bool) (s : State) (cells : Cells) → (done ≡ true → Fits (region_own (chunk_of s) p))
    → Changes Fits s cells (elim done as (λ _. After Bool) [ true ↦ after true (with_own s (region_own (chunk_of s) p)) cells | false ↦ after false s cells ])
region-moves Fits p true s cells h = inr (record { own = region_own (chunk_of s) p; leaves = refl; fits = h refl })
region-moves Fits p false s cells h = inl refl

region-none : (p size n : ℕ) (s : State) (cells : Cells) → is_refusal (region_allocate p size n s cells) ≡ region_is_full p size (own_of s)
region-none p size n s cells = go (nat_le (p + size) (end_of (chunk_of s)))
  where
    go : (q : Bool) → is_refusal (elim q as (λ _. After (Option Placed)) [ true ↦ after (Some (placed (block p n) [])) (with_own s (region_own (chunk_of s) (p + size))) cells | false ↦ refuse s cells ]) ≡ not q
    go true = refl
    go false = refl

-- ---- what the kit asks

region-anyhow : (size align : ℕ) → CarvesAnyhow (region_carving size align)
region-anyhow size align = record {
  changes = record {
    allocate = λ n s cells. region-serves AnyPlace (position_of s) (up n align) n s cells (λ l. tt);
    aligned_allocate = λ n a s cells. region-serves AnyPlace (up (position_of s) (max a align)) (up n align) n s cells (λ l. tt);
    expand = λ delta b s cells. region-moves AnyOwn (b.place + up (b.len + delta) align) _ s cells (λ l. tt);
    deallocate = λ b s cells. region-moves AnyOwn b.place (is_last align b s) s cells (λ l. tt);
  };
  goes_by = record {
    read = λ k x y. refl;
    room = chunk-unread;
    extent = λ b own. refl;
    room_uncounted = chunk-uncounted;
    refuses = λ n own. ap₂ (λ (p : ℕ) (d : Block). not (nat_le (p + up n align) (end_of d))) (position-uncounted own) (chunk-uncounted own);
    refuses_aligned = λ n a own. ap₂ (λ (p : ℕ) (d : Block). not (nat_le (up p (max a align) + up n align) (end_of d))) (position-uncounted own) (chunk-uncounted own);
  };
  tail = no-tail (region_carving size align) (λ s. refl);
}

pub region-regularly : (size align : ℕ) (e : Rules) → IsRegionSize size align e → CarvesRegularly (region_carving size align)
region-regularly size align e w = record {
  anyhow = region-anyhow size align;
  tells = record {
    enough = λ n. enough_times n align (power_is_some align w.power);
    aligned = power-alignment align w.power (let m = w.align_most in omega arith);
    none = λ n s cells l t. region-none (position_of s) (up n align) n s cells;
    none_aligned = λ o n a s cells l. region-none (up (position_of s) (max a align)) (up n align) n s cells;
  };
}

-- whatever its numbers
pub region-unranged : (size align : ℕ) (e : Rules) → UnrangedLaws e → UnrangedLaws (region_rules size align e)
unfolding region_rules
region-unranged size align e p = carving-unranged (region_carving size align) e (region-anyhow size align) p

pub region_is_regular : RegionIsRegular
unfolding region_rules
region_is_regular size align e w p = carving-regular (region_carving size align) e (region-regularly size align e w) p
