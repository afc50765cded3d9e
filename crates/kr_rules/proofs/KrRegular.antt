-- A kr is regular over a regular parent.
use Rattle.std.proofs.Common.{◌≡◌, refl, ◌∙◌, ap, ap₂, ℕ, ◌+◌, ◌*◌, ◌/◌, inl, inr, Bool, true, false, ◌&&◌, not, arith, [], Option, Some, None, is_none}
use Rattle.size_round.specs.Sizes.{ceil_div, up}
use Rattle.size_round.proofs.UpLeast.{enough_times}
use Rattle.space_core.specs.Cells.{Cells}
use Rattle.space_core.specs.Runs.{first_run, put_run}
use Rattle.layer_rules.specs.After.{After, Placed, after, placed, refuse}
use Rattle.layer_rules.specs.Blocks.{block}
use Rattle.layer_rules.specs.Rules.{Rules}
use Rattle.layer_rules.specs.State.{Own, State, chunk_in, chunk_of, kr_own, list_mode, mode_in, mode_of, position_in, position_of, region_mode, uncounted, units_in, units_of, with_own}
use Rattle.layer_rules.specs.Testing.{on_open}
use Rattle.layer_rules.specs.UnitRows.{has_no_run}
use Rattle.layer_laws.proofs.CarvingRegular.{carving-regular, carving-unranged}
use Rattle.layer_laws.proofs.GoodSizes.{power-alignment}
use Rattle.layer_laws.proofs.Requests.{is_refusal}
use Rattle.layer_laws.proofs.Uncounting.{chunk-uncounted, same-chunk, same-mode, same-open, same-position, same-units, units-uncounted}
use Rattle.layer_laws.proofs.Unreading.{chunk-unread}
use Rattle.layer_laws.specs.Carves.{Serves, AnyPlace, CarvesAnyhow, CarvesRegularly}
use Rattle.layer_laws.specs.Lawful.{UnrangedLaws}
use Rattle.kr_rules.specs.KrMeanings.{KrIsRegular}
use Rattle.kr_rules.proofs.KrParts.{kr-of, tail_if-parts, tail_if-whole}
use Rattle.kr_rules.specs.KrRules.{has_free_tail_if, kr_allocate, kr_carving, kr_put, kr_rules, kr_tail_fits, tail_is_free}
use Rattle.kr_rules.proofs.KrTails.{kr-tails, own-opened, own-tail, tail-or-run}

-- ---- a request, by its two searches

-- what it holds of its own then: served from the tail, or from the run that was found
abbrev pub own_tail : (size : ℕ) → State → Own
own_tail size s = kr_own (chunk_of s) region_mode (position_of s + size) (kr_put true (position_of s) size s)

abbrev pub own_run : (size i : ℕ) → State → Own
own_run size i s = kr_own (chunk_of s) list_mode (position_of s) (put_run true i (size / 16) (units_of s))

-- what a run that is found gives
abbrev listed : (size n : ℕ) → State → Cells → Option ℕ → After (Option Placed)
listed size n s cells o = elim o [
  | None ↦ refuse s cells
  | Some i ↦ after (Some (placed (block ((chunk_of s).place + 16 * i) n) [])) (with_own s (own_run size i s)) cells
]

-- and what a request gives, by whether the tail has room
abbrev served : (size n : ℕ) → State → Cells → Bool → Option ℕ → After (Option Placed)
served size n s cells fits o = elim fits [
  | true ↦ after (Some (placed (block (position_of s) n) [])) (with_own s (own_tail size s)) cells
  | false ↦ listed size n s cells o
]

-- the run that is found
abbrev pub run_found : (size : ℕ) → State → Option ℕ
run_found size s = first_run (λ i. true) (size / 16) 0 (units_of s)

-- a request of which it is known what holds where the tail has room, and where a run is found
pub kr-serves : (Fits : ℕ → Own → Type 0) (size n : ℕ) (s : State) (cells : Cells) → (kr_tail_fits size s ≡ true → Fits (position_of s) (own_tail size s))
    → ((i : ℕ) → run_found size s ≡ Some i → Fits ((chunk_of s).place + 16 * i) (own_run size i s)) → Serves Fits n s cells (kr_allocate size n s cells)
kr-serves Fits size n s cells h k = go (kr_tail_fits size s) (run_found size s) h k
  where
    go : (x : Bool) (o : Option ℕ) → (x ≡ true → Fits (position_of s) (own_tail size s)) → ((i : ℕ) → o ≡ Some i → Fits ((chunk_of s).place + 16 * i) (own_run size i s)) → Serves Fits n s cells (served size n s cells x o)
    go true o h k = inr (record { place = position_of s; own = own_tail size s; leaves = refl; fits = h refl })
    go false None h k = inl refl
    go false (Some i) h k = inr (record { place = (chunk_of s).place + 16 * i; own = own_run size i s; leaves = refl; fits = k i refl })

none-served : (size n : ℕ) (s : State) (cells : Cells) (x : Bool) (o : Option ℕ) → is_refusal (served size n s cells x o) ≡ (not x && is_none o)
none-served size n s cells true o = refl
none-served size n s cells false None = refl
none-served size n s cells false (Some i) = refl

none-allocate : (size n : ℕ) (s : State) (cells : Cells) → is_refusal (kr_allocate size n s cells) ≡ (not (kr_tail_fits size s) && has_no_run (size / 16) (units_of s))
none-allocate size n s cells = none-served size n s cells (kr_tail_fits size s) (run_found size s)

-- ---- its tail goes by no statistics

same-tail : (s u : State) → uncounted s ≡ uncounted u → tail_is_free s ≡ tail_is_free u
same-tail s u q =
    ap (λ m. has_free_tail_if m (chunk_of s) (position_of s) (units_of s)) (same-mode s u q)
    ∙ ap (λ c. has_free_tail_if (mode_of u) c (position_of s) (units_of s)) (same-chunk s u q)
    ∙ ap₂ (λ (p : ℕ) us. has_free_tail_if (mode_of u) (chunk_of u) p us) (same-position s u q) (same-units s u q)

same-own_tail : (s u : State) → uncounted s ≡ uncounted u → on_open s (tail_is_free s) ≡ on_open u (tail_is_free u)
same-own_tail s u q = ap₂ (λ (o x : Bool). elim o as (λ _. Bool) [ true ↦ x | false ↦ true ]) (same-open s u q) (same-tail s u q)

-- ---- what the kit asks

kr-anyhow : (size : ℕ) → CarvesAnyhow (kr_carving size)
kr-anyhow size = record {
  changes = record {
    allocate = λ n s cells. kr-serves AnyPlace (up n 16) n s cells (λ q. tt) (λ i q. tt);
    aligned_allocate = λ n a s cells. inl refl;
    expand = λ delta b s cells. inl refl;
    deallocate = λ b s cells. inr (record { own = kr_own (chunk_of s) (mode_of s) (position_of s) (kr_put false b.place (up b.len 16) s); leaves = refl; fits = tt });
  };
  goes_by = record {
    read = λ k x y. refl;
    room = chunk-unread;
    extent = λ b own. refl;
    room_uncounted = chunk-uncounted;
    refuses = λ n own. ap (has_no_run (up n 16 / 16)) (units-uncounted own);
    refuses_aligned = λ n a own. refl;
  };
  tail = record {
    shut = refl;
    first = λ need chunk t. own-opened chunk;
    passes = λ own t k p. tail_if-whole (mode_in own) (chunk_in own) (position_in own) (units_in own) (kr-of size (chunk_in own) (mode_in own) (position_in own) (units_in own) p).tail;
    allocate = λ n s cells h. kr-tails (ceil_div n 16) n s cells h;
    uncounted = same-own_tail;
  };
}

pub kr-regularly : (size : ℕ) → CarvesRegularly (kr_carving size)
kr-regularly size = record {
  anyhow = kr-anyhow size;
  tells = record {
    enough = λ n. enough_times n 16 (omega arith);
    aligned = power-alignment 16 (4, refl) (omega arith);
    none = λ n s cells l t. none-allocate (up n 16) n s cells ∙ tail-or-run n s (tail_if-parts (mode_of s) (chunk_of s) (position_of s) (units_of s) (own-tail s t)) l;
    none_aligned = λ o n a s cells l. refl;
  };
}

pub kr-unranged : (size : ℕ) (e : Rules) → UnrangedLaws e → UnrangedLaws (kr_rules size e)
unfolding kr_rules
kr-unranged size e p = carving-unranged (kr_carving size) e (kr-anyhow size) p

-- over a regular parent
pub kr_is_regular : KrIsRegular
unfolding kr_rules
kr_is_regular size e p = carving-regular (kr_carving size) e (kr-regularly size) p
