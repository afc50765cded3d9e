-- The tail of a kr: while it is served from it is free, a request and setting up keep that, and where it has no room a run of free units is asked.
use Rattle.std.proofs.Common.{◌≡◌, refl, sym, ◌∙◌, ap, subst, ℕ, zero, suc, ◌+◌, ◌-◌, ◌*◌, ◌/◌, ◌≤◌, Bool, true, false, not, ◌&&◌, List, [], ◌∷◌, Option, Some, None, drop, is_none, nat_le, replicate, arith}
use Rattle.std.proofs.lemmas.Bool.Decides.{nat_tests}
use Rattle.std.proofs.lemmas.List.{drop-drop}
use Rattle.size_round.specs.Sizes.{up}
use Rattle.space_core.specs.Cells.{Cells}
use Rattle.space_core.specs.Runs.{first_run, put_run, starts_free}
use Rattle.layer_rules.specs.After.{After, Placed, after, placed, refuse}
use Rattle.layer_rules.specs.Allocating.{over_limit_or}
use Rattle.layer_rules.specs.Blocks.{block, end_of}
use Rattle.layer_rules.specs.State.{State, chunk_in, chunk_of, closed, kr_own, list_mode, mode_in, mode_of, open_with, position_in, position_of, region_mode, units_in, units_of, with_own}
use Rattle.layer_rules.specs.Testing.{on_open}
use Rattle.layer_rules.specs.UnitRows.{has_no_run}
use Rattle.layer_rules.specs.declared.Block.{Block}
use Rattle.layer_laws.proofs.Basics.{and-fst, and-snd}
use Rattle.kr_rules.specs.KrMeanings.{HasFreeTail, KrTailFirst}
use Rattle.kr_rules.proofs.KrParts.{tail-whole, tail_if-parts}
use Rattle.kr_rules.specs.KrRules.{has_free_tail_if, kr_allocate, kr_put, kr_rules, kr_tail_fits, serves_tail, tail_is_free}

-- ---- rows of units

drop-put_run : {A : Type 0} (x : A) (i k : ℕ) (us : List A) (m : ℕ) → m ≡ i + k → drop m (put_run x i k us) ≡ drop m us
unfolding put_run
drop-put_run x zero zero us m e = refl
drop-put_run x zero (suc k) [] m e = refl
drop-put_run x zero (suc k) (u ∷ us) zero e = absurd (omega arith)
drop-put_run x zero (suc k) (u ∷ us) (suc m) e = drop-put_run x zero k us m (omega arith)
drop-put_run x (suc i) k [] m e = refl
drop-put_run x (suc i) k (u ∷ us) zero e = absurd (omega arith)
drop-put_run x (suc i) k (u ∷ us) (suc m) e = drop-put_run x i k us m (omega arith)

-- of free units those behind the first k are free too
starts_free-drop : (k r m : ℕ) (us : List Bool) → m ≡ k + r → starts_free m us ≡ true → starts_free r (drop k us) ≡ true
unfolding starts_free
starts_free-drop zero r m us e h = let q : m ≡ r = omega arith in subst (λ (x : ℕ). starts_free x us ≡ true) q h
starts_free-drop (suc k) r zero us e h = absurd (omega arith)
starts_free-drop (suc k) r (suc m) [] e h = cc
starts_free-drop (suc k) r (suc m) (true ∷ us) e h = cc
starts_free-drop (suc k) r (suc m) (false ∷ us) e h = starts_free-drop k r m us (omega arith) h

starts_free-replicate : (n : ℕ) → starts_free n (replicate n false) ≡ true
unfolding starts_free
starts_free-replicate zero = refl
starts_free-replicate (suc n) = starts_free-replicate n

-- fewer units from the same one on are free too
starts_free-fewer : (k m : ℕ) (us : List Bool) → k ≤ m → starts_free m us ≡ true → starts_free k us ≡ true
unfolding starts_free
starts_free-fewer zero m us h e = refl
starts_free-fewer (suc k) zero us h e = absurd (omega arith)
starts_free-fewer (suc k) (suc m) [] h e = e
starts_free-fewer (suc k) (suc m) (true ∷ us) h e = e
starts_free-fewer (suc k) (suc m) (false ∷ us) h e = starts_free-fewer k m us (omega arith) e

-- a run that stands somewhere is found
found_run : (k j i : ℕ) (us : List Bool) → starts_free (suc k) (drop i us) ≡ true → is_none (first_run (λ i. true) (suc k) j us) ≡ false
unfolding starts_free first_run
found_run k j zero [] e = sym e
found_run k j (suc i) [] e = sym e
found_run k j zero (u ∷ us) e = go (starts_free (suc k) (u ∷ us)) e
  where
    go : (b : Bool) → b ≡ true → is_none (elim b [ true ↦ Some j | false ↦ first_run (λ i. true) (suc k) (suc j) us ]) ≡ false
    go true h = refl
    go false h = cc
found_run k j (suc i) (u ∷ us) e = go (starts_free (suc k) (u ∷ us)) (found_run k (suc j) i us e)
  where
    go : (b : Bool) → is_none (first_run (λ i. true) (suc k) (suc j) us) ≡ false → is_none (elim b [ true ↦ Some j | false ↦ first_run (λ i. true) (suc k) (suc j) us ]) ≡ false
    go true h = refl
    go false h = h

run_of : (n k i : ℕ) (us : List Bool) → n ≡ suc k → starts_free n (drop i us) ≡ true → has_no_run n us ≡ false
run_of zero k i us e h = absurd (omega arith)
run_of (suc n) k i us e h = found_run n 0 i us h

-- ---- a tail

-- the tail behind the first k of its free units
rest_is_free : (us : List Bool) (i k r m j : ℕ) → j ≡ i + k → m ≡ k + r → starts_free m (drop i us) ≡ true → starts_free r (drop j (put_run true i k us)) ≡ true
rest_is_free us i k r m j e q h =
    let free = starts_free-drop k r m (drop i us) q h in
    subst (λ (vs : List Bool). starts_free r vs ≡ true) (drop-drop k i us ∙ ap (λ n. drop n us) (sym e) ∙ sym (drop-put_run true i k us j e)) free

pub tail-taken : (chunk : Block) (position c : ℕ) (us : List Bool) → position + c * 16 ≤ end_of chunk → HasFreeTail chunk position us
    → HasFreeTail chunk (position + c * 16) (put_run true ((position - chunk.place) / 16) ((c * 16) / 16) us)
tail-taken chunk position c us room h = record {
  start = omega (arith, h.start);
  stop = room;
  aligned = grind (arith, h.start, h.aligned);
  free =
      rest_is_free us ((position - chunk.place) / 16) ((c * 16) / 16) ((end_of chunk - (position + c * 16)) / 16) ((end_of chunk - position) / 16) ((position + c * 16 - chunk.place) / 16)
      (omega (arith, h.start, h.aligned)) (omega (arith, h.start, h.aligned)) h.free;
}

pub tail-opened : (chunk : Block) → HasFreeTail chunk chunk.place (replicate (chunk.len / 16) false)
tail-opened chunk =
    let none : (chunk.place - chunk.place) / 16 ≡ 0 = omega arith in
    let all : (end_of chunk - chunk.place) / 16 ≡ chunk.len / 16 = omega arith in
    record {
      start = omega arith;
      stop = omega arith;
      aligned = omega arith;
      free = rw (none, all) (starts_free-replicate (chunk.len / 16));
    }

-- ---- what a kr has of its own

-- the tail is free where the kr is open and serves from it
abbrev pub HasOwnTail : State → Type 0
HasOwnTail s = on_open s (tail_is_free s) ≡ true

abbrev HasOwnTailAfter : After (Option Placed) → Type 0
HasOwnTailAfter r = HasOwnTail r.state

-- a closed kr has no tail
pub own-tail : (s : State) → HasOwnTail s → tail_is_free s ≡ true
unfolding starts_free
own-tail closed h = refl
own-tail (open_with own ss) h = h

pub own-opened : (chunk : Block) → has_free_tail_if region_mode chunk chunk.place (replicate (chunk.len / 16) false) ≡ true
own-opened chunk = tail-whole chunk chunk.place (replicate (chunk.len / 16) false) (tail-opened chunk)

-- the size fits in the tail, which is served from
pub record FitsTail (size : ℕ) (s : State) : Type 0 where
  pub served : serves_tail (mode_of s) ≡ true
  pub room : position_of s + size ≤ end_of (chunk_of s)

pub fits-parts : (size : ℕ) (s : State) → kr_tail_fits size s ≡ true → FitsTail size s
fits-parts size s h =
    let room : nat_le (position_of s + size) (end_of (chunk_of s)) ≡ true = and-snd (serves_tail (mode_of s)) (nat_le (position_of s + size) (end_of (chunk_of s))) h in
    record { served = and-fst (serves_tail (mode_of s)) (nat_le (position_of s + size) (end_of (chunk_of s))) h; room = grind (arith, nat_tests) }

-- served from the tail
kr-served : (c : ℕ) (s : State) → kr_tail_fits (c * 16) s ≡ true → HasOwnTail s → HasOwnTail (with_own s (kr_own (chunk_of s) region_mode (position_of s + c * 16) (kr_put true (position_of s) (c * 16) s)))
kr-served c closed q h = h
kr-served c (open_with own ss) q h =
    let f = fits-parts (c * 16) (open_with own ss) q in
    let t = tail-taken (chunk_in own) (position_in own) c (units_in own) f.room (tail_if-parts (mode_in own) (chunk_in own) (position_in own) (units_in own) h f.served) in
    tail-whole (chunk_in own) (position_in own + c * 16) (put_run true ((position_in own - (chunk_in own).place) / 16) ((c * 16) / 16) (units_in own)) t

-- in list mode
kr-listed : (chunk : Block) (position : ℕ) (us : List Bool) (s : State) → HasOwnTail (with_own s (kr_own chunk list_mode position us))
kr-listed chunk position us closed = refl
kr-listed chunk position us (open_with own ss) = refl

-- a request keeps it
pub kr-tails : (c n : ℕ) (s : State) (cells : Cells) → HasOwnTail s → HasOwnTail (kr_allocate (c * 16) n s cells).state
kr-tails c n s cells h = go (kr_tail_fits (c * 16) s) refl
  where
    inner : (o : Option ℕ) → HasOwnTailAfter (elim o [
      | None ↦ refuse s cells
      | Some i ↦ after (Some (placed (block ((chunk_of s).place + 16 * i) n) [])) (with_own s (kr_own (chunk_of s) list_mode (position_of s) (put_run true i ((c * 16) / 16) (units_of s)))) cells
    ])
    inner None = h
    inner (Some i) = kr-listed (chunk_of s) (position_of s) (put_run true i ((c * 16) / 16) (units_of s)) s

    go : (b : Bool) → kr_tail_fits (c * 16) s ≡ b → HasOwnTailAfter (elim b [
      | true ↦ after (Some (placed (block (position_of s) n) [])) (with_own s (kr_own (chunk_of s) region_mode (position_of s + c * 16) (kr_put true (position_of s) (c * 16) s))) cells
      | false ↦ elim (first_run (λ i. true) ((c * 16) / 16) 0 (units_of s)) [
        | None ↦ refuse s cells
        | Some i ↦ after (Some (placed (block ((chunk_of s).place + 16 * i) n) [])) (with_own s (kr_own (chunk_of s) list_mode (position_of s) (put_run true i ((c * 16) / 16) (units_of s)))) cells
      ]
    ])
    go true q = kr-served c s q h
    go false q = inner (first_run (λ i. true) ((c * 16) / 16) 0 (units_of s))

-- ---- when a request is refused

-- where this kr still serves from its tail, the tail is free
abbrev pub TailIsFree : State → Type 0
TailIsFree s = serves_tail (mode_of s) ≡ true → HasFreeTail (chunk_of s) (position_of s) (units_of s)

-- where the tail has room, a run is there
pub tail_has_run : (s : State) (n : ℕ) → TailIsFree s → 16 ≤ n → kr_tail_fits n s ≡ true → has_no_run (n / 16) (units_of s) ≡ false
tail_has_run s n free h e =
    let f = fits-parts n s e in
    let room = f.room in
    let tail = free f.served in
    let i = (position_of s - (chunk_of s).place) / 16 in
    run_of (n / 16) (n / 16 - 1) i (units_of s) (omega arith)
    (starts_free-fewer (n / 16) ((end_of (chunk_of s) - position_of s) / 16) (drop i (units_of s)) (omega arith) tail.free)

-- neither the tail nor a run of free units is long enough exactly where no run is
pub tail-or-run : (n : ℕ) (s : State) → TailIsFree s → 1 ≤ n → (not (kr_tail_fits (up n 16) s) && has_no_run (up n 16 / 16) (units_of s)) ≡ has_no_run (up n 16 / 16) (units_of s)
tail-or-run n s free h = go (kr_tail_fits (up n 16) s) refl
  where
    whole : 16 ≤ up n 16
    whole = grind arith

    go : (b : Bool) → kr_tail_fits (up n 16) s ≡ b → (not b && has_no_run (up n 16 / 16) (units_of s)) ≡ has_no_run (up n 16 / 16) (units_of s)
    go true q = sym (tail_has_run s (up n 16) free whole q)
    go false q = refl

pub kr_tail_first : KrTailFirst
unfolding kr_rules
kr_tail_first size e n s cells k h = ap (over_limit_or n) (sym (tail-or-run n s k.tail h))
