-- The search for the least run, node by node from left to right.
use Rattle.std.proofs.Common.{ℕ, zero, suc, ◌≡◌, ◌+◌, ◌-◌, ◌*◌, ◌/◌, ◌^◌, ◌≤◌, ◌<◌, Bool, true, false, ◌&&◌, nat_eq, nat_le, cond, List, [], ◌∷◌, length, get_or, Some, None, refl, ap, sym, ◌∙◌, inl, inr, ◌⊎◌, arith}
use Rattle.std.proofs.lemmas.Bool.{cases_lt, and_from, and_left, and_right}
use Rattle.std.proofs.lemmas.Bool.Decides.{nat_tests}
use Rattle.std.proofs.lemmas.Nat.{pow_pos, pow-add}
use Rattle.std.proofs.lemmas.List.{get_or_past}
use Rattle.std.proofs.Math.Nat.{pow-suc, mul-le-mul_right}
use Rattle.std.proofs.Math.Pow.{pow_mono}
use Rattle.space_core.specs.Runs.{starts_free, first_run}
use Rattle.std.specs.Int.{IsPowerOfTwo}
use Rattle.space_core.proofs.CellRuns.{passed, found}
use Rattle.space_core.specs.declared.tree.Summary.{Summary}
use Rattle.space_core.specs.Summaries.{IsFree, IsSummary, SumsUp}
use Rattle.space_core.specs.Trees.{IsNode, IsTree, node_at}
use Rattle.space_core.proofs.Nodes.{twice}

pub both : {b : Bool} → b ≡ false → b ≡ true → ⊥
both x y = cc

-- ---- the first run, by what stands at each position

tail-free : (u : Bool) (us : List Bool) (c n : ℕ) → IsFree (u ∷ us) (suc c) n → IsFree us c n
tail-free u us c n h j a b = h (suc j) (omega arith) (omega arith)

free-starts : (n : ℕ) (us : List Bool) → IsFree us 0 n → starts_free n us ≡ true
unfolding starts_free
free-starts zero us h = refl
free-starts (suc n) [] h = absurd (both (h 0 (omega arith) (omega arith)) refl)
free-starts (suc n) (true ∷ us) h = absurd (both (h 0 (omega arith) (omega arith)) refl)
free-starts (suc n) (false ∷ us) h = free-starts n us (λ j a b. h (suc j) (omega arith) (omega arith))

starts-free : (n : ℕ) (us : List Bool) → starts_free n us ≡ true → IsFree us 0 n
unfolding starts_free
starts-free zero us e j a b = absurd (omega arith)
starts-free (suc n) [] e j a b = absurd (cc)
starts-free (suc n) (true ∷ us) e j a b = absurd (cc)
starts-free (suc n) (false ∷ us) e zero a b = refl
starts-free (suc n) (false ∷ us) e (suc j) a b = starts-free n us e j (omega arith) (omega arith)

test-false : (b : Bool) → (b ≡ true → ⊥) → b ≡ false
test-false true h = absurd (h refl)
test-false false h = refl

-- no run begins at the front that is allowed
none-here : (allowed : ℕ → Bool) (n i : ℕ) (us : List Bool) → (allowed i ≡ true → IsFree us 0 n → ⊥) → (allowed i && starts_free n us) ≡ false
none-here allowed n i us h = at (allowed i) refl
  where
    at : (b : Bool) → allowed i ≡ b → (allowed i && starts_free n us) ≡ false
    at true e = and_right (allowed i) (starts_free n us) (test-false (starts_free n us) (λ q. h e (starts-free n us q)))
    at false e = and_left (allowed i) (starts_free n us) e

pub first-none : (allowed : ℕ → Bool) (n i : ℕ) (us : List Bool) → ((c : ℕ) → allowed (i + c) ≡ true → IsFree us c n → ⊥) → first_run allowed n i us ≡ None
unfolding first_run
first-none allowed n i [] h = refl
first-none allowed n i (u ∷ us) h =
    let z : i + 0 ≡ i = omega arith in
    passed allowed n i u us (none-here allowed n i (u ∷ us) (λ a f. h 0 (rw z a) f)) ∙ first-none allowed n (suc i) us (λ c a f. let q : i + suc c ≡ suc i + c = omega arith in h (suc c) (rw q a) (head u us c n f))
  where
    head : (u : Bool) (us : List Bool) (c n : ℕ) → IsFree us c n → IsFree (u ∷ us) (suc c) n
    head u us c n f zero a b = absurd (omega arith)
    head u us c n f (suc j) a b = f j (omega arith) (omega arith)

pub first-some : (allowed : ℕ → Bool) (n i c : ℕ) (us : List Bool) → 1 ≤ n → allowed (i + c) ≡ true → IsFree us c n → ((b : ℕ) → b < c → allowed (i + b) ≡ true → IsFree us b n → ⊥) → first_run allowed n i us ≡ Some (i + c)
unfolding first_run
first-some allowed n i c [] o a f h = absurd (both (f c (omega arith) (omega arith)) refl)
first-some allowed n i zero (u ∷ us) o a f h =
    let z : i + 0 ≡ i = omega arith in
    let b : allowed i ≡ true = rw z at a in
    rw z (found allowed n i u us (and_from (allowed i) (starts_free n (u ∷ us)) b (free-starts n (u ∷ us) f)))
first-some allowed n i (suc c) (u ∷ us) o a f h =
    let z : i + 0 ≡ i = omega arith in
    let q : i + suc c ≡ suc i + c = omega arith in
    let a2 : allowed (suc i + c) ≡ true = rw q at a in
    rw q (passed allowed n i u us (none-here allowed n i (u ∷ us) (λ b g. h 0 (omega arith) (rw z b) g)) ∙ first-some allowed n (suc i) c us o a2 (tail-free u us c n f) (λ b l e g. let r : i + suc b ≡ suc i + b = omega arith in h (suc b) (omega arith) (rw r e) (head u us b n g)))
  where
    head : (u : Bool) (us : List Bool) (c n : ℕ) → IsFree us c n → IsFree (u ∷ us) (suc c) n
    head u us c n f zero a b = absurd (omega arith)
    head u us c n f (suc j) a b = f j (omega arith) (omega arith)

-- ---- the search

-- the positions before `at` are searched: so many just before it are free, and no run begins before these
pub record IsSeeking (us : List Bool) (from k at run : ℕ) : Type 0 where
  pub short : run < k
  pub begins : from + run ≤ at
  pub free : (j : ℕ) → at ≤ j + run → j < at → get_or us j true ≡ false
  pub none : (c : ℕ) → from ≤ c → c + run < at → IsFree us c k → ⊥

pub seek-start : (us : List Bool) (from k : ℕ) → 1 ≤ k → IsSeeking us from k from 0
seek-start us from k h = record {
  short = omega arith;
  begins = omega arith;
  free = λ j a b. absurd (omega arith);
  none = λ c a b f. absurd (omega arith);
}

allows : (from c : ℕ) → from ≤ c → nat_le from c ≡ true
allows from c h = grind (arith, nat_tests)

allowed : (from c : ℕ) → nat_le from c ≡ true → from ≤ c
allowed from c h = grind (arith, nat_tests)

pub seek-found : (us : List Bool) (from k at run n f b e : ℕ) → IsSeeking us from k at run → IsSummary us at n f b e → k ≤ run + f → first_run (λ i. nat_le from i) k 0 us ≡ Some (at - run)
seek-found us from k at run n f b e s h l =
    let z : 0 + (at - run) ≡ at - run = omega arith in
    let r : first_run (λ i. nat_le from i) k 0 us ≡ Some (0 + (at - run)) = first-some (λ i. nat_le from i) k 0 (at - run) us (omega (arith, s.short)) (allows from (0 + (at - run)) (omega (arith, s.begins))) (λ j a c. free j a c (cases_lt j at)) (λ c a q g. s.none c (let y : 0 + c ≡ c = omega arith in allowed from c (rw y at q)) (omega arith) g) in
    r ∙ ap Some z
  where
    free : (j : ℕ) → at - run ≤ j → j < at - run + k → (j < at) ⊎ (at ≤ j) → get_or us j true ≡ false
    free j a c (inl x) = s.free j (omega arith) x
    free j a c (inr x) = h.front_free j x (omega (arith, s.begins))

pub seek-end : (us : List Bool) (from k at run : ℕ) → IsSeeking us from k at run → length us ≤ at → 1 ≤ k → first_run (λ i. nat_le from i) k 0 us ≡ None
seek-end us from k at run s l o = first-none (λ i. nat_le from i) k 0 us (λ c q g. no c (let y : 0 + c ≡ c = omega arith in allowed from c (rw y at q)) g (cases_lt (c + run) at) (cases_lt c at))
  where
    no : (c : ℕ) → from ≤ c → IsFree us c k → (c + run < at) ⊎ (at ≤ c + run) → (c < at) ⊎ (at ≤ c) → ⊥
    no c a g (inl x) y = s.none c a x g
    no c a g (inr x) (inl y) = both (g at (omega arith) (omega (arith, s.short))) (get_or_past us at true l)
    no c a g (inr x) (inr y) = both (g c (omega arith) (omega arith)) (get_or_past us c true (omega arith))

pub seek-past : (us : List Bool) (from k : ℕ) → length us ≤ from → 1 ≤ k → first_run (λ i. nat_le from i) k 0 us ≡ None
seek-past us from k l o = seek-end us from k from 0 (seek-start us from k o) l o

over-whole : (us : List Bool) (from k at run n f b e : ℕ) → IsSeeking us from k at run → IsSummary us at n f b e → run + f < k → f ≡ n → IsSeeking us from k (at + n) (run + n)
over-whole us from k at run n f b e s h l q = record {
  short = omega arith;
  begins = omega (arith, s.begins);
  free = λ j x y. free j x y (cases_lt j at);
  none = λ c x y g. s.none c x (omega arith) g;
}
  where
    free : (j : ℕ) → at + n ≤ j + (run + n) → j < at + n → (j < at) ⊎ (at ≤ j) → get_or us j true ≡ false
    free j x y (inl z) = s.free j (omega arith) z
    free j x y (inr z) = h.front_free j z (omega arith)

over-part : (us : List Bool) (from k at run n f b e : ℕ) → IsSeeking us from k at run → IsSummary us at n f b e → run + f < k → e < k → f < n → IsSeeking us from k (at + n) b
over-part us from k at run n f b e s h l m q = record {
  short = let x = h.best_most (at + n - b) b (omega (arith, h.back_within)) (omega (arith, h.back_within)) (λ j x y. h.back_free j (omega arith) (omega (arith, h.back_within))) in omega arith;
  begins = omega (arith, s.begins, h.back_within);
  free = h.back_free;
  none = λ c x y g. no c x y g (cases_lt (c + run) at) (cases_lt (at + f) c) (cases_lt (at + n) (c + k));
}
  where
    no : (c : ℕ) → from ≤ c → c + b < at + n → IsFree us c k → (c + run < at) ⊎ (at ≤ c + run) → (at + f < c) ⊎ (c ≤ at + f) → (at + n < c + k) ⊎ (c + k ≤ at + n) → ⊥
    no c x y g (inl r) t u = s.none c x r g
    no c x y g (inr r) (inr t) u = both (g (at + f) t (omega arith)) (h.front_ends q)
    no c x y g (inr r) (inl t) (inr u) = let z = h.best_most c k (omega arith) u g in absurd (omega arith)
    no c x y g (inr r) (inl t) (inl u) =
        let j = at + n - (b + 1) in
        let z : j + b + 1 ≡ at + n = omega arith in
        both (g j (omega arith) (omega arith)) (h.back_ends j (omega (arith, short)) z)
      where
        short : b < n
        short = at_b (cases_lt b n)
          where
            at_b : (b < n) ⊎ (n ≤ b) → b < n
            at_b (inl v) = v
            at_b (inr v) = absurd (both (h.back_free (at + f) (omega arith) (omega arith)) (h.front_ends q))

pub seek-over : (us : List Bool) (from k at run n f b e : ℕ) → IsSeeking us from k at run → IsSummary us at n f b e → run + f < k → e < k → IsSeeking us from k (at + n) (cond (nat_eq f n) (run + n) b)
seek-over us from k at run n f b e s h l m = by (cases_lt f n)
  where
    by : (f < n) ⊎ (n ≤ f) → IsSeeking us from k (at + n) (cond (nat_eq f n) (run + n) b)
    by (inl q) = let z : cond (nat_eq f n) (run + n) b ≡ b = differs f n (run + n) b q in rw z (over-part us from k at run n f b e s h l m q)
      where
        differs : (f n x y : ℕ) → f < n → cond (nat_eq f n) x y ≡ y
        differs f n x y q = grind (arith, nat_tests)
    by (inr q) = let z : cond (nat_eq f n) (run + n) b ≡ run + n = same f n (run + n) b (omega (arith, h.front_within)) in rw z (over-whole us from k at run n f b e s h l (omega (arith, h.front_within)))
      where
        same : (f n x y : ℕ) → f ≡ n → cond (nat_eq f n) x y ≡ x
        same f n x y q = grind (arith, nat_tests)

-- ---- where the search stands

-- a node of one position has a run that is no longer than that at its front
pub leaf-best : (us : List Bool) (p n f b e : ℕ) → n ≡ 1 → IsSummary us p n f b e → e ≤ f
leaf-best us p n f b e q h = by (cases_lt f e)
  where
    by : (f < e) ⊎ (e ≤ f) → e ≤ f
    by (inr x) = x
    by (inl x) =
        let w = h.best_found in
        let z : p + f ≡ p = omega (arith, w.1, w.2) in
        absurd (both (w.3 (p + f) (omega (arith, w.1, w.2)) (omega (arith, w.1, w.2))) (h.front_ends (omega (arith, w.1, w.2))))

over : (i n x w p : ℕ) → w ≡ n * x → i * x ≡ w + p → p < w → 1 ≤ x → p + x ≤ w
over i n x w p a b l o = by (cases_lt i (2 * n))
  where
    by : (i < 2 * n) ⊎ (2 * n ≤ i) → p + x ≤ w
    by (inl q) = omega (arith, mul-le-mul_right x q)
    by (inr q) = absurd (omega (arith, mul-le-mul_right x q))

-- a node whose first leaf stands in the tree stands in it whole
pub inside : (D d i p w : ℕ) → w ≡ 2 ^ D → 1 ≤ i → i * 2 ^ d ≡ w + p → p < w → p + 2 ^ d ≤ w
inside D d i p w a o b l = by (cases_lt D d)
  where
    by : (D < d) ⊎ (d ≤ D) → p + 2 ^ d ≤ w
    by (inl q) = absurd (omega (arith, pow-suc 2 D, pow_mono {i = suc D} {j = d} q, mul-le-mul_right (2 ^ d) o))
    by (inr q) =
        let e : (D - d) + d ≡ D = omega arith in
        over i (2 ^ (D - d)) (2 ^ d) w p (a ∙ ap (λ n. 2 ^ n) (sym e) ∙ pow-add 2 (D - d) d) b l (pow_pos d)

-- the search goes right, or down
pub measure : (w at len : ℕ) → ℕ
measure w at len = (w - at) * (4 * w) + len

pub goes-right : (w at len next : ℕ) → 1 ≤ len → at + len ≤ w → next ≤ 2 * w → measure w (at + len) next < measure w at len
unfolding measure
goes-right w at len next o l m =
    let h : (w - (at + len)) + 1 ≤ w - at = omega arith in
    omega (arith, mul-le-mul_right (4 * w) h)

pub goes-down : (w at len : ℕ) → 1 ≤ len → measure w at (len / 2) < measure w at len
unfolding measure
goes-down w at len o = omega arith

-- a node at a position of the tree, or at its end
pub record IsPlace (w node len at : ℕ) : Type 0 where
  pub power : IsPowerOfTwo len
  pub place : node * len ≡ w + at
  pub within : at ≤ w

pub place-node : (w node len at : ℕ) → IsPowerOfTwo w → IsPlace w node len at → at < w → IsNode w node at len
place-node w node len at o h l =
    let e : node * 2 ^ h.power.0 ≡ w + at = rw h.power.1 at h.place in
    let i : at + 2 ^ h.power.0 ≤ w = inside o.0 h.power.0 node at w o.1 (some-node node (omega (arith, h.place, l))) e l in
    record { power = h.power; place = h.place; within = omega (arith, i, h.power.1) }
  where
    some-node : (i : ℕ) → 1 ≤ i * len → 1 ≤ i
    some-node zero x = absurd (omega arith)
    some-node (suc i) x = omega arith

-- what the node of a search says, and of which positions
pub record Stands (us : List Bool) (w node len at : ℕ) (s : Summary) : Type 0 where
  pub is_node : IsNode w node at len
  pub sums : SumsUp us at len s

pub stands : (us : List Bool) (nodes : List Summary) (node len at : ℕ) (s : Summary) → IsTree us nodes → IsPlace (length nodes) node len at → at < length nodes → s ≡ node_at us nodes node → Stands us (length nodes) node len at s
stands us nodes node len at s t h l e =
    let n = place-node (length nodes) node len at t.width.0 h l in record { is_node = n; sums = rw e (t.tells node at len n) }

pub place-below : (us : List Bool) (w node len at run k f b e : ℕ) → IsPlace w node len at → IsSummary us at len f b e → run + f < k → k ≤ e → IsPlace w (2 * node) (len / 2) at
place-below us w node len at run k f b e h s l m = by h.power.0 h.power.1
  where
    by : (d : ℕ) → len ≡ 2 ^ d → IsPlace w (2 * node) (len / 2) at
    by zero q = absurd (omega (arith, leaf-best us at len f b e (omega (arith, q)) s))
    by (suc d) q =
        let z : len ≡ 2 * 2 ^ d = omega (arith, q, pow-suc 2 d) in
        let y : len / 2 ≡ 2 ^ d = omega (arith, z) in
        let x : node * (2 * 2 ^ d) ≡ w + at = rw z at h.place in
        record { power = (d, y); place = rw y (omega (arith, x)); within = h.within }

pub place-behind : (w node len at next more : ℕ) → IsNode w node at len → ((next ≡ node + 1) × (more ≡ len)) ⊎ ((2 * next ≡ node + 1) × (more ≡ 2 * len)) → IsPlace w next more (at + len)
place-behind w node len at next more h (inl e) = rw (e.0, e.1) (record { power = h.power; place = omega (arith, h.place); within = h.within })
place-behind w node len at next more h (inr e) =
    let z : (2 * next) * len ≡ (node + 1) * len = ap (λ n. n * len) e.0 in
    rw (e.1) (record { power = twice h.power; place = omega (arith, z, h.place); within = h.within })

-- a free position is there
pub free-there : (us : List Bool) (j : ℕ) → get_or us j true ≡ false → j < length us
free-there us j e = by (cases_lt j (length us))
  where
    by : (j < length us) ⊎ (length us ≤ j) → j < length us
    by (inl x) = x
    by (inr x) = absurd (both e (get_or_past us j true x))

pub seek-there : (us : List Bool) (from k at run n f b e : ℕ) → IsSeeking us from k at run → IsSummary us at n f b e → k ≤ run + f → at - run < length us
seek-there us from k at run n f b e s h l = by (cases_lt 0 run)
  where
    by : (0 < run) ⊎ (run ≤ 0) → at - run < length us
    by (inl x) = free-there us (at - run) (s.free (at - run) (omega arith) (omega (arith, s.begins)))
    by (inr x) = free-there us (at - run) (h.front_free (at - run) (omega arith) (omega (arith, s.short)))

-- ---- what the first run tells

abbrev pub NoRun : (allowed : ℕ → Bool) (n i : ℕ) → List Bool → Type 0
NoRun allowed n i us = (c : ℕ) → allowed (i + c) ≡ true → IsFree us c n → ⊥

pub record IsRun (allowed : ℕ → Bool) (n i : ℕ) (us : List Bool) (c : ℕ) : Type 0 where
  pub first : first_run allowed n i us ≡ Some (i + c)
  pub passes : allowed (i + c) ≡ true
  pub free : IsFree us c n
  pub none : (b : ℕ) → b < c → allowed (i + b) ≡ true → IsFree us b n → ⊥

tail-none : (allowed : ℕ → Bool) (n i : ℕ) (u : Bool) (us : List Bool) → (allowed i && starts_free n (u ∷ us)) ≡ false → (b c : ℕ) → b < suc c → ((b : ℕ) → b < c → allowed (suc i + b) ≡ true → IsFree us b n → ⊥) → allowed (i + b) ≡ true → IsFree (u ∷ us) b n → ⊥
tail-none allowed n i u us e zero c l h a f =
    let z : i + 0 ≡ i = omega arith in
    both e (and_from (allowed i) (starts_free n (u ∷ us)) (rw z at a) (free-starts n (u ∷ us) f))
tail-none allowed n i u us e (suc b) c l h a f =
    let q : i + suc b ≡ suc i + b = omega arith in
    h b (omega arith) (rw q at a) (tail-free u us b n f)

pub first-tells : (allowed : ℕ → Bool) (n i : ℕ) (us : List Bool) → 1 ≤ n → ((first_run allowed n i us ≡ None) × NoRun allowed n i us) ⊎ ((c : ℕ) × IsRun allowed n i us c)
unfolding first_run
first-tells allowed n i [] o = inl (refl, λ c a f. both (f c (omega arith) (omega arith)) refl)
first-tells allowed n i (u ∷ us) o = by (allowed i && starts_free n (u ∷ us)) refl (first-tells allowed n (suc i) us o)
  where
    by : (t : Bool) → (allowed i && starts_free n (u ∷ us)) ≡ t → ((first_run allowed n (suc i) us ≡ None) × NoRun allowed n (suc i) us) ⊎ ((c : ℕ) × IsRun allowed n (suc i) us c) → ((first_run allowed n i (u ∷ us) ≡ None) × NoRun allowed n i (u ∷ us)) ⊎ ((c : ℕ) × IsRun allowed n i (u ∷ us) c)
    by true e r =
        let z : i + 0 ≡ i = omega arith in
        inr (
          0,
          record {
            first = rw z (found allowed n i u us e);
            passes = rw z (left-true (allowed i) (starts_free n (u ∷ us)) e);
            free = starts-free n (u ∷ us) (right-true (allowed i) (starts_free n (u ∷ us)) e);
            none = λ b l a f. absurd (omega arith);
          },
        )
      where
        left-true : (a b : Bool) → (a && b) ≡ true → a ≡ true
        left-true true b e = refl
        left-true false b e = absurd (cc)

        right-true : (a b : Bool) → (a && b) ≡ true → b ≡ true
        right-true true b e = e
        right-true false b e = absurd (cc)
    by false e (inl r) = inl (passed allowed n i u us e ∙ r.0, λ c a f. tail-none allowed n i u us e c c (omega arith) (λ b l x y. r.1 b x y) a f)
    by false e (inr r) =
        let q : i + suc r.0 ≡ suc i + r.0 = omega arith in
        inr (
          suc r.0,
          record {
            first = rw q (passed allowed n i u us e ∙ r.1.first);
            passes = rw q r.1.passes;
            free = head u us r.0 n r.1.free;
            none = λ b l a f. tail-none allowed n i u us e b r.0 l r.1.none a f;
          },
        )
      where
        head : (u : Bool) (us : List Bool) (c n : ℕ) → IsFree us c n → IsFree (u ∷ us) (suc c) n
        head u us c n f zero a b = absurd (omega arith)
        head u us c n f (suc j) a b = f j (omega arith) (omega arith)

-- what the least run from a position on tells
pub least-none : (us : List Bool) (from k : ℕ) → 1 ≤ k → first_run (λ i. nat_le from i) k 0 us ≡ None → (c : ℕ) → from ≤ c → IsFree us c k → ⊥
least-none us from k o e c l f = by (first-tells (λ i. nat_le from i) k 0 us o)
  where
    by : ((first_run (λ i. nat_le from i) k 0 us ≡ None) × NoRun (λ i. nat_le from i) k 0 us) ⊎ ((c : ℕ) × IsRun (λ i. nat_le from i) k 0 us c) → ⊥
    by (inl r) = r.1 c (allows from (0 + c) (omega arith)) f
    by (inr r) = let z : None ≡ Some (0 + r.0) = sym e ∙ r.1.first in absurd (cc)

pub record IsLeast (us : List Bool) (from k at : ℕ) : Type 0 where
  pub begins : from ≤ at
  pub free : IsFree us at k
  pub there : at < length us
  pub none : (c : ℕ) → from ≤ c → c < at → IsFree us c k → ⊥

pub least-some : (us : List Bool) (from k at : ℕ) → 1 ≤ k → first_run (λ i. nat_le from i) k 0 us ≡ Some at → IsLeast us from k at
least-some us from k at o e = by (first-tells (λ i. nat_le from i) k 0 us o)
  where
    by : ((first_run (λ i. nat_le from i) k 0 us ≡ None) × NoRun (λ i. nat_le from i) k 0 us) ⊎ ((c : ℕ) × IsRun (λ i. nat_le from i) k 0 us c) → IsLeast us from k at
    by (inl r) = let z : None ≡ Some at = sym r.0 ∙ e in absurd (cc)
    by (inr r) =
        let z : Some (0 + r.0) ≡ Some at = sym r.1.first ∙ e in
        let y : 0 + r.0 ≡ at = cc in
        let x : r.0 ≡ at = omega arith in
        let f : IsFree us at k = rw (← x) r.1.free in
        record {
          begins = rw (← y) (allowed from (0 + r.0) r.1.passes);
          free = f;
          there = free-there us at (f at (omega arith) (omega arith));
          none = λ c l m g. r.1.none c (omega arith) (allows from (0 + c) (omega arith)) g;
        }
