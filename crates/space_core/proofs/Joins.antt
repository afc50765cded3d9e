-- What the summary of two rows of positions is, from those of each.
use Rattle.std.proofs.Common.{ℕ, ◌≡◌, ◌+◌, ◌-◌, ◌≤◌, ◌<◌, Bool, true, false, nat_eq, cond, List, get_or, subst, refl, sym, ◌∙◌, inl, inr, ◌⊎◌, max, arith}
use Rattle.std.proofs.lemmas.Bool.Decides.{nat_tests}
use Rattle.std.proofs.lemmas.Bool.{cases_lt}
use Rattle.space_core.specs.Summaries.{IsFree, IsSummary, leaf_of}

-- a length that goes on where it fills the whole
record Extends (f m g r : ℕ) : Type 0 where
  whole : f ≡ m → r ≡ m + g
  part : f < m → r ≡ f

extends : (f m g : ℕ) → Extends f m g (cond (nat_eq f m) (m + g) f)
extends f m g = record { whole = λ e. grind (arith, nat_tests); part = λ l. grind (arith, nat_tests) }

not_taken : (us : List Bool) (j : ℕ) → get_or us j true ≡ false → get_or us j true ≡ true → ⊥
not_taken us j a b = cc

front_free : (us : List Bool) (p m n f g a b x y r : ℕ) → IsSummary us p m f a x → IsSummary us (p + m) n g b y → Extends f m g r → IsFree us p r
front_free us p m n f g a b x y r h k e j l u = at (cases_lt j (p + m)) (cases_lt f m)
  where
    at : (j < p + m) ⊎ (p + m ≤ j) → (f < m) ⊎ (m ≤ f) → get_or us j true ≡ false
    at (inl s) (inl t) = h.front_free j l (omega (arith, e.part t))
    at (inl s) (inr t) = h.front_free j l (omega (arith))
    at (inr s) (inl t) = absurd (omega (arith, e.part t))
    at (inr s) (inr t) = k.front_free j s (omega (arith, e.whole (omega (arith, h.front_within))))

front_ends : (us : List Bool) (p m n f g a b x y r : ℕ) → IsSummary us p m f a x → IsSummary us (p + m) n g b y → Extends f m g r → r < m + n → get_or us (p + r) true ≡ true
front_ends us p m n f g a b x y r h k e u = at (cases_lt f m)
  where
    at : (f < m) ⊎ (m ≤ f) → get_or us (p + r) true ≡ true
    at (inl t) = rw (e.part t) (h.front_ends t)
    at (inr t) =
        let q : r ≡ m + g = e.whole (omega (arith, h.front_within)) in
        let z : p + r ≡ p + m + g = omega arith in
        rw z (k.front_ends (omega arith))

back_free : (us : List Bool) (p m n f g a b x y r : ℕ) → IsSummary us p m f a x → IsSummary us (p + m) n g b y → Extends b n a r → (j : ℕ) → p + (m + n) ≤ j + r → j < p + (m + n) → get_or us j true ≡ false
back_free us p m n f g a b x y r h k e j l u = at (cases_lt j (p + m)) (cases_lt b n)
  where
    at : (j < p + m) ⊎ (p + m ≤ j) → (b < n) ⊎ (n ≤ b) → get_or us j true ≡ false
    at (inl s) (inl t) = absurd (omega (arith, e.part t))
    at (inl s) (inr t) = h.back_free j (omega (arith, e.whole (omega (arith, k.back_within)))) s
    at (inr s) (inl t) = k.back_free j (omega (arith, e.part t)) (omega arith)
    at (inr s) (inr t) = k.back_free j (omega (arith)) (omega arith)

back_ends : (us : List Bool) (p m n f g a b x y r : ℕ) → IsSummary us p m f a x → IsSummary us (p + m) n g b y → Extends b n a r → (j : ℕ) → r < m + n → j + r + 1 ≡ p + (m + n) → get_or us j true ≡ true
back_ends us p m n f g a b x y r h k e j u q = at (cases_lt b n)
  where
    at : (b < n) ⊎ (n ≤ b) → get_or us j true ≡ true
    at (inl t) = k.back_ends j t (omega (arith, e.part t))
    at (inr t) =
        let z : r ≡ n + a = e.whole (omega (arith, k.back_within)) in
        h.back_ends j (omega arith) (omega arith)

-- ---- the longest run

-- a run that reaches the end of a row is no longer than the free run at its back, and likewise at the front
reaches_back : (us : List Bool) (p m f a x c n : ℕ) → IsSummary us p m f a x → IsFree us c n → p ≤ c → c ≤ p + m → p + m ≤ c + n → p + m ≤ c + a
reaches_back us p m f a x c n h k l s u = at (cases_lt (c + a) (p + m))
  where
    at : (c + a < p + m) ⊎ (p + m ≤ c + a) → p + m ≤ c + a
    at (inr t) = t
    at (inl t) =
        let j = p + m - (a + 1) in
        let q : j + a + 1 ≡ p + m = omega arith in
        absurd (not_taken us j (k j (omega arith) (omega arith)) (h.back_ends j (omega arith) q))

reaches_front : (us : List Bool) (p m f a x c n : ℕ) → IsSummary us p m f a x → IsFree us c n → c ≤ p → c + n ≤ p + m → c + n ≤ p + f
reaches_front us p m f a x c n h k l s = at (cases_lt (p + f) (c + n))
  where
    at : (p + f < c + n) ⊎ (c + n ≤ p + f) → c + n ≤ p + f
    at (inr t) = t
    at (inl t) = absurd (not_taken us (p + f) (k (p + f) (omega arith) (omega arith)) (h.front_ends (omega arith)))

best_most : (us : List Bool) (p m n f g a b x y : ℕ) → IsSummary us p m f a x → IsSummary us (p + m) n g b y → (c k : ℕ) → p ≤ c → c + k ≤ p + (m + n) → IsFree us c k → k ≤ max (max x y) (a + g)
best_most us p m n f g a b x y h k c z l u e = at (cases_lt (p + m) (c + z)) (cases_lt c (p + m))
  where
    at : (p + m < c + z) ⊎ (c + z ≤ p + m) → (c < p + m) ⊎ (p + m ≤ c) → z ≤ max (max x y) (a + g)
    at (inr s) t = let q = h.best_most c z l s e in omega arith
    at (inl s) (inr t) = let q = k.best_most c z t (omega arith) e in omega arith
    at (inl s) (inl t) =
        let i = reaches_back us p m f a x c z h e l (omega arith) (omega arith) in
        let o = reaches_front us (p + m) n g b y c z k e (omega arith) (omega arith) in
        omega arith

abbrev Found : (us : List Bool) (p n r : ℕ) → Type 0
Found us p n r = (c : ℕ) × (p ≤ c) × (c + r ≤ p + n) × IsFree us c r

best_found : (us : List Bool) (p m n f g a b x y : ℕ) → IsSummary us p m f a x → IsSummary us (p + m) n g b y → (c : ℕ) × (p ≤ c) × (c + max (max x y) (a + g) ≤ p + (m + n)) × IsFree us c (max (max x y) (a + g))
best_found us p m n f g a b x y h k = at (cases_lt (max x y) (a + g)) (cases_lt x y)
  where
    join : Found us p (m + n) (a + g)
    join = (p + m - a, omega (arith, h.back_within), omega (arith, h.back_within, k.front_within), λ j l u. across j l u (cases_lt j (p + m)))
      where
        across : (j : ℕ) → p + m - a ≤ j → j < p + m - a + (a + g) → (j < p + m) ⊎ (p + m ≤ j) → get_or us j true ≡ false
        across j l u (inl s) = h.back_free j (omega arith) s
        across j l u (inr s) = k.front_free j s (omega (arith, h.back_within))

    left : Found us p (m + n) x
    left = let q = h.best_found in (q.0, q.1, omega (arith, q.2), q.3)

    right : Found us p (m + n) y
    right = let q = k.best_found in (q.0, omega (arith, q.1), omega (arith, q.2), q.3)

    at : (max x y < a + g) ⊎ (a + g ≤ max x y) → (x < y) ⊎ (y ≤ x) → Found us p (m + n) (max (max x y) (a + g))
    at (inl s) t = let e : a + g ≡ max (max x y) (a + g) = omega arith in subst (λ (r : ℕ). Found us p (m + n) r) e join
    at (inr s) (inl t) = let e : y ≡ max (max x y) (a + g) = omega arith in subst (λ (r : ℕ). Found us p (m + n) r) e right
    at (inr s) (inr t) = let e : x ≡ max (max x y) (a + g) = omega arith in subst (λ (r : ℕ). Found us p (m + n) r) e left

pub summary-join : (us : List Bool) (p m n f g a b x y : ℕ) → IsSummary us p m f a x → IsSummary us (p + m) n g b y → IsSummary us p (m + n) (cond (nat_eq f m) (m + g) f) (cond (nat_eq b n) (n + a) b) (max (max x y) (a + g))
summary-join us p m n f g a b x y h k = record {
  front_within = within f m g n h.front_within k.front_within;
  front_free = front_free us p m n f g a b x y (cond (nat_eq f m) (m + g) f) h k (extends f m g);
  front_ends = front_ends us p m n f g a b x y (cond (nat_eq f m) (m + g) f) h k (extends f m g);
  back_within = behind a m b n h.back_within k.back_within;
  back_free = back_free us p m n f g a b x y (cond (nat_eq b n) (n + a) b) h k (extends b n a);
  back_ends = back_ends us p m n f g a b x y (cond (nat_eq b n) (n + a) b) h k (extends b n a);
  best_found = best_found us p m n f g a b x y h k;
  best_most = best_most us p m n f g a b x y h k;
}
  where
    within : (f m g n : ℕ) → f ≤ m → g ≤ n → cond (nat_eq f m) (m + g) f ≤ m + n
    within f m g n a b = grind (arith, nat_tests)

    behind : (f m g n : ℕ) → f ≤ m → g ≤ n → cond (nat_eq g n) (n + f) g ≤ m + n
    behind f m g n a b = grind (arith, nat_tests)

-- ---- a row that is the same there

pub summary-same : (us vs : List Bool) (p n f b e : ℕ) → ((j : ℕ) → p ≤ j → j < p + n → get_or us j true ≡ get_or vs j true) → IsSummary us p n f b e → IsSummary vs p n f b e
summary-same us vs p n f b e q h = record {
  front_within = h.front_within;
  front_free = λ j l u. sym (q j l (omega (arith, h.front_within))) ∙ h.front_free j l u;
  front_ends = λ l. sym (q (p + f) (omega arith) (omega arith)) ∙ h.front_ends l;
  back_within = h.back_within;
  back_free = λ j l u. sym (q j (omega (arith, h.back_within)) u) ∙ h.back_free j l u;
  back_ends = λ j l z. sym (q j (omega arith) (omega arith)) ∙ h.back_ends j l z;
  best_found = let r = h.best_found in (r.0, r.1, r.2, λ j l u. sym (q j (omega (arith, r.1)) (omega (arith, r.2))) ∙ r.3 j l u);
  best_most = λ c m l u z. h.best_most c m l u (λ j x y. q j (omega arith) (omega arith) ∙ z j x y);
}

-- ---- one position

leaf : (us : List Bool) (p : ℕ) (b : Bool) → get_or us p true ≡ b → let s = leaf_of b in IsSummary us p 1 s.front s.back s.best
leaf us p true e = record {
  front_within = omega arith;
  front_free = λ j l u. absurd (omega arith);
  front_ends = λ l. let q : p + 0 ≡ p = omega arith in rw q e;
  back_within = omega arith;
  back_free = λ j l u. absurd (omega arith);
  back_ends = λ j l q. let z : j ≡ p = omega arith in rw z e;
  best_found = (p, omega arith, omega arith, λ j l u. absurd (omega arith));
  best_most = λ c m l u h. at c m l u h (cases_lt 0 m);
}
  where
    at : (c m : ℕ) → p ≤ c → c + m ≤ p + 1 → IsFree us c m → (0 < m) ⊎ (m ≤ 0) → m ≤ 0
    at c m l u h (inr t) = t
    at c m l u h (inl t) = absurd (not_taken us p (h p (omega arith) (omega arith)) e)
leaf us p false e = record {
  front_within = omega arith;
  front_free = λ j l u. let z : j ≡ p = omega arith in rw z e;
  front_ends = λ l. absurd (omega arith);
  back_within = omega arith;
  back_free = λ j l u. let z : j ≡ p = omega arith in rw z e;
  back_ends = λ j l q. absurd (omega arith);
  best_found = (p, omega arith, omega arith, λ j l u. let z : j ≡ p = omega arith in rw z e);
  best_most = λ c m l u h. omega arith;
}

pub summary-leaf : (us : List Bool) (p : ℕ) → let s = leaf_of (get_or us p true) in IsSummary us p 1 s.front s.back s.best
summary-leaf us p = leaf us p (get_or us p true) refl
