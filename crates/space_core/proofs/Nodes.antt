-- The nodes of a tree of runs: how many positions each has, and what is kept of it.
use Rattle.std.proofs.Common.{ℕ, zero, suc, ◌≡◌, ◌≢◌, ◌+◌, ◌-◌, ◌*◌, ◌/◌, ◌^◌, ◌≤◌, ◌<◌, Bool, true, List, length, get_or, set, refl, sym, ◌∙◌, inl, inr, ◌⊎◌, arith, get_or-set_other, get_or-set_same}
use Rattle.std.proofs.lemmas.Bool.{cases_lt, lt-ltb, le-ltb}
use Rattle.std.proofs.lemmas.Nat.{pow_pos}
use Rattle.std.proofs.Math.ListN.{length-set}
use Rattle.std.proofs.Math.Nat.{pow-suc, mul-le-mul_right}
use Rattle.std.proofs.Math.Pow.{pow_mono}
use Rattle.std.specs.Int.{IsPowerOfTwo}
use Rattle.space_core.specs.declared.tree.Summary.{Summary}
use Rattle.space_core.specs.Runs.{put_run}
use Rattle.space_core.specs.Summaries.{SumsUp, leaf_of, join_of}
use Rattle.space_core.specs.Trees.{IsNode, Tells, node_at, no_summary}
use Rattle.space_core.proofs.Joins.{summary-join, summary-leaf, summary-same}
use Rattle.space_core.proofs.Rows.{put-outside}

-- ---- how many positions a node has

pub some : {n : ℕ} → IsPowerOfTwo n → 1 ≤ n
some h = omega (arith, pow_pos h.0, h.1)

pub twice : {n : ℕ} → IsPowerOfTwo n → IsPowerOfTwo (2 * n)
twice h = (suc h.0, omega (arith, h.1, pow-suc 2 h.0))

-- a longer power of two is twice as long
pub twice_most : (n m : ℕ) → IsPowerOfTwo n → IsPowerOfTwo m → n < m → 2 * n ≤ m
twice_most n m h k l = by (cases_lt h.0 k.0)
  where
    by : (h.0 < k.0) ⊎ (k.0 ≤ h.0) → 2 * n ≤ m
    by (inl s) = omega (arith, h.1, k.1, pow-suc 2 h.0, pow_mono {i = suc h.0} {j = k.0} s)
    by (inr s) = absurd (omega (arith, h.1, k.1, pow_mono s))

not_longer : (w i p n q m : ℕ) → IsNode w i p n → IsNode w i q m → n < m → ⊥
not_longer w i p n q m h k l =
    omega (arith, h.place, k.place, k.within, mul-le-mul_right i (twice_most n m h.power k.power l))

pub same_count : (w i p n q m : ℕ) → IsNode w i p n → IsNode w i q m → n ≡ m
same_count w i p n q m h k = by (cases_lt n m) (cases_lt m n)
  where
    by : (n < m) ⊎ (m ≤ n) → (m < n) ⊎ (n ≤ m) → n ≡ m
    by (inl s) t = absurd (not_longer w i p n q m h k s)
    by (inr s) (inl t) = absurd (not_longer w i q m p n k h t)
    by (inr s) (inr t) = omega arith

pub one_position : (w i p n : ℕ) → w ≤ i → IsNode w i p n → n ≡ 1
one_position w i p n l h = by (cases_lt n 2)
  where
    by : (n < 2) ⊎ (2 ≤ n) → n ≡ 1
    by (inl s) = omega (arith, some h.power)
    by (inr s) = absurd (omega (arith, h.place, h.within, mul-le-mul_right n l, mul-le-mul_right w s))

-- a node with children, and where these stand
pub record IsParent (w i p n : ℕ) : Type 0 where
  pub inner : i < w
  pub left : IsNode w (2 * i) p n
  pub right : IsNode w (2 * i + 1) (p + n) n

pub parent : (w i p n : ℕ) → IsPowerOfTwo n → IsNode w i p (2 * n) → IsParent w i p n
parent w i p n o h = record {
  inner = omega (arith, h.place, h.within, some o, mul-le-mul_right i (some o));
  left = record { power = o; place = omega (arith, h.place); within = omega (arith, h.within) };
  right = record { power = o; place = omega (arith, h.place); within = omega (arith, h.within) };
}

-- ---- levels

-- the nodes from low to high are some of those of n positions
pub record IsLevel (w n low high : ℕ) : Type 0 where
  pub power : IsPowerOfTwo n
  pub count : ℕ
  pub is_power : IsPowerOfTwo count
  pub whole : w ≡ count * n
  pub begins : count ≤ low
  pub ends : high < 2 * count

pub level-start : (w from to : ℕ) → IsPowerOfTwo w → from < to → to ≤ w → IsLevel w 1 (w + from) (w + to - 1)
level-start w from to o l u = record {
  power = (0, refl);
  count = w;
  is_power = o;
  whole = omega arith;
  begins = omega arith;
  ends = omega arith;
}

pub level-above : (w n low high : ℕ) → IsLevel w n low high → n < w → IsLevel w (2 * n) (low / 2) (high / 2)
level-above w n low high h l = by h.is_power.0 h.is_power.1
  where
    by : (e : ℕ) → h.count ≡ 2 ^ e → IsLevel w (2 * n) (low / 2) (high / 2)
    by zero q = absurd (omega (arith, h.whole, rw q at h.whole))
    by (suc e) q =
        let c : h.count ≡ 2 * 2 ^ e = omega (arith, q, pow-suc 2 e) in
        let m : w ≡ (2 * 2 ^ e) * n = rw c at h.whole in
        record {
          power = twice h.power;
          count = 2 ^ e;
          is_power = (e, refl);
          whole = omega (arith, m);
          begins = omega (arith, h.begins, c);
          ends = omega (arith, h.ends, c);
        }

pub level-low : (w n low high : ℕ) → IsLevel w n low high → w ≤ low * n
level-low w n low high h = omega (arith, h.whole, mul-le-mul_right n h.begins)

pub level-node : (w n low high i : ℕ) → IsPowerOfTwo n → w ≤ low * (2 * n) → (high + 1) * (2 * n) ≤ 2 * w → low ≤ i → i ≤ high → (p : ℕ) × IsNode w i p (2 * n)
level-node w n low high i o a b l u =
    let x : w ≤ i * (2 * n) = omega (arith, a, mul-le-mul_right (2 * n) l) in
    let s : i + 1 ≤ high + 1 = omega arith in
    let y : (i + 1) * (2 * n) ≤ 2 * w = omega (arith, b, mul-le-mul_right (2 * n) s) in
    (i * (2 * n) - w, record { power = twice o; place = omega (arith, x); within = omega (arith, x, y) })

-- a node of m positions is beside the nodes from low to high, if it has more than n positions as these have
abbrev pub IsBeside : (w n low high p m : ℕ) → Type 0
IsBeside w n low high p m = n < m → w + p < (high + 1) * n → w + p + m ≤ low * n

pub beside-above : (w n low high i p m : ℕ) → IsPowerOfTwo n → IsNode w i p m → (low / 2 ≤ i → high / 2 < i) → IsBeside w (2 * n) (low / 2) (high / 2) p m → IsBeside w n low high p m
beside-above w n low high i p m o h g k l u = by (cases_lt (2 * n) m) (cases_lt i (low / 2))
  where
    a : (low / 2) * (2 * n) ≤ low * n
    a = let s : 2 * (low / 2) ≤ low = omega arith in omega (arith, mul-le-mul_right n s)

    b : (high + 1) * n ≤ (high / 2 + 1) * (2 * n)
    b = let s : high + 1 ≤ 2 * (high / 2 + 1) = omega arith in omega (arith, mul-le-mul_right n s)

    by : (2 * n < m) ⊎ (m ≤ 2 * n) → (i < low / 2) ⊎ (low / 2 ≤ i) → w + p + m ≤ low * n
    by (inl s) t = omega (arith, a, k s (omega (arith, b)))
    by (inr s) (inl t) =
        let e : m ≡ 2 * n = omega (arith, twice_most n m o h.power l) in
        let z : i * (2 * n) ≡ w + p = rw e at h.place in
        let y : (i + 1) * (2 * n) ≤ (low / 2) * (2 * n) = mul-le-mul_right (2 * n) (omega arith) in
        omega (arith, a, z, y)
    by (inr s) (inr t) =
        let e : m ≡ 2 * n = omega (arith, twice_most n m o h.power l) in
        let z : i * (2 * n) ≡ w + p = rw e at h.place in
        let q : high / 2 + 1 ≤ i = omega (arith, g t) in
        absurd (omega (arith, b, z, mul-le-mul_right (2 * n) q))

-- ---- what a node says

pub node-inner : (us : List Bool) (nodes : List Summary) (i : ℕ) → i < length nodes → node_at us nodes i ≡ get_or nodes i no_summary
unfolding node_at
node-inner us nodes i h = rw (lt-ltb i (length nodes) h) refl

pub node-leaf : (us : List Bool) (nodes : List Summary) (i : ℕ) → length nodes ≤ i → node_at us nodes i ≡ leaf_of (get_or us (i - length nodes) true)
unfolding node_at
node-leaf us nodes i h = rw (le-ltb i (length nodes) h) refl

-- a leaf sums up its position, whatever stands there
pub leaf-tells : (us : List Bool) (nodes : List Summary) (i p n : ℕ) → length nodes ≤ i → Tells us nodes i p n
leaf-tells us nodes i p n l h =
    let e = one_position (length nodes) i p n l h in
    let z : i * 1 ≡ length nodes + p = rw e at h.place in
    let q : i - length nodes ≡ p = omega (arith, z) in
    rw (e, node-leaf us nodes i l, q) (summary-leaf us p)

pub join-tells : (us : List Bool) (p n : ℕ) (a b : Summary) → SumsUp us p n a → SumsUp us (p + n) n b → SumsUp us p (2 * n) (join_of n a b)
join-tells us p n a b h k =
    let e : n + n ≡ 2 * n = omega arith in
    rw e at (summary-join us p n n a.front b.front a.back b.back a.best b.best h k)

-- ---- a node that is written

set-same : (us : List Bool) (nodes : List Summary) (i : ℕ) (s : Summary) → i < length nodes → node_at us (set nodes i s) i ≡ s
set-same us nodes i s h =
    let l : i < length (set nodes i s) = rw (length-set nodes i s) h in
    node-inner us (set nodes i s) i l ∙ get_or-set_same nodes i s no_summary h

set-other : (us : List Bool) (nodes : List Summary) (i j : ℕ) (s : Summary) → j ≢ i → node_at us (set nodes i s) j ≡ node_at us nodes j
unfolding node_at
set-other us nodes i j s h = rw (length-set nodes i s, get_or-set_other nodes i j s no_summary h) refl

-- a node that sums up its positions when it is written, and each other that does
pub tells-set : (us : List Bool) (nodes : List Summary) (i p n : ℕ) (s : Summary) → i < length nodes → IsNode (length nodes) i p n → SumsUp us p n s → (j q m : ℕ) → (j ≢ i → Tells us nodes j q m) → Tells us (set nodes i s) j q m
tells-set us nodes i p n s l h k j q m t = by (cases_lt i j) (cases_lt j i)
  where
    other : j ≢ i → Tells us (set nodes i s) j q m
    other e g =
        let h : IsNode (length nodes) j q m = rw (length-set nodes i s) at g in
        rw (set-other us nodes i j s e) (t e h)

    by : (i < j) ⊎ (j ≤ i) → (j < i) ⊎ (i ≤ j) → Tells us (set nodes i s) j q m
    by (inl x) y = other (omega arith)
    by (inr x) (inl y) = other (omega arith)
    by (inr x) (inr y) = same (omega arith)
      where
        same : j ≡ i → Tells us (set nodes i s) j q m
        same e g =
            let u : IsNode (length nodes) i q m = rw (length-set nodes i s, e) at g in
            let c : n ≡ m = same_count (length nodes) i p n q m h u in
            let d : i * n ≡ length nodes + q = rw (← c) at u.place in
            let f : p ≡ q = omega (arith, d, h.place) in
            rw (e, set-same us nodes i s l, ← c, ← f) k

-- ---- a row that is changed

-- a node that none of the changed positions belong to, as is each leaf
pub tells-put : (us : List Bool) (nodes : List Summary) (b : Bool) (c n i p m : ℕ) → (c < c + n → p < c + n → p + m ≤ c) → Tells us nodes i p m → Tells (put_run b c n us) nodes i p m
tells-put us nodes b c n i p m h t = by (cases_lt i (length nodes))
  where
    out : (j : ℕ) → p ≤ j → j < p + m → c ≤ j → c + n ≤ j
    out j x y z = past (cases_lt 0 n) (cases_lt p (c + n))
      where
        past : (0 < n) ⊎ (n ≤ 0) → (p < c + n) ⊎ (c + n ≤ p) → c + n ≤ j
        past (inl s) (inl u) = absurd (omega (arith, h (omega arith) u))
        past (inl s) (inr u) = omega arith
        past (inr s) u = omega arith

    by : (i < length nodes) ⊎ (length nodes ≤ i) → Tells (put_run b c n us) nodes i p m
    by (inr s) = leaf-tells (put_run b c n us) nodes i p m s
    by (inl s) = λ k.
        let e : node_at us nodes i ≡ node_at (put_run b c n us) nodes i = node-inner us nodes i s ∙ sym (node-inner (put_run b c n us) nodes i s) in
        let a = node_at us nodes i in
        rw (← e) (summary-same us (put_run b c n us) p m a.front a.back a.best (λ j x y. sym (put-outside b true c n j us (out j x y))) (t k))
