-- Bits of a word: its lowest one, and those that a mask changes.
use Rattle.std.proofs.Common.{◌≡◌, refl, sym, ◌∙◌, ap, ap₂, subst, ℕ, ◌+◌, ◌-◌, ◌*◌, ◌/◌, ◌%◌, ◌^◌, ◌≤◌, ◌<◌, ⊎_elim, Bool, true, false, not, cond, min, max, bit_and, bit_or, arith}
use Rattle.std.proofs.Math.Nat.{div-div-eq-div-mul}
use Rattle.std.proofs.lemmas.Bool.{cases_lt}
use Rattle.std.proofs.lemmas.Nat.{pow-add, pow_pos, and_le_l}
use Rattle.std.proofs.lemmas.Nat.Bits.{bit_at-zero, bit_at-lt, bit_at_above, bit_at_and, bit_at_or, bit_at_not, bit_at_ones, bit_at_ones_above, bit_at_mask_inside, bit_at_mask_below, bit_at-trailing_zeros, ones_shr, ones_shl}
use Rattle.std.specs.Int.{bit_at, bit_not, trailing_zeros, w64}
use Rattle.std.specs.Int.Count.{trailing_of_zero}
use Rattle.bitmapped_block.specs.WordBits.{IsBit, AreSet, IsLowest}

-- ---- the lowest bit

-- the bits that are left are those from there on
bit_at-shr : (n k i : ℕ) → bit_at (n / 2 ^ k) i ≡ bit_at n (k + i)
bit_at-shr n k i = ap (λ q. q % 2) (div-div-eq-div-mul n (2 ^ k) (2 ^ i) ∙ ap (λ d. n / d) (sym (pow-add 2 k i)))

shifted-zero : (n from i : ℕ) → n / 2 ^ from ≡ 0 → from ≤ i → bit_at n i ≡ 0
shifted-zero n from i z l =
    let s : from + (i - from) ≡ i = omega arith in
    ap (bit_at n) (sym s) ∙ sym (bit_at-shr n from (i - from)) ∙ ap (λ m. bit_at m (i - from)) z ∙ bit_at-zero (i - from)

shr-below : (n k : ℕ) → n < 2 ^ 64 → n / 2 ^ k < 2 ^ 64
shr-below n k h = let l = shr-le n (2 ^ k) in omega (arith, l)
  where
    shr-le : (n d : ℕ) → n / d ≤ n
    shr-le n d = grind arith

pub lowest-set : (n from k : ℕ) → n < 2 ^ 64 → from < 64 → k ≡ min (from + trailing_zeros w64 (n / 2 ^ from)) 64 → IsLowest true n from k
lowest-set n from k h l e = ⊎_elim
    (λ p.
    let t = trailing_zeros w64 (n / 2 ^ from) in
    let r = bit_at-trailing_zeros w64 (n / 2 ^ from) p (shr-below n from h) in
    let here : bit_at n (from + t) ≡ 1 = sym (bit_at-shr n from t) ∙ r.1 in
    let inside : from + t < 64 = ⊎_elim (λ x. x) (λ a. let z = bit_at_above n 64 (from + t) h a in absurd (omega arith)) (cases_lt (from + t) 64) in
    let q : k ≡ from + t = omega arith in
    record {
      start = omega arith;
      most = omega arith;
      before = λ i a b. let s : from + (i - from) ≡ i = omega arith in ap (bit_at n) (sym s) ∙ sym (bit_at-shr n from (i - from)) ∙ r.2 (i - from) (omega arith);
      here = λ x. ap (bit_at n) q ∙ here;
    })
    (λ z.
    let none : n / 2 ^ from ≡ 0 = omega arith in
    let t : trailing_zeros w64 (n / 2 ^ from) ≡ 64 = ap (trailing_zeros w64) none ∙ trailing_of_zero 64 in
    let q : k ≡ 64 = omega arith in
    record {
      start = omega arith;
      most = omega arith;
      before = λ i a b. shifted-zero n from i none a;
      here = λ x. absurd (omega arith);
    })
    (cases_lt 0 (n / 2 ^ from))

-- the lowest bit that isn't set is the lowest one that is set of the word turned over
pub lowest-clear : (n from k : ℕ) → n < 2 ^ 64 → from < 64 → k ≡ min (from + trailing_zeros w64 (bit_not w64 n / 2 ^ from)) 64 → IsLowest false n from k
lowest-clear n from k h l e =
    let r = lowest-set (bit_not w64 n) from k (omega arith) l e in
    let most = r.most in
    record {
      start = r.start;
      most = most;
      before = λ i a b. let z = r.before i a b in let t = bit_at_not w64 n i h (omega arith) in let u = bit_at-lt n i in omega arith;
      here = λ x. let z = r.here x in let t = bit_at_not w64 n k h x in let u = bit_at-lt n k in omega arith;
    }

-- ---- a mask

-- the bits from one number up to another
abbrev pub mask_of : (from upto : ℕ) → ℕ
mask_of from upto = bit_and ((2 ^ 64 - 1) / 2 ^ (64 - upto)) ((2 ^ 64 - 1) * 2 ^ from % 2 ^ 64)

record IsMask (from upto mask : ℕ) : Type 0 where
  small : mask < 2 ^ 64
  inside : (i : ℕ) → from ≤ i → i < upto → bit_at mask i ≡ 1
  below : (i : ℕ) → i < from → bit_at mask i ≡ 0
  above : (i : ℕ) → upto ≤ i → bit_at mask i ≡ 0

mask-bits : (from upto : ℕ) → from < upto → upto ≤ 64 → IsMask from upto (mask_of from upto)
mask-bits from upto l m =
    let low : (2 ^ 64 - 1) / 2 ^ (64 - upto) ≡ 2 ^ upto - 1 = (let s : 64 - (64 - upto) ≡ upto = omega arith in ones_shr 64 (64 - upto) (omega arith) ∙ ap (λ k. 2 ^ k - 1) s) in
    let high : (2 ^ 64 - 1) * 2 ^ from % 2 ^ 64 ≡ 2 ^ 64 - 2 ^ from = ones_shl 64 from (omega arith) in
    let both = λ (i : ℕ). bit_at_and ((2 ^ 64 - 1) / 2 ^ (64 - upto)) ((2 ^ 64 - 1) * 2 ^ from % 2 ^ 64) i ∙ ap₂ (λ a b. min (bit_at a i) (bit_at b i)) low high in
    record {
      small = (let a = and_le_l ((2 ^ 64 - 1) / 2 ^ (64 - upto)) ((2 ^ 64 - 1) * 2 ^ from % 2 ^ 64) in let b = shr-below (2 ^ 64 - 1) (64 - upto) (omega arith) in omega (arith, a, b));
      inside = λ i a b. both i ∙ ap₂ min (bit_at_ones upto i b) (bit_at_mask_inside from 64 i a (omega arith));
      below = λ i a. both i ∙ ap (λ x. min (bit_at (2 ^ upto - 1) i) x) (bit_at_mask_below from 64 i a) ∙ min_zero (bit_at (2 ^ upto - 1) i);
      above = λ i a. both i ∙ ap (λ x. min x (bit_at (2 ^ 64 - 2 ^ from) i)) (bit_at_ones_above upto i a) ∙ zero_min (bit_at (2 ^ 64 - 2 ^ from) i);
    }
  where
    min_zero : (a : ℕ) → min a 0 ≡ 0
    min_zero a = omega arith

    zero_min : (a : ℕ) → min 0 a ≡ 0
    zero_min a = omega arith

pub mask-sets : (n from upto : ℕ) → from < upto → upto ≤ 64 → AreSet true from upto n (bit_or n (mask_of from upto))
mask-sets n from upto l m =
    let k = mask-bits from upto l m in
    let at = λ (i : ℕ). bit_at_or n (mask_of from upto) i in
    record {
      inside = λ i a b. at i ∙ ap (λ x. max (bit_at n i) x) (k.inside i a b) ∙ (let u = bit_at-lt n i in omega arith);
      below = λ i a. at i ∙ ap (λ x. max (bit_at n i) x) (k.below i a) ∙ max_zero (bit_at n i);
      above = λ i a b. at i ∙ ap (λ x. max (bit_at n i) x) (k.above i a) ∙ max_zero (bit_at n i);
    }
  where
    max_zero : (a : ℕ) → max a 0 ≡ a
    max_zero a = omega arith

pub mask-clears : (n from upto : ℕ) → n < 2 ^ 64 → from < upto → upto ≤ 64 → AreSet false from upto n (bit_and n (bit_not w64 (mask_of from upto)))
mask-clears n from upto h l m =
    let k = mask-bits from upto l m in
    let at = λ (i : ℕ) (x : i < 64). bit_at_and n (bit_not w64 (mask_of from upto)) i ∙ ap (λ x. min (bit_at n i) x) (bit_at_not w64 (mask_of from upto) i k.small x) in
    record {
      inside = λ i a b. at i (omega arith) ∙ ap (λ x. min (bit_at n i) (1 - x)) (k.inside i a b) ∙ (let u = bit_at-lt n i in omega arith);
      below = λ i a. at i (omega arith) ∙ ap (λ x. min (bit_at n i) (1 - x)) (k.below i a) ∙ (let u = bit_at-lt n i in omega arith);
      above = λ i a b. at i b ∙ ap (λ x. min (bit_at n i) (1 - x)) (k.above i a) ∙ (let u = bit_at-lt n i in omega arith);
    }
