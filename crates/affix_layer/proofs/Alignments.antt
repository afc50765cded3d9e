-- The greatest power of two that divides a number, by the zeros at the number's end.
use Rattle.std.proofs.Common.{◌≡◌, refl, ap, ◌∙◌, ℕ, zero, suc, ◌*◌, ◌/◌, ◌%◌, ◌^◌, ◌≤◌, ◌<◌, Bool, true, false, arith, nat_eq}
use Rattle.std.proofs.Math.Nat.{pow-succ'}
use Rattle.std.proofs.lemmas.Bool.Decides.{nat_tests}
use Rattle.std.specs.Int.Count.{count_trailing_zeros, under}
use Rattle.size_round.proofs.PowerLaws.{part_is_greatest}
use Rattle.size_round.specs.Sizes.{power_part, is_multiple}
use Rattle.layer_laws.proofs.CellRooms.{multiple_from_rest}
use Rattle.affix_rules.specs.AffixRules.{alignment_behind}

pub power_part-most : (h n : ℕ) → 1 ≤ n → n ≤ h → power_part h n ≤ n
unfolding power_part
power_part-most zero n a b = absurd (omega arith)
power_part-most (suc h) n a b = go (λ c d. power_part-most h (n / 2) c d) (nat_eq (n % 2) 0) refl
  where
    go : (1 ≤ n / 2 → n / 2 ≤ h → power_part h (n / 2) ≤ n / 2) → (t : Bool) → nat_eq (n % 2) 0 ≡ t → elim t [ true ↦ 2 * power_part h (n / 2) | false ↦ 1 ] ≤ n
    go next true t =
        let even : n % 2 ≡ 0 = grind (arith, nat_tests) in
        let r = next (omega arith) (omega arith) in
        omega (arith, r)
    go next false t = a

pub trailing-part : (k h n : ℕ) → 1 ≤ n → n < 2 ^ k → n ≤ h → 2 ^ count_trailing_zeros k n ≡ power_part h n
unfolding power_part count_trailing_zeros
trailing-part zero h n a f b = absurd (omega arith)
trailing-part (suc k) zero n a f b = absurd (omega arith)
trailing-part (suc k) (suc h) n a f b = go (λ c d e. trailing-part k h (n / 2) c d e) (nat_eq (n % 2) 0) refl
  where
    go : (1 ≤ n / 2 → n / 2 < 2 ^ k → n / 2 ≤ h → 2 ^ count_trailing_zeros k (n / 2) ≡ power_part h (n / 2)) → (t : Bool) → nat_eq (n % 2) 0 ≡ t
        → 2 ^ under (n % 2) (count_trailing_zeros k (n / 2)) ≡ elim t [ true ↦ 2 * power_part h (n / 2) | false ↦ 1 ]
    go next true t =
        let even : n % 2 ≡ 0 = grind (arith, nat_tests) in
        let r = next (omega arith) (omega arith) (omega arith) in
        let zeros = count_trailing_zeros k (n / 2) in
        ap (λ d. 2 ^ under d zeros) even ∙ (pow-succ' 2 zeros ∙ ap (λ x. 2 * x) r)
    go next false t =
        let odd : n % 2 ≡ 1 = grind (arith, nat_tests) in
        ap (λ d. 2 ^ under d (count_trailing_zeros k (n / 2))) odd

-- a prefix of whole words leaves an alignment of 8
pub eight-behind : (prefix a : ℕ) → is_multiple prefix 8 ≡ true → 8 ≤ a → 8 ≤ alignment_behind prefix a
eight-behind zero a w l = l
eight-behind (suc n) a w l =
    let rest : suc n % 8 ≡ 0 = grind (arith, nat_tests) in
    let most = (part_is_greatest (suc n) (omega arith)).greatest 8 ((3, refl), multiple_from_rest (suc n) 8 rest) in
    omega arith
