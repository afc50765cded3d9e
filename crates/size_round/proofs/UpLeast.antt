-- Rounding up gives the least multiple, and multiples of one number lie that number apart.
use Rattle.std.proofs.Common.{◌≡◌, refl, ℕ, suc, ◌+◌, ◌-◌, ◌*◌, ◌<◌, ◌≤◌, arith}
use Rattle.std.proofs.Math.Nat.{mul-le-mul_right, lt_of_mul-lt-mul_right}
use Rattle.std.proofs.lemmas.Nat.{div-add-mod', mod_below}
use Rattle.size_round.specs.Sizes.{ceil_div}
use Rattle.size_round.specs.SizeMeanings.{UpIsLeast, CeilDivIsLeast}

-- ceil_div takes m often enough
pub enough_times : (n m : ℕ) → 1 ≤ m → n ≤ ceil_div n m * m
enough_times n m h = omega (arith, div-add-mod' (n + (m - 1)) m, mod_below (n + (m - 1)) m (omega arith))

-- and reaches less than m above n
pub times_below : (n m : ℕ) → 1 ≤ m → ceil_div n m * m < n + m
times_below n m h = omega (arith, div-add-mod' (n + (m - 1)) m)

pub ceil_div-least : (n m q : ℕ) → 1 ≤ m → n ≤ q * m → ceil_div n m ≤ q
ceil_div-least n m q h l =
    let below = times_below n m h in
    let next : suc q * m ≡ q * m + m = grind arith in
    let c : ceil_div n m < suc q = lt_of_mul-lt-mul_right m (omega arith) in
    omega arith

pub up_is_least : UpIsLeast
up_is_least n a h = record {
  has = (ceil_div n a, refl);
  enough = enough_times n a h;
  least = λ q (k, e) l. let c = ceil_div-least n a k h (omega arith) in let d : ceil_div n a * a ≤ k * a = mul-le-mul_right a c in omega arith;
}

pub ceil_div_is_least : CeilDivIsLeast
ceil_div_is_least n m h = record {
  has = enough_times n m h;
  enough = omega arith;
  least = λ q l z. ceil_div-least n m q h l;
}
