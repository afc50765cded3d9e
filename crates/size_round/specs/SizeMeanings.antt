-- SizeMeanings: what rounding up, the two roundings and the power in a number give, in words.
use Rattle.std.specs.Prelude.{◌≡◌, ℕ, ◌*◌, ◌^◌, ◌≤◌, ◌↔◌, true}
use Rattle.size_round.specs.Sizes.{limit, ceil_div, up, RoundingKind, power_of_two, rounded, power_part}
use Rattle.size_round.specs.Sizes.{is_proper_kind, is_power_of_two}

-- n is some number times a
abbrev pub IsMultiple : (n a : ℕ) → Type 0
IsMultiple n a = (k : ℕ) × (n ≡ k * a)

-- p is 1, 2, 4 and so on
abbrev pub IsPower : ℕ → Type 0
IsPower p = (k : ℕ) × (p ≡ 2 ^ k)

-- r has the property and is at least n, and so is no less number
pub record IsLeastFrom (P : ℕ → Type 0) (n r : ℕ) : Type 0 where
  pub has : P r
  pub enough : n ≤ r
  pub least : (q : ℕ) → P q → n ≤ q → r ≤ q

-- r has the property, and no greater number has it
pub record IsGreatest (P : ℕ → Type 0) (r : ℕ) : Type 0 where
  pub has : P r
  pub greatest : (q : ℕ) → P q → q ≤ r

-- up n a is the least multiple of a that is at least n
abbrev pub UpIsLeast : Type 0
UpIsLeast = (n a : ℕ) → 1 ≤ a → IsLeastFrom (λ q. IsMultiple q a) n (up n a)

-- so many times m is at least n
abbrev pub IsEnoughTimes : (n m q : ℕ) → Type 0
IsEnoughTimes n m q = n ≤ q * m

-- ceil_div n m is the least number of times that m is taken to reach n
abbrev pub CeilDivIsLeast : Type 0
CeilDivIsLeast = (n m : ℕ) → 1 ≤ m → IsLeastFrom (IsEnoughTimes n m) 0 (ceil_div n m)

-- the test says yes of the powers of two alone
abbrev pub PowersPass : Type 0
PowersPass = (a : ℕ) → (is_power_of_two a ≡ true) ↔ IsPower a

-- the rounding by powers gives the least power of two that is at least n
abbrev pub RoundedIsLeastPower : Type 0
RoundedIsLeastPower = (n : ℕ) → IsLeastFrom IsPower n (rounded power_of_two n)

-- a power of two that divides n
abbrev pub IsPowerIn : (n p : ℕ) → Type 0
IsPowerIn n p = IsPower p × IsMultiple n p

-- power_part n n is the greatest power of two that divides n
abbrev pub PartIsGreatest : Type 0
PartIsGreatest = (n : ℕ) → 1 ≤ n → IsGreatest (IsPowerIn n) (power_part n n)

-- a proper rounding gives at least what it rounds
abbrev pub RoundedIsEnough : Type 0
RoundedIsEnough = (kind : RoundingKind) (n : ℕ) → is_proper_kind kind ≡ true → n ≤ rounded kind n

-- it gives a greater length at least as much as a less one
abbrev pub RoundedIsMonotone : Type 0
RoundedIsMonotone = (kind : RoundingKind) (m n : ℕ) → is_proper_kind kind ≡ true → m ≤ n → rounded kind m ≤ rounded kind n

-- and a length up to the limit at most twice the limit
abbrev pub RoundedIsBounded : Type 0
RoundedIsBounded = (kind : RoundingKind) (n : ℕ) → is_proper_kind kind ≡ true → n ≤ limit → rounded kind n ≤ 2 * limit
