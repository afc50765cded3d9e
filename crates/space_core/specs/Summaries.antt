-- Summaries: what a node of a tree of runs says of its positions, each taken (true) or free (false).
use Rattle.std.specs.Prelude.{ℕ, ◌≡◌, ◌+◌, ◌≤◌, ◌<◌, Bool, true, false, List, slice_index_or, cond, nat_eq, max}
use Rattle.space_core.specs.declared.tree.Summary.{Summary}

-- each of the m positions from c on is there and free
abbrev pub IsFree : List Bool → (c m : ℕ) → Type 0
IsFree us c m = (j : ℕ) → c ≤ j → j < c + m → slice_index_or us j true ≡ false

-- the lengths of the free run at the front of the n positions from p on, of that at their back, and of the longest
pub record IsSummary (us : List Bool) (p n front back best : ℕ) : Type 0 where
  pub front_within : front ≤ n
  pub front_free : IsFree us p front
  pub front_ends : front < n → slice_index_or us (p + front) true ≡ true
  pub back_within : back ≤ n
  pub back_free : (j : ℕ) → p + n ≤ j + back → j < p + n → slice_index_or us j true ≡ false
  pub back_ends : (j : ℕ) → back < n → j + back + 1 ≡ p + n → slice_index_or us j true ≡ true
  pub best_found : (c : ℕ) × (p ≤ c) × (c + best ≤ p + n) × IsFree us c best
  pub best_most : (c m : ℕ) → p ≤ c → c + m ≤ p + n → IsFree us c m → m ≤ best

-- what it says of the n positions from p on is so
abbrev pub SumsUp : List Bool → (p n : ℕ) → Summary → Type 0
SumsUp us p n s = IsSummary us p n s.front s.back s.best

-- the summary of one position
abbrev pub leaf_of : Bool → Summary
leaf_of taken = record { front = cond taken 0 1; back = cond taken 0 1; best = cond taken 0 1 }

-- the summary of the positions of two, of n positions each
abbrev pub join_of : (n : ℕ) → Summary → Summary → Summary
join_of n a b = record {
  front = cond (nat_eq a.front n) (n + b.front) a.front;
  back = cond (nat_eq b.back n) (n + a.back) b.back;
  best = max (max a.best b.best) (a.back + b.front);
}

-- some run of free positions has the length, and none is longer
pub record IsLongest (us : List Bool) (n : ℕ) : Type 0 where
  pub found : (c : ℕ) × IsFree us c n
  pub most : (c m : ℕ) → IsFree us c m → m ≤ n
