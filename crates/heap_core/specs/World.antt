-- World: the live blocks by name, each with its bytes and its route, in order of the names.
use Rattle.std.specs.Prelude.{ℕ, ◌-◌, ◌++◌, Bool, not, List, [], ◌∷◌, Option, Some, None, is_some, filter, take, replicate, nat_eq, nat_lt, if◌then◌else◌}
use Rattle.layer_rules.specs.declared.Block.{Block}

-- a live block, and the route that was recorded as it was allocated, or as it last moved
pub record Live : Type 0 where
  pub name : ℕ
  pub block : Block
  pub bytes : List ℕ
  pub route : List ℕ

abbrev pub live : (name : ℕ) → Block → (bytes route : List ℕ) → Live
live name b bytes route = record { name = name; block = b; bytes = bytes; route = route }

abbrev pub World : Type 0
World = List Live

-- what is live under a name
abbrev pub live_at : World → (name : ℕ) → Option Live
live_at [] name = None
live_at (x ∷ xs) name = if nat_eq x.name name then Some x else live_at xs name

abbrev pub is_live : World → (name : ℕ) → Bool
is_live w name = is_some (live_at w name)

-- the world with a block under a name that wasn't live
abbrev pub with_live : Live → World → World
with_live x [] = x ∷ []
with_live x (y ∷ ys) = if nat_lt x.name y.name then x ∷ y ∷ ys else y ∷ with_live x ys

-- the world in which the name isn't live
abbrev pub without : (name : ℕ) → World → World
without name w = filter (λ x. not (nat_eq x.name name)) w

-- the world with another block, other bytes or another route under a live name
abbrev pub replaced : Live → World → World
replaced x w = with_live x (without x.name w)

-- the bytes of a live block once it has n: those that both lengths have, and zeros behind them
abbrev pub resized : Live → (n : ℕ) → List ℕ
resized x n = take n x.bytes ++ replicate (n - x.block.len) 0
