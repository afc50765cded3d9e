-- Sources: what a call of one does to what it has left.
use Rattle.std.specs.Prelude.{◌≡◌, ℕ, Bool, true, List, [], ◌++◌, Option, Some, None, Result, Ok, Err, nat_eq}
use Rattle.source_sink.specs.declared.Failed.{Failed}

-- These bytes were taken from the front of what was left. A source that doesn't tell goes on not telling.
abbrev pub Takes : (before now : Option (List ℕ)) (bytes : List ℕ) → Type 0
Takes (Some before) (Some now) bytes = before ≡ bytes ++ now
Takes None None bytes = Unit {0}
Takes (Some before) None bytes = ⊥
Takes None (Some now) bytes = ⊥

-- nothing is left, where the source tells
abbrev pub IsAtEnd : (left : Option (List ℕ)) → Type 0
IsAtEnd (Some left) = left ≡ []
IsAtEnd None = Unit {0}

-- the answers after which a source is finished: the end, and a failure
abbrev pub finishes : Result ℕ Failed → Bool
finishes (Ok count) = nat_eq count 0
finishes (Err _) = true

-- a source in memory: the bytes that it has left, and whether it gave its end
pub record Giving : Type 0 where
  pub left : List ℕ
  pub finished : Bool

-- a source in memory that fails in named calls: the bytes that it has left, how many of them it gives at most in
-- a call, how often it was called, the numbers of the calls that fail, how often it has failed, and whether it
-- is finished
pub record Feeding : Type 0 where
  pub left : List ℕ
  pub most : ℕ
  pub calls : ℕ
  pub failing : List ℕ
  pub faults : ℕ
  pub finished : Bool
