-- Lines: how an input falls into lines. A newline is the byte 10, and belongs to the line that it ends.
use Rattle.std.specs.Prelude.{◌≡◌, ℕ, false, List, [], ◌∷◌, ◌++◌, nat_eq, if◌then◌else◌}
use Rattle.std.specs.List.{AllByRecursion}

-- a byte before the first line
abbrev pub onto_first : (byte : ℕ) (lines : List (List ℕ)) → List (List ℕ)
onto_first b [] = (b ∷ []) ∷ []
onto_first b (line ∷ lines) = (b ∷ line) ∷ lines

-- the input cut after each newline; a rest that isn't empty is the last line
abbrev pub lines_of : (input : List ℕ) → List (List ℕ)
lines_of [] = []
lines_of (b ∷ bs) = if nat_eq b 10 then (10 ∷ []) ∷ lines_of bs else onto_first b (lines_of bs)

-- a line without the newline that ends it
abbrev pub body_of : (line : List ℕ) → List ℕ
body_of [] = []
body_of (b ∷ bs) = if nat_eq b 10 then [] else b ∷ body_of bs

-- no byte is a newline
abbrev pub IsOpen : (bytes : List ℕ) → Type 0
IsOpen [] = Unit {0}
IsOpen (b ∷ bs) = (nat_eq b 10 ≡ false) × IsOpen bs

-- a newline ends it, and stands nowhere else in it
abbrev pub IsWhole : (line : List ℕ) → Type 0
IsWhole line = (body : List ℕ) × IsOpen body × (line ≡ body ++ 10 ∷ [])

-- the bytes of these lines
abbrev pub joined : (lines : List (List ℕ)) → List ℕ
joined [] = []
joined (line ∷ lines) = line ++ joined lines

-- the bytes are these whole lines, and then the beginning of a line
pub record Cut (bytes : List ℕ) (lines : List (List ℕ)) (rest : List ℕ) : Type 0 where
  pub all : bytes ≡ joined lines ++ rest
  pub whole : AllByRecursion IsWhole lines
  pub open_rest : IsOpen rest
