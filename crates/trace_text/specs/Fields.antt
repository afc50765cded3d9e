-- Fields: what stands in a line between blanks, and where.
use Rattle.std.specs.Prelude.{ℕ, ◌+◌, Bool, ◌||◌, nat_eq, List, [], ◌∷◌, drop, length}
use Rattle.std.specs.List.{slice_split}

-- a space or a tab
abbrev pub is_blank : (byte : ℕ) → Bool
is_blank byte = nat_eq byte 32 || nat_eq byte 9

-- a field's bytes, and the column of the first, counted from 1
pub record Field : Type 0 where
  pub column : ℕ
  pub text : List ℕ

abbrev pub field : (column : ℕ) (text : List ℕ) → Field
field column text = record { column = column; text = text }

-- the fields of what stands between single blanks, where the first of it begins at this column
abbrev pub fields_from : (column : ℕ) → (pieces : List (List ℕ)) → List Field
fields_from column [] = []
fields_from column ([] ∷ pieces) = fields_from (column + 1) pieces
fields_from column ((b ∷ bs) ∷ pieces) = field column (b ∷ bs) ∷ fields_from (column + length (b ∷ bs) + 1) pieces

-- what is left of a line: its fields, and the column behind the line
pub record Left : Type 0 where
  pub fields : List Field
  pub end : ℕ

-- what is left of a line behind so many of its bytes
abbrev pub left_behind : (line : List ℕ) (position : ℕ) → Left
left_behind line position = record { fields = fields_from (position + 1) (slice_split is_blank (drop position line)); end = length line + 1 }

-- all of a line
abbrev pub whole : (line : List ℕ) → Left
whole line = left_behind line 0
