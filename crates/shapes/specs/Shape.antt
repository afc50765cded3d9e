-- Shapes: the compositions of layers that an expression can name, with all copies written out. They are syntax alone: what a shape
-- means are its rules.
use Rattle.std.specs.Prelude.{ℕ, zero, suc, List, [], ◌∷◌}
use Rattle.size_round.specs.Sizes.{RoundingKind}

mutual
  pub data Shape : Type 0 where
    null : Shape
    -- a leaf, by its tag in the table of cells
    mem : (tag : ℕ) → Shape
    region : (size align : ℕ) → Shape → Shape
    bitmap : (unit count : ℕ) → Shape → Shape
    kr : (size : ℕ) → Shape → Shape
    freelist : (least greatest : ℕ) → Shape → Shape
    quantize : RoundingKind → Shape → Shape
    stats : Shape → Shape
    affix : (prefix suffix : ℕ) → Shape → Shape
    -- the thresholds, and one member more than these
    segregate : (thresholds : List ℕ) → Shapes → Shape
    buckets : (least greatest step : ℕ) → Shapes → Shape
    fallback : (primary second : Shape) → Shape
    list : Shapes → Shape

  pub data Shapes : Type 0 where
    no_members : Shapes
    member : Shape → Shapes → Shapes

abbrev pub member_count : Shapes → ℕ
member_count no_members = 0
member_count (member e es) = suc (member_count es)

-- the member with this number, and null where there is none
abbrev pub nth_member : Shapes → ℕ → Shape
nth_member no_members i = null
nth_member (member e es) zero = e
nth_member (member e es) (suc i) = nth_member es i

-- these members in a row
abbrev pub members : List Shape → Shapes
members [] = no_members
members (e ∷ es) = member e (members es)
