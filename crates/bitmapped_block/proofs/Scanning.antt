-- The next unit that is taken, or free, is found word by word.
use Rattle.std.proofs.Common.{◌≡◌, refl, sym, ◌∙◌, ap, subst, ℕ, ◌+◌, ◌-◌, ◌*◌, ◌/◌, ◌%◌, ◌≤◌, ◌<◌, ⊎_elim, Bool, true, false, not, List, length, slice_get, Some, min, nat_eq, arith}
use Rattle.std.proofs.lemmas.Bool.{cases_lt}
use Rattle.std.proofs.lemmas.Bool.Decides.{nat_tests}
use Rattle.std.specs.Int.{bit_at}
use Rattle.space_core.specs.Words.{word_at}
use Rattle.bitmap_rules.specs.BitmapRules.{bit_at as unit_bit}
use Rattle.bitmapped_block.specs.declared.bits.BitRow.{BitRow}
use Rattle.bitmapped_block.specs.UnitBits.{units_at, IsNext}
use Rattle.bitmapped_block.specs.WordBits.{IsBit, IsLowest}
use Rattle.bitmapped_block.proofs.RowBits.{AreThere, unit-get}

pub bit-test : (x : Bool) (word j : ℕ) → IsBit x word j → nat_eq (bit_at word j) 1 ≡ x
bit-test true word j h = grind (arith, nat_tests)
bit-test false word j h = grind (arith, nat_tests)

-- no unit from one number up to another is x, as far as it comes before the end
pub record IsPassed (x : Bool) (bytes : List ℕ) (row : BitRow) (from upto at : ℕ) : Type 0 where
  pub start : from ≤ at
  pub before : (i : ℕ) → from ≤ i → i < at → i < upto → unit_bit bytes row.place i ≡ not x

-- a bit of the word of a unit
in-word : (x : Bool) (bytes : List ℕ) (place at word i : ℕ) → word ≡ word_at bytes (place + 8 * (at / 64)) → i / 64 ≡ at / 64 → IsBit x word (i % 64) → unit_bit bytes place i ≡ x
in-word x bytes place at word i w s b =
    bit-test x (word_at bytes (place + 8 * (i / 64))) (i % 64) (subst (λ n. IsBit x n (i % 64)) (w ∙ ap (λ k. word_at bytes (place + 8 * k)) (sym s)) b)

-- what the word tells of the units up to the bit that was found in it
word-passed : (x : Bool) (bytes : List ℕ) (row : BitRow) (from upto at word bit : ℕ) → IsPassed x bytes row from upto at → word ≡ word_at bytes (row.place + 8 * (at / 64)) → IsLowest x word (at % 64) bit
    → IsPassed x bytes row from upto (at / 64 * 64 + bit)
word-passed x bytes row from upto at word bit p w l =
    let start = l.start in
    let most = l.most in
    let first = p.start in
    record {
      start = omega arith;
      before = λ i a b c. ⊎_elim
          (λ d. p.before i a d c)
          (λ d.
          let same : i / 64 ≡ at / 64 = omega arith in
          in-word (not x) bytes row.place at word i w same (l.before (i % 64) (omega arith) (omega arith)))
          (cases_lt i at);
    }

-- a word without such a bit is passed whole
pub word-behind : (x : Bool) (bytes : List ℕ) (row : BitRow) (from upto at word bit : ℕ) → IsPassed x bytes row from upto at → word ≡ word_at bytes (row.place + 8 * (at / 64)) → IsLowest x word (at % 64) bit → 64 ≤ bit
    → IsPassed x bytes row from upto (at / 64 * 64 + 64)
word-behind x bytes row from upto at word bit p w l h =
    let most = l.most in
    let e : bit ≡ 64 = omega arith in
    subst (λ k. IsPassed x bytes row from upto (at / 64 * 64 + k)) e (word-passed x bytes row from upto at word bit p w l)

passed-all : (x : Bool) (bytes : List ℕ) (row : BitRow) (from upto at k : ℕ) → AreThere bytes row → upto ≤ row.count → IsPassed x bytes row from upto at → from ≤ k → k ≤ at → k ≤ upto
    → (i : ℕ) → from ≤ i → i < from + (k - from) → slice_get (units_at bytes row) i ≡ Some (not x)
passed-all x bytes row from upto at k h u p a b c i d e = unit-get bytes row i h (omega arith) ∙ ap Some (p.before i d (omega arith) (omega arith))

pub next-found : (x : Bool) (bytes : List ℕ) (row : BitRow) (from upto at word bit k : ℕ) → AreThere bytes row → from ≤ upto → upto ≤ row.count → IsPassed x bytes row from upto at → word ≡ word_at bytes (row.place + 8 * (at / 64)) → IsLowest x word (at % 64) bit → bit < 64
    → k ≡ min upto (at / 64 * 64 + bit) → IsNext x (units_at bytes row) from upto k
next-found x bytes row from upto at word bit k h o u p w l b e =
    let q = word-passed x bytes row from upto at word bit p w l in
    let start = l.start in
    let first = p.start in
    record {
      start = omega arith;
      most = omega arith;
      before = passed-all x bytes row from upto (at / 64 * 64 + bit) k h u q (omega arith) (omega arith) (omega arith);
      here = λ z.
          let s : k / 64 ≡ at / 64 = omega arith in
          let r : bit ≡ k % 64 = omega arith in
          unit-get bytes row k h (omega arith) ∙ ap Some (in-word x bytes row.place at word k w s (subst (λ j. IsBit x word j) r (l.here b)));
    }

pub next-none : (x : Bool) (bytes : List ℕ) (row : BitRow) (from upto at : ℕ) → AreThere bytes row → from ≤ upto → upto ≤ row.count → IsPassed x bytes row from upto at → upto ≤ at → IsNext x (units_at bytes row) from upto upto
next-none x bytes row from upto at h o u p e = record { start = o; most = omega arith; before = passed-all x bytes row from upto at upto h u p o e (omega arith); here = λ z. absurd (omega arith) }
