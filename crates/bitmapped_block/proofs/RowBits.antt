-- Units bit by bit: what is read from the words, and which words these are.
use Rattle.std.proofs.Common.{◌≡◌, refl, sym, ◌∙◌, ap, subst, ℕ, zero, suc, ◌+◌, ◌-◌, ◌*◌, ◌/◌, ◌%◌, ◌^◌, ◌≤◌, ◌<◌, Bool, true, false, cond, not, List, [], ◌∷◌, length, take, drop, get_or, slice_get, Some, nat_eq, nat_le, arith, length-drop, length-take}
use Rattle.std.proofs.lemmas.Bool.Decides.{nat_tests}
use Rattle.std.proofs.lemmas.List.{same_lists, get_or-drop}
use Rattle.std.proofs.lemmas.Nat.Bits.{bit_at_lowest, bit_at-suc, bit_at-zero, same_from_bits_below}
use Rattle.std.proofs.lemmas.Option.{slice_get-get_or, get_or_from_slice_get}
use Rattle.std.specs.Int.{bit_at}
use Rattle.size_round.specs.Sizes.{ceil_div}
use Rattle.space_core.specs.Words.{word_at, has_bytes, IsWordAt}
use Rattle.bitmap_rules.specs.BitmapRules.{bit_at as unit_bit, bits_number, read_bits}
use Rattle.bitmap_rules.specs.BitmapMeanings.{IsBitmap}
use Rattle.bitmapped_block.specs.declared.bits.BitRow.{BitRow}
use Rattle.bitmapped_block.specs.UnitBits.{units_at, words_end}
use Rattle.bitmapped_block.specs.WordBits.{IsBit}

-- ---- lists

pub same_by_get : (xs ys : List Bool) → length xs ≡ length ys → ((k : ℕ) → k < length xs → slice_get xs k ≡ slice_get ys k) → xs ≡ ys
same_by_get xs ys l h = same_lists xs ys l (λ k d m. let p = slice_get-get_or xs k d m in let q = slice_get-get_or ys k d (omega arith) in let r = h k m in cc)

-- ---- what is read

-- the words stand among these bytes
abbrev pub AreThere : List ℕ → BitRow → Type 0
AreThere bytes row = words_end row ≤ length bytes

read-here : (bytes : List ℕ) (place i n : ℕ) → place + 8 * (i / 64) + 8 ≤ length bytes → read_bits bytes place i (suc n) ≡ unit_bit bytes place i ∷ read_bits bytes place (suc i) n
unfolding read_bits
read-here bytes place i n h =
    let e : has_bytes bytes (place + 8 * (i / 64)) 8 ≡ true = grind (arith, nat_tests) in
    ap (λ b. elim b as (λ _. List Bool) [ true ↦ unit_bit bytes place i ∷ read_bits bytes place (suc i) n | false ↦ [] ]) e

read-length : (bytes : List ℕ) (place i n : ℕ) → place + 8 * ceil_div (i + n) 64 ≤ length bytes → length (read_bits bytes place i n) ≡ n
unfolding read_bits
read-length bytes place i zero h = refl
read-length bytes place i (suc n) h =
    let s : i + suc n ≡ suc i + n = omega arith in
    ap length (read-here bytes place i n (omega arith)) ∙ ap suc (read-length bytes place (suc i) n (subst (λ m. place + 8 * ceil_div m 64 ≤ length bytes) s h))

read-get : (bytes : List ℕ) (place i n j : ℕ) → place + 8 * ceil_div (i + n) 64 ≤ length bytes → j < n → slice_get (read_bits bytes place i n) j ≡ Some (unit_bit bytes place (i + j))
read-get bytes place i zero j h l = absurd (omega arith)
read-get bytes place i (suc n) zero h l =
    let s : i ≡ i + 0 = omega arith in
    ap (λ us. slice_get us 0) (read-here bytes place i n (omega arith)) ∙ ap (λ k. Some (unit_bit bytes place k)) s
read-get bytes place i (suc n) (suc j) h l =
    let s : i + suc n ≡ suc i + n = omega arith in
    let k : suc i + j ≡ i + suc j = omega arith in
    ap (λ us. slice_get us (suc j)) (read-here bytes place i n (omega arith))
    ∙ read-get bytes place (suc i) n j (subst (λ m. place + 8 * ceil_div m 64 ≤ length bytes) s h) (omega arith) ∙ ap (λ k. Some (unit_bit bytes place k)) k

from-zero : (bytes : List ℕ) (row : BitRow) → AreThere bytes row → row.place + 8 * ceil_div (0 + row.count) 64 ≤ length bytes
from-zero bytes row h = let s : row.count ≡ 0 + row.count = omega arith in subst (λ m. row.place + 8 * ceil_div m 64 ≤ length bytes) s h

pub units-length : (bytes : List ℕ) (row : BitRow) → AreThere bytes row → length (units_at bytes row) ≡ row.count
units-length bytes row h = read-length bytes row.place 0 row.count (from-zero bytes row h)

pub unit-get : (bytes : List ℕ) (row : BitRow) (i : ℕ) → AreThere bytes row → i < row.count → slice_get (units_at bytes row) i ≡ Some (unit_bit bytes row.place i)
unit-get bytes row i h l = let s : 0 + i ≡ i = omega arith in read-get bytes row.place 0 row.count i (from-zero bytes row h) l ∙ ap (λ k. Some (unit_bit bytes row.place k)) s

-- ---- the number of some bits

cond-below : (u : Bool) → cond u 1 0 < 2
cond-below true = omega arith
cond-below false = omega arith

pub number-below : (us : List Bool) → bits_number us < 2 ^ length us
unfolding bits_number
number-below [] = omega arith
number-below (u ∷ us) = let h = number-below us in let c = cond-below u in grind (arith, h, c)

pub number-bit : (us : List Bool) (j : ℕ) → bit_at (bits_number us) j ≡ cond (get_or us j false) 1 0
unfolding bits_number
number-bit [] j = bit_at-zero j
number-bit (u ∷ us) zero = bit_at_lowest (cond u 1 0 + 2 * bits_number us) ∙ (let c = cond-below u in omega arith)
number-bit (u ∷ us) (suc j) =
    let c = cond-below u in
    let e : (cond u 1 0 + 2 * bits_number us) / 2 ≡ bits_number us = omega arith in
    bit_at-suc (cond u 1 0 + 2 * bits_number us) j ∙ ap (λ n. bit_at n j) e ∙ number-bit us j
