-- What changes of bytes leave of a bitmap: its words stand in front of its units, so no write into a block touches them.
use Rattle.std.proofs.Common.{◌≡◌, refl, ap, ap₂, subst, ℕ, zero, suc, ◌≤◌, ◌<◌, ◌+◌, ◌*◌, ◌/◌, ◌%◌, ◌^◌, inl, Bool, true, false, arith, List, [], ◌∷◌, length, nat_eq, nat_le}
use Rattle.space_core.specs.Words.{has_bytes}
use Rattle.layer_rules.specs.declared.Block.{Block}
use Rattle.layer_rules.specs.Fields.{Kept, kept_chunk}
use Rattle.layer_rules.specs.State.{bitmap_own, chunk_in, units_in}
use Rattle.layer_laws.proofs.KeptBytes.{KeptBytes, IsWordAt-same, word_at-same}
use Rattle.layer_laws.specs.Carves.{IsInOrder, IsOutIn, BesideKept, ReadsSame}
use Rattle.bitmap_rules.specs.BitmapMeanings.{IsBitmap}
use Rattle.bitmap_rules.proofs.BitmapParts.{bitmap-of, bitmap-words, words-bitmap}
use Rattle.bitmap_rules.specs.BitmapRules.{bit_at, bitmap_carving, bitmap_front, is_bitmap, read_bitmap, read_bits, units_in_chunk}
use Rattle.std.proofs.lemmas.Bool.Decides.{nat_tests}

-- ---- the words, where the bytes in front of the units stay

-- the word of unit i ends in front of the units
front-word : (n i : ℕ) → i < n → 8 * (i / 64) + 8 ≤ bitmap_front n
front-word n i l = omega arith

read-same : (old new : List ℕ) (place i n : ℕ) → KeptBytes old new place (place + bitmap_front (i + n)) → read_bits new place i n ≡ read_bits old place i n
unfolding read_bits
read-same old new place i zero k = refl
read-same old new place i (suc n) k =
    let front = front-word (i + suc n) i (omega arith) in
    let p = place + 8 * (i / 64) in
    let word = word_at-same old new p (record { length_same = k.length_same; at = λ j x y. k.at j (omega arith) (omega arith) }) in
    let sum : i + suc n ≡ suc i + n = omega arith in
    by-test (has_bytes new p 8) (has_bytes old p 8) (ap (λ m. nat_le (p + 8) m) k.length_same) (bit_at new place i ∷ read_bits new place (suc i) n) (bit_at old place i ∷ read_bits old place (suc i) n)
    (ap₂ (λ (w : ℕ) r. nat_eq ((w / 2 ^ (i % 64)) % 2) 1 ∷ r) word (read-same old new place (suc i) n (subst (λ m. KeptBytes old new place (place + bitmap_front m)) sum k)))
  where
    by-test : (q r : Bool) → q ≡ r → (a b : List Bool) → a ≡ b → elim q as (λ _. List Bool) [ true ↦ a | false ↦ [] ] ≡ elim r as (λ _. List Bool) [ true ↦ b | false ↦ [] ]
    by-test true true e a b z = z
    by-test false false e a b z = refl
    by-test true false e a b z = absurd (cc)
    by-test false true e a b z = absurd (cc)

words-same : (old new : List ℕ) (place : ℕ) (units : List Bool) → KeptBytes old new place (place + bitmap_front (length units)) → IsBitmap old place units → IsBitmap new place units
words-same old new place units k h j l =
    let q : 8 * j + 8 ≤ bitmap_front (length units) = omega arith in
    IsWordAt-same old new (place + 8 * j) _ (record { length_same = k.length_same; at = λ i x y. k.at i (omega arith) (omega arith) }) (h j l)

-- ---- a bitmap, where the bytes of its chunk that are no block's stay

pub bitmap-beside : (unit count : ℕ) (k : Kept) (old new : List ℕ) → (let own = read_bitmap unit (kept_chunk k) old in IsInOrder (bitmap_carving unit count) own → is_bitmap old (chunk_in own).place (units_in own) ≡ true
    → BesideKept (bitmap_carving unit count) own old new → ReadsSame (bitmap_carving unit count) k old new)
bitmap-beside unit count k old new o i h =
    let chunk = kept_chunk k in
    let units = units_in_chunk unit chunk in
    let row = read_bits old chunk.place 0 units in
    let base = chunk.place + bitmap_front units in
    let m = bitmap-of unit count chunk base row o.passes in
    let start = m.start in
    let len = m.len in
    -- no block begins in front of the units
    let front : KeptBytes old new chunk.place base = record {
      length_same = h.length_same;
      at = λ j x y. h.at j x (omega arith) (λ b out. inl (let z = in-row b out in omega arith));
    } in
    let none : units ≡ 0 + units = omega arith in
    let read : read_bits new chunk.place 0 units ≡ row = read-same old new chunk.place 0 units (subst (λ n. KeptBytes old new chunk.place (chunk.place + bitmap_front n)) none front) in
    let words = words-same old new chunk.place row (subst (λ n. KeptBytes old new chunk.place n) start front) (bitmap-words old chunk.place row i) in
    record { read = ap (bitmap_own chunk base) read; image = words-bitmap new chunk.place row words }
  where
    in-row : (b : Block) → IsOutIn (bitmap_carving unit count) b (read_bitmap unit (kept_chunk k) old) → (kept_chunk k).place + bitmap_front (units_in_chunk unit (kept_chunk k)) ≤ b.place
    in-row b out = let z = out.out in grind (arith, nat_tests)
