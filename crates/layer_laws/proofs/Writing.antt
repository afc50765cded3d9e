-- Bytes that are written into a block that is out: a call of the layer that changes bytes alone.
use Rattle.std.proofs.Common.{◌≡◌, ◌≢◌, refl, ap, ◌∙◌, inl, inr, ◌⊎◌, ℕ, ◌+◌, ◌≤◌, ◌<◌, ◌^◌, List, [], ◌∷◌, length, get_or, set, true, arith, get_or-set_other}
use Rattle.std.proofs.lemmas.Bool.Decides.{nat_tests}
use Rattle.std.proofs.lemmas.Nat.{from_le_bytes-to_le_bytes_8}
use Rattle.std.specs.Int.{from_le_bytes, to_le_bytes, w64}
use Rattle.space_core.specs.Memory.{Memory}
use Rattle.space_core.specs.Words.{word_at, put_word, write_from}
use Rattle.space_core.proofs.Writes.{length-write_from, slice_range-write_from}
use Rattle.layer_rules.specs.declared.Block.{Block}
use Rattle.layer_rules.specs.Blocks.{end_of, is_apart}
use Rattle.layer_rules.specs.Layering.{LayerModel, Stands, IsOutOf, AreApartIn, Frames, Stays}
use Rattle.layer_laws.specs.Lawful.{IsMade}
use Rattle.layer_laws.specs.Standing.{Writes}
use Rattle.layer_laws.proofs.Placement.{apart-share_no_byte, write-keeps, write-changes_own}

-- ---- bytes that are written

pub write_from-below : (bs : List ℕ) (p : ℕ) (xs : List ℕ) (i : ℕ) → i < p → get_or (write_from bs p xs) i 0 ≡ get_or bs i 0
write_from-below bs p [] i h = refl
write_from-below bs p (x ∷ xs) i h =
    let ne : i ≢ p = omega arith in
    write_from-below (set bs p x) (p + 1) xs i (omega arith) ∙ get_or-set_other bs p i x 0 ne

pub write_from-above : (bs : List ℕ) (p : ℕ) (xs : List ℕ) (i : ℕ) → p + length xs ≤ i → get_or (write_from bs p xs) i 0 ≡ get_or bs i 0
write_from-above bs p [] i h = refl
write_from-above bs p (x ∷ xs) i h =
    let ne : i ≢ p = omega arith in
    write_from-above (set bs p x) (p + 1) xs i (omega arith) ∙ get_or-set_other bs p i x 0 ne

-- bytes that are written within a block change bytes of that block alone
pub bytes-inside : (b : Block) (m : Memory) (p : ℕ) (xs : List ℕ) → b.place ≤ p → p + length xs ≤ end_of b → Writes b m (record m { bytes = write_from m.bytes p xs })
bytes-inside b m p xs l h =
    record {
      cells = refl;
      leaves = refl;
      bytes = record {
        length_same = length-write_from m.bytes p xs;
        below = λ i x. write_from-below m.bytes p xs i (omega arith);
        above = λ i x. write_from-above m.bytes p xs i (omega arith);
      };
    }

pub word-inside : (b : Block) (m : Memory) (v : ℕ) → 8 ≤ b.len → Writes b m (record m { bytes = put_word m.bytes b.place v })
unfolding put_word
word-inside b m v h = bytes-inside b m b.place (to_le_bytes w64 v) (omega arith) (omega arith)

-- a word that was written is read again
pub word_at-put_word : (bs : List ℕ) (p v : ℕ) → p + 8 ≤ length bs → v < 2 ^ 64 → word_at (put_word bs p v) p ≡ v
unfolding put_word
word_at-put_word bs p v r h = ap (from_le_bytes w64) (slice_range-write_from bs p (to_le_bytes w64 v) r) ∙ from_le_bytes-to_le_bytes_8 v h

-- ---- a write, as a call

pub write-frames : (t : LayerModel) (m m' : Memory) (b : Block) → IsMade t.rules → Stands t m → IsOutOf t m b → Writes b m m' → Frames t t m m'
write-frames t m m' b l h o k =
    let w = write-changes_own t m m' b l h o k in
    record { rules = refl; image = (write-keeps t m m' b l h o k).stands.image; memory = w.memory; size = w.size; leaves = w.leaves; foreign = w.foreign }

one-before : (b c : Block) → is_apart b c ≡ true → (end_of b ≤ c.place) ⊎ (end_of c ≤ b.place)
one-before b c h = grind (arith, nat_tests)

pub write-stays : (t : LayerModel) (m m' : Memory) (b : Block) → IsMade t.rules → Stands t m → IsOutOf t m b → Writes b m m' → (c : Block) → IsOutOf t m c → AreApartIn t m b c → Stays t t m m' c
write-stays t m m' b l h o k c p a =
    let w = write-keeps t m m' b l h o k in
    record {
      bytes = record {
        at = λ i x y. elim (one-before b c (apart-share_no_byte t m b c l h o p a)) [ inl z ↦ k.bytes.above i (omega arith) | inr z ↦ k.bytes.below i (omega arith) ];
      };
      clean = w.clean c p (inr a);
      marked = w.marked c p (inr a);
    }
