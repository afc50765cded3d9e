-- Units that are made taken or free, a word at a time, and all that are made free at once.
use Rattle.std.proofs.Common.{◌≡◌, refl, sym, ◌∙◌, ap, subst, ℕ, zero, suc, ◌+◌, ◌-◌, ◌*◌, ◌/◌, ◌%◌, ◌^◌, ◌≤◌, ◌<◌, ◌⊎◌, inl, inr, ⊎_elim, Bool, true, false, cond, not, List, [], ◌∷◌, length, take, drop, get_or, slice_get, Some, min, nat_eq, replicate, arith, length-drop, length-take}
use Rattle.std.proofs.Math.Pow.{pow_mono}
use Rattle.std.proofs.lemmas.Bool.{cases_lt}
use Rattle.std.proofs.lemmas.Bool.Decides.{nat_tests}
use Rattle.std.proofs.lemmas.Grind.{same_number_lists}
use Rattle.std.proofs.lemmas.List.{get_or-drop, get_or-take, get_or_past, length-replicate}
use Rattle.std.proofs.lemmas.Nat.Bits.{bit_at-lt, bit_at-zero, same_from_bits_below}
use Rattle.std.proofs.lemmas.Option.{slice_get-get_or, get_or_from_slice_get}
use Rattle.std.specs.Int.{bit_at, from_le_bytes, to_le_bytes, w64}
use Rattle.size_round.specs.Sizes.{ceil_div}
use Rattle.space_core.specs.Memory.{Memory, IsMemory}
use Rattle.space_core.specs.Runs.{put_run}
use Rattle.space_core.specs.Words.{word_at, put_word, IsWordAt}
use Rattle.space_core.proofs.CellRuns.{length-put_run}
use Rattle.space_core.proofs.Writes.{length-write_from}
use Rattle.layer_laws.proofs.KeptBytes.{KeptBytes, word_at-same}
use Rattle.layer_laws.proofs.RunWrites.{units_are_put}
use Rattle.layer_laws.proofs.Runs.{put_run-below, put_run-above, put_run-in}
use Rattle.layer_laws.proofs.Writing.{write_from-below, write_from-above, word_at-put_word}
use Rattle.bitmap_rules.specs.BitmapRules.{bit_at as unit_bit, bits_number}
use Rattle.bitmap_rules.specs.BitmapMeanings.{IsBitmap}
use Rattle.bitmapped_block.specs.declared.bits.BitRow.{BitRow}
use Rattle.bitmapped_block.specs.UnitBits.{units_at, words_end, HasWords, AreWhole, KeepsOthers, IsPutRow, IsClearedRow}
use Rattle.bitmapped_block.specs.WordBits.{AreSet}
use Rattle.bitmapped_block.proofs.RowBits.{AreThere, same_by_get, units-length, unit-get, number-below, number-bit}
use Rattle.bitmapped_block.proofs.Scanning.{bit-test}

-- ---- the words of a row, bit by bit

-- the words stand there, and no bit past the last unit is set
pub record AreWords (bytes : List ℕ) (row : BitRow) : Type 0 where
  pub there : AreThere bytes row
  pub small : (k : ℕ) → 64 * k < row.count → word_at bytes (row.place + 8 * k) < 2 ^ 64
  pub behind : (i : ℕ) → row.count ≤ i → i < 64 * ceil_div row.count 64 → unit_bit bytes row.place i ≡ false

-- the units of a word
abbrev word_units : List Bool → (k : ℕ) → List Bool
word_units us k = take 64 (drop (64 * k) us)

word_units-small : (us : List Bool) (k : ℕ) → bits_number (word_units us k) < 2 ^ 64
word_units-small us k =
    let l : length (word_units us k) ≤ 64 = simp length-take (omega arith) in
    let p : 2 ^ length (word_units us k) ≤ 2 ^ 64 = pow_mono l in
    let n = number-below (word_units us k) in
    omega (arith, n, p)

word_units-bit : (us : List Bool) (k j : ℕ) → j < 64 → bit_at (bits_number (word_units us k)) j ≡ cond (get_or us (64 * k + j) false) 1 0
word_units-bit us k j l = number-bit (word_units us k) j ∙ ap (λ b. cond b 1 0) (get_or-take 64 (drop (64 * k) us) j false l ∙ get_or-drop (64 * k) us j false)

-- a unit by the word that it stands in
unit-in : (bytes : List ℕ) (place k j : ℕ) → j < 64 → unit_bit bytes place (64 * k + j) ≡ nat_eq (bit_at (word_at bytes (place + 8 * k)) j) 1
unit-in bytes place k j l =
    let q : (64 * k + j) / 64 ≡ k = omega arith in
    let r : (64 * k + j) % 64 ≡ j = omega arith in
    ap (λ m. nat_eq (bit_at (word_at bytes (place + 8 * m)) ((64 * k + j) % 64)) 1) q ∙ ap (λ m. nat_eq (bit_at (word_at bytes (place + 8 * k)) m) 1) r

split-unit : (i : ℕ) → 64 * (i / 64) + i % 64 ≡ i
split-unit i = omega arith

cond-test : (b : Bool) → nat_eq (cond b 1 0) 1 ≡ b
cond-test true = refl
cond-test false = refl

pub words-of : (bytes : List ℕ) (row : BitRow) → AreThere bytes row → IsBitmap bytes row.place (units_at bytes row) → AreWords bytes row
words-of bytes row h b =
    let us = units_at bytes row in
    let n = units-length bytes row h in
    record {
      there = h;
      small = λ k l. let v = (b k (omega arith)).value in let s = word_units-small us k in rw v s;
      behind = λ i a l.
          let k = i / 64 in
          let j = i % 64 in
          let v = (b k (omega arith)).value in
          let s = split-unit i in
          let none : get_or us (64 * k + j) false ≡ false = get_or_past us (64 * k + j) false (omega arith) in
          ap (λ m. nat_eq (bit_at m j) 1) v ∙ ap (λ m. nat_eq m 1) (word_units-bit us k j (omega arith)) ∙ cond-test _ ∙ none;
    }

test-number : (m : ℕ) → m < 2 → cond (nat_eq m 1) 1 0 ≡ m
test-number m l = grind (arith, nat_tests)

unit-or : (bytes : List ℕ) (row : BitRow) (i : ℕ) → AreWords bytes row → i < 64 * ceil_div row.count 64 → get_or (units_at bytes row) i false ≡ unit_bit bytes row.place i
unit-or bytes row i w l =
    let n = units-length bytes row w.there in
    ⊎_elim
    (λ a. get_or_from_slice_get (units_at bytes row) i (unit_bit bytes row.place i) false (unit-get bytes row i w.there a))
    (λ a. get_or_past (units_at bytes row) i false (omega arith) ∙ sym (w.behind i a l))
    (cases_lt i row.count)

pub whole-of : (bytes : List ℕ) (row : BitRow) → AreWords bytes row → IsBitmap bytes row.place (units_at bytes row)
whole-of bytes row w k l =
    let us = units_at bytes row in
    let n = units-length bytes row w.there in
    let there = w.there in
    let word = word_at bytes (row.place + 8 * k) in
    record {
      inside = omega arith;
      value = same_from_bits_below 64 word (bits_number (word_units us k)) (w.small k (omega arith)) (word_units-small us k) (λ j a.
          sym
          (word_units-bit us k j a ∙ ap (λ b. cond b 1 0) (unit-or bytes row (64 * k + j) w (omega arith) ∙ unit-in bytes row.place k j a) ∙ test-number (bit_at word j) (bit_at-lt word j)));
    }

-- ---- a run that is put

-- what stands once the units from the first up to one have been put
pub record IsPutUpTo (x : Bool) (row : BitRow) (first at : ℕ) (old new : Memory) : Type 0 where
  pub start : first ≤ at
  pub words : AreWords new.bytes row
  pub inside : (i : ℕ) → first ≤ i → i < at → i < row.count → unit_bit new.bytes row.place i ≡ x
  pub below : (i : ℕ) → i < first → i < row.count → unit_bit new.bytes row.place i ≡ unit_bit old.bytes row.place i
  pub behind : (i : ℕ) → at ≤ i → i < row.count → unit_bit new.bytes row.place i ≡ unit_bit old.bytes row.place i
  pub others : KeepsOthers row old.bytes new.bytes
  pub after : new ≡ record old { bytes = new.bytes }
  pub memory : IsMemory new

pub put-none : (x : Bool) (row : BitRow) (first : ℕ) (m : Memory) → AreWhole m row → IsPutUpTo x row first first m m
put-none x row first m w = record {
  start = omega arith;
  words = words-of m.bytes row w.there.inside w.bits;
  inside = λ i a b c. absurd (omega arith);
  below = λ i a b. refl;
  behind = λ i a b. refl;
  others = record { size = refl; below = λ i a. refl; above = λ i a. refl };
  after = refl;
  memory = w.there.memory;
}

-- ---- a word that is written

length-put_word : (bytes : List ℕ) (p v : ℕ) → length (put_word bytes p v) ≡ length bytes
unfolding put_word
length-put_word bytes p v = length-write_from bytes p (to_le_bytes w64 v)

put_word-below : (bytes : List ℕ) (p v i : ℕ) → i < p → get_or (put_word bytes p v) i 0 ≡ get_or bytes i 0
unfolding put_word
put_word-below bytes p v i l = write_from-below bytes p (to_le_bytes w64 v) i l

put_word-above : (bytes : List ℕ) (p v i : ℕ) → p + 8 ≤ i → get_or (put_word bytes p v) i 0 ≡ get_or bytes i 0
unfolding put_word
put_word-above bytes p v i l = write_from-above bytes p (to_le_bytes w64 v) i l

-- another word stays
other-word : (bytes : List ℕ) (p v q : ℕ) → (q + 8 ≤ p) ⊎ (p + 8 ≤ q) → word_at (put_word bytes p v) q ≡ word_at bytes q
other-word bytes p v q (inl l) = word_at-same bytes (put_word bytes p v) q (record { length_same = length-put_word bytes p v; at = λ i a b. put_word-below bytes p v i (omega arith) })
other-word bytes p v q (inr l) = word_at-same bytes (put_word bytes p v) q (record { length_same = length-put_word bytes p v; at = λ i a b. put_word-above bytes p v i (omega arith) })

words-apart : (place j k : ℕ) → (j ≡ k → ⊥) → (place + 8 * j + 8 ≤ place + 8 * k) ⊎ (place + 8 * k + 8 ≤ place + 8 * j)
words-apart place j k h = ⊎_elim (λ l. inl (omega arith)) (λ l. ⊎_elim (λ m. inr (omega arith)) (λ m. absurd (h (omega arith))) (cases_lt k j)) (cases_lt j k)

same-or-not : (j k : ℕ) → (j ≡ k) ⊎ (j ≡ k → ⊥)
same-or-not j k = ⊎_elim (λ l. inr (λ e. omega arith)) (λ l. ⊎_elim (λ m. inr (λ e. omega arith)) (λ m. inl (omega arith)) (cases_lt k j)) (cases_lt j k)

-- the word number k of the row is written
record IsWritten (bytes : List ℕ) (row : BitRow) (k v : ℕ) : Type 0 where
  here : word_at (put_word bytes (row.place + 8 * k) v) (row.place + 8 * k) ≡ v
  there : (j : ℕ) → (j ≡ k → ⊥) → word_at (put_word bytes (row.place + 8 * k) v) (row.place + 8 * j) ≡ word_at bytes (row.place + 8 * j)

is-written : (bytes : List ℕ) (row : BitRow) (k v : ℕ) → AreThere bytes row → 64 * k < row.count → v < 2 ^ 64 → IsWritten bytes row k v
is-written bytes row k v h l m =
    record {
      here = word_at-put_word bytes (row.place + 8 * k) v (omega arith) m;
      there = λ j d. other-word bytes (row.place + 8 * k) v (row.place + 8 * j) (words-apart row.place j k d);
    }

-- a unit of another word stays
unit-other : (bytes : List ℕ) (row : BitRow) (k v i : ℕ) → IsWritten bytes row k v → (i / 64 ≡ k → ⊥) → unit_bit (put_word bytes (row.place + 8 * k) v) row.place i ≡ unit_bit bytes row.place i
unit-other bytes row k v i w d = ap (λ m. nat_eq (bit_at m (i % 64)) 1) (w.there (i / 64) d)

-- and one of that word is read from it
unit-here : (bytes : List ℕ) (row : BitRow) (k v i : ℕ) → IsWritten bytes row k v → i / 64 ≡ k → unit_bit (put_word bytes (row.place + 8 * k) v) row.place i ≡ nat_eq (bit_at v (i % 64)) 1
unit-here bytes row k v i w e = ap (λ m. nat_eq (bit_at (word_at (put_word bytes (row.place + 8 * k) v) (row.place + 8 * m)) (i % 64)) 1) e ∙ ap (λ m. nat_eq (bit_at m (i % 64)) 1) w.here

unit-was : (bytes : List ℕ) (row : BitRow) (k old i : ℕ) → old ≡ word_at bytes (row.place + 8 * k) → i / 64 ≡ k → nat_eq (bit_at old (i % 64)) 1 ≡ unit_bit bytes row.place i
unit-was bytes row k old i e q = ap (λ m. nat_eq (bit_at m (i % 64)) 1) (e ∙ ap (λ m. word_at bytes (row.place + 8 * m)) (sym q))

-- what the mask leaves of a unit
record IsChanged (x : Bool) (row : BitRow) (at next : ℕ) (bytes new : List ℕ) : Type 0 where
  inside : (i : ℕ) → at ≤ i → i < next → unit_bit new row.place i ≡ x
  outside : (i : ℕ) → (i < at) ⊎ (next ≤ i) → unit_bit new row.place i ≡ unit_bit bytes row.place i

changed : (x : Bool) (row : BitRow) (at upto old v : ℕ) (bytes : List ℕ) → AreThere bytes row → at < row.count → at % 64 < upto → upto ≤ 64 → v < 2 ^ 64 → old ≡ word_at bytes (row.place + 8 * (at / 64)) → AreSet x (at % 64) upto old v
    → IsChanged x row at (at + (upto - at % 64)) bytes (put_word bytes (row.place + 8 * (at / 64)) v)
changed x row at upto old v bytes h l from most m e s =
    let w = is-written bytes row (at / 64) v h (omega arith) m in
    record {
      inside = λ i a b.
          let q : i / 64 ≡ at / 64 = omega arith in
          unit-here bytes row (at / 64) v i w q ∙ bit-test x v (i % 64) (s.inside (i % 64) (omega arith) (omega arith));
      outside = λ i o. ⊎_elim
          (λ q. unit-here bytes row (at / 64) v i w q ∙ ap (λ b. nat_eq b 1) (beside i o q) ∙ unit-was bytes row (at / 64) old i e q)
          (λ d. unit-other bytes row (at / 64) v i w d)
          (same-or-not (i / 64) (at / 64));
    }
  where
    beside : (i : ℕ) → (i < at) ⊎ (at + (upto - at % 64) ≤ i) → i / 64 ≡ at / 64 → bit_at v (i % 64) ≡ bit_at old (i % 64)
    beside i (inl a) q = s.below (i % 64) (omega arith)
    beside i (inr a) q = s.above (i % 64) (omega arith) (omega arith)

words-written : (row : BitRow) (k v : ℕ) (bytes : List ℕ) → AreWords bytes row → 64 * k < row.count → v < 2 ^ 64 → ((i : ℕ) → row.count ≤ i → unit_bit (put_word bytes (row.place + 8 * k) v) row.place i ≡ unit_bit bytes row.place i)
    → AreWords (put_word bytes (row.place + 8 * k) v) row
words-written row k v bytes w l m b =
    let r = is-written bytes row k v w.there l m in
    record {
      there = rw (length-put_word bytes (row.place + 8 * k) v) w.there;
      small = λ j a. ⊎_elim
          (λ q. subst (λ n. word_at (put_word bytes (row.place + 8 * k) v) (row.place + 8 * n) < 2 ^ 64) (sym q) (let h = r.here in rw h m))
          (λ d. let t = r.there j d in rw t (w.small j a))
          (same-or-not j k);
      behind = λ i a c. b i a ∙ w.behind i a c;
    }

-- one word more has been put
pub put-more : (x : Bool) (row : BitRow) (first at end upto old v : ℕ) (m0 m m' : Memory) → IsPutUpTo x row first at m0 m → at < end → end ≤ row.count → upto ≡ min 64 (at % 64 + (end - at)) → v < 2 ^ 64
    → old ≡ word_at m.bytes (row.place + 8 * (at / 64)) → AreSet x (at % 64) upto old v → m' ≡ record m { bytes = put_word m.bytes (row.place + 8 * (at / 64)) v } → IsMemory m' → IsPutUpTo x row first (at + (upto - at % 64)) m0 m'
put-more x row first at end upto old v m0 m m' p l e u s w a q i =
    let start = p.start in
    let words = p.words in
    let others = p.others in
    let bytes = put_word m.bytes (row.place + 8 * (at / 64)) v in
    let new : m'.bytes ≡ bytes = ap (λ (k : Memory). k.bytes) q in
    let next = at + (upto - at % 64) in
    let c = changed x row at upto old v m.bytes words.there (omega arith) (omega arith) (omega arith) s w a in
    let there = words.there in
    let stays = λ (k : ℕ) (o : (k < at) ⊎ (next ≤ k)). ap (λ b. unit_bit b row.place k) new ∙ c.outside k o in
    record {
      start = omega arith;
      words = subst (λ b. AreWords b row) (sym new) (words-written row (at / 64) v m.bytes words (omega arith) s (λ k b. c.outside k (inr (omega arith))));
      inside = λ k b d f. ⊎_elim (λ g. stays k (inl g) ∙ p.inside k b g f) (λ g. ap (λ b. unit_bit b row.place k) new ∙ c.inside k g d) (cases_lt k at);
      below = λ k b f. stays k (inl (omega arith)) ∙ p.below k b f;
      behind = λ k b f. stays k (inr b) ∙ p.behind k (omega arith) f;
      others = record {
        size = ap length new ∙ length-put_word m.bytes (row.place + 8 * (at / 64)) v ∙ others.size;
        below = λ k b. ap (λ b. get_or b k 0) new ∙ put_word-below m.bytes (row.place + 8 * (at / 64)) v k (omega arith) ∙ others.below k b;
        above = λ k b. ap (λ b. get_or b k 0) new ∙ put_word-above m.bytes (row.place + 8 * (at / 64)) v k (omega arith) ∙ others.above k b;
      };
      after = q ∙ ap (λ (k : Memory). record k { bytes = bytes }) p.after ∙ ap (λ b. record m0 { bytes = b }) (sym new);
      memory = i;
    }

-- where the units are these, the row is put
units-put : (x : Bool) (row : BitRow) (first n : ℕ) (old new : List ℕ) → AreThere old row → AreThere new row → ((i : ℕ) → first ≤ i → i < first + n → i < row.count → unit_bit new row.place i ≡ x)
    → ((i : ℕ) → i < first → i < row.count → unit_bit new row.place i ≡ unit_bit old row.place i) → ((i : ℕ) → first + n ≤ i → i < row.count → unit_bit new row.place i ≡ unit_bit old row.place i) → units_at new row ≡ put_run x first n (units_at old row)
units-put x row first n old new h k inside below behind =
    let us = units_at old row in
    let p = units_are_put x first n us in
    let l = units-length old row h in
    let m = units-length new row k in
    same_by_get (units_at new row) (put_run x first n us) (m ∙ sym l ∙ sym p.size) (λ i a. unit-get new row i k (omega arith) ∙ ⊎_elim
    (λ b. ap Some (below i b (omega arith)) ∙ sym (unit-get old row i h (omega arith)) ∙ sym (p.below i b))
    (λ b. ⊎_elim
    (λ d. ap Some (inside i b d (omega arith)) ∙ sym (p.inside i (omega arith) b d))
    (λ d. ap Some (behind i d (omega arith)) ∙ sym (unit-get old row i h (omega arith)) ∙ sym (p.behind i d))
    (cases_lt i (first + n)))
    (cases_lt i first))

pub put-done : (x : Bool) (row : BitRow) (first n at : ℕ) (old new : Memory) → AreWhole old row → IsPutUpTo x row first at old new → at ≤ first + n → first + n ≤ at → IsPutRow x row first n old new
put-done x row first n at old new w p a b =
    let e : at ≡ first + n = omega arith in
    let words = p.words in
    record {
      units = units-put x row first n old.bytes new.bytes w.there.inside words.there (λ i c d f. p.inside i c (omega arith) f) p.below (λ i c f. p.behind i (omega arith) f);
      whole = record { there = record { memory = p.memory; inside = words.there }; bits = whole-of new.bytes row words };
      others = p.others;
      after = p.after;
    }

-- ---- all units are free

zeros-word : (bytes : List ℕ) (p : ℕ) → p + 8 ≤ length bytes → ((i : ℕ) → p ≤ i → i < p + 8 → get_or bytes i 0 ≡ 0) → word_at bytes p ≡ 0
zeros-word bytes p l h =
    let s : p + 8 - p ≡ 8 = omega arith in
    let n : length (take (p + 8 - p) (drop p bytes)) ≡ 8 = simp (length-take, length-drop) (omega arith) in
    let r : ◌≡◌ {A = List ℕ} (take (p + 8 - p) (drop p bytes)) (replicate 8 0) = same_number_lists (take (p + 8 - p) (drop p bytes)) (replicate 8 0) (n ∙ sym (length-replicate {A = ℕ} 8 0)) (λ k a.
    get_or-take (p + 8 - p) (drop p bytes) k 0 (omega arith) ∙ get_or-drop p bytes k 0 ∙ h (p + k) (omega arith) (omega arith) ∙ sym (zero-in 8 k)) in
    ap (from_le_bytes w64) r
  where
    zero-in : (n k : ℕ) → ◌≡◌ {A = ℕ} (get_or (replicate n 0) k 0) 0
    zero-in zero k = refl
    zero-in (suc n) zero = refl
    zero-in (suc n) (suc k) = zero-in n k

free-in : (n k : ℕ) → k < n → slice_get (replicate n false) k ≡ Some false
free-in zero k l = absurd (omega arith)
free-in (suc n) zero l = refl
free-in (suc n) (suc k) l = free-in n k (omega arith)

pub cleared : (row : BitRow) (words : ℕ) (old new : Memory) → HasWords old row → words ≡ (row.count + 63) / 64 → new ≡ record old { bytes = put_run 0 row.place (8 * words) old.bytes } → IsMemory new → IsClearedRow row old new
cleared row words old new h e q i =
    let bytes = put_run 0 row.place (8 * words) old.bytes in
    let is : new.bytes ≡ bytes = ap (λ (k : Memory). k.bytes) q in
    let inside = h.inside in
    let size : length new.bytes ≡ length old.bytes = ap length is ∙ length-put_run 0 row.place (8 * words) old.bytes in
    let there : AreThere new.bytes row = omega arith in
    let zero_word = λ (k : ℕ) (l : 64 * k < 64 * ceil_div row.count 64).
    zeros-word new.bytes (row.place + 8 * k) (omega arith) (λ j a b. ap (λ b. get_or b j 0) is ∙ put_run-in 0 row.place (8 * words) old.bytes j 0 (omega arith) (omega arith) (omega arith)) in
    let zero_bit = λ (j : ℕ) (l : j < 64 * ceil_div row.count 64). ap (λ m. nat_eq (bit_at m (j % 64)) 1) (zero_word (j / 64) (omega arith)) ∙ ap (λ m. nat_eq m 1) (bit_at-zero (j % 64)) in
    let n = units-length new.bytes row there in
    record {
      units = same_by_get (units_at new.bytes row) (replicate row.count false) (n ∙ sym (length-replicate row.count false)) (λ k a.
          unit-get new.bytes row k there (omega arith) ∙ ap Some (zero_bit k (omega arith)) ∙ sym (free-in row.count k (omega arith)));
      whole = record {
        there = record { memory = i; inside = there };
        bits = whole-of new.bytes row (record { there = there; small = λ k a. (let z = zero_word k (omega arith) in omega (arith, z)); behind = λ k a b. zero_bit k b });
      };
      others = record {
        size = size;
        below = λ k a. ap (λ b. get_or b k 0) is ∙ put_run-below 0 row.place (8 * words) old.bytes k 0 a;
        above = λ k a. ap (λ b. get_or b k 0) is ∙ put_run-above 0 row.place (8 * words) old.bytes k 0 (omega arith);
      };
      after = q ∙ ap (λ b. record old { bytes = b }) (sym is);
    }
