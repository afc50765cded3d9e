-- What the tests of a bitmap say, as named parts; and what it says of a block that it is out.
use Rattle.std.proofs.Common.{◌≡◌, refl, sym, ◌∙◌, ap, subst, ℕ, zero, suc, ◌<◌, ◌+◌, ◌*◌, Bool, true, arith, List, drop, length, take}
use Rattle.std.proofs.lemmas.Bool.{and_from}
use Rattle.std.proofs.lemmas.Bool.Decides.{nat_tests}
use Rattle.std.proofs.lemmas.List.{drop-drop}
use Rattle.size_round.specs.Sizes.{ceil_div}
use Rattle.space_core.specs.Cells.{Cells}
use Rattle.space_core.specs.Words.{IsWordAt}
use Rattle.layer_rules.specs.Fields.{Fields}
use Rattle.layer_rules.specs.Rules.{Rules, IsSettled}
use Rattle.layer_rules.specs.State.{Own, State, base_in, base_of, bitmap_own, child, chunk_in, chunk_of, is_open, one_child, open_with, own_of, units_in, units_of}
use Rattle.layer_rules.specs.Testing.{is_word}
use Rattle.layer_rules.specs.declared.Block.{Block}
use Rattle.layer_laws.proofs.Basics.{and-fst, and-snd}
use Rattle.layer_laws.proofs.CarvingParts.{CarvingImage, is_carving, is_carving-parts, carving-whole, image-parts, image-whole}
use Rattle.layer_laws.proofs.Tests.{opened}
use Rattle.layer_laws.proofs.KeptBytes.{word-parts, word-test}
use Rattle.bitmap_rules.specs.BitmapMeanings.{BitmapImage, BitmapParts, IsBitmap, IsBitmapOf, IsOutBitmap, OpenBitmapHasImage, OpenBitmapIsSound, OutOfBitmap}
use Rattle.bitmap_rules.specs.BitmapRules.{are_bits, bitmap_carving, bitmap_rules, bits_number, is_bitmap, is_bitmap_of, is_bitmap_own}

-- ---- its numbers

pub bitmap-of : (unit count : ℕ) (chunk : Block) (base : ℕ) (units : List Bool) → is_bitmap_of unit count chunk base units ≡ true → IsBitmapOf unit count chunk base units
bitmap-of unit count chunk base units h = record { least = grind (arith, nat_tests); len = grind (arith, nat_tests); start = grind (arith, nat_tests) }

pub of-bitmap : (unit count : ℕ) (chunk : Block) (base : ℕ) (units : List Bool) → IsBitmapOf unit count chunk base units → is_bitmap_of unit count chunk base units ≡ true
of-bitmap unit count chunk base units h = grind (arith, nat_tests, h.least, h.len, h.start)

own-form : (own : Own) → is_bitmap_own own ≡ true → own ≡ bitmap_own (chunk_in own) (base_in own) (units_in own)
own-form (bitmap_own chunk base units) h = refl
own-form _ h = absurd (cc)

pub bitmap-parts : (unit count : ℕ) (e : Rules) (s : State) (cells : Cells) → is_carving (bitmap_carving unit count) e s cells ≡ true → BitmapParts unit count e s cells
bitmap-parts unit count e s cells h =
    let x = is_carving-parts (bitmap_carving unit count) e s cells h in
    record {
      form = x.form ∙ ap (λ own. open_with own (one_child (child s 0))) (own-form (own_of s) x.kind);
      parent = x.parent;
      bitmap = bitmap-of unit count (chunk_of s) (base_of s) (units_of s) x.passes;
      chunk = x.chunk;
      below = x.below;
    }

bitmap-open_parts : (unit count : ℕ) (e : Rules) (s : State) (cells : Cells) → is_open s ≡ true → IsSettled (bitmap_rules unit count e) s cells → BitmapParts unit count e s cells
unfolding bitmap_rules
bitmap-open_parts unit count e s cells o h = bitmap-parts unit count e s cells (opened s e.leaf_tags cells (is_carving (bitmap_carving unit count) e s cells) o h)

-- so from the parts
bitmap-from_parts : (unit count : ℕ) (e : Rules) (s : State) (cells : Cells) → BitmapParts unit count e s cells → IsSettled (bitmap_rules unit count e) s cells
unfolding bitmap_rules
bitmap-from_parts unit count e s cells p =
    subst (λ u. IsSettled (bitmap_rules unit count e) u cells) (sym p.form)
    (carving-whole (bitmap_carving unit count) e (bitmap_own (chunk_of s) (base_of s) (units_of s)) (child s 0) cells refl (of-bitmap unit count (chunk_of s) (base_of s) (units_of s) p.bitmap) p.parent p.chunk p.below)

pub open_bitmap_is_sound : OpenBitmapIsSound
open_bitmap_is_sound unit count e s cells o = (bitmap-open_parts unit count e s cells o, bitmap-from_parts unit count e s cells)

-- ---- its words

-- so of some words
abbrev HasBits : List ℕ → (place words : ℕ) → List Bool → Type 0
HasBits bytes p n units = (k : ℕ) → k < n → IsWordAt bytes (p + 8 * k) (bits_number (take 64 (drop (64 * k) units)))

-- the word k, counted from the next word and units on
later-word : (bytes : List ℕ) (p k : ℕ) (units : List Bool)
    → ◌≡◌ {A = Type 0} (IsWordAt bytes (p + 8 + 8 * k) (bits_number (take 64 (drop (64 * k) (drop 64 units))))) (IsWordAt bytes (p + 8 * suc k) (bits_number (take 64 (drop (64 * suc k) units))))
later-word bytes p k units =
    let place : p + 8 + 8 * k ≡ p + 8 * suc k = omega arith in
    let count : 64 + 64 * k ≡ 64 * suc k = omega arith in
    let row : drop (64 * k) (drop 64 units) ≡ drop (64 * suc k) units = drop-drop (64 * k) 64 units ∙ ap (λ n. drop n units) count in
    ap (λ (q : ℕ). IsWordAt bytes q (bits_number (take 64 (drop (64 * k) (drop 64 units))))) place ∙ ap (λ us. IsWordAt bytes (p + 8 * suc k) (bits_number (take 64 us))) row

first-word : (bytes : List ℕ) (p : ℕ) (units : List Bool) → ◌≡◌ {A = Type 0} (IsWordAt bytes p (bits_number (take 64 units))) (IsWordAt bytes (p + 8 * 0) (bits_number (take 64 (drop (64 * 0) units))))
first-word bytes p units = let z : p ≡ p + 8 * 0 = omega arith in ap (λ (q : ℕ). IsWordAt bytes q (bits_number (take 64 units))) z

bits-each : (bytes : List ℕ) (p n : ℕ) (units : List Bool) → are_bits bytes p n units ≡ true → HasBits bytes p n units
unfolding are_bits
bits-each bytes p zero units h k l = absurd (omega arith)
bits-each bytes p (suc n) units h zero l =
    subst (λ T. T) (first-word bytes p units)
    (word-parts bytes p (bits_number (take 64 units)) (and-fst (is_word bytes p (bits_number (take 64 units))) (are_bits bytes (p + 8) n (drop 64 units)) h))
bits-each bytes p (suc n) units h (suc k) l =
    subst (λ T. T) (later-word bytes p k units)
    (bits-each bytes (p + 8) n (drop 64 units) (and-snd (is_word bytes p (bits_number (take 64 units))) (are_bits bytes (p + 8) n (drop 64 units)) h) k (omega arith))

each-bits : (bytes : List ℕ) (p n : ℕ) (units : List Bool) → HasBits bytes p n units → are_bits bytes p n units ≡ true
unfolding are_bits
each-bits bytes p zero units h = refl
each-bits bytes p (suc n) units h =
    and_from _ _ (word-test bytes p (bits_number (take 64 units)) (subst (λ T. T) (sym (first-word bytes p units)) (h 0 (omega arith))))
    (each-bits bytes (p + 8) n (drop 64 units) (λ k l. subst (λ T. T) (sym (later-word bytes p k units)) (h (suc k) (omega arith))))

pub bitmap-words : (bytes : List ℕ) (p : ℕ) (units : List Bool) → is_bitmap bytes p units ≡ true → IsBitmap bytes p units
bitmap-words bytes p units h k l = bits-each bytes p (ceil_div (length units) 64) units h k (omega arith)

pub words-bitmap : (bytes : List ℕ) (p : ℕ) (units : List Bool) → IsBitmap bytes p units → is_bitmap bytes p units ≡ true
words-bitmap bytes p units h = each-bits bytes p (ceil_div (length units) 64) units (λ k l. h k (omega arith))

image-of : (unit count : ℕ) (e : Rules) (fs : Fields) (s : State) (bytes : List ℕ) → CarvingImage (bitmap_carving unit count) e fs s bytes → BitmapImage e fs s bytes
image-of unit count e fs s bytes h = record { words = bitmap-words bytes (chunk_of s).place (units_of s) h.own; clean = h.clean; below = h.below }

of-image : (unit count : ℕ) (e : Rules) (fs : Fields) (s : State) (bytes : List ℕ) → BitmapImage e fs s bytes → CarvingImage (bitmap_carving unit count) e fs s bytes
of-image unit count e fs s bytes h = record { own = words-bitmap bytes (chunk_of s).place (units_of s) h.words; clean = h.clean; below = h.below }

pub open_bitmap_has_image : OpenBitmapHasImage
unfolding bitmap_rules
open_bitmap_has_image unit count e fs s bytes o = (
  λ h. image-of unit count e fs s bytes (image-parts (bitmap_carving unit count) e fs s bytes o h),
  λ h. image-whole (bitmap_carving unit count) e fs s bytes o (of-image unit count e fs s bytes h),
)

-- ---- a block that is out

pub out-bitmap : (unit count : ℕ) (e : Rules) (b : Block) (s : State) (cells : Cells) → (bitmap_rules unit count e).is_out b s cells ≡ true → IsOutBitmap unit b s
unfolding bitmap_rules
out-bitmap unit count e b s cells o = record { is_set = grind (arith, nat_tests); some = grind (arith, nat_tests); aligned = grind (arith, nat_tests); inside = grind (arith, nat_tests); taken = grind (arith, nat_tests) }

pub bitmap-out : (unit count : ℕ) (e : Rules) (b : Block) (s : State) (cells : Cells) → IsOutBitmap unit b s → (bitmap_rules unit count e).is_out b s cells ≡ true
unfolding bitmap_rules
bitmap-out unit count e b s cells o = grind (arith, nat_tests, o.is_set, o.some, o.aligned, o.inside, o.taken)

pub out_of_bitmap : OutOfBitmap
out_of_bitmap unit count e b s cells = (out-bitmap unit count e b s cells, bitmap-out unit count e b s cells)
