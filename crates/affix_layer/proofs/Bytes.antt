-- Bytes round a block: what writing them gives, and what stays of them.
use Rattle.std.proofs.Common.{◌≡◌, refl, sym, ap, ◌∙◌, inl, inr, ◌⊎◌, ℕ, zero, suc, ◌+◌, ◌-◌, ◌≤◌, ◌<◌, ◌^◌, List, [], ◌∷◌, length, get_or, min, true, arith, drop, length-drop, slice_range}
use Rattle.std.proofs.lemmas.List.{ext_get_or, get_or-take, get_or-drop, length-take, length-take-le}
use Rattle.std.proofs.lemmas.Bool.Decides.{nat_tests}
use Rattle.std.specs.Int.{to_le_bytes, w64}
use Rattle.space_core.proofs.CellRuns.{length-put_run}
use Rattle.space_core.specs.Memory.{Memory}
use Rattle.space_core.specs.Runs.{put_run}
use Rattle.space_core.specs.Words.{put_word, IsCopied}
use Rattle.space_core.proofs.Writes.{length-write_from}
use Rattle.layer_rules.specs.declared.Block.{Block}
use Rattle.layer_rules.specs.Blocks.{end_of, is_apart}
use Rattle.layer_laws.proofs.KeptBytes.{IsWordAt-same}
use Rattle.layer_rules.specs.Layering.{KeepsBytes}
use Rattle.layer_laws.specs.Lawful.{ChangesInside}
use Rattle.layer_laws.specs.Standing.{Writes}
use Rattle.layer_laws.proofs.Writing.{word-inside, word_at-put_word}
use Rattle.affix_rules.specs.AffixRules.{affix_down, suffix_byte, has_length, has_affixes}
use Rattle.affix_rules.proofs.AffixLawful.{length_stands_before, affixes-parts, affixes-test}
use Rattle.affix_layer.specs.AffixBytes.{length_word, open_len, open_place, CarriesAffixes}

-- ---- ranges

get_or-range : (xs : List ℕ) (p e i : ℕ) → i < e - p → get_or (slice_range xs p e) i 0 ≡ get_or xs (p + i) 0
get_or-range xs p e i h = get_or-take (e - p) (drop p xs) i 0 h ∙ get_or-drop p xs i 0

length-range : (xs : List ℕ) (p e : ℕ) → e ≤ length xs → length (slice_range xs p e) ≡ e - p
length-range xs p e h = length-take-le (e - p) (drop p xs) (rw (length-drop p xs) (omega arith))

pub same-range : (xs ys : List ℕ) (p e q f : ℕ) → e ≤ length xs → f ≤ length ys → e - p ≡ f - q → ((i : ℕ) → i < e - p → get_or xs (p + i) 0 ≡ get_or ys (q + i) 0) → slice_range xs p e ≡ slice_range ys q f
same-range xs ys p e q f l k s h =
    let n = length-range xs p e l in
    let m = length-range ys q f k in
    ext_get_or 0 (slice_range xs p e) (slice_range ys q f) (n ∙ s ∙ sym m)
    (λ i z. get_or-range xs p e i (omega (arith, n)) ∙ h i (omega (arith, n)) ∙ sym (get_or-range ys q f i (omega (arith, n))))

-- each place of two ranges that are the same
pub range-at : (xs ys : List ℕ) (p e q f i : ℕ) → slice_range xs p e ≡ slice_range ys q f → i < e - p → i < f - q → get_or xs (p + i) 0 ≡ get_or ys (q + i) 0
range-at xs ys p e q f i s h k = sym (get_or-range xs p e i h) ∙ ap (λ zs. get_or zs i 0) s ∙ get_or-range ys q f i k

-- ---- runs of one value

filled-there : (x i n : ℕ) (ys : List ℕ) (k : ℕ) → i + n ≤ length ys → i ≤ k → k < i + n → get_or (put_run x i n ys) k 0 ≡ x
unfolding put_run
filled-there x zero zero ys k l a b = absurd (omega arith)
filled-there x zero (suc n) [] k l a b = absurd (omega arith)
filled-there x zero (suc n) (y ∷ ys) zero l a b = refl
filled-there x zero (suc n) (y ∷ ys) (suc k) l a b = filled-there x zero n ys k (omega arith) (omega arith) (omega arith)
filled-there x (suc i) n [] k l a b = absurd (omega arith)
filled-there x (suc i) n (y ∷ ys) zero l a b = absurd (omega arith)
filled-there x (suc i) n (y ∷ ys) (suc k) l a b = filled-there x i n ys k (omega arith) (omega arith) (omega arith)

filled-below : (x i n : ℕ) (ys : List ℕ) (k : ℕ) → k < i → get_or (put_run x i n ys) k 0 ≡ get_or ys k 0
unfolding put_run
filled-below x zero n ys k h = absurd (omega arith)
filled-below x (suc i) n [] k h = refl
filled-below x (suc i) n (y ∷ ys) zero h = refl
filled-below x (suc i) n (y ∷ ys) (suc k) h = filled-below x i n ys k (omega arith)

filled-above : (x i n : ℕ) (ys : List ℕ) (k : ℕ) → i + n ≤ k → get_or (put_run x i n ys) k 0 ≡ get_or ys k 0
unfolding put_run
filled-above x zero zero ys k h = refl
filled-above x zero (suc n) [] k h = refl
filled-above x zero (suc n) (y ∷ ys) zero h = absurd (omega arith)
filled-above x zero (suc n) (y ∷ ys) (suc k) h = filled-above x zero n ys k (omega arith)
filled-above x (suc i) n [] k h = refl
filled-above x (suc i) n (y ∷ ys) zero h = refl
filled-above x (suc i) n (y ∷ ys) (suc k) h = filled-above x i n ys k (omega arith)

-- ---- the length is written

pub length-written : (prefix : ℕ) (b : Block) (bytes : List ℕ) → prefix ≤ b.place → b.place ≤ length bytes → b.len < 2 ^ 64 → has_length prefix b (put_word bytes (b.place - prefix) b.len) ≡ true
unfolding put_word
length-written prefix b bytes f r w =
    (length_stands_before prefix b (put_word bytes (b.place - prefix) b.len)).1
    (λ k. record { inside = let n = length-write_from bytes (b.place - prefix) (to_le_bytes w64 b.len) in omega (arith, n); value = word_at-put_word bytes (b.place - prefix) b.len (omega arith) w })

pub length-inside : (prefix : ℕ) (b : Block) (m : Memory) → 8 ≤ prefix → Writes (length_word prefix b) m (record m { bytes = put_word m.bytes (b.place - prefix) b.len })
length-inside prefix b m l = let k : 8 ≤ min prefix 8 = omega arith in word-inside (length_word prefix b) m b.len k

-- ---- the bytes round a block are written

-- the two runs that are filled behind the length
abbrev zeroed : (prefix : ℕ) → Block → List ℕ → List ℕ
zeroed prefix b bytes = put_run 0 (open_place prefix b) (open_len prefix) bytes

abbrev closed_by : (suffix : ℕ) → Block → List ℕ → List ℕ
closed_by suffix b bytes = put_run suffix_byte (end_of b) suffix bytes

length-filled : (x i n : ℕ) (bytes : List ℕ) → length (put_run x i n bytes) ≡ length bytes
length-filled x i n bytes = length-put_run x i n bytes

pub affixes-written : (prefix suffix : ℕ) (b : Block) (bytes : List ℕ) → prefix ≤ b.place → end_of b + suffix ≤ length bytes → has_length prefix b bytes ≡ true → has_affixes prefix suffix b (closed_by suffix b (zeroed prefix b bytes)) ≡ true
affixes-written prefix suffix b bytes f r h =
    let mid = zeroed prefix b bytes in
    let new = closed_by suffix b mid in
    let n = length-filled 0 (open_place prefix b) (open_len prefix) bytes in
    let k = length-filled suffix_byte (end_of b) suffix mid in
    affixes-test prefix suffix b new (record {
      first = λ l. IsWordAt-same bytes new (b.place - prefix) b.len (record {
        length_same = k ∙ n;
        at = λ i x y. filled-below suffix_byte (end_of b) suffix mid i (omega arith) ∙ filled-below 0 (open_place prefix b) (open_len prefix) bytes i (omega arith);
      }) ((length_stands_before prefix b bytes).0 h l);
      zeros = λ i x y. filled-below suffix_byte (end_of b) suffix mid i (omega arith) ∙ filled-there 0 (open_place prefix b) (open_len prefix) bytes i (omega arith) (omega arith) (omega arith);
      behind = λ i x y. filled-there suffix_byte (end_of b) suffix mid i (omega (arith, n)) (omega arith) (omega arith);
    })

pub affixes-inside : (prefix suffix : ℕ) (b : Block) (m k : Memory) → prefix ≤ b.place → Writes (length_word prefix b) m k → Writes (affix_down prefix suffix b) m (record k { bytes = closed_by suffix b (zeroed prefix b k.bytes) })
affixes-inside prefix suffix b m k f w =
    let mid = zeroed prefix b k.bytes in
    let i = open_place prefix b in
    let l : min prefix 8 ≤ prefix = omega arith in
    record {
      cells = w.cells;
      leaves = w.leaves;
      bytes = record {
        length_same = length-filled suffix_byte (end_of b) suffix mid ∙ length-filled 0 i (open_len prefix) k.bytes ∙ w.bytes.length_same;
        below = λ p x. filled-below suffix_byte (end_of b) suffix mid p (omega arith) ∙ filled-below 0 i (open_len prefix) k.bytes p (omega arith) ∙ w.bytes.below p (omega arith);
        above = λ p x. filled-above suffix_byte (end_of b) suffix mid p (omega arith) ∙ filled-above 0 i (open_len prefix) k.bytes p (omega arith) ∙ w.bytes.above p (omega arith);
      };
    }

-- ---- what a caller wrote goes along

-- of two blocks with no byte in common one is before the other
pub one-before : (u v : Block) → is_apart u v ≡ true → (end_of u ≤ v.place) ⊎ (end_of v ≤ u.place)
one-before u v h = grind (arith, nat_tests)

-- the bytes in front are copied first; those behind the old block are none of these
pub affixes-carried : (prefix suffix : ℕ) (b c : Block) (old mid new : List ℕ) → prefix ≤ b.place → prefix ≤ c.place → end_of b + suffix ≤ length old → end_of c + suffix ≤ length old → is_apart (affix_down prefix suffix b) (affix_down prefix suffix c) ≡ true
    → IsCopied old mid (open_place prefix b) (open_place prefix c) (open_len prefix) → IsCopied mid new (end_of b) (end_of c) suffix → CarriesAffixes prefix suffix old new b c
affixes-carried prefix suffix b c old mid new f g r s a x y =
    let either = one-before (affix_down prefix suffix b) (affix_down prefix suffix c) a in
    record {
      in_front = same-range new old (open_place prefix c) c.place (open_place prefix b) b.place (omega (arith, x.size, y.size)) (omega arith) (omega arith)
          (λ i z. y.below (open_place prefix c + i) (omega arith) ∙ x.there i (omega arith));
      behind = same-range new old (end_of c) (end_of c + suffix) (end_of b) (end_of b + suffix) (omega (arith, x.size, y.size)) (omega arith) (omega arith)
          (λ i z. y.there i (omega arith) ∙ elim either [ inl h ↦ x.below (end_of b + i) (omega arith) | inr h ↦ x.above (end_of b + i) (omega arith) ]);
    }

-- where the length stands too, what is carried is clean as it was
pub clean-carried : (prefix suffix : ℕ) (b c : Block) (old new : List ℕ) → prefix ≤ b.place → prefix ≤ c.place → CarriesAffixes prefix suffix old new b c → has_length prefix c new ≡ true → has_affixes prefix suffix b old ≡ true → has_affixes prefix suffix c new ≡ true
clean-carried prefix suffix b c old new f g k h z =
    let x = affixes-parts prefix suffix b old z in
    affixes-test prefix suffix c new (record {
      first = (length_stands_before prefix c new).0 h;
      zeros = λ i p q. front i p q (x.zeros (open_place prefix b + (i - open_place prefix c)) (omega arith) (omega arith));
      behind = λ i p q. back i p q (x.behind (end_of b + (i - end_of c)) (omega arith) (omega arith));
    })
  where
    front : (i : ℕ) → c.place + 8 ≤ i + prefix → i < c.place → get_or old (open_place prefix b + (i - open_place prefix c)) 0 ≡ 0 → get_or new i 0 ≡ 0
    front i p q z =
        let e : i ≡ open_place prefix c + (i - open_place prefix c) = omega arith in
        ap (λ j. get_or new j 0) e ∙ (range-at new old (open_place prefix c) c.place (open_place prefix b) b.place (i - open_place prefix c) k.in_front (omega arith) (omega arith) ∙ z)

    back : (i : ℕ) → end_of c ≤ i → i < end_of c + suffix → get_or old (end_of b + (i - end_of c)) 0 ≡ suffix_byte → get_or new i 0 ≡ suffix_byte
    back i p q z =
        let e : i ≡ end_of c + (i - end_of c) = omega arith in
        ap (λ j. get_or new j 0) e ∙ (range-at new old (end_of c) (end_of c + suffix) (end_of b) (end_of b + suffix) (i - end_of c) k.behind (omega arith) (omega arith) ∙ z)

-- ---- a block has grown

-- what stands once its suffix was copied behind the new end and its length was mended
pub record IsMended (prefix suffix : ℕ) (b c : Block) (old mid new : List ℕ) : Type 0 where
  pub inside : ChangesInside (affix_down prefix suffix c) mid new
  pub bytes : (i : ℕ) → b.place ≤ i → i < end_of b → get_or new i 0 ≡ get_or old i 0
  pub carries : CarriesAffixes prefix suffix old new b c

-- the parent kept all bytes of the old block and of those round it
pub mended : (prefix suffix : ℕ) (b c : Block) (old mid then new : List ℕ) → prefix ≤ b.place → c.place ≡ b.place → b.len ≤ c.len → end_of b + suffix ≤ length mid → end_of c + suffix ≤ length mid → end_of b + suffix ≤ length old → KeepsBytes old mid (b.place - prefix) (end_of b + suffix)
    → IsCopied mid then (end_of b) (end_of c) suffix → ChangesInside (length_word prefix c) then new → IsMended prefix suffix b c old mid new
mended prefix suffix b c old mid then new f e l r s o k x y =
    let word : end_of (length_word prefix c) ≤ c.place = omega arith in
    record {
      inside = record {
        length_same = y.length_same ∙ x.size;
        below = λ i p. y.below i (omega arith) ∙ x.below i (omega arith);
        above = λ i p. y.above i (omega arith) ∙ x.above i (omega arith);
      };
      bytes = λ i p q. y.above i (omega arith) ∙ x.below i (omega arith) ∙ k.at i (omega arith) (omega arith);
      carries = record {
        in_front = same-range new old (open_place prefix c) c.place (open_place prefix b) b.place (omega (arith, x.size, y.length_same)) (omega arith) (omega arith)
            (λ i z. y.above (open_place prefix c + i) (omega arith) ∙ x.below (open_place prefix c + i) (omega arith) ∙ let q : open_place prefix c ≡ open_place prefix b = omega arith in ap (λ p. get_or mid (p + i) 0) q ∙ k.at (open_place prefix b + i) (omega arith) (omega arith));
        behind = same-range new old (end_of c) (end_of c + suffix) (end_of b) (end_of b + suffix) (omega (arith, x.size, y.length_same)) (omega arith) (omega arith)
            (λ i z. y.above (end_of c + i) (omega arith) ∙ x.there i (omega arith) ∙ k.at (end_of b + i) (omega arith) (omega arith));
      };
    }

pub range-most : (xs : List ℕ) (p e : ℕ) → length (slice_range xs p e) ≤ e - p
range-most xs p e = rw (length-take (e - p) (drop p xs)) (omega arith)
