-- Slices: the bytes of a block where they stay, and after a write into it.
use Rattle.std.proofs.Common.{◌≡◌, refl, sym, ap, ◌∙◌, ℕ, ◌+◌, ◌-◌, ◌≤◌, ◌<◌, true, zero, suc, List, [], ◌∷◌, length, get_or, set, take, drop, length-drop, min, ◌⊎◌, inl, inr, arith}
use Rattle.std.proofs.Math.Seq.{take-set-lt}
use Rattle.std.proofs.lemmas.List.{ext_get_or, get_or-take, get_or-drop, get_or-set_other, get_or-set_same, drop-set-add, length-take, length-set}
use Rattle.std.proofs.lemmas.Bool.Decides.{nat_tests}
use Rattle.std.specs.List.{slice_range}
use Rattle.space_core.specs.Words.{write_from}
use Rattle.layer_rules.specs.declared.Block.{Block}
use Rattle.layer_rules.specs.Blocks.{end_of, is_apart}
use Rattle.layer_rules.specs.Layering.{KeepsBytes}
use Rattle.layer_laws.specs.Lawful.{ChangesInside}

slice-at : (xs : List ℕ) (from upto i : ℕ) → i < upto - from → get_or (slice_range xs from upto) i 0 ≡ get_or xs (from + i) 0
slice-at xs from upto i lt = get_or-take (upto - from) (drop from xs) i 0 lt ∙ get_or-drop from xs i 0

pub length-slice : (xs : List ℕ) (from upto : ℕ) → length (slice_range xs from upto) ≡ min (upto - from) (length xs - from)
length-slice xs from upto = length-take (upto - from) (drop from xs) ∙ ap (min (upto - from)) (length-drop from xs)

pub slice-same : (old new : List ℕ) (from upto : ℕ) → length new ≡ length old → KeepsBytes old new from upto → slice_range new from upto ≡ slice_range old from upto
slice-same old new from upto same keeps =
    ext_get_or 0 (slice_range new from upto) (slice_range old from upto)
    (length-slice new from upto ∙ (ap (λ n. min (upto - from) (n - from)) same ∙ sym (length-slice old from upto)))
    (λ i lt.
    let l : i < upto - from = omega (arith, length-slice new from upto) in
    slice-at new from upto i l ∙ (keeps.at (from + i) (omega arith) (omega arith) ∙ sym (slice-at old from upto i l)))

-- the first bytes of a block stand at another
pub slice-carried : (old new : List ℕ) (p q n : ℕ) → p + n ≤ length old → q + n ≤ length new → ((i : ℕ) → i < n → get_or new (q + i) 0 ≡ get_or old (p + i) 0)
    → slice_range new q (q + n) ≡ slice_range old p (p + n)
slice-carried old new p q n r s same =
    ext_get_or 0 (slice_range new q (q + n)) (slice_range old p (p + n))
    (omega (arith, length-slice new q (q + n), length-slice old p (p + n)))
    (λ i lt.
    let l : i < n = omega (arith, length-slice new q (q + n)) in
    slice-at new q (q + n) i (omega arith) ∙ (same i l ∙ sym (slice-at old p (p + n) i (omega arith))))

-- bytes that change inside a block leave those of one that is apart
pub inside-keeps : (old new : List ℕ) (b c : Block) → ChangesInside b old new → is_apart b c ≡ true → KeepsBytes old new c.place (end_of c)
inside-keeps old new b c h a = record {
  at = λ i from upto.
      let sides : (end_of b ≤ c.place) ⊎ (end_of c ≤ b.place) = grind (arith, nat_tests) in
      elim sides [ inl l ↦ h.above i (omega arith) | inr l ↦ h.below i (omega arith) ];
}

-- ---- bytes that are written

pub slice-set : (bytes : List ℕ) (p n o x : ℕ) → o < n → slice_range (set bytes (p + o) x) p (p + n) ≡ set (slice_range bytes p (p + n)) o x
slice-set bytes p n o x lt = ap (take ((p + n) - p)) (drop-set-add p bytes o x) ∙ take-set-lt ((p + n) - p) (drop p bytes) o x (omega arith)

-- what is written into a block
pub slice-written : (bytes : List ℕ) (p n o : ℕ) (given : List ℕ) → o + length given ≤ n → slice_range (write_from bytes (p + o) given) p (p + n) ≡ write_from (slice_range bytes p (p + n)) o given
slice-written bytes p n o [] h = refl
slice-written bytes p n o (x ∷ given) h =
    let q : (p + o) + 1 ≡ p + (o + 1) = omega arith in
    ap (λ at. slice_range (write_from (set bytes (p + o) x) at given) p (p + n)) q
    ∙ (slice-written (set bytes (p + o) x) p n (o + 1) given (omega arith) ∙ ap (λ xs. write_from xs (o + 1) given) (slice-set bytes p n o x (omega arith)))

pub length-written : (bytes : List ℕ) (p : ℕ) (given : List ℕ) → length (write_from bytes p given) ≡ length bytes
length-written bytes p [] = refl
length-written bytes p (x ∷ given) = length-written (set bytes p x) (p + 1) given ∙ length-set bytes p x

written-below : (bytes : List ℕ) (p : ℕ) (given : List ℕ) (i : ℕ) → i < p → get_or (write_from bytes p given) i 0 ≡ get_or bytes i 0
written-below bytes p [] i h = refl
written-below bytes p (x ∷ given) i h = written-below (set bytes p x) (p + 1) given i (omega arith) ∙ get_or-set_other bytes p i x 0 (omega arith)

written-in : (bytes : List ℕ) (p : ℕ) (given : List ℕ) (i : ℕ) → p + length given ≤ length bytes → i < length given → get_or (write_from bytes p given) (p + i) 0 ≡ get_or given i 0
written-in bytes p [] i r h = absurd (omega arith)
written-in bytes p (x ∷ given) zero r h =
    let q : p + 0 ≡ p = omega arith in
    ap (λ k. get_or (write_from (set bytes p x) (p + 1) given) k 0) q ∙ (written-below (set bytes p x) (p + 1) given p (omega arith) ∙ get_or-set_same bytes p x 0 (omega arith))
written-in bytes p (x ∷ given) (suc i) r h =
    let q : p + suc i ≡ (p + 1) + i = omega arith in
    ap (λ k. get_or (write_from (set bytes p x) (p + 1) given) k 0) q ∙ written-in (set bytes p x) (p + 1) given i (omega (arith, length-set bytes p x)) (omega arith)

-- all bytes of a block
pub written-all : (bytes given : List ℕ) → length given ≡ length bytes → write_from bytes 0 given ≡ given
written-all bytes given e =
    ext_get_or 0 (write_from bytes 0 given) given (length-written bytes 0 given ∙ sym e)
    (λ i lt.
    let size = length-written bytes 0 given in
    let q : i ≡ 0 + i = omega arith in
    ap (λ k. get_or (write_from bytes 0 given) k 0) q ∙ written-in bytes 0 given i (omega arith) (omega (arith, size)))

-- all bytes of a block, written over
pub slice-replaced : (bytes : List ℕ) (b : Block) (given : List ℕ) → end_of b ≤ length bytes → length given ≡ b.len → slice_range (write_from bytes b.place given) b.place (end_of b) ≡ given
slice-replaced bytes b given r e =
    let q : b.place ≡ b.place + 0 = omega arith in
    ap (λ at. slice_range (write_from bytes at given) b.place (end_of b)) q
    ∙ (slice-written bytes b.place b.len 0 given (omega (arith, e))
    ∙ written-all (slice_range bytes b.place (end_of b)) given (omega (arith, e, r, length-slice bytes b.place (end_of b))))

-- a block that was moved has the bytes that both lengths have
pub take-carried : (old new : List ℕ) (p q k n : ℕ) → p + k ≤ length old → q + n ≤ length new → ((i : ℕ) → i < min k n → get_or new (q + i) 0 ≡ get_or old (p + i) 0)
    → take (min k n) (slice_range new q (q + n)) ≡ take n (slice_range old p (p + k))
take-carried old new p q k n r s same =
    let left : length (take (min k n) (slice_range new q (q + n))) ≡ min k n = omega (arith, length-take (min k n) (slice_range new q (q + n)), length-slice new q (q + n)) in
    let right : length (take n (slice_range old p (p + k))) ≡ min k n = omega (arith, length-take n (slice_range old p (p + k)), length-slice old p (p + k)) in
    ext_get_or 0 (take (min k n) (slice_range new q (q + n))) (take n (slice_range old p (p + k))) (left ∙ sym right)
    (λ i lt.
    let l : i < min k n = omega arith in
    get_or-take (min k n) (slice_range new q (q + n)) i 0 l
    ∙ (slice-at new q (q + n) i (omega arith)
    ∙ (same i l
    ∙ sym (get_or-take n (slice_range old p (p + k)) i 0 (omega arith) ∙ slice-at old p (p + k) i (omega arith)))))

-- a block that grew has the bytes that it had
pub take-first : (old new : List ℕ) (p q k n : ℕ) → p + k ≤ length old → q + n ≤ length new → k ≤ n → ((i : ℕ) → i < k → get_or new (q + i) 0 ≡ get_or old (p + i) 0)
    → take k (slice_range new q (q + n)) ≡ slice_range old p (p + k)
take-first old new p q k n r s le same =
    let left : length (take k (slice_range new q (q + n))) ≡ k = omega (arith, length-take k (slice_range new q (q + n)), length-slice new q (q + n)) in
    let right : length (slice_range old p (p + k)) ≡ k = omega (arith, length-slice old p (p + k)) in
    ext_get_or 0 (take k (slice_range new q (q + n))) (slice_range old p (p + k)) (left ∙ sym right)
    (λ i lt.
    let l : i < k = omega arith in
    get_or-take k (slice_range new q (q + n)) i 0 l ∙ (slice-at new q (q + n) i (omega arith) ∙ (same i l ∙ sym (slice-at old p (p + k) i (omega arith)))))
