-- Bytes that stay, and the words and runs of one value that stand there.
use Rattle.std.proofs.Common.{◌≡◌, refl, ap, ◌∙◌, ℕ, zero, suc, ◌≤◌, ◌<◌, ◌+◌, ◌-◌, ⊎_elim, true, arith, List, [], ◌∷◌, get_or, length, take, drop, length-drop, nat_eq}
use Rattle.std.proofs.lemmas.Bool.{and_from, cases_lt}
use Rattle.std.proofs.lemmas.Bool.Decides.{nat_tests}
use Rattle.std.proofs.lemmas.List.{get_or-drop}
use Rattle.std.specs.Int.{from_le_bytes, w64}
use Rattle.space_core.specs.Words.{word_at, has_bytes, IsWordAt}
use Rattle.layer_rules.specs.Testing.{are_bytes, is_word}
use Rattle.layer_laws.proofs.Basics.{and-fst, and-snd}

-- no byte from lo up to hi changes, nor how many there are
pub record KeptBytes (old new : List ℕ) (lo hi : ℕ) : Type 0 where
  pub length_same : length new ≡ length old
  pub at : (i : ℕ) → lo ≤ i → i < hi → get_or new i 0 ≡ get_or old i 0

take-same : (n : ℕ) (xs ys : List ℕ) → length ys ≡ length xs → ((k : ℕ) → k < n → get_or ys k 0 ≡ get_or xs k 0) → take n ys ≡ take n xs
take-same zero xs ys l h = refl
take-same (suc n) [] [] l h = refl
take-same (suc n) [] (y ∷ ys) l h = absurd (omega arith)
take-same (suc n) (x ∷ xs) [] l h = absurd (omega arith)
take-same (suc n) (x ∷ xs) (y ∷ ys) l h =
    let e : y ≡ x = h 0 (omega arith) in
    rw e (ap (λ zs. x ∷ zs) (take-same n xs ys (omega arith) (λ k q. h (suc k) (omega arith))))

pub word_at-same : (old new : List ℕ) (p : ℕ) → KeptBytes old new p (p + 8) → word_at new p ≡ word_at old p
word_at-same old new p k =
    ap (from_le_bytes w64) (take-same (p + 8 - p) (drop p old) (drop p new) (rw (length-drop p new, length-drop p old, k.length_same) refl)
    (λ i l. rw (get_or-drop p new i 0, get_or-drop p old i 0) (k.at (p + i) (omega arith) (omega arith))))

-- a word
pub IsWordAt-same : (old new : List ℕ) (p n : ℕ) → KeptBytes old new p (p + 8) → IsWordAt old p n → IsWordAt new p n
IsWordAt-same old new p n k w = record { inside = rw k.length_same w.inside; value = word_at-same old new p k ∙ w.value }

pub word-parts : (bytes : List ℕ) (p n : ℕ) → is_word bytes p n ≡ true → IsWordAt bytes p n
word-parts bytes p n h =
    let a = and-fst (has_bytes bytes p 8) (nat_eq (word_at bytes p) n) h in
    let b = and-snd (has_bytes bytes p 8) (nat_eq (word_at bytes p) n) h in
    record { inside = grind (arith, nat_tests); value = grind (arith, nat_tests) }

pub word-test : (bytes : List ℕ) (p n : ℕ) → IsWordAt bytes p n → is_word bytes p n ≡ true
word-test bytes p n w =
    let inside : has_bytes bytes p 8 ≡ true = grind (arith, nat_tests, w.inside) in
    let value : nat_eq (word_at bytes p) n ≡ true = grind (arith, nat_tests, w.value) in
    and_from _ _ inside value

pub word-kept : (p n : ℕ) (old new : List ℕ) → KeptBytes old new p (p + 8) → is_word old p n ≡ true → is_word new p n ≡ true
word-kept p n old new k h = word-test new p n (IsWordAt-same old new p n k (word-parts old p n h))

-- a run of bytes of one value
pub bytes-parts : (value p n : ℕ) (bytes : List ℕ) → are_bytes value p n bytes ≡ true → (i : ℕ) → p ≤ i → i < p + n → get_or bytes i 0 ≡ value
unfolding are_bytes
bytes-parts value p zero bytes h i x y = absurd (omega arith)
bytes-parts value p (suc n) bytes h i x y =
    let first = nat_eq (get_or bytes p 0) value in
    let rest = are_bytes value (suc p) n bytes in
    let a = and-fst first rest h in
    ⊎_elim (λ l. bytes-parts value (suc p) n bytes (and-snd first rest h) i (omega arith) (omega arith)) (λ l. let q : i ≡ p = omega arith in let z : get_or bytes p 0 ≡ value = grind (arith, nat_tests) in ap (λ i. get_or bytes i 0) q ∙ z) (cases_lt p i)

pub bytes-test : (value p n : ℕ) (bytes : List ℕ) → ((i : ℕ) → p ≤ i → i < p + n → get_or bytes i 0 ≡ value) → are_bytes value p n bytes ≡ true
unfolding are_bytes
bytes-test value p zero bytes f = refl
bytes-test value p (suc n) bytes f =
    let z = f p (omega arith) (omega arith) in
    let first : nat_eq (get_or bytes p 0) value ≡ true = grind (arith, nat_tests) in
    and_from _ _ first (bytes-test value (suc p) n bytes (λ i x y. f i (omega arith) (omega arith)))

pub bytes-kept : (value p n : ℕ) (old new : List ℕ) → ((i : ℕ) → p ≤ i → i < p + n → get_or new i 0 ≡ get_or old i 0) → are_bytes value p n old ≡ true → are_bytes value p n new ≡ true
bytes-kept value p n old new k h = bytes-test value p n new (λ i x y. k i x y ∙ bytes-parts value p n old h i x y)
