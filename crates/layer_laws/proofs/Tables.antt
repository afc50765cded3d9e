-- Tables of tags: which cells have a tag, by counting.
use Rattle.std.proofs.Common.{◌≡◌, ◌≢◌, ◌+◌, refl, sym, ◌∙◌, ℕ, false, cond, nat_eq, count_by, zero, suc, ◌≤◌, ◌<◌, Bool, true, arith, List, [], ◌∷◌, get_or, length}
use Rattle.std.proofs.lemmas.List.Recursion.{is_count_by}
use Rattle.std.proofs.lemmas.Bool.Decides.{nat_tests}
use Rattle.std.proofs.lemmas.List.{length-map}
use Rattle.space_core.specs.Cells.{Cells, free_tag}

-- a cell with a tag is there
pub tag-in_range : (T : List ℕ) (c : ℕ) → 1 ≤ get_or T c 0 → c < length T
tag-in_range [] c h = absurd (omega arith)
tag-in_range (x ∷ T) zero h = omega arith
tag-in_range (x ∷ T) (suc c) h = let i = tag-in_range T c h in omega arith

-- how many cells have the tag, cell by cell
tally : ℕ → List ℕ → ℕ
tally t [] = 0
tally t (u ∷ T) = cond (nat_eq u t) (1 + tally t T) (tally t T)

tally-count : (t : ℕ) (T : List ℕ) → tally t T ≡ count_by (λ u. nat_eq u t) T
unfolding tally
tally-count t T = is_count_by (tally t) (λ u. nat_eq u t) refl (λ x xs. refl) T

tally-rest : (t : ℕ) (T : List ℕ) (b : Bool) → cond b (1 + tally t T) (tally t T) ≡ 0 → (b ≡ false) × (tally t T ≡ 0)
tally-rest t T true h = absurd (omega arith)
tally-rest t T false h = (refl, h)

tally-none : (t : ℕ) (T : List ℕ) → tally t T ≡ 0 → (c : ℕ) → 1 ≤ t → get_or T c 0 ≡ t → ⊥
unfolding tally
tally-none t [] h c l e = omega arith
tally-none t (u ∷ T) h zero l e = let r = tally-rest t T (nat_eq u t) h in let q : nat_eq u t ≡ true = grind (arith, nat_tests) in let z = r.0 in cc
tally-none t (u ∷ T) h (suc c) l e = tally-none t T (tally-rest t T (nat_eq u t) h).1 c l e

none-tally : (t : ℕ) (T : List ℕ) → ((c : ℕ) → c < length T → get_or T c 0 ≢ t) → tally t T ≡ 0
unfolding tally
none-tally t [] h = refl
none-tally t (u ∷ T) h = let q : nat_eq u t ≡ false = (let z = h 0 (omega arith) in grind (arith, nat_tests)) in rw q (none-tally t T (λ c l. h (suc c) (omega arith)))

pub used-none : (t : ℕ) (T : List ℕ) → count_by (λ u. nat_eq u t) T ≡ 0 → (c : ℕ) → 1 ≤ t → get_or T c 0 ≡ t → ⊥
used-none t T h c l e = tally-none t T (tally-count t T ∙ h) c l e

pub none-used : (t : ℕ) (T : List ℕ) → ((c : ℕ) → c < length T → get_or T c 0 ≢ t) → count_by (λ u. nat_eq u t) T ≡ 0
none-used t T h = sym (tally-count t T) ∙ none-tally t T h

-- a tag that is freed leaves as many cells
pub count-free_tag : (tag : ℕ) (cells : Cells) → length (free_tag tag cells).tags ≡ length cells.tags
count-free_tag tag cells = length-map cells.tags (λ t. cond (nat_eq t tag) 0 t)
