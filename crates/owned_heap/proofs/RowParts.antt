-- RowParts: parts of lists of blocks, of lists of rows, and of a row that is written.
use Rattle.std.proofs.Common.{◌≡◌, ◌≢◌, refl, sym, ap, ◌∙◌, ℕ, Bool, true, false, suc, zero, ◌+◌, min, ◌<◌, ◌≤◌, List, [], ◌∷◌, ◌++◌, length, take, drop, set, get_or, arith}
use Rattle.std.specs.Bool.{OnTrue, OnFalse}
use Rattle.std.specs.List.{slice_range, SameBelow}
use Rattle.std.proofs.Math.Seq.{get_or-append_seam}
use Rattle.std.proofs.lemmas.List.{drop-set-lt, take-set-le, get_or-take, get_or-set_same, set-get_or}
use Rattle.space_core.specs.Words.{write_from}
use Rattle.layer_rules.specs.Rows.{Each, EachPair}
use Rattle.owned_heap.specs.Ticket.{Ticket}
use Rattle.owned_heap.specs.Rows.{block_at}
use Rattle.owned_heap.proofs.Slices.{length-slice, slice-written, written-all}

-- ---- blocks

pub each-at : (P : Ticket → Type 0) (l : List Ticket) (i : ℕ) (d : Ticket) → Each P l → i < length l → P (get_or l i d)
each-at P [] i d h lt = absurd (omega arith)
each-at P (x ∷ l) zero d h lt = h.0
each-at P (x ∷ l) (suc i) d h lt = each-at P l i d h.1 (omega arith)

pub each-set : (P : Ticket → Type 0) (l : List Ticket) (i : ℕ) (y : Ticket) → Each P l → P y → Each P (set l i y)
each-set P [] i y h p = tt
each-set P (x ∷ l) zero y h p = (p, h.1)
each-set P (x ∷ l) (suc i) y h p = (h.0, each-set P l i y h.1 p)

pub each-take : (P : Ticket → Type 0) (l : List Ticket) (n : ℕ) → Each P l → Each P (take n l)
each-take P l zero h = tt
each-take P [] (suc n) h = tt
each-take P (x ∷ l) (suc n) h = (h.0, each-take P l n h.1)

pub each-snoc : (P : Ticket → Type 0) (l : List Ticket) (x : Ticket) → Each P l → P x → Each P (l ++ x ∷ [])
each-snoc P [] x h p = (p, tt)
each-snoc P (y ∷ l) x h p = (h.0, each-snoc P l x h.1 p)

abbrev pub AreOther : Ticket → Ticket → Type 0
AreOther b c = b.number ≢ c.number

pub pair-snoc : (l : List Ticket) (x : Ticket) → EachPair AreOther l → Each (λ (c : Ticket). AreOther c x) l → EachPair AreOther (l ++ x ∷ [])
pair-snoc [] x h p = (tt, tt)
pair-snoc (y ∷ l) x h p = (each-snoc (AreOther y) l x h.0 p.0, pair-snoc l x h.1 p.1)

pub pair-take : (l : List Ticket) (n : ℕ) → EachPair AreOther l → EachPair AreOther (take n l)
pair-take l zero h = tt
pair-take [] (suc n) h = tt
pair-take (x ∷ l) (suc n) h = (each-take (AreOther x) l n h.0, pair-take l n h.1)

-- those before an element are other than it
pub pair-before : (l : List Ticket) (n : ℕ) (d : Ticket) → EachPair AreOther l → n < length l → Each (λ (c : Ticket). AreOther c (get_or l n d)) (take n l)
pair-before l zero d h lt = tt
pair-before [] (suc n) d h lt = tt
pair-before (x ∷ l) (suc n) d h lt = (each-at (AreOther x) l n d h.0 (omega arith), pair-before l n d h.1 (omega arith))

pub get_or-same : (l : List Ticket) (n : ℕ) (x : Ticket) → get_or l n x ≡ get_or l n (get_or l n x)
get_or-same [] n x = refl
get_or-same (y ∷ l) zero x = refl
get_or-same (y ∷ l) (suc n) x = get_or-same l n x

pub block-at : (l : List Ticket) (i : ℕ) (x : Ticket) → i < length l → x ≡ get_or l i x → block_at l i ≡ x
block-at [] i x lt at = absurd (omega arith)
block-at (y ∷ l) zero x lt at = sym at
block-at (y ∷ l) (suc i) x lt at = block-at l i x (omega arith) at

pub block-at-set : (l : List Ticket) (i : ℕ) (y : Ticket) → i < length l → block_at (set l i y) i ≡ y
block-at-set l i y lt = get_or-set_same l i y (record { number = 0; block = record { place = 0; len = 0 } }) lt

-- a block that was moved, and one that wasn't
pub block-moved : (r : Bool) (l : List Ticket) (i : ℕ) (y : Ticket) → i < length l → OnTrue r (set l i y ≡ set l i (block_at (set l i y) i))
block-moved true l i y lt = ap (set l i) (sym (block-at-set l i y lt))
block-moved false l i y lt = tt

pub block-stays : (r : Bool) (l : List Ticket) (i : ℕ) (x y : Ticket) → x ≡ get_or l i x → OnFalse r (y ≡ x) → OnFalse r (set l i y ≡ l)
block-stays true l i x y at same = tt
block-stays false l i x y at same = ap (set l i) (same ∙ at) ∙ set-get_or l i x

-- ---- rows

pub row-last : (rows rows' : List (List ℕ)) (row : List ℕ) → rows' ≡ rows ++ row ∷ [] → rows' ≡ rows ++ get_or rows' (length rows) [] ∷ []
row-last rows rows' row e = e ∙ ap (λ (r : List ℕ). rows ++ r ∷ []) (sym (ap (λ (rs : List (List ℕ)). get_or rs (length rows) []) e ∙ get_or-append_seam rows row [] []))

pub row-set : (rows rows' : List (List ℕ)) (i : ℕ) (row : List ℕ) → i < length rows → rows' ≡ set rows i row → get_or rows' i [] ≡ row
row-set rows rows' i row lt e = ap (λ (rs : List (List ℕ)). get_or rs i []) e ∙ get_or-set_same rows i row [] lt

pub kept-below : (old new : List ℕ) (n : ℕ) → take (min (length old) n) new ≡ take n old → SameBelow old new (min (length old) n)
kept-below old new n kept i d lt =
    sym (get_or-take (min (length old) n) new i d lt) ∙ (ap (λ (xs : List ℕ). get_or xs i d) kept ∙ get_or-take n old i d (omega (arith, lt)))

-- ---- a row that is written

-- what was written stands there
pub written-stands : (row given : List ℕ) (at : ℕ) → at + length given ≤ length row → slice_range (write_from row at given) at (at + length given) ≡ given
written-stands row given at room =
    let n : at + 0 ≡ at = omega arith in
    let size : length given ≡ length (slice_range row at (at + length given)) = omega (arith, length-slice row at (at + length given), room) in
    ap (λ p. slice_range (write_from row p given) at (at + length given)) (sym n) ∙ (slice-written row at (length given) 0 given (omega arith) ∙ written-all (slice_range row at (at + length given)) given size)

-- and what is before it and behind it stays
pub take-written : (row given : List ℕ) (at n : ℕ) → n ≤ at → take n (write_from row at given) ≡ take n row
take-written row [] at n before = refl
take-written row (x ∷ given) at n before = take-written (set row at x) given (at + 1) n (omega arith) ∙ take-set-le n row at x before

pub drop-written : (row given : List ℕ) (at n : ℕ) → at + length given ≤ n → drop n (write_from row at given) ≡ drop n row
drop-written row [] at n behind = refl
drop-written row (x ∷ given) at n behind = drop-written (set row at x) given (at + 1) n (omega arith) ∙ drop-set-lt n row at x (omega arith)
