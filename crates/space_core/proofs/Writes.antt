-- Writes: bytes that a list was written over.
use Rattle.std.proofs.Common.{ℕ, zero, suc, ◌≡◌, ◌+◌, ◌-◌, ◌≤◌, List, [], ◌∷◌, ◌++◌, length, take, drop, set, slice_range, refl, sym, ap, ◌∙◌, arith, length-set}
use Rattle.std.proofs.Math.Seq.{take-append_seam}
use Rattle.space_core.specs.Memory.{Memory, IsMemory}
use Rattle.space_core.specs.Words.{write_from}

pub write_from-nil : (p : ℕ) (ws : List ℕ) → write_from [] p ws ≡ []
write_from-nil p [] = refl
write_from-nil p (w ∷ ws) = write_from-nil (p + 1) ws

written-behind : (b : ℕ) (bs : List ℕ) (p : ℕ) (ws : List ℕ) → write_from (b ∷ bs) (suc p) ws ≡ b ∷ write_from bs p ws
written-behind b bs p [] = refl
written-behind b bs p (w ∷ ws) = let q : suc p + 1 ≡ suc (p + 1) = omega arith in rw q (written-behind b (set bs p w) (p + 1) ws)

written-at : (b : ℕ) (bs : List ℕ) (w : ℕ) (ws : List ℕ) → write_from (b ∷ bs) zero (w ∷ ws) ≡ w ∷ write_from bs zero ws
written-at b bs w ws = written-behind w bs zero ws

-- a list that is too long is cut
refill-written : (bs ws more : List ℕ) → take (length bs) ((ws ++ drop (length ws) bs) ++ more) ≡ write_from bs zero ws
refill-written [] ws more = sym (write_from-nil zero ws)
refill-written (b ∷ bs) [] more = take-append_seam (b ∷ bs) more
refill-written (b ∷ bs) (w ∷ ws) more = ap (λ xs. w ∷ xs) (refill-written bs ws more) ∙ sym (written-at b bs w ws)

pub write_from-refill : (bs : List ℕ) (p : ℕ) (ws more : List ℕ) → take (length bs) ((take p bs ++ (ws ++ drop (length ws) (drop p bs))) ++ more) ≡ write_from bs p ws
write_from-refill [] p ws more = sym (write_from-nil p ws)
write_from-refill (b ∷ bs) zero ws more = refill-written (b ∷ bs) ws more
write_from-refill (b ∷ bs) (suc p) ws more = ap (λ xs. b ∷ xs) (write_from-refill bs p ws more) ∙ sym (written-behind b bs p ws)

pub length-write_from : (bs : List ℕ) (p : ℕ) (ws : List ℕ) → length (write_from bs p ws) ≡ length bs
length-write_from bs p [] = refl
length-write_from bs p (w ∷ ws) = length-write_from (set bs p w) (p + 1) ws ∙ length-set bs p w

-- the bytes before the list, the list, and the bytes behind it
pub write_from-parts : (bs : List ℕ) (p : ℕ) (ws : List ℕ) → p + length ws ≤ length bs → write_from bs p ws ≡ take p bs ++ (ws ++ drop (length ws) (drop p bs))
write_from-parts bs zero [] h = refl
write_from-parts [] zero (w ∷ ws) h = absurd (omega arith)
write_from-parts (b ∷ bs) zero (w ∷ ws) h = written-at b bs w ws ∙ ap (λ xs. w ∷ xs) (write_from-parts bs zero ws (omega arith))
write_from-parts [] (suc p) ws h = absurd (omega arith)
write_from-parts (b ∷ bs) (suc p) ws h = written-behind b bs p ws ∙ ap (λ xs. b ∷ xs) (write_from-parts bs p ws (omega arith))

-- what was written is read back
pub slice_range-write_from : (bs : List ℕ) (p : ℕ) (ws : List ℕ) → p + length ws ≤ length bs → slice_range (write_from bs p ws) p (p + length ws) ≡ ws
slice_range-write_from bs p ws h =
    let n : (p + length ws) - p ≡ length ws = omega arith in
    rw n (from_place bs p h)
  where
    from_place : (bs : List ℕ) (p : ℕ) → p + length ws ≤ length bs → take (length ws) (drop p (write_from bs p ws)) ≡ ws
    from_place bs zero h = rw (write_from-parts bs zero ws h) (take-append_seam ws (drop (length ws) bs))
    from_place [] (suc p) h = absurd (omega arith)
    from_place (b ∷ bs) (suc p) h = rw (written-behind b bs p ws) (from_place bs p (omega arith))

pub IsMemory-written : (m : Memory) (p : ℕ) (ws : List ℕ) → IsMemory m → IsMemory (record m { bytes = write_from m.bytes p ws })
IsMemory-written m p ws is = record { sizes = length-write_from m.bytes p ws ∙ is.sizes; cells = is.cells; leaves = is.leaves }
