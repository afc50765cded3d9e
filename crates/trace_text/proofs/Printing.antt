-- Printing: texts that a loop writes part by part.
use Rattle.std.proofs.Common.{◌≡◌, ◌≢◌, ℕ, ◌+◌, ◌≤◌, ◌<◌, List, [], ◌∷◌, ◌++◌, length, get_or, take, map, refl, sym, ◌∙◌, ap, arith, decimal, append_assoc}
use Rattle.std.specs.List.{join_with_byte}
use Rattle.std.proofs.lemmas.Grind.{flat_map-append}
use Rattle.std.proofs.lemmas.List.{length-take, map-append, take_more}
use Rattle.heap_core.specs.declared.Call.{Call}
use Rattle.heap_core.specs.declared.Call.TheVariants.{OwnsAt}
use Rattle.trace_text.specs.Text.{byte_text, most_asked, octets_text, path_text}

-- what stands in front of an answer is short
pub most_asked_le : (call : Call) → most_asked call ≤ 191
most_asked_le (OwnsAt n steps) = omega arith
most_asked_le _ = omega arith

-- one more in a row
pub join_more : (c : ℕ) (x : List ℕ) (xs : List (List ℕ)) (y : List ℕ) → join_with_byte c ((x ∷ xs) ++ y ∷ []) ≡ join_with_byte c (x ∷ xs) ++ c ∷ y
join_more c x [] y = refl
join_more c x (z ∷ xs) y = ap (λ t. x ++ c ∷ t) (join_more c z xs y) ∙ sym (append_assoc x (c ∷ join_with_byte c (z ∷ xs)) (c ∷ y))

-- one byte more
pub octets_more : (bytes : List ℕ) (k : ℕ) → k < length bytes → octets_text (take (k + 1) bytes) ≡ octets_text (take k bytes) ++ byte_text (get_or bytes k 0)
octets_more bytes k lt = rw (take_more bytes k 0 lt, flat_map-append) refl

path_more_by : (first : List ℕ) (k n : ℕ) → first ≢ [] → path_text (first ++ n ∷ []) ≡ path_text first ++ 46 ∷ decimal n
path_more_by [] k n some = absurd (some refl)
path_more_by (s ∷ steps) k n some = ap (join_with_byte 46) (map-append decimal (s ∷ steps) (n ∷ [])) ∙ join_more 46 (decimal s) (map decimal steps) (decimal n)

-- one step more
pub path_more : (steps : List ℕ) (k : ℕ) → 0 < k → k < length steps → path_text (take (k + 1) steps) ≡ path_text (take k steps) ++ 46 ∷ decimal (get_or steps k 0)
path_more steps k some lt =
    rw (take_more steps k 0 lt) (path_more_by (take k steps) k (get_or steps k 0) (λ none. omega (arith, length-take k steps, ap length none)))

-- the first step
pub path_first : (steps : List ℕ) (k : ℕ) → k ≡ 0 → k < length steps → path_text (take (k + 1) steps) ≡ path_text (take k steps) ++ decimal (get_or steps k 0)
path_first [] k none lt = absurd (omega arith)
path_first (s ∷ steps) k none lt = rw none refl
