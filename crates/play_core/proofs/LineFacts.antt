-- Lines, their bodies, and what stands before them.
use Rattle.std.proofs.Common.{◌≡◌, ℕ, zero, suc, ◌+◌, ◌≤◌, ◌<◌, Bool, true, false, Some, List, [], ◌∷◌, ◌++◌, length, take, get_or, refl, sym, ap, ◌∙◌, append_assoc, arith, nat_eq}
use Rattle.std.proofs.lemmas.Bool.Decides.{nat_tests}
use Rattle.std.proofs.lemmas.List.{length-take-le, take_more}
use Rattle.std.proofs.lemmas.List.Quantifiers.{position-Some}
use Rattle.std.specs.List.{AllByRecursion, position}
use Rattle.play_core.specs.Lines.{lines_of, onto_first, body_of, IsOpen, IsWhole, joined}

pub open_more : (xs : List ℕ) (b : ℕ) → IsOpen xs → nat_eq b 10 ≡ false → IsOpen (xs ++ b ∷ [])
open_more [] b h e = (e, tt)
open_more (x ∷ xs) b h e = (h.0, open_more xs b h.1 e)

pub body_begin : (xs ys : List ℕ) → IsOpen xs → body_of (xs ++ ys) ≡ xs ++ body_of ys
body_begin [] ys h = refl
body_begin (x ∷ xs) ys h = rw (h.0) (ap (λ zs. x ∷ zs) (body_begin xs ys h.1))

pub lines_whole : (xs rest : List ℕ) → IsOpen xs → lines_of (xs ++ 10 ∷ rest) ≡ (xs ++ 10 ∷ []) ∷ lines_of rest
lines_whole [] rest h = refl
lines_whole (x ∷ xs) rest h = rw (h.0) (ap (onto_first x) (lines_whole xs rest h.1))

pub lines_open : (x : ℕ) (xs : List ℕ) → IsOpen (x ∷ xs) → lines_of (x ∷ xs) ≡ (x ∷ xs) ∷ []
lines_open x [] h = rw (h.0) refl
lines_open x (y ∷ ys) h = rw (h.0) (ap (onto_first x) (lines_open y ys h.1))

-- the first line of what is left begins with what stands there
pub record Begins (xs : List ℕ) (b : ℕ) (lines : List (List ℕ)) : Type 0 where
  pub more : List ℕ
  pub others : List (List ℕ)
  pub is : lines ≡ (xs ++ b ∷ more) ∷ others

onto_begins : (x : ℕ) (xs : List ℕ) (b : ℕ) (lines : List (List ℕ)) → Begins xs b lines → Begins (x ∷ xs) b (onto_first x lines)
onto_begins x xs b lines h = record { more = h.more; others = h.others; is = ap (onto_first x) h.is }

first_begins : (b : ℕ) (lines : List (List ℕ)) → Begins [] b (onto_first b lines)
first_begins b [] = record { more = []; others = []; is = refl }
first_begins b (line ∷ lines) = record { more = line; others = lines; is = refl }

head_begins : (b : ℕ) (rest : List ℕ) (t : Bool) → nat_eq b 10 ≡ t → Begins [] b (lines_of (b ∷ rest))
head_begins b rest false e = let P : List (List ℕ) → Type 0 = Begins [] b in rw e (first_begins b (lines_of rest))
head_begins b rest true e = rw e (record { more = []; others = lines_of rest; is = ap (λ n. (n ∷ []) ∷ lines_of rest) (grind (arith, e)) })

pub lines_begin : (xs : List ℕ) (b : ℕ) (rest : List ℕ) → IsOpen xs → Begins xs b (lines_of (xs ++ b ∷ rest))
lines_begin [] b rest h = head_begins b rest (nat_eq b 10) refl
lines_begin (x ∷ xs) b rest h = rw (h.0) (onto_begins x xs b _ (lines_begin xs b rest h.1))

pub lines_joined : (lines : List (List ℕ)) (rest : List ℕ) → AllByRecursion IsWhole lines → lines_of (joined lines ++ rest) ≡ lines ++ lines_of rest
lines_joined [] rest h = refl
lines_joined (line ∷ lines) rest h =
    ap (λ l. lines_of ((l ++ joined lines) ++ rest)) h.0.2
    ∙ ap lines_of (append_assoc (h.0.0 ++ 10 ∷ []) (joined lines) rest ∙ append_assoc h.0.0 (10 ∷ []) (joined lines ++ rest))
    ∙ lines_whole h.0.0 (joined lines ++ rest) h.0.1
    ∙ ap (λ l. l ∷ lines_of (joined lines ++ rest)) (sym h.0.2)
    ∙ ap (λ ls. line ∷ ls) (lines_joined lines rest h.1)

pub joined-append : (xs ys : List (List ℕ)) → joined (xs ++ ys) ≡ joined xs ++ joined ys
joined-append [] ys = refl
joined-append (x ∷ xs) ys = ap (λ zs. x ++ zs) (joined-append xs ys) ∙ sym (append_assoc x (joined xs) (joined ys))

pub whole_append : (xs ys : List (List ℕ)) → AllByRecursion IsWhole xs → AllByRecursion IsWhole ys → AllByRecursion IsWhole (xs ++ ys)
whole_append [] ys h k = k
whole_append (x ∷ xs) ys h k = (h.0, whole_append xs ys h.1 k)

-- ---- the first line of some bytes

open_front : (n : ℕ) (bytes : List ℕ) → n ≤ length bytes → ((k : ℕ) → k < n → nat_eq (get_or bytes k 0) 10 ≡ false) → IsOpen (take n bytes)
open_front zero bytes within all = tt
open_front (suc n) [] within all = absurd (omega arith)
open_front (suc n) (b ∷ bs) within all = (all 0 (omega arith), open_front n bs (omega arith) (λ k lt. all (suc k) (omega arith)))

-- the bytes in front of the first newline, so many, are a line
pub record EndsAt (bytes : List ℕ) (len : ℕ) : Type 0 where
  pub is_open : IsOpen (take len bytes)
  pub first : take (length (take len bytes) + 1) bytes ≡ take len bytes ++ 10 ∷ []
  pub len_is : length (take len bytes) ≡ len

pub first_line : (bytes : List ℕ) (len : ℕ) → position (λ byte. nat_eq byte 10) bytes ≡ Some len → EndsAt bytes len
first_line bytes len at =
    let p = position-Some (λ byte. nat_eq byte 10) bytes len 0 at in
    let len_is : length (take len bytes) ≡ len = length-take-le len bytes (omega (arith, p.0)) in
    let newline : get_or bytes len 0 ≡ 10 = grind (arith, nat_tests, p.1) in
    record {
      is_open = open_front len bytes (omega (arith, p.0)) p.2;
      first = rw (len_is, take_more bytes len 0 p.0, newline) refl;
      len_is = len_is;
    }
