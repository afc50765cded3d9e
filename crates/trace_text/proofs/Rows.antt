-- Rows: what stands behind each letter is read as a call exactly where it spells one.
use Rattle.std.proofs.Common.{◌≡◌, ◌≢◌, ℕ, suc, Bool, true, false, cond, List, [], ◌∷◌, map, Result, Ok, Err, nat_eq, refl, ap, subst}
use Rattle.std.proofs.lemmas.Bool.{eqb-true}
use Rattle.std.specs.List.{AllZip}
use Rattle.heap_core.specs.declared.Call.{Call}
use Rattle.heap_core.specs.declared.Call.TheVariants.{Allocate, Aligned, Expand, Reallocate, Free, FreeAll, Owns, OwnsAt, Good, Write, Read}
use Rattle.trace_text.specs.declared.LineFault.{LineFault}
use Rattle.trace_text.specs.declared.LineFault.TheVariants.{TooLong, BadLine}
use Rattle.trace_text.specs.Fields.{Field, Left}
use Rattle.trace_text.specs.Grammar.{aligned_line, allocate_line, expand_line, free_all_line, free_line, good_line, owns_at_line, owns_line, read_line, reallocate_line, write_line, alignment_in, count_in, end_of, letter_call, letter_of, most_name, most_number, name_in, next, next_of, number_in, octets_in, on_ok, path_in}
use Rattle.trace_text.specs.Parts.{parts_of}
use Rattle.trace_text.specs.Spelling.{IsSpelled}
use Rattle.trace_text.proofs.FieldKinds.{alignment_placed, alignment_reads, alignment_spelled, count_placed, count_reads, count_spelled, name_reads, name_spelled, octets_placed, octets_reads, octets_spelled, path_placed, path_reads, path_spelled}
use Rattle.trace_text.proofs.Numbers.{number_placed, number_reads, number_spelled}

-- the texts of fields
abbrev pub texts : List Field → List (List ℕ)
texts fields = map (λ f. f.text) fields

-- what is left of a line
abbrev pub left : List Field → (end : ℕ) → Left
left fields end = record { fields = fields; end = end }

-- the texts spell the call
abbrev Says : List (List ℕ) → Call → Type 0
Says words call = AllZip IsSpelled words (parts_of call)

bad_ok : (fault : LineFault) (call : Call) → Err fault ≡ Ok call → ⊥
bad_ok fault call is = cc

-- ---- what is read is spelled

-- the value that is gone on with
pub ok_of : {A R : Type 0} (r : Result A LineFault) (go : A → Result R LineFault) (y : R) → on_ok r go ≡ Ok y → (x : A) × (r ≡ Ok x) × (go x ≡ Ok y)
ok_of (Ok x) go y is = (x, refl, is)
ok_of (Err fault) go y is = absurd cc

abbrev call_in : (call : Call) → Result Call LineFault → Call
call_in call (Ok c) = c
call_in call (Err fault) = call

allocate_says : (end : ℕ) (word : List ℕ) (fields : List Field) (call : Call) → word ≡ 97 ∷ [] → allocate_line (left fields end) ≡ Ok call → Says (word ∷ texts fields) call
allocate_says end word [] call letter is = absurd cc
allocate_says end word (g ∷ []) call letter is =
    let rg = ok_of (name_in g.column g.text) _ call is in
    absurd (bad_ok _ call rg.2)
allocate_says end word (g ∷ h ∷ []) call letter is =
    let rg = ok_of (name_in g.column g.text) _ call is in
    let rh = ok_of (number_in h.column h.text) _ call rg.2 in
    subst (λ (c : Call). Says (word ∷ g.text ∷ h.text ∷ []) c) (ap (call_in call) rh.2) (letter, (name_spelled g.column rg.0 g.text rg.1, (number_spelled most_number h.column rh.0 h.text rh.1, tt)))
allocate_says end word (g ∷ h ∷ i ∷ fs) call letter is =
    let rg = ok_of (name_in g.column g.text) _ call is in
    let rh = ok_of (number_in h.column h.text) _ call rg.2 in
    absurd (bad_ok _ call rh.2)

aligned_says : (end : ℕ) (word : List ℕ) (fields : List Field) (call : Call) → word ≡ 108 ∷ [] → aligned_line (left fields end) ≡ Ok call → Says (word ∷ texts fields) call
aligned_says end word [] call letter is = absurd cc
aligned_says end word (g ∷ []) call letter is =
    let rg = ok_of (name_in g.column g.text) _ call is in
    absurd (bad_ok _ call rg.2)
aligned_says end word (g ∷ h ∷ []) call letter is =
    let rg = ok_of (name_in g.column g.text) _ call is in
    let rh = ok_of (number_in h.column h.text) _ call rg.2 in
    absurd (bad_ok _ call rh.2)
aligned_says end word (g ∷ h ∷ i ∷ []) call letter is =
    let rg = ok_of (name_in g.column g.text) _ call is in
    let rh = ok_of (number_in h.column h.text) _ call rg.2 in
    let ri = ok_of (alignment_in i.column i.text) _ call rh.2 in
    subst (λ (c : Call). Says (word ∷ g.text ∷ h.text ∷ i.text ∷ []) c) (ap (call_in call) ri.2) (letter, (name_spelled g.column rg.0 g.text rg.1, (number_spelled most_number h.column rh.0 h.text rh.1, (alignment_spelled i.column ri.0 i.text ri.1, tt))))
aligned_says end word (g ∷ h ∷ i ∷ j ∷ fs) call letter is =
    let rg = ok_of (name_in g.column g.text) _ call is in
    let rh = ok_of (number_in h.column h.text) _ call rg.2 in
    let ri = ok_of (alignment_in i.column i.text) _ call rh.2 in
    absurd (bad_ok _ call ri.2)

expand_says : (end : ℕ) (word : List ℕ) (fields : List Field) (call : Call) → word ≡ 101 ∷ [] → expand_line (left fields end) ≡ Ok call → Says (word ∷ texts fields) call
expand_says end word [] call letter is = absurd cc
expand_says end word (g ∷ []) call letter is =
    let rg = ok_of (name_in g.column g.text) _ call is in
    absurd (bad_ok _ call rg.2)
expand_says end word (g ∷ h ∷ []) call letter is =
    let rg = ok_of (name_in g.column g.text) _ call is in
    let rh = ok_of (number_in h.column h.text) _ call rg.2 in
    subst (λ (c : Call). Says (word ∷ g.text ∷ h.text ∷ []) c) (ap (call_in call) rh.2) (letter, (name_spelled g.column rg.0 g.text rg.1, (number_spelled most_number h.column rh.0 h.text rh.1, tt)))
expand_says end word (g ∷ h ∷ i ∷ fs) call letter is =
    let rg = ok_of (name_in g.column g.text) _ call is in
    let rh = ok_of (number_in h.column h.text) _ call rg.2 in
    absurd (bad_ok _ call rh.2)

reallocate_says : (end : ℕ) (word : List ℕ) (fields : List Field) (call : Call) → word ≡ 114 ∷ [] → reallocate_line (left fields end) ≡ Ok call → Says (word ∷ texts fields) call
reallocate_says end word [] call letter is = absurd cc
reallocate_says end word (g ∷ []) call letter is =
    let rg = ok_of (name_in g.column g.text) _ call is in
    absurd (bad_ok _ call rg.2)
reallocate_says end word (g ∷ h ∷ []) call letter is =
    let rg = ok_of (name_in g.column g.text) _ call is in
    let rh = ok_of (number_in h.column h.text) _ call rg.2 in
    subst (λ (c : Call). Says (word ∷ g.text ∷ h.text ∷ []) c) (ap (call_in call) rh.2) (letter, (name_spelled g.column rg.0 g.text rg.1, (number_spelled most_number h.column rh.0 h.text rh.1, tt)))
reallocate_says end word (g ∷ h ∷ i ∷ fs) call letter is =
    let rg = ok_of (name_in g.column g.text) _ call is in
    let rh = ok_of (number_in h.column h.text) _ call rg.2 in
    absurd (bad_ok _ call rh.2)

free_says : (end : ℕ) (word : List ℕ) (fields : List Field) (call : Call) → word ≡ 102 ∷ [] → free_line (left fields end) ≡ Ok call → Says (word ∷ texts fields) call
free_says end word [] call letter is = absurd cc
free_says end word (g ∷ []) call letter is =
    let rg = ok_of (name_in g.column g.text) _ call is in
    subst (λ (c : Call). Says (word ∷ g.text ∷ []) c) (ap (call_in call) rg.2) (letter, (name_spelled g.column rg.0 g.text rg.1, tt))
free_says end word (g ∷ h ∷ fs) call letter is =
    let rg = ok_of (name_in g.column g.text) _ call is in
    absurd (bad_ok _ call rg.2)

free_all_says : (end : ℕ) (word : List ℕ) (fields : List Field) (call : Call) → word ≡ 122 ∷ [] → free_all_line (left fields end) ≡ Ok call → Says (word ∷ texts fields) call
free_all_says end word [] call letter is =
    subst (λ (c : Call). Says (word ∷ []) c) (ap (call_in call) is) (letter, tt)
free_all_says end word (g ∷ fs) call letter is =
    absurd (bad_ok _ call is)

owns_says : (end : ℕ) (word : List ℕ) (fields : List Field) (call : Call) → word ≡ 111 ∷ [] → owns_line (left fields end) ≡ Ok call → Says (word ∷ texts fields) call
owns_says end word [] call letter is = absurd cc
owns_says end word (g ∷ []) call letter is =
    let rg = ok_of (name_in g.column g.text) _ call is in
    subst (λ (c : Call). Says (word ∷ g.text ∷ []) c) (ap (call_in call) rg.2) (letter, (name_spelled g.column rg.0 g.text rg.1, tt))
owns_says end word (g ∷ h ∷ fs) call letter is =
    let rg = ok_of (name_in g.column g.text) _ call is in
    absurd (bad_ok _ call rg.2)

owns_at_says : (end : ℕ) (word : List ℕ) (fields : List Field) (call : Call) → word ≡ 112 ∷ [] → owns_at_line (left fields end) ≡ Ok call → Says (word ∷ texts fields) call
owns_at_says end word [] call letter is = absurd cc
owns_at_says end word (g ∷ []) call letter is =
    let rg = ok_of (name_in g.column g.text) _ call is in
    absurd (bad_ok _ call rg.2)
owns_at_says end word (g ∷ h ∷ []) call letter is =
    let rg = ok_of (name_in g.column g.text) _ call is in
    let rh = ok_of (path_in h.column h.text) _ call rg.2 in
    subst (λ (c : Call). Says (word ∷ g.text ∷ h.text ∷ []) c) (ap (call_in call) rh.2) (letter, (name_spelled g.column rg.0 g.text rg.1, (path_spelled h.column rh.0 h.text rh.1, tt)))
owns_at_says end word (g ∷ h ∷ i ∷ fs) call letter is =
    let rg = ok_of (name_in g.column g.text) _ call is in
    let rh = ok_of (path_in h.column h.text) _ call rg.2 in
    absurd (bad_ok _ call rh.2)

good_says : (end : ℕ) (word : List ℕ) (fields : List Field) (call : Call) → word ≡ 103 ∷ [] → good_line (left fields end) ≡ Ok call → Says (word ∷ texts fields) call
good_says end word [] call letter is = absurd cc
good_says end word (g ∷ []) call letter is =
    let rg = ok_of (number_in g.column g.text) _ call is in
    subst (λ (c : Call). Says (word ∷ g.text ∷ []) c) (ap (call_in call) rg.2) (letter, (number_spelled most_number g.column rg.0 g.text rg.1, tt))
good_says end word (g ∷ h ∷ fs) call letter is =
    let rg = ok_of (number_in g.column g.text) _ call is in
    absurd (bad_ok _ call rg.2)

write_says : (end : ℕ) (word : List ℕ) (fields : List Field) (call : Call) → word ≡ 119 ∷ [] → write_line (left fields end) ≡ Ok call → Says (word ∷ texts fields) call
write_says end word [] call letter is = absurd cc
write_says end word (g ∷ []) call letter is =
    let rg = ok_of (name_in g.column g.text) _ call is in
    absurd (bad_ok _ call rg.2)
write_says end word (g ∷ h ∷ []) call letter is =
    let rg = ok_of (name_in g.column g.text) _ call is in
    let rh = ok_of (number_in h.column h.text) _ call rg.2 in
    absurd (bad_ok _ call rh.2)
write_says end word (g ∷ h ∷ i ∷ []) call letter is =
    let rg = ok_of (name_in g.column g.text) _ call is in
    let rh = ok_of (number_in h.column h.text) _ call rg.2 in
    let ri = ok_of (octets_in i.column i.text) _ call rh.2 in
    subst (λ (c : Call). Says (word ∷ g.text ∷ h.text ∷ i.text ∷ []) c) (ap (call_in call) ri.2) (letter, (name_spelled g.column rg.0 g.text rg.1, (number_spelled most_number h.column rh.0 h.text rh.1, (octets_spelled i.column ri.0 i.text ri.1, tt))))
write_says end word (g ∷ h ∷ i ∷ j ∷ fs) call letter is =
    let rg = ok_of (name_in g.column g.text) _ call is in
    let rh = ok_of (number_in h.column h.text) _ call rg.2 in
    let ri = ok_of (octets_in i.column i.text) _ call rh.2 in
    absurd (bad_ok _ call ri.2)

read_says : (end : ℕ) (word : List ℕ) (fields : List Field) (call : Call) → word ≡ 100 ∷ [] → read_line (left fields end) ≡ Ok call → Says (word ∷ texts fields) call
read_says end word [] call letter is = absurd cc
read_says end word (g ∷ []) call letter is =
    let rg = ok_of (name_in g.column g.text) _ call is in
    absurd (bad_ok _ call rg.2)
read_says end word (g ∷ h ∷ []) call letter is =
    let rg = ok_of (name_in g.column g.text) _ call is in
    let rh = ok_of (number_in h.column h.text) _ call rg.2 in
    absurd (bad_ok _ call rh.2)
read_says end word (g ∷ h ∷ i ∷ []) call letter is =
    let rg = ok_of (name_in g.column g.text) _ call is in
    let rh = ok_of (number_in h.column h.text) _ call rg.2 in
    let ri = ok_of (count_in i.column i.text) _ call rh.2 in
    subst (λ (c : Call). Says (word ∷ g.text ∷ h.text ∷ i.text ∷ []) c) (ap (call_in call) ri.2) (letter, (name_spelled g.column rg.0 g.text rg.1, (number_spelled most_number h.column rh.0 h.text rh.1, (count_spelled i.column ri.0 i.text ri.1, tt))))
read_says end word (g ∷ h ∷ i ∷ j ∷ fs) call letter is =
    let rg = ok_of (name_in g.column g.text) _ call is in
    let rh = ok_of (number_in h.column h.text) _ call rg.2 in
    let ri = ok_of (count_in i.column i.text) _ call rh.2 in
    absurd (bad_ok _ call ri.2)

letter_is : (word : List ℕ) (b : ℕ) → letter_of word ≡ suc b → word ≡ suc b ∷ []
letter_is [] b is = absurd cc
letter_is (c ∷ []) b is = ap (λ (x : ℕ). x ∷ []) is
letter_is (c ∷ d ∷ word) b is = absurd cc

letters_say : (column end : ℕ) (word : List ℕ) (fields : List Field) (call : Call) (b97 b108 b101 b114 b102 b122 b111 b112 b103 b119 b100 : Bool) → nat_eq (letter_of word) 97 ≡ b97 → nat_eq (letter_of word) 108 ≡ b108 → nat_eq (letter_of word) 101 ≡ b101 → nat_eq (letter_of word) 114 ≡ b114 → nat_eq (letter_of word) 102 ≡ b102 → nat_eq (letter_of word) 122 ≡ b122 → nat_eq (letter_of word) 111 ≡ b111 → nat_eq (letter_of word) 112 ≡ b112 → nat_eq (letter_of word) 103 ≡ b103 → nat_eq (letter_of word) 119 ≡ b119 → nat_eq (letter_of word) 100 ≡ b100
    → cond b97 (allocate_line (left fields end)) (cond b108 (aligned_line (left fields end)) (cond b101 (expand_line (left fields end)) (cond b114 (reallocate_line (left fields end)) (cond b102 (free_line (left fields end)) (cond b122 (free_all_line (left fields end)) (cond b111 (owns_line (left fields end)) (cond b112 (owns_at_line (left fields end)) (cond b103 (good_line (left fields end)) (cond b119 (write_line (left fields end)) (cond b100 (read_line (left fields end)) (Err (BadLine column)))))))))))) ≡ Ok call → Says (word ∷ texts fields) call
letters_say column end word fields call true b108 b101 b114 b102 b122 b111 b112 b103 b119 b100 p0 p1 p2 p3 p4 p5 p6 p7 p8 p9 p10 is = allocate_says end word fields call (letter_is word 96 (eqb-true (letter_of word) 97 p0)) is
letters_say column end word fields call false true b101 b114 b102 b122 b111 b112 b103 b119 b100 p0 p1 p2 p3 p4 p5 p6 p7 p8 p9 p10 is = aligned_says end word fields call (letter_is word 107 (eqb-true (letter_of word) 108 p1)) is
letters_say column end word fields call false false true b114 b102 b122 b111 b112 b103 b119 b100 p0 p1 p2 p3 p4 p5 p6 p7 p8 p9 p10 is = expand_says end word fields call (letter_is word 100 (eqb-true (letter_of word) 101 p2)) is
letters_say column end word fields call false false false true b102 b122 b111 b112 b103 b119 b100 p0 p1 p2 p3 p4 p5 p6 p7 p8 p9 p10 is = reallocate_says end word fields call (letter_is word 113 (eqb-true (letter_of word) 114 p3)) is
letters_say column end word fields call false false false false true b122 b111 b112 b103 b119 b100 p0 p1 p2 p3 p4 p5 p6 p7 p8 p9 p10 is = free_says end word fields call (letter_is word 101 (eqb-true (letter_of word) 102 p4)) is
letters_say column end word fields call false false false false false true b111 b112 b103 b119 b100 p0 p1 p2 p3 p4 p5 p6 p7 p8 p9 p10 is = free_all_says end word fields call (letter_is word 121 (eqb-true (letter_of word) 122 p5)) is
letters_say column end word fields call false false false false false false true b112 b103 b119 b100 p0 p1 p2 p3 p4 p5 p6 p7 p8 p9 p10 is = owns_says end word fields call (letter_is word 110 (eqb-true (letter_of word) 111 p6)) is
letters_say column end word fields call false false false false false false false true b103 b119 b100 p0 p1 p2 p3 p4 p5 p6 p7 p8 p9 p10 is = owns_at_says end word fields call (letter_is word 111 (eqb-true (letter_of word) 112 p7)) is
letters_say column end word fields call false false false false false false false false true b119 b100 p0 p1 p2 p3 p4 p5 p6 p7 p8 p9 p10 is = good_says end word fields call (letter_is word 102 (eqb-true (letter_of word) 103 p8)) is
letters_say column end word fields call false false false false false false false false false true b100 p0 p1 p2 p3 p4 p5 p6 p7 p8 p9 p10 is = write_says end word fields call (letter_is word 118 (eqb-true (letter_of word) 119 p9)) is
letters_say column end word fields call false false false false false false false false false false true p0 p1 p2 p3 p4 p5 p6 p7 p8 p9 p10 is = read_says end word fields call (letter_is word 99 (eqb-true (letter_of word) 100 p10)) is
letters_say column end word fields call false false false false false false false false false false false p0 p1 p2 p3 p4 p5 p6 p7 p8 p9 p10 is = absurd (bad_ok _ call is)

-- the call of a letter and what stands behind it
pub letter_says : (f : Field) (end : ℕ) (fields : List Field) (call : Call) → letter_call f (left fields end) ≡ Ok call → AllZip IsSpelled (texts (f ∷ fields)) (parts_of call)
unfolding letter_call
letter_says f end fields call is = letters_say f.column end f.text fields call _ _ _ _ _ _ _ _ _ _ _ refl refl refl refl refl refl refl refl refl refl refl is

-- ---- what is spelled is read

pub row_reads : (call : Call) (f : Field) (end : ℕ) (fields : List Field) → AllZip IsSpelled (texts (f ∷ fields)) (parts_of call) → letter_call f (left fields end) ≡ Ok call
unfolding letter_call
row_reads (Allocate x0 x1) f end [] s = absurd s.1
row_reads (Allocate x0 x1) f end (g ∷ []) s = absurd s.1.1
row_reads (Allocate x0 x1) f end (g ∷ h ∷ []) s = rw (s.0, name_reads g.column x0 g.text s.1.0, number_reads most_number h.column x1 h.text s.1.1.0.0 s.1.1.0.1) refl
row_reads (Allocate x0 x1) f end (g ∷ h ∷ i ∷ fs) s = absurd s.1.1.1
row_reads (Aligned x0 x1 x2) f end [] s = absurd s.1
row_reads (Aligned x0 x1 x2) f end (g ∷ []) s = absurd s.1.1
row_reads (Aligned x0 x1 x2) f end (g ∷ h ∷ []) s = absurd s.1.1.1
row_reads (Aligned x0 x1 x2) f end (g ∷ h ∷ i ∷ []) s = rw (s.0, name_reads g.column x0 g.text s.1.0, number_reads most_number h.column x1 h.text s.1.1.0.0 s.1.1.0.1, alignment_reads i.column x2 i.text s.1.1.1.0) refl
row_reads (Aligned x0 x1 x2) f end (g ∷ h ∷ i ∷ j ∷ fs) s = absurd s.1.1.1.1
row_reads (Expand x0 x1) f end [] s = absurd s.1
row_reads (Expand x0 x1) f end (g ∷ []) s = absurd s.1.1
row_reads (Expand x0 x1) f end (g ∷ h ∷ []) s = rw (s.0, name_reads g.column x0 g.text s.1.0, number_reads most_number h.column x1 h.text s.1.1.0.0 s.1.1.0.1) refl
row_reads (Expand x0 x1) f end (g ∷ h ∷ i ∷ fs) s = absurd s.1.1.1
row_reads (Reallocate x0 x1) f end [] s = absurd s.1
row_reads (Reallocate x0 x1) f end (g ∷ []) s = absurd s.1.1
row_reads (Reallocate x0 x1) f end (g ∷ h ∷ []) s = rw (s.0, name_reads g.column x0 g.text s.1.0, number_reads most_number h.column x1 h.text s.1.1.0.0 s.1.1.0.1) refl
row_reads (Reallocate x0 x1) f end (g ∷ h ∷ i ∷ fs) s = absurd s.1.1.1
row_reads (Free x0) f end [] s = absurd s.1
row_reads (Free x0) f end (g ∷ []) s = rw (s.0, name_reads g.column x0 g.text s.1.0) refl
row_reads (Free x0) f end (g ∷ h ∷ fs) s = absurd s.1.1
row_reads FreeAll f end [] s = rw s.0 refl
row_reads FreeAll f end (g ∷ fs) s = absurd s.1
row_reads (Owns x0) f end [] s = absurd s.1
row_reads (Owns x0) f end (g ∷ []) s = rw (s.0, name_reads g.column x0 g.text s.1.0) refl
row_reads (Owns x0) f end (g ∷ h ∷ fs) s = absurd s.1.1
row_reads (OwnsAt x0 x1) f end [] s = absurd s.1
row_reads (OwnsAt x0 x1) f end (g ∷ []) s = absurd s.1.1
row_reads (OwnsAt x0 x1) f end (g ∷ h ∷ []) s = rw (s.0, name_reads g.column x0 g.text s.1.0, path_reads h.column x1 h.text s.1.1.0) refl
row_reads (OwnsAt x0 x1) f end (g ∷ h ∷ i ∷ fs) s = absurd s.1.1.1
row_reads (Good x0) f end [] s = absurd s.1
row_reads (Good x0) f end (g ∷ []) s = rw (s.0, number_reads most_number g.column x0 g.text s.1.0.0 s.1.0.1) refl
row_reads (Good x0) f end (g ∷ h ∷ fs) s = absurd s.1.1
row_reads (Write x0 x1 x2) f end [] s = absurd s.1
row_reads (Write x0 x1 x2) f end (g ∷ []) s = absurd s.1.1
row_reads (Write x0 x1 x2) f end (g ∷ h ∷ []) s = absurd s.1.1.1
row_reads (Write x0 x1 x2) f end (g ∷ h ∷ i ∷ []) s = rw (s.0, name_reads g.column x0 g.text s.1.0, number_reads most_number h.column x1 h.text s.1.1.0.0 s.1.1.0.1, octets_reads i.column x2 i.text s.1.1.1.0) refl
row_reads (Write x0 x1 x2) f end (g ∷ h ∷ i ∷ j ∷ fs) s = absurd s.1.1.1.1
row_reads (Read x0 x1 x2) f end [] s = absurd s.1
row_reads (Read x0 x1 x2) f end (g ∷ []) s = absurd s.1.1
row_reads (Read x0 x1 x2) f end (g ∷ h ∷ []) s = absurd s.1.1.1
row_reads (Read x0 x1 x2) f end (g ∷ h ∷ i ∷ []) s = rw (s.0, name_reads g.column x0 g.text s.1.0, number_reads most_number h.column x1 h.text s.1.1.0.0 s.1.1.0.1, count_reads i.column x2 i.text s.1.1.1.0) refl
row_reads (Read x0 x1 x2) f end (g ∷ h ∷ i ∷ j ∷ fs) s = absurd s.1.1.1.1

-- ---- no row has a fault of the whole line

pub placed_on : {A R : Type 0} (r : Result A LineFault) (go : A → Result R LineFault) → r ≢ Err TooLong → ((x : A) → go x ≢ Err TooLong) → on_ok r go ≢ Err TooLong
placed_on (Ok x) go first rest is = rest x is
placed_on (Err fault) go first rest is = first (let e : fault ≡ TooLong = cc in ap Err e)

next_by : {A : Type 0} (read : (column : ℕ) (text : List ℕ) → Result A LineFault) (end : ℕ) (fields : List Field) → ((column : ℕ) (text : List ℕ) → read column text ≢ Err TooLong) → next_of read end fields ≢ Err TooLong
next_by read end [] placed is = absurd cc
next_by read end (f ∷ fs) placed is = placed f.column f.text is

next_placed : {A : Type 0} (read : (column : ℕ) (text : List ℕ) → Result A LineFault) (l : Left) → ((column : ℕ) (text : List ℕ) → read column text ≢ Err TooLong) → next read l ≢ Err TooLong
next_placed read l placed = next_by read l.end l.fields placed

end_by : {R : Type 0} (fields : List Field) (x : R) → end_of fields x ≢ Err TooLong
end_by [] x is = absurd cc
end_by (f ∷ fs) x is = absurd cc

allocate_placed : (l : Left) → allocate_line l ≢ Err TooLong
allocate_placed l = placed_on _ _ (next_placed name_in _ (number_placed most_name)) (λ x0. placed_on _ _ (next_placed number_in _ (number_placed most_number)) (λ x1. end_by _ _))

aligned_placed : (l : Left) → aligned_line l ≢ Err TooLong
aligned_placed l = placed_on _ _ (next_placed name_in _ (number_placed most_name)) (λ x0. placed_on _ _ (next_placed number_in _ (number_placed most_number)) (λ x1. placed_on _ _ (next_placed alignment_in _ (alignment_placed)) (λ x2. end_by _ _)))

expand_placed : (l : Left) → expand_line l ≢ Err TooLong
expand_placed l = placed_on _ _ (next_placed name_in _ (number_placed most_name)) (λ x0. placed_on _ _ (next_placed number_in _ (number_placed most_number)) (λ x1. end_by _ _))

reallocate_placed : (l : Left) → reallocate_line l ≢ Err TooLong
reallocate_placed l = placed_on _ _ (next_placed name_in _ (number_placed most_name)) (λ x0. placed_on _ _ (next_placed number_in _ (number_placed most_number)) (λ x1. end_by _ _))

free_placed : (l : Left) → free_line l ≢ Err TooLong
free_placed l = placed_on _ _ (next_placed name_in _ (number_placed most_name)) (λ x0. end_by _ _)

free_all_placed : (l : Left) → free_all_line l ≢ Err TooLong
free_all_placed l = end_by _ _

owns_placed : (l : Left) → owns_line l ≢ Err TooLong
owns_placed l = placed_on _ _ (next_placed name_in _ (number_placed most_name)) (λ x0. end_by _ _)

owns_at_placed : (l : Left) → owns_at_line l ≢ Err TooLong
owns_at_placed l = placed_on _ _ (next_placed name_in _ (number_placed most_name)) (λ x0. placed_on _ _ (next_placed path_in _ (path_placed)) (λ x1. end_by _ _))

good_placed : (l : Left) → good_line l ≢ Err TooLong
good_placed l = placed_on _ _ (next_placed number_in _ (number_placed most_number)) (λ x0. end_by _ _)

write_placed : (l : Left) → write_line l ≢ Err TooLong
write_placed l = placed_on _ _ (next_placed name_in _ (number_placed most_name)) (λ x0. placed_on _ _ (next_placed number_in _ (number_placed most_number)) (λ x1. placed_on _ _ (next_placed octets_in _ (octets_placed)) (λ x2. end_by _ _)))

read_placed : (l : Left) → read_line l ≢ Err TooLong
read_placed l = placed_on _ _ (next_placed name_in _ (number_placed most_name)) (λ x0. placed_on _ _ (next_placed number_in _ (number_placed most_number)) (λ x1. placed_on _ _ (next_placed count_in _ (count_placed)) (λ x2. end_by _ _)))

letters_placed : (column : ℕ) (l : Left) (b97 b108 b101 b114 b102 b122 b111 b112 b103 b119 b100 : Bool) → cond b97 (allocate_line l) (cond b108 (aligned_line l) (cond b101 (expand_line l) (cond b114 (reallocate_line l) (cond b102 (free_line l) (cond b122 (free_all_line l) (cond b111 (owns_line l) (cond b112 (owns_at_line l) (cond b103 (good_line l) (cond b119 (write_line l) (cond b100 (read_line l) (Err (BadLine column)))))))))))) ≢ Err TooLong
letters_placed column l true b108 b101 b114 b102 b122 b111 b112 b103 b119 b100 = allocate_placed l
letters_placed column l false true b101 b114 b102 b122 b111 b112 b103 b119 b100 = aligned_placed l
letters_placed column l false false true b114 b102 b122 b111 b112 b103 b119 b100 = expand_placed l
letters_placed column l false false false true b102 b122 b111 b112 b103 b119 b100 = reallocate_placed l
letters_placed column l false false false false true b122 b111 b112 b103 b119 b100 = free_placed l
letters_placed column l false false false false false true b111 b112 b103 b119 b100 = free_all_placed l
letters_placed column l false false false false false false true b112 b103 b119 b100 = owns_placed l
letters_placed column l false false false false false false false true b103 b119 b100 = owns_at_placed l
letters_placed column l false false false false false false false false true b119 b100 = good_placed l
letters_placed column l false false false false false false false false false true b100 = write_placed l
letters_placed column l false false false false false false false false false false true = read_placed l
letters_placed column l false false false false false false false false false false false = λ is. cc

pub letter_placed : (f : Field) (l : Left) → letter_call f l ≢ Err TooLong
unfolding letter_call
letter_placed f l = letters_placed f.column l (nat_eq (letter_of f.text) 97) (nat_eq (letter_of f.text) 108) (nat_eq (letter_of f.text) 101) (nat_eq (letter_of f.text) 114) (nat_eq (letter_of f.text) 102) (nat_eq (letter_of f.text) 122) (nat_eq (letter_of f.text) 111) (nat_eq (letter_of f.text) 112) (nat_eq (letter_of f.text) 103) (nat_eq (letter_of f.text) 119) (nat_eq (letter_of f.text) 100)
