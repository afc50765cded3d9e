-- Lines: how the next field is found.
use Rattle.std.proofs.Common.{◌≡◌, ℕ, zero, suc, ◌+◌, ◌-◌, ◌<◌, ◌≤◌, Bool, true, false, List, [], ◌∷◌, length, take, drop, refl, sym, ap, ap₂, ◌∙◌, arith, add-zero, add-one, add_comm}
use Rattle.std.proofs.lemmas.List.{drop-drop, length-drop, length-take, drop_all, take_all}
use Rattle.std.specs.List.{position_or_len, prefix_len, slice_split}
use Rattle.trace_text.specs.Grammar.{behind}
use Rattle.trace_text.specs.Fields.{Field, field, fields_from, is_blank, left_behind}

one_more : (n : ℕ) → 1 + n ≡ suc n
one_more n = add_comm 1 n ∙ add-one n

-- ---- blanks in front

skip_by : (c : ℕ) (b : ℕ) (bs : List ℕ) (blank : Bool) → is_blank b ≡ blank
    → (fields_from (c + 1) (slice_split is_blank bs) ≡ fields_from (c + 1 + prefix_len is_blank bs) (slice_split is_blank (drop (prefix_len is_blank bs) bs)))
    → fields_from c (slice_split is_blank (b ∷ bs)) ≡ fields_from (c + prefix_len is_blank (b ∷ bs)) (slice_split is_blank (drop (prefix_len is_blank (b ∷ bs)) (b ∷ bs)))
skip_by c b bs true is more =
    let e : c + 1 + prefix_len is_blank bs ≡ c + suc (prefix_len is_blank bs) = omega arith in
    rw (is, one_more (prefix_len is_blank bs), ← e) more
skip_by c b bs false is more = rw (is, add-zero c, is) refl

-- the fields are those behind the blanks
pub fields_skip : (c : ℕ) (text : List ℕ) → fields_from c (slice_split is_blank text) ≡ fields_from (c + prefix_len is_blank text) (slice_split is_blank (drop (prefix_len is_blank text) text))
fields_skip c [] = refl
fields_skip c (b ∷ bs) = skip_by c b bs _ refl (fields_skip (c + 1) bs)

end_by : (b : ℕ) (bs : List ℕ) (blank : Bool) → is_blank b ≡ blank → prefix_len is_blank (drop (prefix_len is_blank bs) bs) ≡ 0
    → prefix_len is_blank (drop (prefix_len is_blank (b ∷ bs)) (b ∷ bs)) ≡ 0
end_by b bs true is more = rw (is, one_more (prefix_len is_blank bs)) more
end_by b bs false is more = rw (is, is) refl

-- no blank stands behind the blanks
pub blanks_end : (text : List ℕ) → prefix_len is_blank (drop (prefix_len is_blank text) text) ≡ 0
blanks_end [] = refl
blanks_end (b ∷ bs) = end_by b bs _ refl (blanks_end bs)

-- ---- a field

-- the first piece ends at the first blank, and what stands there begins with an empty one
pub record Cut (text : List ℕ) (n : ℕ) : Type 0 where
  pub pieces : List (List ℕ)
  pub first : slice_split is_blank text ≡ take n text ∷ pieces
  pub rest : slice_split is_blank (drop n text) ≡ [] ∷ pieces

cut_by : (b : ℕ) (bs : List ℕ) (blank : Bool) → is_blank b ≡ blank → Cut bs (position_or_len is_blank bs) → Cut (b ∷ bs) (position_or_len is_blank (b ∷ bs))
cut_by b bs true is more = rw is (record { pieces = slice_split is_blank bs; first = rw is refl; rest = rw is refl })
cut_by b bs false is more =
    rw (is, one_more (position_or_len is_blank bs)) (record { pieces = more.pieces; first = rw (is, more.first) refl; rest = more.rest })

pub cut_of : (text : List ℕ) → Cut text (position_or_len is_blank text)
cut_of [] = record { pieces = []; first = refl; rest = refl }
cut_of (b ∷ bs) = cut_by b bs _ refl (cut_of bs)

first_by : (c n : ℕ) (text : List ℕ) → 0 < n → n ≤ length text → Cut text n
    → fields_from c (slice_split is_blank text) ≡ field c (take n text) ∷ fields_from (c + n) (slice_split is_blank (drop n text))
first_by c n [] some within cut = absurd (omega arith)
first_by c zero (b ∷ bs) some within cut = absurd (omega arith)
first_by c (suc n) (b ∷ bs) some within cut =
    let e : c + length (b ∷ take n bs) + 1 ≡ c + suc n + 1 = omega (arith, length-take n bs) in
    rw (cut.first, cut.rest, e) refl

-- a field, and what stands behind it
pub fields_first : (c : ℕ) (text : List ℕ) → 0 < position_or_len is_blank text → position_or_len is_blank text ≤ length text
    → fields_from c (slice_split is_blank text) ≡ field c (take (position_or_len is_blank text) text) ∷ fields_from (c + position_or_len is_blank text) (slice_split is_blank (drop (position_or_len is_blank text) text))
fields_first c text some within = first_by c (position_or_len is_blank text) text some within (cut_of text)

none_by : (b : ℕ) (bs : List ℕ) (blank : Bool) → is_blank b ≡ blank → prefix_len is_blank (b ∷ bs) ≡ 0 → position_or_len is_blank (b ∷ bs) ≡ 0 → b ∷ bs ≡ []
none_by b bs true is no_blank no_word = absurd (let e : 1 + prefix_len is_blank bs ≡ 0 = rw is at no_blank in omega arith)
none_by b bs false is no_blank no_word = absurd (let e : 1 + position_or_len is_blank bs ≡ 0 = rw is at no_word in omega arith)

-- what begins with neither is empty
pub nothing_left : (text : List ℕ) → prefix_len is_blank text ≡ 0 → position_or_len is_blank text ≡ 0 → text ≡ []
nothing_left [] no_blank no_word = refl
nothing_left (b ∷ bs) no_blank no_word = none_by b bs _ refl no_blank no_word

-- ---- a cursor

-- the fields from a place on are those behind the blanks there
behind_blanks : (line : List ℕ) (position start : ℕ) → start ≡ position + prefix_len is_blank (drop position line)
    → (left_behind line position).fields ≡ fields_from (start + 1) (slice_split is_blank (drop start line))
behind_blanks line position start is =
    let e : position + 1 + prefix_len is_blank (drop position line) ≡ start + 1 = omega arith in
    fields_skip (position + 1) (drop position line) ∙ rw (e, drop-drop, ← is) refl

-- the next field, where a word stands behind the blanks
pub next_some : (line : List ℕ) (position start len : ℕ) → start ≡ position + prefix_len is_blank (drop position line) → len ≡ position_or_len is_blank (drop start line)
    → 0 < len → len ≤ length (drop start line) → (left_behind line position).fields ≡ field (start + 1) (take len (drop start line)) ∷ (left_behind line (start + len)).fields
next_some line position start len is len_is some within =
    let cut : Cut (drop start line) len = rw len_is (cut_of (drop start line)) in
    let e : start + 1 + len ≡ start + len + 1 = omega arith in
    let rest : drop len (drop start line) ≡ drop (start + len) line = drop-drop len start line in
    behind_blanks line position start is ∙ (first_by (start + 1) len (drop start line) some within cut ∙ rw (e, rest) refl)

-- no field is left, where none does
pub next_none : (line : List ℕ) (position start : ℕ) → start ≡ position + prefix_len is_blank (drop position line) → 0 ≡ position_or_len is_blank (drop start line) → start ≤ length line
    → ((left_behind line position).fields ≡ []) × (start ≡ length line)
next_none line position start is len_is within =
    let blanks : prefix_len is_blank (drop start line) ≡ 0 = rw (is, ← drop-drop (prefix_len is_blank (drop position line)) position line) (blanks_end (drop position line)) in
    let none : drop start line ≡ [] = nothing_left (drop start line) blanks (sym len_is) in
    (behind_blanks line position start is ∙ rw none refl, omega (arith, length-drop start line, ap length none))

-- what is left behind a field, and behind none
pub left_some : (line : List ℕ) (position start len : ℕ) → start ≡ position + prefix_len is_blank (drop position line) → len ≡ position_or_len is_blank (drop start line)
    → 0 < len → len ≤ length (drop start line) → left_behind line (start + len) ≡ behind (left_behind line position)
left_some line position start len is len_is some within =
    ap (λ (fs : List Field). record { fields = drop 1 fs; end = length line + 1 }) (sym (next_some line position start len is len_is some within))

pub left_none : (line : List ℕ) (position start len : ℕ) → start ≡ position + prefix_len is_blank (drop position line) → len ≡ position_or_len is_blank (drop start line)
    → len ≡ 0 → start ≤ length line → left_behind line (start + len) ≡ behind (left_behind line position)
left_none line position start len is len_is none within =
    let n = next_none line position start is (sym none ∙ len_is) within in
    let e : start + len ≡ start = omega arith in
    let gone : (left_behind line (start + len)).fields ≡ [] = rw (e, drop_all start line (omega arith)) refl in
    ap₂ (λ (fs : List Field) (n : ℕ). record { fields = fs; end = n }) (gone ∙ ap (drop 1) (sym n.0)) refl

-- ---- the same, as the code cuts the line

tail_is : (n : ℕ) (line : List ℕ) → take (length line - n) (drop n line) ≡ drop n line
tail_is n line = take_all (length line - n) (drop n line) (omega (arith, length-drop n line))

start_is : (line : List ℕ) (position blanks : ℕ) → blanks ≡ prefix_len is_blank (take (length line - position) (drop position line)) → position + blanks ≡ position + prefix_len is_blank (drop position line)
start_is line position blanks is = ap (λ (n : ℕ). position + n) (rw (tail_is position line) at is)

pub cursor_some : (line : List ℕ) (position blanks len : ℕ) → blanks ≡ prefix_len is_blank (take (length line - position) (drop position line))
    → len ≡ position_or_len is_blank (take (length line - (position + blanks)) (drop (position + blanks) line))
    → (len ≡ 0 → ⊥) → len ≤ length (take (length line - (position + blanks)) (drop (position + blanks) line))
    → ((left_behind line position).fields ≡ field (position + blanks + 1) (take (position + blanks + len - (position + blanks)) (drop (position + blanks) line)) ∷ (left_behind line (position + blanks + len)).fields)
    × (left_behind line (position + blanks + len) ≡ behind (left_behind line position))
cursor_some line position blanks len is len_is some within =
    let start = position + blanks in
    let is' = start_is line position blanks is in
    let len' : len ≡ position_or_len is_blank (drop start line) = len_is ∙ ap (position_or_len is_blank) (tail_is start line) in
    let some' : 0 < len = omega arith in
    let within' : len ≤ length (drop start line) = omega (arith, ap length (tail_is start line)) in
    let e : start + len - start ≡ len = omega arith in
    (rw e (next_some line position start len is' len' some' within'), left_some line position start len is' len' some' within')

pub cursor_none : (line : List ℕ) (position blanks len : ℕ) → blanks ≡ prefix_len is_blank (take (length line - position) (drop position line))
    → len ≡ position_or_len is_blank (take (length line - (position + blanks)) (drop (position + blanks) line))
    → len ≡ 0 → position + blanks ≤ length line
    → ((left_behind line position).fields ≡ []) × (position + blanks + 1 ≡ length line + 1) × (left_behind line (position + blanks + len) ≡ behind (left_behind line position))
cursor_none line position blanks len is len_is none within =
    let start = position + blanks in
    let is' = start_is line position blanks is in
    let len' : len ≡ position_or_len is_blank (drop start line) = len_is ∙ ap (position_or_len is_blank) (tail_is start line) in
    let n = next_none line position start is' (sym none ∙ len') within in
    (n.0, ap (λ (k : ℕ). k + 1) n.1, left_none line position start len is' len' none within)
