-- Rows of tokens: what stands behind a token, and numbers.
use Rattle.std.proofs.Common.{◌≡◌, ◌≢◌, ℕ, zero, suc, ◌+◌, ◌-◌, ◌*◌, ◌^◌, ◌<◌, ◌≤◌, true, false, List, [], ◌∷◌, ◌++◌, length, get_or, drop, take, map, Option, Some, None, refl, sym, ◌∙◌, ap, arith, eqb, add-zero, add_comm, append_assoc, append-nil, add_assoc, add-one}
use Rattle.std.proofs.lemmas.List.{take_all, drop_all, drop-drop, length-drop}
use Rattle.std.proofs.lemmas.Grind.{common_steps}
use Rattle.std.proofs.lemmas.Bool.{ne_eqb}
use Rattle.std.proofs.lemmas.Int.Digits.{digits_more, digits_value_more}
use Rattle.std.proofs.lemmas.List.Sums.{prefix_len_passes}
use Rattle.std.proofs.lemmas.Str.Parse.{digit_at, digits_value-take-le, numerals_by_value, tells_by_index}
use Rattle.std.specs.Char.{digit_value}
use Rattle.std.specs.List.{prefix_len}
use Rattle.std.specs.Option.{SomeIff}
use Rattle.std.specs.Str.Parse.{AllDigits, digits_value}
use Rattle.expr_reader.specs.declared.token.Token.{Token}
use Rattle.expr_reader.specs.declared.token.Kind.TheVariants as kind
use Rattle.std.specs.Char.{is_ascii_digit, is_ascii_lowercase}
use Rattle.expr_reader.specs.Words.{word_of}
use Rattle.expr_reader.specs.Tokens.{is_word_byte, Meaning, tokens_from, meaning_of, further, held}
use Rattle.expr_reader.specs.Descent.{seen, kind_of}

-- the first digits and one more are worth no more than all, so a number that is too large stays so
pub digits_value-step-le : (ds : List ℕ) (i : ℕ) → i < length ds → digits_value 10 (take i ds) * 10 + digit_value (get_or ds i 0) ≤ digits_value 10 ds
digits_value-step-le ds i lt = omega (arith, digits_value_more 10 ds i lt, digits_value-take-le 10 ds (i + 1) (omega arith))

-- for the loop that reads a number
pub ruleset digit_rules = (digit_at, digits_more, digits_value_more, digits_value-step-le)

-- a token's bytes, of which the first is apart
pub front_of : (text : List ℕ) (len : ℕ) → 0 < length text → take (1 + len) text ≡ get_or text 0 0 ∷ take len (drop 1 text)
front_of [] len h = absurd (omega arith)
front_of (b ∷ bs) len h = rw (add_comm 1 len, add-one) refl

-- the token that a letter begins
pub letter_kind : (text : List ℕ) (len : ℕ) → 0 < length text → is_ascii_lowercase (get_or text 0 0) ≡ true → len ≡ prefix_len is_word_byte (drop 1 text)
    → kind.Word (word_of (take (1 + len) text)) ≡ kind_of (meaning_of (get_or text 0 0) (drop 1 text))
letter_kind text len h is len-is = rw (front_of text len h, is, len-is) refl

-- what stands before the first byte that is no digit
digits_ahead : (bs : List ℕ) → AllDigits 10 (take (prefix_len is_ascii_digit bs) bs)
digits_ahead bs = (numerals_by_value _ tells_by_index).to (take (prefix_len is_ascii_digit bs) bs) (λ i lt. grind (arith, common_steps, prefix_len_passes is_ascii_digit bs i 0))

-- what is read of digits, where they fit
held_if : (n : Option ℕ) (P : Type 0) (value : ℕ) → P → SomeIff n (P × (value < 2 ^ 64)) value → n ≡ held value
held_if (Some n) P value p h = grind (arith, common_steps)
held_if None P value p h = grind (arith, common_steps)

-- the token that a digit begins
pub digit_kind : (text : List ℕ) (len : ℕ) (n : Option ℕ) → 0 < length text → is_ascii_lowercase (get_or text 0 0) ≡ false → is_ascii_digit (get_or text 0 0) ≡ true → len ≡ prefix_len is_ascii_digit (drop 1 text)
    → SomeIff n (AllDigits 10 (take (1 + len) text) × (digits_value 10 (take (1 + len) text) < 2 ^ 64)) (digits_value 10 (take (1 + len) text))
    → kind.Number n ≡ kind_of (meaning_of (get_or text 0 0) (drop 1 text))
digit_kind text len n h isnt is len-is read =
    let front = front_of text len h in
    let all : AllDigits 10 (take (1 + len) text) = rw (front, len-is) (grind (arith, common_steps), digits_ahead (drop 1 text)) in
    ap kind.Number (held_if n _ _ all read) ∙ rw (front, isnt, is, len-is) refl

-- the tokens behind some bytes of a token that began before
pub tokens_from-skip : (k at : ℕ) (bs : List ℕ) → tokens_from k at bs ≡ tokens_from 0 (at + k) (drop k bs)
unfolding tokens_from
tokens_from-skip zero at bs = rw (add-zero at) refl
tokens_from-skip (suc k) at [] = refl
tokens_from-skip (suc k) at (b ∷ bs) = let e : at + 1 + k ≡ at + suc k = omega arith in tokens_from-skip k (at + 1) bs ∙ ap (λ i. tokens_from 0 i (drop k bs)) e

-- a space is passed over
pub behind_space : (at : ℕ) (bs : List ℕ) → 0 < length bs → get_or bs 0 0 ≡ 32 → tokens_from 0 at bs ≡ tokens_from 0 (at + 1) (drop 1 bs)
unfolding tokens_from
behind_space at [] h e = absurd (omega arith)
behind_space at (b ∷ bs) h e = rw e refl

-- a token is taken
pub behind_token : (at : ℕ) (bs : List ℕ) → 0 < length bs → get_or bs 0 0 ≢ 32
    → tokens_from 0 at bs ≡ record { at = at; meaning = meaning_of (get_or bs 0 0) (drop 1 bs) } ∷ tokens_from 0 (at + 1 + further (get_or bs 0 0) (drop 1 bs)) (drop (1 + further (get_or bs 0 0) (drop 1 bs)) bs)
unfolding tokens_from
behind_token at [] h e = absurd (omega arith)
behind_token at (b ∷ bs) h e =
    let not_space : eqb b 32 ≡ false = ne_eqb b 32 e in
    let more : tokens_from (further b bs) (at + 1) bs ≡ tokens_from 0 (at + 1 + further b bs) (drop (1 + further b bs) (b ∷ bs)) =
    tokens_from-skip (further b bs) (at + 1) bs ∙ ap (λ (k : ℕ). tokens_from 0 (at + 1 + further b bs) (drop k (b ∷ bs))) (sym (add_comm 1 (further b bs) ∙ add-one (further b bs))) in
    rw (not_space, more) refl

-- what a slice to the end is
pub slice_tail : (n : ℕ) (l : List ℕ) → take (length l - n) (drop n l) ≡ drop n l
slice_tail n l = take_all (length l - n) (drop n l) (omega (arith, length-drop n l))

-- the tokens that are found already, and those of what is left, are all
pub passes_space : (found : List Token) (text : List ℕ) (at : ℕ) (all : List Token) → at < length text → get_or (take (length text - at) (drop at text)) 0 0 ≡ 32
    → found ++ map seen (tokens_from 0 at (drop at text)) ≡ all → found ++ map seen (tokens_from 0 (at + 1) (drop (at + 1) text)) ≡ all
passes_space found text at all lt is so_far =
    let one = behind_space at (drop at text) (omega (arith, length-drop at text)) (sym (ap (λ bs. get_or bs 0 0) (slice_tail at text)) ∙ is) in
    ap (λ ts. found ++ map seen ts) (sym (one ∙ ap (tokens_from 0 (at + 1)) (drop-drop 1 at text))) ∙ so_far

take_one : (found : List Token) (text : List ℕ) (at k : ℕ) (all : List Token) (m : Meaning) (t : Token)
    → tokens_from 0 at (drop at text) ≡ record { at = at; meaning = m } ∷ tokens_from 0 (at + 1 + k) (drop (1 + k) (drop at text))
    → t ≡ record { at = at; kind = kind_of m }
    → found ++ map seen (tokens_from 0 at (drop at text)) ≡ all → (found ++ t ∷ []) ++ map seen (tokens_from 0 (at + (1 + k)) (drop (at + (1 + k)) text)) ≡ all
take_one found text at k all m t one t-is so_far =
    let left : tokens_from 0 (at + 1 + k) (drop (1 + k) (drop at text)) ≡ tokens_from 0 (at + (1 + k)) (drop (at + (1 + k)) text) = rw (drop-drop (1 + k) at text, add_assoc at 1 k) refl in
    let row : t ∷ map seen (tokens_from 0 (at + (1 + k)) (drop (at + (1 + k)) text)) ≡ map seen (tokens_from 0 at (drop at text)) = rw (t-is, one, left) refl in
    append_assoc found (t ∷ []) (map seen (tokens_from 0 (at + (1 + k)) (drop (at + (1 + k)) text))) ∙ ap (λ ts. found ++ ts) row ∙ so_far

pub takes_token : (found after : List Token) (text here : List ℕ) (at len : ℕ) (all : List Token) (t : Token) → here ≡ drop at text → at < length text → get_or here 0 0 ≢ 32
    → len ≡ further (get_or here 0 0) (drop 1 here) → t ≡ record { at = at; kind = kind_of (meaning_of (get_or here 0 0) (drop 1 here)) } → after ≡ found ++ t ∷ []
    → found ++ map seen (tokens_from 0 at (drop at text)) ≡ all → after ++ map seen (tokens_from 0 (at + (1 + len)) (drop (at + (1 + len)) text)) ≡ all
takes_token found after text here at len all t e lt isnt len-is t-is after-is so_far =
    let one = behind_token at here (omega (arith, ap length e, length-drop at text)) isnt in
    let two : tokens_from 0 at (drop at text) ≡ record { at = at; meaning = meaning_of (get_or here 0 0) (drop 1 here) } ∷ tokens_from 0 (at + 1 + further (get_or here 0 0) (drop 1 here)) (drop (1 + further (get_or here 0 0) (drop 1 here)) (drop at text)) =
    ap (tokens_from 0 at) (sym e) ∙ one ∙ ap (λ (bs : List ℕ). record { at = at; meaning = meaning_of (get_or here 0 0) (drop 1 here) } ∷ tokens_from 0 (at + 1 + further (get_or here 0 0) (drop 1 here)) (drop (1 + further (get_or here 0 0) (drop 1 here)) bs)) e in
    rw (after-is, len-is) (take_one found text at (further (get_or here 0 0) (drop 1 here)) all (meaning_of (get_or here 0 0) (drop 1 here)) t two t-is so_far)

-- behind the last byte there are no tokens
pub no_more_tokens : (found : List Token) (text : List ℕ) (at : ℕ) (all : List Token) → length text ≤ at → found ++ map seen (tokens_from 0 at (drop at text)) ≡ all → found ≡ all
unfolding tokens_from
no_more_tokens found text at all h so_far =
    let nothing : drop at text ≡ [] = drop_all at text h in
    sym (append-nil found) ∙ ap (λ (bs : List ℕ). found ++ map seen (tokens_from 0 at bs)) (sym nothing) ∙ so_far
