-- Canonical texts: their tokens, and that these spell the tree.
use Rattle.std.proofs.Common.{◌≡◌, ℕ, ◌+◌, ◌^◌, ◌<◌, Bool, true, false, ◌&&◌, eqb, List, [], ◌∷◌, ◌++◌, Option, length, refl, sym, ◌∙◌, ap, subst, arith, append_assoc, append-nil, length-append}
use Rattle.std.specs.Prelude.{◌↔◌, codes}
use Rattle.std.specs.Fmt.{decimal}
use Rattle.std.specs.List.{prefix_len}
use Rattle.std.specs.Char.{digit_value}
use Rattle.std.specs.Str.Parse.{AllDigits, IsNumeral, digits_value}
use Rattle.std.proofs.lemmas.Bool.Decides.{nat_tests}
use Rattle.std.proofs.lemmas.List.{take_at, drop_at}
use Rattle.std.proofs.lemmas.Fmt.{decimal_is_IsNumeral}
use Rattle.std.proofs.lemmas.Str.Parse.{digit_from_value}
use Rattle.expr_reader.specs.declared.token.Name.{Name}
use Rattle.expr_reader.specs.declared.token.Name.TheVariants as name
use Rattle.expr_reader.specs.declared.token.Choice.{Choice}
use Rattle.expr_reader.specs.declared.token.Choice.TheVariants.{Any, Pow2}
use Rattle.expr_reader.specs.declared.token.Word.TheVariants.{Named, Chosen}
use Rattle.expr_reader.specs.declared.token.Mark.TheVariants.{Open, Comma, Close}
use Rattle.expr_reader.specs.declared.signature.Signature.{Signature}
use Rattle.std.specs.Char.{is_ascii_digit, is_ascii_lowercase}
use Rattle.expr_reader.specs.Signatures.{takes, inner, after_number, after_choice, after_layer}
use Rattle.expr_reader.specs.Tokens.{Placed, word, mark, is_word_byte, meaning_of, further, tokens, tokens_from}
use Rattle.expr_reader.specs.Tokens as meaning
use Rattle.expr_reader.specs.Words.{word_of}
use Rattle.expr_reader.specs.Trees.{Tree, leaf, node, Args, last, number, choice, layer}
use Rattle.expr_reader.specs.Grammar.{Spells, Fills, Fits, FitsIn}
use Rattle.expr_reader.specs.Canonical.{word_text, choice_text, numeral, canonical, args_text, in_place, args_in_place}
use Rattle.expr_reader.proofs.TokenRows.{tokens_from-skip}
use Rattle.expr_reader.proofs.Unique.{spells_unique}

-- ---- numbers

-- a digit is no letter and no space
digit_begins : (d : ℕ) → digit_value d < 10 → (is_ascii_digit d ≡ true) × (is_ascii_lowercase d ≡ false) × (eqb d 32 ≡ false)
digit_begins d h = let range = digit_from_value d h in (grind (arith, nat_tests), grind (arith, nat_tests), grind (arith, nat_tests))

-- digits before a comma
digits_len : (ds more : List ℕ) → AllDigits 10 ds → prefix_len is_ascii_digit (ds ++ 44 ∷ more) ≡ length ds
digits_len [] more h = refl
digits_len (d ∷ ds) more h = rw ((digit_begins d h.0).0, digits_len ds more h.1) (omega arith)

comma_token : (at : ℕ) (more : List ℕ) → tokens_from 0 at (44 ∷ more) ≡ record { at = at; meaning = mark Comma } ∷ tokens_from 0 (at + 1) more
unfolding tokens_from
comma_token at more = refl

close_token : (at : ℕ) (more : List ℕ) → tokens_from 0 at (41 ∷ more) ≡ record { at = at; meaning = mark Close } ∷ tokens_from 0 (at + 1) more
unfolding tokens_from
close_token at more = refl

open_token : (at : ℕ) (more : List ℕ) → tokens_from 0 at (40 ∷ more) ≡ record { at = at; meaning = mark Open } ∷ tokens_from 0 (at + 1) more
unfolding tokens_from
open_token at more = refl

-- the text that follows begins with nothing that could belong to a word
Stop : List ℕ → Type 0
Stop [] = Unit {0}
Stop (b ∷ bs) = is_word_byte b ≡ false

stop_len : (rest : List ℕ) → Stop rest → prefix_len is_word_byte rest ≡ 0
unfolding Stop
stop_len [] h = refl
stop_len (b ∷ bs) h = rw h refl

digits_token : (at d : ℕ) (ds more : List ℕ) → AllDigits 10 (d ∷ ds)
    → tokens_from 0 at (d ∷ (ds ++ 44 ∷ more)) ≡ record { at = at; meaning = meaning.number (digits_value 10 (d ∷ ds)) } ∷ tokens_from 0 (at + 1 + length ds) (44 ∷ more)
unfolding tokens_from
digits_token at d ds more h =
    let first = digit_begins d h.0 in
    let len = digits_len ds more h.1 in
    let meant : meaning_of d (ds ++ 44 ∷ more) ≡ meaning.number (digits_value 10 (d ∷ ds)) = rw (first.1, first.0, len, take_at ds (44 ∷ more) (length ds) refl) refl in
    let longer : further d (ds ++ 44 ∷ more) ≡ length ds = rw (first.1, first.0) len in
    let behind : tokens_from (length ds) (at + 1) (ds ++ 44 ∷ more) ≡ tokens_from 0 (at + 1 + length ds) (44 ∷ more) =
    tokens_from-skip (length ds) (at + 1) (ds ++ 44 ∷ more) ∙ ap (tokens_from 0 (at + 1 + length ds)) (drop_at ds (44 ∷ more) (length ds) refl) in
    rw (first.2, longer, meant, behind) refl

numeral_by : (at n : ℕ) (ds more : List ℕ) → IsNumeral 10 ds → digits_value 10 ds ≡ n
    → (p : ℕ) × (tokens_from 0 at ((ds ++ codes ",") ++ more) ≡ record { at = at; meaning = meaning.number n } ∷ record { at = p; meaning = mark Comma } ∷ tokens_from 0 (at + length (ds ++ codes ",")) more)
numeral_by at n [] more h is = absurd (omega arith)
numeral_by at n (d ∷ ds) more h is =
    let behind : at + 1 + length ds + 1 ≡ at + length ((d ∷ ds) ++ codes ",") = omega (arith, length-append (d ∷ ds) (codes ",")) in (
      at + 1 + length ds,
      ap (tokens_from 0 at) (append_assoc (d ∷ ds) (codes ",") more) ∙ digits_token at d ds more h.1
          ∙ (λ i. record { at = at; meaning = meaning.number (is i) } ∷ comma_token (at + 1 + length ds) more i)
          ∙ ap (λ k. record { at = at; meaning = meaning.number n } ∷ record { at = at + 1 + length ds; meaning = mark Comma } ∷ tokens_from 0 k more) behind,
    )

numeral_tokens : (at n : ℕ) (more : List ℕ) → n < 2 ^ 64
    → (p : ℕ) × (tokens_from 0 at (numeral n ++ more) ≡ record { at = at; meaning = meaning.number n } ∷ record { at = p; meaning = mark Comma } ∷ tokens_from 0 (at + length (numeral n)) more)
numeral_tokens at n more small = let written = decimal_is_IsNumeral n small in numeral_by at n (decimal n) more written.0 written.1

-- ---- words

-- letters and digits that begin with a letter
all_in_word : List ℕ → Bool
all_in_word [] = true
all_in_word (b ∷ bs) = is_word_byte b && all_in_word bs

is_word : List ℕ → Bool
is_word [] = false
is_word (b ∷ bs) = is_ascii_lowercase b && all_in_word bs

and_both : (a b : Bool) → (a && b) ≡ true → (a ≡ true) × (b ≡ true)
and_both true true e = (refl, refl)
and_both true false e = absurd cc
and_both false b e = absurd cc

word_len : (bs more : List ℕ) → all_in_word bs ≡ true → Stop more → prefix_len is_word_byte (bs ++ more) ≡ length bs
unfolding all_in_word
word_len [] more h stop = stop_len more stop
word_len (b ∷ bs) more h stop = let both = and_both (is_word_byte b) (all_in_word bs) h in rw (both.0, word_len bs more both.1 stop) (omega arith)

letter_begins : (b : ℕ) → is_ascii_lowercase b ≡ true → eqb b 32 ≡ false
letter_begins b h = grind (arith, nat_tests)

word_token : (at : ℕ) (letters more : List ℕ) → is_word letters ≡ true → Stop more → tokens_from 0 at (letters ++ more) ≡ record { at = at; meaning = word (word_of letters) } ∷ tokens_from 0 (at + length letters) more
unfolding tokens_from is_word
word_token at [] more h stop = absurd cc
word_token at (b ∷ bs) more h stop =
    let both = and_both (is_ascii_lowercase b) (all_in_word bs) h in
    let len = word_len bs more both.1 stop in
    let meant : meaning_of b (bs ++ more) ≡ word (word_of (b ∷ bs)) = rw (both.0, len, take_at bs more (length bs) refl) refl in
    let longer : further b (bs ++ more) ≡ length bs = rw both.0 len in
    let place : at + 1 + length bs ≡ at + length (b ∷ bs) = omega arith in
    let behind : tokens_from (length bs) (at + 1) (bs ++ more) ≡ tokens_from 0 (at + length (b ∷ bs)) more =
    tokens_from-skip (length bs) (at + 1) (bs ++ more) ∙ (λ i. tokens_from 0 (place i) (drop_at bs more (length bs) refl i)) in
    rw (letter_begins b both.0, longer, meant, behind) refl

-- each word is one, and is read as itself
name_is_word : (k : Name) → is_word (word_text k) ≡ true
unfolding is_word all_in_word
name_is_word name.Null = refl
name_is_word name.Mem = refl
name_is_word name.Region = refl
name_is_word name.Bitmap = refl
name_is_word name.Kr = refl
name_is_word name.FreeList = refl
name_is_word name.Quantize = refl
name_is_word name.Stats = refl
name_is_word name.Affix = refl
name_is_word name.Segregate = refl
name_is_word name.Buckets = refl
name_is_word name.Fallback = refl
name_is_word name.List = refl

name_is_read : (k : Name) → word_of (word_text k) ≡ Named k
name_is_read name.Null = refl
name_is_read name.Mem = refl
name_is_read name.Region = refl
name_is_read name.Bitmap = refl
name_is_read name.Kr = refl
name_is_read name.FreeList = refl
name_is_read name.Quantize = refl
name_is_read name.Stats = refl
name_is_read name.Affix = refl
name_is_read name.Segregate = refl
name_is_read name.Buckets = refl
name_is_read name.Fallback = refl
name_is_read name.List = refl

choice_is_word : (c : Choice) → is_word (choice_text c) ≡ true
unfolding is_word all_in_word
choice_is_word Any = refl
choice_is_word Pow2 = refl

choice_is_read : (c : Choice) → word_of (choice_text c) ≡ Chosen c
choice_is_read Any = refl
choice_is_read Pow2 = refl

name_token : (k : Name) (at : ℕ) (more : List ℕ) → Stop more → tokens_from 0 at (word_text k ++ more) ≡ record { at = at; meaning = word (Named k) } ∷ tokens_from 0 (at + length (word_text k)) more
name_token k at more stop = word_token at (word_text k) more (name_is_word k) stop ∙ ap (λ w. record { at = at; meaning = word w } ∷ tokens_from 0 (at + length (word_text k)) more) (name_is_read k)

choice_token : (c : Choice) (at : ℕ) (more : List ℕ) → Stop more → tokens_from 0 at (choice_text c ++ more) ≡ record { at = at; meaning = word (Chosen c) } ∷ tokens_from 0 (at + length (choice_text c)) more
choice_token c at more stop = word_token at (choice_text c) more (choice_is_word c) stop ∙ ap (λ w. record { at = at; meaning = word w } ∷ tokens_from 0 (at + length (choice_text c)) more) (choice_is_read c)

-- ---- trees

-- the tokens of a tree's text, with the text behind it
pub record TextRow (at : ℕ) (e : Tree) (more : List ℕ) : Type 0 where
  pub row : List Placed
  pub spelled : Spells (in_place at e) row
  pub is : tokens_from 0 at (canonical e ++ more) ≡ row ++ tokens_from 0 (at + length (canonical e)) more

pub record ArgsRow (at : ℕ) (args : Args) (s : Option Signature) (more : List ℕ) : Type 0 where
  pub row : List Placed
  pub spelled : Fills (args_in_place at args) s row
  pub is : tokens_from 0 at (args_text args ++ more) ≡ row ++ tokens_from 0 (at + length (args_text args)) more

node_text : (at : ℕ) (k : Name) (args : Args) (more : List ℕ) → ArgsRow (at + length (word_text k) + 1) args (inner (takes k)) more → (old : ℕ) → TextRow at (node old k args) more
unfolding Stop
node_text at k args more below old =
    let p = at + length (word_text k) in
    let place : p + 1 + length (args_text args) ≡ at + length (canonical (node old k args)) = omega (arith, length-append (word_text k) (40 ∷ args_text args)) in
    record {
      row = record { at = at; meaning = word (Named k) } ∷ record { at = p; meaning = mark Open } ∷ below.row;
      spelled = (refl, (refl, (refl, below.spelled)));
      is =
          ap (tokens_from 0 at) (append_assoc (word_text k) (40 ∷ args_text args) more) ∙ name_token k at (40 ∷ (args_text args ++ more)) refl
          ∙ ap (λ r. record { at = at; meaning = word (Named k) } ∷ r) (open_token p (args_text args ++ more) ∙ ap (λ r. record { at = p; meaning = mark Open } ∷ r) (below.is ∙ ap (λ q. below.row ++ tokens_from 0 q more) place));
    }

last_text : (at : ℕ) (e : Tree) (s : Option Signature) (more : List ℕ) → FitsIn (last e) s → TextRow at e (41 ∷ more) → ArgsRow at (last e) s more
last_text at e s more fits below =
    let p = at + length (canonical e) in
    let place : p + 1 ≡ at + length (args_text (last e)) = omega (arith, length-append (canonical e) (41 ∷ [])) in
    record {
      row = below.row ++ record { at = p; meaning = mark Close } ∷ [];
      spelled = (fits.0, (below.row, record { at = p; meaning = mark Close } ∷ [], refl, below.spelled, (refl, refl)));
      is =
          ap (tokens_from 0 at) (append_assoc (canonical e) (41 ∷ []) more) ∙ below.is
          ∙ ap (λ r. below.row ++ r) (close_token p more ∙ ap (λ q. record { at = p; meaning = mark Close } ∷ tokens_from 0 q more) place)
          ∙ sym (append_assoc below.row (record { at = p; meaning = mark Close } ∷ []) (tokens_from 0 (at + length (args_text (last e))) more));
    }

layer_text : (at : ℕ) (e : Tree) (args : Args) (s : Option Signature) (more : List ℕ) → TextRow at e (44 ∷ (args_text args ++ more)) → ArgsRow (at + length (canonical e) + 1) args (after_layer s) more → ArgsRow at (layer e args) s more
layer_text at e args s more first below =
    let p = at + length (canonical e) in
    let place : p + 1 + length (args_text args) ≡ at + length (args_text (layer e args)) = omega (arith, length-append (canonical e) (44 ∷ args_text args)) in
    record {
      row = first.row ++ record { at = p; meaning = mark Comma } ∷ below.row;
      spelled = (first.row, record { at = p; meaning = mark Comma } ∷ below.row, refl, first.spelled, (refl, below.spelled));
      is =
          ap (tokens_from 0 at) (append_assoc (canonical e) (44 ∷ args_text args) more) ∙ first.is
          ∙ ap (λ r. first.row ++ r) (comma_token p (args_text args ++ more) ∙ ap (λ r. record { at = p; meaning = mark Comma } ∷ r) (below.is ∙ ap (λ q. below.row ++ tokens_from 0 q more) place))
          ∙ sym (append_assoc first.row (record { at = p; meaning = mark Comma } ∷ below.row) (tokens_from 0 (at + length (args_text (layer e args))) more));
    }

number_text : (at n : ℕ) (args : Args) (s : Option Signature) (more : List ℕ) → n < 2 ^ 64 → ArgsRow (at + length (numeral n)) args (after_number s) more → ArgsRow at (number n args) s more
number_text at n args s more small below =
    let first = numeral_tokens at n (args_text args ++ more) small in
    let place : at + length (numeral n) + length (args_text args) ≡ at + length (args_text (number n args)) = omega (arith, length-append (numeral n) (args_text args)) in
    record {
      row = record { at = at; meaning = meaning.number n } ∷ record { at = first.0; meaning = mark Comma } ∷ below.row;
      spelled = (refl, (refl, below.spelled));
      is =
          ap (tokens_from 0 at) (append_assoc (numeral n) (args_text args) more) ∙ first.1
          ∙ ap (λ r. record { at = at; meaning = meaning.number n } ∷ record { at = first.0; meaning = mark Comma } ∷ r) (below.is ∙ ap (λ q. below.row ++ tokens_from 0 q more) place);
    }

choice_args_text : (at : ℕ) (c : Choice) (args : Args) (s : Option Signature) (more : List ℕ) → ArgsRow (at + length (choice_text c) + 1) args (after_choice c s) more → ArgsRow at (choice c args) s more
unfolding Stop
choice_args_text at c args s more below =
    let p = at + length (choice_text c) in
    let place : p + 1 + length (args_text args) ≡ at + length (args_text (choice c args)) = omega (arith, length-append (choice_text c) (44 ∷ args_text args)) in
    record {
      row = record { at = at; meaning = word (Chosen c) } ∷ record { at = p; meaning = mark Comma } ∷ below.row;
      spelled = (refl, (refl, below.spelled));
      is =
          ap (tokens_from 0 at) (append_assoc (choice_text c) (44 ∷ args_text args) more) ∙ choice_token c at (44 ∷ (args_text args ++ more)) refl
          ∙ ap (λ r. record { at = at; meaning = word (Chosen c) } ∷ r) (comma_token p (args_text args ++ more) ∙ ap (λ r. record { at = p; meaning = mark Comma } ∷ r) (below.is ∙ ap (λ q. below.row ++ tokens_from 0 q more) place));
    }

mutual
  unfolding Stop

  text_row : (e : Tree) (at : ℕ) (more : List ℕ) → Fits e → Stop more → TextRow at e more
  text_row (leaf old k) at more fits stop = record { row = record { at = at; meaning = word (Named k) } ∷ []; spelled = (refl, fits, (refl, refl)); is = name_token k at more stop }
  text_row (node old k args) at more fits stop = node_text at k args more (args_row args (at + length (word_text k) + 1) (inner (takes k)) more fits) old

  args_row : (args : Args) (at : ℕ) (s : Option Signature) (more : List ℕ) → FitsIn args s → ArgsRow at args s more
  args_row (last e) at s more fits = last_text at e s more fits (text_row e at (41 ∷ more) fits.1 refl)
  args_row (number n args) at s more fits = number_text at n args s more fits.0 (args_row args (at + length (numeral n)) (after_number s) more fits.1)
  args_row (choice c args) at s more fits = choice_args_text at c args s more (args_row args (at + length (choice_text c) + 1) (after_choice c s) more fits)
  args_row (layer e args) at s more fits = layer_text at e args s more (text_row e at (44 ∷ (args_text args ++ more)) fits.0 refl) (args_row args (at + length (canonical e) + 1) (after_layer s) more fits.1)

canonical_row : (e : Tree) → Fits e → Spells (in_place 0 e) (tokens (canonical e))
unfolding Stop tokens_from
canonical_row e fits =
    let text = text_row e 0 [] fits tt in
    subst (Spells (in_place 0 e)) (sym (ap tokens (sym (append-nil (canonical e))) ∙ text.is ∙ append-nil text.row)) text.spelled

-- the canonical text spells the tree in its places, and no other
pub canonical_spells : (e : Tree) → Fits e → (f : Tree) → Spells f (tokens (canonical e)) ↔ (f ≡ in_place 0 e)
canonical_spells e fits f =
    let row = canonical_row e fits in
    (λ h. (spells_unique f (in_place 0 e) (tokens (canonical e)) (tokens (canonical e)) [] [] h row refl).0, λ is. subst (λ (g : Tree). Spells g (tokens (canonical e))) (sym is) row)
