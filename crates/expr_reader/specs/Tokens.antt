-- The tokens of a text, each with its place. Spaces stand between tokens and mean nothing.
use Rattle.std.specs.Prelude.{ℕ, zero, suc, ◌+◌, ◌^◌, Bool, ◌||◌, ◌==◌, nat_lt, if◌then◌else◌, List, [], ◌∷◌, take, Option, Some, None}
use Rattle.std.specs.Char.{is_ascii_digit, is_ascii_lowercase}
use Rattle.std.specs.List.{prefix_len}
use Rattle.std.specs.Str.Parse.{digits_value}
use Rattle.expr_reader.specs.declared.token.Word.{Word}
use Rattle.expr_reader.specs.declared.token.Mark.{Mark}
use Rattle.expr_reader.specs.declared.token.Mark.TheVariants.{Open, Comma, Close}
use Rattle.expr_reader.specs.Words.{word_of}

-- a token's meaning; a stray is a byte that begins no token
pub data Meaning : Type 0 where
  word : Word → Meaning
  number : (value : ℕ) → Meaning
  mark : Mark → Meaning
  stray : Meaning

-- a token, and the offset of its first byte
pub record Placed : Type 0 where
  pub at : ℕ
  pub meaning : Meaning

-- what may stand in a word behind its first letter
abbrev pub is_word_byte : ℕ → Bool
is_word_byte b = is_ascii_lowercase b || is_ascii_digit b

-- the token that a byte begins, from the byte and what stands behind it
abbrev pub meaning_of : ℕ → List ℕ → Meaning
meaning_of b rest =
    if is_ascii_lowercase b then word (word_of (b ∷ take (prefix_len is_word_byte rest) rest))
    else (if is_ascii_digit b then number (digits_value 10 (b ∷ take (prefix_len is_ascii_digit rest) rest))
    else (if b == 40 then mark Open
    else (if b == 44 then mark Comma
    else (if b == 41 then mark Close
    else stray))))

-- how many further bytes that token has: it is as long as can be
abbrev pub further : ℕ → List ℕ → ℕ
further b rest = if is_ascii_lowercase b then prefix_len is_word_byte rest else (if is_ascii_digit b then prefix_len is_ascii_digit rest else 0)

-- the tokens from a place on, behind some bytes of a token that began before
unfoldable pub tokens_from : (skipped at : ℕ) → List ℕ → List Placed
tokens_from skipped at [] = []
tokens_from (suc skipped) at (b ∷ rest) = tokens_from skipped (at + 1) rest
tokens_from zero at (b ∷ rest) =
    if b == 32 then tokens_from 0 (at + 1) rest
    else record { at = at; meaning = meaning_of b rest } ∷ tokens_from (further b rest) (at + 1) rest

-- the tokens of a text
abbrev pub tokens : List ℕ → List Placed
tokens text = tokens_from 0 0 text

-- a number that a program's number holds
abbrev pub held : ℕ → Option ℕ
held n = if nat_lt n (2 ^ 64) then Some n else None
