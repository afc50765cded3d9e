-- The faults that are found while reading: the first token from the left that can't stand where it stands.
use Rattle.std.specs.Prelude.{◌≡◌, ℕ, ◌-◌, ◌^◌, ◌≤◌, ◌⊎◌, Bool, true, false, IsTrue, List, [], ◌∷◌, ◌++◌, count_by}
use Rattle.expr_reader.specs.declared.fault.ExprFault.{ExprFault}
use Rattle.expr_reader.specs.declared.fault.ExprFault.TheVariants.{Syntax, NumberTooLarge, TooDeep, BadParameter, NeedsAlignment, NoMemory}
use Rattle.expr_reader.specs.declared.token.Word.TheVariants.{Named, Chosen, Unknown}
use Rattle.expr_reader.specs.declared.token.Mark.TheVariants.{Open, Comma, Close}
use Rattle.expr_reader.specs.declared.signature.Entry.{Entry}
use Rattle.expr_reader.specs.declared.signature.Entry.TheVariants.{Missing, Alone, Takes}
use Rattle.expr_reader.specs.Signatures.{takes}
use Rattle.expr_reader.specs.Tokens.{Placed, Meaning, word, number, mark, stray}
use Rattle.expr_reader.specs.Grammar.{IsSentence, IsViable}

-- the number is above what a program's number holds
abbrev pub IsTooLarge : Meaning → Type 0
IsTooLarge (word w) = ⊥
IsTooLarge (number n) = 2 ^ 64 ≤ n
IsTooLarge (mark m) = ⊥
IsTooLarge stray = ⊥

-- the word takes something between parentheses
abbrev pub is_inner : Entry → Bool
is_inner Missing = false
is_inner Alone = false
is_inner (Takes g) = true

-- the word of a form that has layers below it
abbrev pub is_layer : Meaning → Bool
is_layer (word (Named k)) = is_inner (takes k)
is_layer (word (Chosen c)) = false
is_layer (word Unknown) = false
is_layer (number n) = false
is_layer (mark m) = false
is_layer stray = false

-- the parenthesis that closes
abbrev pub is_close : Meaning → Bool
is_close (word w) = false
is_close (number n) = false
is_close (mark Open) = false
is_close (mark Comma) = false
is_close (mark Close) = true
is_close stray = false

-- how many layers stand above what comes next: each begins with its word and ends with its parenthesis
abbrev pub layers_above : List Placed → ℕ
layers_above before = count_by (λ t. is_layer t.meaning) before - count_by (λ t. is_close t.meaning) before

-- how many layers a path may have
abbrev pub most_layers : ℕ
most_layers = 8

-- the word of one layer too many
abbrev pub IsOneTooMany : List Placed → Meaning → Type 0
IsOneTooMany before m = IsTrue (is_layer m) × (most_layers ≤ layers_above before)

-- The token can't stand behind those before it, for this reason.
abbrev pub StopsAt : List Placed → Placed → ExprFault → Type 0
StopsAt before t (Syntax at) = (at ≡ t.at) × ¬ IsViable (before ++ t ∷ [])
StopsAt before t (NumberTooLarge at) = (at ≡ t.at) × IsViable (before ++ t ∷ []) × IsTooLarge t.meaning
StopsAt before t (TooDeep at) = (at ≡ t.at) × IsViable (before ++ t ∷ []) × IsOneTooMany before t.meaning
StopsAt before t (BadParameter at) = ⊥
StopsAt before t (NeedsAlignment at) = ⊥
StopsAt before t NoMemory = ⊥

-- The token can stand there.
abbrev pub Stands : List Placed → Placed → Type 0
Stands before t = IsViable (before ++ t ∷ []) × ¬ IsTooLarge t.meaning × ¬ IsOneTooMany before t.meaning

-- The first fault of the row behind some tokens that stand. A row that ends too early is at fault where the text ends.
abbrev pub FirstFault : (before row : List Placed) (end : ℕ) → ExprFault → Type 0
FirstFault before [] end f = ¬ IsSentence before × (f ≡ Syntax end)
FirstFault before (t ∷ ts) end f = StopsAt before t f ⊎ (Stands before t × FirstFault (before ++ t ∷ []) ts end f)
