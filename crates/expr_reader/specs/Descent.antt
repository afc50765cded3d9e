-- Reading as the private functions do it, over the tokens that they see. That this is the grammar is proved, and no public clause speaks of it.
use Rattle.std.specs.Prelude.{◌≡◌, ℕ, zero, suc, Bool, true, false, if◌then◌else◌, List, [], ◌∷◌, map, length, Option, Some, None, Result, Ok, Err}
use Rattle.expr_reader.specs.declared.fault.ExprFault.{ExprFault}
use Rattle.expr_reader.specs.declared.fault.ExprFault.TheVariants.{Syntax, NumberTooLarge, TooDeep, BadParameter, NeedsAlignment, NoMemory}
use Rattle.expr_reader.specs.declared.token.Token.{Token}
use Rattle.expr_reader.specs.declared.token.Kind.{Kind}
use Rattle.expr_reader.specs.declared.token.Kind.TheVariants as kind
use Rattle.expr_reader.specs.declared.token.Name.{Name}
use Rattle.expr_reader.specs.declared.token.Word.TheVariants as word
use Rattle.expr_reader.specs.declared.token.Mark.{Mark}
use Rattle.expr_reader.specs.declared.token.Mark.TheVariants.{Open, Comma, Close}
use Rattle.expr_reader.specs.declared.signature.Signature.{Signature}
use Rattle.expr_reader.specs.declared.signature.Entry.{Entry}
use Rattle.expr_reader.specs.declared.signature.Entry.TheVariants.{Missing, Alone, Takes}
use Rattle.expr_reader.specs.Signatures.{takes, after_number, after_choice, after_layer, ends}
use Rattle.expr_reader.specs.Tokens.{Placed, Meaning, held, tokens}
use Rattle.expr_reader.specs.Tokens as meaning
use Rattle.expr_reader.specs.Trees.{Tree, leaf, node, Args, last, number, choice, layer}
use Rattle.expr_reader.specs.Flaws.{flaws, first_told, starts}
use Rattle.expr_reader.specs.Faults.{most_layers}

-- a token as the program holds it
abbrev pub kind_of : Meaning → Kind
kind_of (meaning.word w) = kind.Word w
kind_of (meaning.number n) = kind.Number (held n)
kind_of (meaning.mark m) = kind.Mark m
kind_of meaning.stray = kind.Stray

-- the same with its place
abbrev pub seen : Placed → Token
seen t = record { at = t.at; kind = kind_of t.meaning }

-- and then, unless there is a fault
infixl 10 ◌>>=◌
abbrev pub ◌>>=◌ : {A B : Type 0} → Result A ExprFault → (A → Result B ExprFault) → Result B ExprFault
(Ok x) >>= f = f x
(Err e) >>= f = Err e

-- one mark
abbrev pub same_mark : Mark → Mark → Bool
same_mark Open Open = true
same_mark Comma Comma = true
same_mark Close Close = true
same_mark m n = false

-- the row behind this mark
abbrev pub behind_mark : Mark → (end : ℕ) → List Token → Result (List Token) ExprFault
behind_mark m end [] = Err (Syntax end)
behind_mark m end (t ∷ ts) = elim (t.kind) [
  | kind.Word w ↦ Err (Syntax t.at)
  | kind.Number n ↦ Err (Syntax t.at)
  | kind.Mark n ↦ if same_mark m n then Ok ts else Err (Syntax t.at)
  | kind.Stray ↦ Err (Syntax t.at)
]

-- what is read at the front of a row, and the row behind it
abbrev pub Reader : Type 0 → Type 0
Reader A = (end : ℕ) → List Token → Result (A × List Token) ExprFault

-- the rest of the arguments behind a comma, put behind what came
abbrev pub more : (Signature → Reader Args) → Option Signature → (at : ℕ) → (Args → Args) → Reader Args
more next None at put end row = Err (Syntax at)
more next (Some g) at put end row = behind_mark Comma end row >>= λ r. next g end r >>= λ x. Ok (put x.0, x.1)

-- a number that the program holds, and more behind it
abbrev pub after_numeral : (Signature → Reader Args) → Option Signature → (at : ℕ) → Option ℕ → Reader Args
after_numeral next None at o end row = Err (Syntax at)
after_numeral next (Some g) at None end row = Err (NumberTooLarge at)
after_numeral next (Some g) at (Some n) end row = more next (Some g) at (number n) end row

-- a layer, which is the last or has more behind it
abbrev pub after_tree : Reader Tree → (Signature → Reader Args) → Bool → Option Signature → (at : ℕ) → Reader Args
after_tree below next true s at end row = below end row >>= λ e. behind_mark Close end e.1 >>= λ r. Ok (last e.0, r)
after_tree below next false None at end row = Err (Syntax at)
after_tree below next false (Some g) at end row = below end row >>= λ e. more next (Some g) at (layer e.0) end e.1

-- what a signature takes, by its first token
abbrev pub args_with : Reader Tree → (Signature → Reader Args) → Signature → Reader Args
args_with below next g end [] = Err (Syntax end)
args_with below next g end (t ∷ ts) = elim (t.kind) [
  | kind.Word w ↦ (elim w [
    | word.Named k ↦ after_tree below next (ends (Some g)) (after_layer (Some g)) t.at end (t ∷ ts)
    | word.Chosen c ↦ more next (after_choice c (Some g)) t.at (choice c) end ts
    | word.Unknown ↦ Err (Syntax t.at)
  ])
  | kind.Number o ↦ after_numeral next (after_number (Some g)) t.at o end ts
  | kind.Mark m ↦ Err (Syntax t.at)
  | kind.Stray ↦ Err (Syntax t.at)
]

-- what a signature takes with the parenthesis that closes it, of no more than so many arguments
unfoldable pub args_at : Reader Tree → (most : ℕ) → Signature → Reader Args
args_at below zero g end row = Err (Syntax end)
args_at below (suc most) g end row = args_with below (args_at below most) g end row

-- a layer by its word and what that takes, from what stands behind the word
unfoldable pub node_at : Reader Tree → (at : ℕ) → Name → Signature → Reader Tree
node_at below at k g end row = behind_mark Open end row >>= λ a. args_at below (length a) g end a >>= λ x. Ok (node at k x.0, x.1)

-- a word with what it takes
abbrev pub by_word : ((at : ℕ) → Name → Signature → Reader Tree) → (at : ℕ) → Name → Entry → Reader Tree
by_word inside at k Missing end row = Err (Syntax at)
by_word inside at k Alone end row = Ok (leaf at k, row)
by_word inside at k (Takes g) end row = inside at k g end row

-- a tree, by its word
abbrev pub tree_with : ((at : ℕ) → Name → Signature → Reader Tree) → Reader Tree
tree_with inside end [] = Err (Syntax end)
tree_with inside end (t ∷ ts) = elim (t.kind) [
  | kind.Word w ↦ (elim w [
    | word.Named k ↦ by_word inside t.at k (takes k) end ts
    | word.Chosen c ↦ Err (Syntax t.at)
    | word.Unknown ↦ Err (Syntax t.at)
  ])
  | kind.Number o ↦ Err (Syntax t.at)
  | kind.Mark m ↦ Err (Syntax t.at)
  | kind.Stray ↦ Err (Syntax t.at)
]

-- a layer, with so many layers at most from it on
unfoldable pub layer_at : (left at : ℕ) → Name → Signature → Reader Tree
layer_at zero at k g end row = Err (TooDeep at)
layer_at (suc left) at k g end row = node_at (tree_with (layer_at left)) at k g end row

-- a tree of so many layers at most
abbrev pub tree_at : (left : ℕ) → Reader Tree
tree_at left = tree_with (layer_at left)

-- a tree behind which nothing may stand
abbrev pub ending : Tree → List Token → Result Tree ExprFault
ending e [] = Ok e
ending e (t ∷ ts) = Err (Syntax t.at)

-- the tree that the whole row spells
abbrev pub whole_at : (end : ℕ) → List Token → Result Tree ExprFault
whole_at end row = tree_at most_layers end row >>= λ x. ending x.0 x.1

-- the answer, where this flaw is told
abbrev pub judged : Option ExprFault → Tree → Result Tree ExprFault
judged None e = Ok e
judged (Some f) e = Err f

-- the answer to a text
abbrev pub answer_to : List ℕ → Result Tree ExprFault
answer_to text = whole_at (length text) (map seen (tokens text)) >>= λ e. judged (first_told (flaws None e (starts (tokens text)))) e

-- What a function answered, seen by view, is what reading answers, unless memory ran out.
abbrev pub Answers : {X Y : Type 0} → (X → Y) → Result X ExprFault → Result Y ExprFault → Type 0
Answers view (Ok x) read = read ≡ Ok (view x)
Answers view (Err (Syntax at)) read = read ≡ Err (Syntax at)
Answers view (Err (NumberTooLarge at)) read = read ≡ Err (NumberTooLarge at)
Answers view (Err (TooDeep at)) read = read ≡ Err (TooDeep at)
Answers view (Err (BadParameter at)) read = read ≡ Err (BadParameter at)
Answers view (Err (NeedsAlignment at)) read = read ≡ Err (NeedsAlignment at)
Answers view (Err NoMemory) read = Unit {0}
