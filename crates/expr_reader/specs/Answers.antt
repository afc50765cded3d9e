-- What the answer to a text is: the tree that it spells, or its first fault.
use Rattle.std.specs.Prelude.{◌≡◌, ℕ, ◌≤◌, ◌⊎◌, List, [], length, Some, None, Result, Ok, Err}
use Rattle.expr_reader.specs.declared.fault.ExprFault.{ExprFault}
use Rattle.expr_reader.specs.declared.fault.ExprFault.TheVariants.{Syntax, NumberTooLarge, TooDeep, BadParameter, NeedsAlignment, NoMemory}
use Rattle.expr_reader.specs.declared.tree.Expr.{Expr}
use Rattle.expr_reader.specs.Trees.{Tree, tree_of}
use Rattle.expr_reader.specs.Tokens.{tokens}
use Rattle.expr_reader.specs.Grammar.{Spells, Fits, depth}
use Rattle.expr_reader.specs.Flaws.{flaws, first_told, starts}
use Rattle.expr_reader.specs.Descent.{answer_to}
use Rattle.expr_reader.specs.Faults.{FirstFault, most_layers}

-- The text spells the tree, with no fault found while reading.
pub record Reads (text : List ℕ) (e : Tree) : Type 0 where
  pub spelled : Spells e (tokens text)
  pub fits : Fits e
  pub shallow : depth e ≤ most_layers

-- The text spells the tree, which has no flaw.
pub record IsAccepted (text : List ℕ) (e : Tree) : Type 0 where
  pub reads : Reads text e
  pub flawless : flaws None e (starts (tokens text)) ≡ []

-- The fault of the text: the first that is found while reading, else the first of the flaws.
abbrev pub HasFault : List ℕ → ExprFault → Type 0
HasFault text f =
    FirstFault [] (tokens text) (length text) f
    ⊎ ((e : Tree) × Reads text e × (first_told (flaws None e (starts (tokens text))) ≡ Some f))

-- What the text is read as: the tree that it spells without a flaw, or its fault.
abbrev pub IsReadAs : List ℕ → Result Tree ExprFault → Type 0
IsReadAs text (Ok e) = IsAccepted text e
IsReadAs text (Err f) = HasFault text f

-- Each text is read as one thing, and as no other.
abbrev pub EachTextIsReadOnce : Type 0
EachTextIsReadOnce =
    (text : List ℕ) → (r : Result Tree ExprFault) × IsReadAs text r × ((other : Result Tree ExprFault) → IsReadAs text other → other ≡ r)

-- What the grammar's descent gives for a text is what it is read as.
abbrev pub AnswersAreReadings : Type 0
AnswersAreReadings = (text : List ℕ) (r : Result Tree ExprFault) → answer_to text ≡ r → IsReadAs text r

-- The fault is the text's, or memory ran out.
abbrev pub IsFaultOrNoMemory : List ℕ → ExprFault → Type 0
IsFaultOrNoMemory text (Syntax at) = HasFault text (Syntax at)
IsFaultOrNoMemory text (NumberTooLarge at) = HasFault text (NumberTooLarge at)
IsFaultOrNoMemory text (TooDeep at) = HasFault text (TooDeep at)
IsFaultOrNoMemory text (BadParameter at) = HasFault text (BadParameter at)
IsFaultOrNoMemory text (NeedsAlignment at) = HasFault text (NeedsAlignment at)
IsFaultOrNoMemory text NoMemory = Unit {0}

-- The answer is this fault, or memory ran out.
abbrev pub FailsWith : ExprFault → Result Expr ExprFault → Type 0
FailsWith f (Ok e) = ⊥
FailsWith f (Err g) = (g ≡ f) ⊎ (g ≡ NoMemory)

-- The answer is this tree, or memory ran out.
abbrev pub Gives : Tree → Result Expr ExprFault → Type 0
Gives e (Ok found) = tree_of found ≡ e
Gives e (Err f) = f ≡ NoMemory
