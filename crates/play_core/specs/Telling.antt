-- Telling: what is told, by what the words ask for and the input.
use Rattle.std.specs.Prelude.{ℕ, List, [], ◌∷◌, ◌++◌, Ok, Err, codes}
use Rattle.std.specs.Fmt.{decimal}
use Rattle.layer_rules.specs.Rules.{Rules}
use Rattle.layer_rules.specs.After.{Opening}
use Rattle.heap_core.specs.Performing.{run_of}
use Rattle.expr_reader.specs.declared.fault.ExprFault.{ExprFault}
use Rattle.expr_reader.specs.declared.fault.ExprFault.TheVariants.{Syntax, NumberTooLarge, TooDeep, BadParameter, NeedsAlignment, NoMemory}
use Rattle.play_core.specs.declared.Status.{Status}
use Rattle.play_core.specs.declared.Status.TheVariants.{Good, Usage, Expression, OpeningRefused}
use Rattle.play_core.specs.Asked.{Asked, Nothing, Refused, Checks, Replays, root_of, opening_of}
use Rattle.play_core.specs.CheckText.{check_text}
use Rattle.play_core.specs.Told.{Told, told}

-- One text with its status, and nothing is read. Or what a trace is told, on a heap whose root has these rules.
pub data Telling : Type 0 where
  Only : (status : Status) (text : List ℕ) → Telling
  Plays : (root : Rules) (all : Told) → Telling

abbrev pub usage_text : List ℕ
usage_text = codes "usage: heaplay check EXPR\n       heaplay replay EXPR CELLS\n"

-- what is wrong with an expression, and where
abbrev pub cause_line : (cause : List ℕ) (at : ℕ) → List ℕ
cause_line cause at = codes "expression: " ++ (cause ++ (codes " at " ++ (decimal at ++ codes "\n")))

-- the line of a fault; want of memory has none
abbrev pub expression_text : ExprFault → List ℕ
expression_text (Syntax at) = cause_line (codes "syntax") at
expression_text (NumberTooLarge at) = cause_line (codes "number too large") at
expression_text (TooDeep at) = cause_line (codes "too deep") at
expression_text (BadParameter at) = cause_line (codes "bad parameter") at
expression_text (NeedsAlignment at) = cause_line (codes "needs alignment") at
expression_text NoMemory = []

unfoldable pub refused_text : (node : ℕ) → List ℕ
refused_text node = codes "opening refused at node " ++ decimal node ++ 10 ∷ []

-- by what opening the root gives
abbrev pub told_opening : Rules → Opening → (input : List ℕ) → Telling
told_opening root (Err node) input = Only OpeningRefused (refused_text node)
told_opening root (Ok o) input = Plays root (told root (run_of o.state o.cells []) input)

-- what is told
abbrev pub telling : Asked → (input : List ℕ) → Telling
telling Nothing input = Only Usage usage_text
telling (Refused fault) input = Only Expression (expression_text fault)
telling (Checks e) input = Only Good (check_text e)
telling (Replays e cells) input = told_opening (root_of e) (opening_of e cells) input

-- its status
abbrev pub status_of : Telling → Status
status_of (Only status text) = status
status_of (Plays root all) = all.status
