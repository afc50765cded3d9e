-- Command: which command the words are.
use Rattle.std.specs.Prelude.{ℕ, ◌≤◌, ◌&&◌, Bool, nat_eq, nat_le, List, [], ◌∷◌, Option, Some, None, codes, if◌then◌else◌, ⊤}
use Rattle.std.specs.Cmp.Lexicographic.{pointwise}
use Rattle.std.specs.Option.{option_map}
use Rattle.std.specs.Str.{all_ascii_digits}
use Rattle.std.specs.Str.Parse.{digits_value}
use Rattle.space_core.specs.Memory.{most_cells}
use Rattle.play_core.specs.declared.words.Command as program
use Rattle.play_core.specs.declared.words.Command.TheVariants as program_command

-- what stands in an expression is to be told, or a trace is to be run over so many cells
pub data Command : Type 0 where
  check : (expression : List ℕ) → Command
  replay : (expression : List ℕ) (cells : ℕ) → Command

-- the number that digits say, where it is at least 1 and at most so large
abbrev pub number_upto : (most : ℕ) (digits : List ℕ) → Option ℕ
number_upto most digits =
    if all_ascii_digits digits && (nat_le 1 (digits_value 10 digits) && nat_le (digits_value 10 digits) most) then Some (digits_value 10 digits) else None

-- two texts are the same
abbrev pub is_text : (text wanted : List ℕ) → Bool
is_text text wanted = pointwise nat_eq text wanted

-- `check EXPR`, or `replay EXPR CELLS` with 1 to 262,144 cells
abbrev pub command_of : (words : List (List ℕ)) → Option Command
command_of (verb ∷ expression ∷ []) = if is_text verb (codes "check") then Some (check expression) else None
command_of (verb ∷ expression ∷ cells ∷ []) =
    if is_text verb (codes "replay") then option_map (λ count. replay expression count) (number_upto most_cells cells) else None
command_of _ = None

-- the text of its expression
abbrev pub expression_in : Command → List ℕ
expression_in (check expression) = expression
expression_in (replay expression cells) = expression

-- the words are the one command, or the other
abbrev pub IsCheck : Option Command → Type 0
IsCheck (Some (check expression)) = ⊤
IsCheck _ = ⊥

abbrev pub IsReplay : Option Command → Type 0
IsReplay (Some (replay expression cells)) = ⊤
IsReplay _ = ⊥

-- ---- the program's commands

abbrev pub seen : program.Command → Command
seen (program_command.Check expression) = check expression.now
seen (program_command.Replay expression cells) = replay expression.now cells

-- a Space can have so many cells
abbrev pub HasSpace : program.Command → Type 0
HasSpace (program_command.Check expression) = ⊤
HasSpace (program_command.Replay expression cells) = (1 ≤ cells) × (cells ≤ most_cells)
