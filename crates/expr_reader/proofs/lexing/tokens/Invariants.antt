use Rattle.std.proofs.Common.{◌≡◌, ◌++◌, ◌-◌, ◌≤◌, length, drop, map}
use Rattle.expr_reader.specs.Tokens.{tokens, tokens_from}
use Rattle.expr_reader.specs.Descent.{seen}
use Rattle.expr_reader.proofs.lexing.tokens.Given as goal

abbrev pub invariant-loop-at : goal.invariant-loop-at
invariant-loop-at l = record { within : l.at ≤ length l.text; so_far : l.found.items ++ map seen (tokens_from 0 l.at (drop l.at l.text)) ≡ map seen (tokens l.text) }

abbrev pub decreases-loop-at : goal.decreases-loop-at
decreases-loop-at l = length l.text - l.at
