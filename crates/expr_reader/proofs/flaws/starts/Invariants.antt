use Rattle.std.proofs.Common.{◌≡◌, ◌++◌, drop, map}
use Rattle.expr_reader.specs.declared.token.Token.{Token}
use Rattle.expr_reader.proofs.flaws.starts.Given as goal

abbrev pub invariant-loop-token : goal.invariant-loop-token
invariant-loop-token l = l.places.items ++ map (λ (t : Token). t.at) (drop l.token-index l.row) ≡ map (λ (t : Token). t.at) l.row
