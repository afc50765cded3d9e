-- Steps: what is left of a path when the first step is cut off.
use Rattle.std.specs.Prelude.{ℕ, List, [], Option, Some, None}
use Rattle.trace_text.specs.Grammar.{steps_of}

-- the steps of what is left, where something is left
abbrev pub steps_left : (rest : Option (List ℕ)) → List (List ℕ)
steps_left (Some rest) = steps_of rest
steps_left None = []
