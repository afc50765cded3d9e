use Rattle.std.proofs.Common.{◌≡◌, ◌∙◌, sym, ap, length, rules}
use Rattle.owned_heap.specs.Events.{made}
use Rattle.owned_heap.proofs.Among.{births-made}
use Rattle.owned_heap.proofs.heap.past.Goals as goal

-- by search, so that a clause more would be looked for too
pub returns : goal.returns
returns c = let counted : length c.unknown-births.result.items ≡ made c.filled.result.items = sym (ap made c.filled.ensures ∙ births-made _ _) in search rules
