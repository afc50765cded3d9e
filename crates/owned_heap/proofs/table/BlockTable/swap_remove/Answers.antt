use Rattle.owned_heap.specs.Owned.{GivesBackIn}
use Rattle.owned_heap.proofs.table.BlockTable.swap_remove.Goals as goal

pub returns-clause-rule : goal.returns-clause-rule
unfolding GivesBackIn
returns-clause-rule g c = rw (← c.self.view_is) (c.swap_remove.result, c.swap_remove.ensures.rule)
