use Rattle.std.proofs.Common.{◌∙◌, ◌<◌, length, rules}
use Rattle.owned_heap.specs.Owned.{DeallocatesIn, DeallocatesAllIn}
use Rattle.owned_heap.proofs.Clearing.{still-in_front, still-gone, one-more-gone}
use Rattle.owned_heap.proofs.rows.BlockVec.clear.Goals as goal

pub returns-then-deallocate_all-clause-rules : goal.returns-then-deallocate_all-clause-rules
unfolding DeallocatesAllIn
returns-then-deallocate_all-clause-rules g c = rw (← c.self.view_is) c.if-deallocate_all.ensures.rule.frame.rules

pub loop-self-preserved : goal.loop-self-preserved
unfolding DeallocatesIn
loop-self-preserved g c =
    let was = c.loop-self.invariant in
    let some : 0 < length c.loop-self.self.rows = search rules in
    record {
      sized = search rules;
      fewer = search rules;
      front = still-in_front _ _ _ _ was.sized some was.front c.pop.ensures.blocks;
      gone = still-gone _ _ _ _ was.sized some _ _ was.fewer was.front c.pop.ensures.blocks was.gone c.pop.ensures.events;
      events = one-more-gone _ _ _ _ was.sized some _ _ was.fewer was.front c.pop.ensures.blocks _ was.events c.pop.ensures.events;
      rules = c.pop.ensures.rule.frame.rules ∙ was.rules;
      capacity = search rules;
    }
