use Rattle.std.proofs.Common.{◌≡◌, refl, Err, rules}
use Rattle.owned_heap.specs.Rows.{PushesIn}
use Rattle.owned_heap.proofs.RowCalls.{pushes-again}
use Rattle.owned_heap.proofs.table.BlockTable.push.Goals as goal

pub returns-then-is_err-clause-rule : goal.returns-then-is_err-clause-rule
unfolding PushesIn
returns-then-is_err-clause-rule g c = rw (← c.self.view_is) refl

pub returns-in_err-push-clause-rule : goal.returns-in_err-push-clause-rule
returns-in_err-push-clause-rule g c =
    let is : c.from_residual.result ≡ Err c.in_err-push.field-0.0 = search rules in
    rw (is, ← c.self.view_is) (pushes-again _ _ _ _ _ _ _ _ c.in_err-push.ensures.rule)

pub returns-clause-rule : goal.returns-clause-rule
unfolding PushesIn
returns-clause-rule g c = rw (← c.self.view_is) c.in_ok-push.ensures.rule
