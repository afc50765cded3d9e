use Rattle.std.proofs.Common.{◌∙◌, ◌∷◌, ◌++◌, [], List, ap, refl, sym, length}
use Rattle.std.proofs.lemmas.List.{length-map}
use Rattle.owned_heap.specs.Ticket.{Ticket}
use Rattle.owned_heap.specs.Owned.{bytes_of}
use Rattle.owned_heap.specs.Rows.{rows_of, PushesIn}
use Rattle.owned_heap.proofs.RowParts.{row-last}
use Rattle.owned_heap.proofs.RowCalls.{newest-at, given-are, given-rows, unmoved-are, unmoved-rows, not-made}
use Rattle.owned_heap.proofs.rows.BlockVec.push.Goals as goal

pub invariant_of-self-in-Some : goal.invariant_of-self-in-Some
invariant_of-self-in-Some g c =
    let e = c.in-Some.ensures in
    rw (c.push_reserved.ensures.items, c.reserve.ensures.items)
    (given-are c.self.inside.heap c.allocate.new.self _ c.in-Some.block c.self.invariant e.events e.number e.others (e.size ∙ sym e.len))

pub invariant_of-self-in-None : goal.invariant_of-self-in-None
invariant_of-self-in-None g c =
    let e = c.in-None.ensures in
    rw c.reserve.ensures.items (unmoved-are c.self.inside.heap c.allocate.new.self _ c.self.invariant e.events (λ b r. e.others b (not-made c.self.inside.heap b r)))

pub returns-in-Some-clause-row : goal.returns-in-Some-clause-row
returns-in-Some-clause-row g c =
    let e = c.in-Some.ensures in
    rw (← c.self.view_is, c.push_reserved.ensures.items, c.reserve.ensures.items)
    (row-last _ _ _ (given-rows c.self.inside.heap c.allocate.new.self _ c.in-Some.block c.self.invariant e.events e.number e.others))

pub returns-in-None-clause-same : goal.returns-in-None-clause-same
returns-in-None-clause-same g c =
    let e = c.in-None.ensures in
    rw (← c.self.view_is, c.reserve.ensures.items) (unmoved-rows c.self.inside.heap c.allocate.new.self _ c.self.invariant e.events (λ b r. e.others b (not-made c.self.inside.heap b r)))

pub returns-then-is_err-clause-rule : goal.returns-then-is_err-clause-rule
unfolding PushesIn
returns-then-is_err-clause-rule g c = rw (← c.self.view_is) refl

pub returns-in-Some-clause-rule : goal.returns-in-Some-clause-rule
unfolding PushesIn
returns-in-Some-clause-rule g c =
    let h = c.self.inside.heap in
    let l = c.self.inside.blocks.items in
    let put = c.push_reserved.ensures.items ∙ ap (λ (l : List Ticket). l ++ c.in-Some.block ∷ []) c.reserve.ensures.items in
    let at = newest-at l c.push_reserved.new.self.items c.in-Some.block (length (rows_of h l)) put (length-map l (bytes_of h)) in
    rw (← c.self.view_is, at) c.in-Some.ensures.rule

pub returns-in-None-clause-rule : goal.returns-in-None-clause-rule
unfolding PushesIn
returns-in-None-clause-rule g c = rw (← c.self.view_is) c.in-None.ensures.rule
