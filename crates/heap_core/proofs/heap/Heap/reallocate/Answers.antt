use Rattle.std.proofs.Common.{sym, ap, ◌∙◌, is_some}
use Rattle.heap_core.proofs.Stepping.{live-out, live-marked}
use Rattle.heap_core.proofs.Changing.{reallocate-not_live, reallocate-refused, reallocate-gone, reallocate-room, reallocate-short, reallocate-moved}
use Rattle.heap_core.proofs.heap.Heap.reallocate.Goals as goal

pub returns-in_default : goal.returns-in_default
returns-in_default g c = reallocate-not_live _ _ _ _ _ c.requires (sym c.find.ensures.block ∙ c.in_default.is)

pub reallocate-requires-clause-out : goal.reallocate-requires-clause-out
reallocate-requires-clause-out g c = live-out _ _ _ _ _ c.requires (sym c.in-Some.ensures.block)

pub reallocate-requires-clause-marked : goal.reallocate-requires-clause-marked
reallocate-requires-clause-marked g c = live-marked _ _ _ _ _ c.requires (sym c.in-Some.ensures.block)

pub returns-then-not-reallocate : goal.returns-then-not-reallocate
returns-then-not-reallocate g c =
    reallocate-refused _ _ _ _ _ _ c.requires (sym c.in-Some.ensures.block) _ _ _ (g.met.L.Layer.made c.reallocate.new.self) _ c.if-not-reallocate.true c.reallocate.ensures

pub returns-then-size-eq0 : goal.returns-then-size-eq0
returns-then-size-eq0 g c =
    rw c.remove.ensures.after
    (reallocate-gone _ _ _ _ _ _ c.requires (sym c.in-Some.ensures.block) _ _ _ (g.met.L.Layer.made c.reallocate.new.self) _ c.if-not-reallocate.false c.reallocate.ensures c.if-size-eq0.true)

pub clear_added-requires-clause-memory : goal.clear_added-requires-clause-memory
clear_added-requires-clause-memory g c = c.reallocate.ensures.frame.memory

pub clear_added-requires-clause-inside : goal.clear_added-requires-clause-inside
clear_added-requires-clause-inside g c =
    reallocate-room _ _ _ _ _ _ c.requires (sym c.in-Some.ensures.block) _ _ _ (g.met.L.Layer.made c.reallocate.new.self) _ c.if-not-reallocate.false c.reallocate.ensures c.if-size-eq0.false

pub replace-requires-clause-live : goal.replace-requires-clause-live
replace-requires-clause-live g c = ap is_some (sym c.in-Some.ensures.block)

pub replace-requires-clause-short : goal.replace-requires-clause-short
replace-requires-clause-short g c =
    reallocate-short _ _ _ _ _ _ c.requires (sym c.in-Some.ensures.block) _ _ _ (g.met.L.Layer.made c.reallocate.new.self) _ c.if-not-reallocate.false c.reallocate.ensures c.if-size-eq0.false

pub returns : goal.returns
returns g c =
    rw c.replace.ensures
    (reallocate-moved _ _ _ _ _ _ c.requires (sym c.in-Some.ensures.block) _ _ _ (g.met.L.Layer.made c.reallocate.new.self) _ c.if-not-reallocate.false c.reallocate.ensures c.if-size-eq0.false _ c.clear_added.ensures)
