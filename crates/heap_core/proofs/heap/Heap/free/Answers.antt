use Rattle.std.proofs.Common.{sym}
use Rattle.heap_core.proofs.NameLemmas.{without-absent}
use Rattle.heap_core.proofs.Stepping.{live-out, live-marked}
use Rattle.heap_core.proofs.Changing.{free-not_live, block-freed}
use Rattle.heap_core.proofs.heap.Heap.free.Goals as goal

pub deallocate-yes-requires-clause-out : goal.deallocate-yes-requires-clause-out
deallocate-yes-requires-clause-out g c = live-out _ _ _ _ _ c.requires (sym c.in-Some.ensures.block)

pub deallocate-yes-requires-clause-marked : goal.deallocate-yes-requires-clause-marked
deallocate-yes-requires-clause-marked g c = live-marked _ _ _ _ _ c.requires (sym c.in-Some.ensures.block)

pub returns-in-None : goal.returns-in-None
returns-in-None g c =
    let absent = sym c.in-None.ensures.block in
    rw (c.remove.ensures.after, without-absent c.args.self.now.table c.args.name absent) (free-not_live _ _ _ _ c.requires absent)

pub returns-in-Some : goal.returns-in-Some
returns-in-Some g c =
    rw c.remove.ensures.after (block-freed _ _ _ _ _ _ _ _ c.requires (g.met.L.Layer.made c.deallocate-yes.new.self) (sym c.in-Some.ensures.block) c.deallocate-yes.ensures)
