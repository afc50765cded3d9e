use Rattle.heap_core.proofs.Stepping.{handed-on}
use Rattle.heap_core.proofs.Serving.{allocate-fault, allocate-null, allocate-room, allocate-short, allocate-placed}
use Rattle.heap_core.proofs.heap.Heap.allocate.Goals as goal

pub returns-in_err-check_new : goal.returns-in_err-check_new
returns-in_err-check_new g c = rw (handed-on c.from_residual.result _ c.from_residual.ensures.1) (allocate-fault _ _ _ c.args.name c.args.size _ c.requires c.in_err-check_new.ensures.fault)

pub put_under-requires-clause-inside : goal.put_under-requires-clause-inside
put_under-requires-clause-inside g c = allocate-room _ _ _ _ _ c.args.name _ _ c.requires (g.met.L.Layer.made c.allocate.new.self) c.in-Some.ensures

pub put_under-requires-clause-short : goal.put_under-requires-clause-short
put_under-requires-clause-short g c = allocate-short _ _ _ _ _ c.args.name _ _ c.requires (g.met.L.Layer.made c.allocate.new.self) c.in-Some.ensures

pub returns-in-None : goal.returns-in-None
returns-in-None g c = allocate-null _ _ _ _ _ _ _ c.requires (g.met.L.Layer.made c.allocate.new.self) c.in_ok-check_new.ensures.may c.in-None.ensures

pub returns-in-Some : goal.returns-in-Some
returns-in-Some g c =
    rw (c.put_under.ensures.answer, c.put_under.ensures.table, c.put_under.ensures.root)
    (allocate-placed _ _ _ _ _ c.args.name _ _ c.requires (g.met.L.Layer.made c.allocate.new.self) c.in-Some.ensures _ c.in_ok-check_new.ensures.may c.put_under.ensures.filled)
