use Rattle.std.proofs.Common.{◌∙◌, ap, sym, length}
use Rattle.owned_heap.proofs.Slices.{length-written, written-all}
use Rattle.owned_heap.proofs.heap.OwnedHeap.write.Goals as goal

pub returns-clause-written : goal.returns-clause-written
returns-clause-written g c =
    let e = c.write_at.ensures in
    e.written ∙ written-all _ c.args.bytes.now (c.requires.len ∙ (sym e.size ∙ (ap length e.written ∙ length-written _ 0 c.args.bytes.now)))
