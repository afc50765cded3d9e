use Rattle.std.proofs.Common.{ap, length, arith}
use Rattle.space_core.proofs.Freeing.{freed-none, freed-more, freed-all}
use Rattle.space_core.proofs.table.CellTable.free_tag.Goals as goal

pub loop-from-init : goal.loop-from-init
loop-from-init c = freed-none c.args.tag c.args.self.now

pub loop-from-smaller : goal.loop-from-smaller
loop-from-smaller c =
    omega (arith, c.tag_end-end.ensures.from, c.loop-from-test.true, ap length c.tags.ensures, c.loop-from.invariant.size)

pub loop-from-preserved : goal.loop-from-preserved
loop-from-preserved c =
    let same = c.tags-in-loop-from.ensures in
    let end = c.tag_end-end.ensures in
    rw c.put_run.ensures (freed-more c.args.tag c.loop-from.from c.tag_end-end.result c.args.self.now c.loop-from.self c.loop-from.invariant end.from (rw same at end.within) (rw same at end.has) (rw same at end.ends))

pub returns : goal.returns
returns c =
    freed-all c.args.tag c.loop-from.from c.args.self.now c.loop-from.self c.loop-from.invariant (omega (arith, c.loop-from-test.false, ap length c.tags.ensures, c.loop-from.invariant.size))
