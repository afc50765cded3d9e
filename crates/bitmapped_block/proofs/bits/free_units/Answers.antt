use Rattle.std.proofs.Common.{sym, ◌∙◌, subst, ap, max, ◌-◌, ◌+◌, ℕ}
use Rattle.bitmapped_block.specs.UnitBits.{units_at}
use Rattle.bitmapped_block.proofs.RowBits.{units-length}
use Rattle.bitmapped_block.proofs.Tallying.{IsCounted, run-counted, all-counted}
use Rattle.bitmapped_block.proofs.bits.free_units.Goals as goal

pub loop-at-preserved : goal.loop-at-preserved
loop-at-preserved c =
    let us = units_at c.args.space.now.bytes c.args.row in
    let m = c.loop-at in
    rw c.max.ensures
    (run-counted us m.at c.next-first.result c.next-at.result c.args.row.count m.free.count m.free.longest (units-length c.args.space.now.bytes c.args.row c.requires.inside) m.invariant c.next-first.ensures c.next-at.ensures)

pub returns-clause-count : goal.returns-clause-count
returns-clause-count c =
    let us = units_at c.args.space.now.bytes c.args.row in
    (all-counted us c.loop-at.at c.args.row.count c.loop-at.free.count c.loop-at.free.longest (units-length c.args.space.now.bytes c.args.row c.requires.inside) c.loop-at.invariant c.loop-at-test.false).0

pub returns-clause-longest : goal.returns-clause-longest
returns-clause-longest c =
    let us = units_at c.args.space.now.bytes c.args.row in
    (all-counted us c.loop-at.at c.args.row.count c.loop-at.free.count c.loop-at.free.longest (units-length c.args.space.now.bytes c.args.row c.requires.inside) c.loop-at.invariant c.loop-at-test.false).1
