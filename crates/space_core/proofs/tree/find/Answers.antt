use Rattle.std.proofs.Common.{length, arith, sym}
use Rattle.space_core.proofs.Nodes.{some}
use Rattle.space_core.proofs.Seeking.{seek-past, seek-found, seek-end, seek-there, seek-over, stands, place-below, place-behind, goes-right, goes-down}
use Rattle.space_core.proofs.tree.find.Goals as goal

pub returns-then-from-taken-clause-first : goal.returns-then-from-taken-clause-first
returns-then-from-taken-clause-first c = sym (seek-past c.args.taken.now c.args.from c.args.k (omega arith) c.requires.some)

pub overflow_add-run : goal.overflow_add-run
overflow_add-run c =
    let i = c.loop-at.invariant in
    let p = c.loop-at.place in
    let n = c.summary_of-summary.result in
    let s = stands c.args.taken.now c.args.nodes.now p.node p.len c.loop-at.at n c.requires.tree i.place c.loop-at-test.true c.summary_of-summary.ensures in
    omega (arith, c.requires.tree.most, s.is_node.within, s.sums.front_within, i.seeking.begins)

pub returns-then-run-summary-clause-first : goal.returns-then-run-summary-clause-first
returns-then-run-summary-clause-first c =
    let i = c.loop-at.invariant in
    let p = c.loop-at.place in
    let n = c.summary_of-summary.result in
    let s = stands c.args.taken.now c.args.nodes.now p.node p.len c.loop-at.at n c.requires.tree i.place c.loop-at-test.true c.summary_of-summary.ensures in
    sym (seek-found c.args.taken.now c.args.from c.args.k c.loop-at.at c.loop-at.run p.len n.front n.back n.best i.seeking s.sums (omega arith))

pub returns-then-run-summary-clause-within : goal.returns-then-run-summary-clause-within
returns-then-run-summary-clause-within c =
    let i = c.loop-at.invariant in
    let p = c.loop-at.place in
    let n = c.summary_of-summary.result in
    let s = stands c.args.taken.now c.args.nodes.now p.node p.len c.loop-at.at n c.requires.tree i.place c.loop-at-test.true c.summary_of-summary.ensures in
    seek-there c.args.taken.now c.args.from c.args.k c.loop-at.at c.loop-at.run p.len n.front n.back n.best i.seeking s.sums (omega arith)

pub loop-at-smaller-then-summary-k : goal.loop-at-smaller-then-summary-k
loop-at-smaller-then-summary-k c =
    rw c.below-place.ensures.len (goes-down (length c.args.nodes.now) c.loop-at.at c.loop-at.place.len (some c.loop-at.invariant.place.power))

pub loop-at-preserved-then-summary-k : goal.loop-at-preserved-then-summary-k
loop-at-preserved-then-summary-k c =
    let i = c.loop-at.invariant in
    let p = c.loop-at.place in
    let n = c.summary_of-summary.result in
    let s = stands c.args.taken.now c.args.nodes.now p.node p.len c.loop-at.at n c.requires.tree i.place c.loop-at-test.true c.summary_of-summary.ensures in
    record {
      place = rw (c.below-place.ensures.node, c.below-place.ensures.len) (place-below c.args.taken.now (length c.args.nodes.now) p.node p.len c.loop-at.at c.loop-at.run c.args.k n.front n.back n.best i.place s.sums (omega arith) (omega arith));
      seeking = i.seeking;
    }

pub loop-at-smaller : goal.loop-at-smaller
loop-at-smaller c =
    let i = c.loop-at.invariant in
    let p = c.loop-at.place in
    let n = c.summary_of-summary.result in
    let s = stands c.args.taken.now c.args.nodes.now p.node p.len c.loop-at.at n c.requires.tree i.place c.loop-at-test.true c.summary_of-summary.ensures in
    goes-right (length c.args.nodes.now) c.loop-at.at p.len c.behind-place.result.len (some i.place.power) s.is_node.within (omega (arith, s.is_node.within, c.behind-place.ensures))

pub loop-at-preserved : goal.loop-at-preserved
loop-at-preserved c =
    let i = c.loop-at.invariant in
    let p = c.loop-at.place in
    let n = c.summary_of-summary.result in
    let s = stands c.args.taken.now c.args.nodes.now p.node p.len c.loop-at.at n c.requires.tree i.place c.loop-at-test.true c.summary_of-summary.ensures in
    record {
      place = place-behind (length c.args.nodes.now) p.node p.len c.loop-at.at c.behind-place.result.node c.behind-place.result.len s.is_node c.behind-place.ensures;
      seeking = rw c.run_behind-run.ensures (seek-over c.args.taken.now c.args.from c.args.k c.loop-at.at c.loop-at.run p.len n.front n.back n.best i.seeking s.sums (omega arith) (omega arith));
    }

pub returns-clause-first : goal.returns-clause-first
returns-clause-first c =
    sym (seek-end c.args.taken.now c.args.from c.args.k c.loop-at.at c.loop-at.run c.loop-at.invariant.seeking (omega (arith, c.requires.tree.width.1, c.loop-at-test.false)) c.requires.some)
