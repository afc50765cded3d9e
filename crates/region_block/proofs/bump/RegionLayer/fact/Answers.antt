use Rattle.std.proofs.Common.{arith}
use Rattle.region_block.proofs.Standing.{parent-stands, fact-below, in_space-at}
use Rattle.region_block.proofs.bump.RegionLayer.fact.Goals as goal

pub fact-requires-clause-stands : goal.fact-requires-clause-stands
fact-requires-clause-stands g c =
    let l = c.args.self.now in
    parent-stands l.size l.align l.bump (g.P.Layer.model l.parent) c.args.space.now (g.met.P.Layer.made l.parent) l.together c.requires.stands

pub returns-then-node-gt0 : goal.returns-then-node-gt0
returns-then-node-gt0 g c =
    let l = c.args.self.now in
    fact-below l.size l.align l.bump (g.P.Layer.model l.parent) c.args.space.now c.args.node c.fact.result (g.met.P.Layer.made l.parent) (parent-stands l.size l.align l.bump (g.P.Layer.model l.parent) c.args.space.now (g.met.P.Layer.made l.parent) l.together c.requires.stands) l.together c.if-node-gt0.true c.fact.ensures

pub overflow_add-result : goal.overflow_add-result
overflow_add-result g c =
    let l = c.args.self.now in
    let i = in_space-at l.size l.align l.bump c.in-Some.bump (g.P.Layer.model l.parent) c.args.space.now c.in-Some.is (g.met.P.Layer.made l.parent) l.proper l.together c.requires.stands in
    omega (arith, i.inside)
