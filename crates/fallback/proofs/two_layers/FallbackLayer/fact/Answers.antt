use Rattle.std.proofs.Common.{arith}
use Rattle.fallback.proofs.Opening.{beside}
use Rattle.fallback.proofs.Telling.{fact-first, fact-second}
use Rattle.fallback.proofs.two_layers.FallbackLayer.fact.Goals as goal

pub fact-requires-clause-stands : goal.fact-requires-clause-stands
fact-requires-clause-stands g c =
    let l = c.args.self.now in
    (beside g.met.P.Layer.made g.met.F.Layer.made l c.args.space.now c.requires.stands).first

pub fact-requires-else-node-primary_nodes-clause-stands : goal.fact-requires-else-node-primary_nodes-clause-stands
fact-requires-else-node-primary_nodes-clause-stands g c =
    let l = c.args.self.now in
    (beside g.met.P.Layer.made g.met.F.Layer.made l c.args.space.now c.requires.stands).second

pub returns-then-node-primary_nodes : goal.returns-then-node-primary_nodes
returns-then-node-primary_nodes g c =
    let l = c.args.self.now in
    fact-first _ _ c.args.space.now _ _ (g.met.P.Layer.made l.primary) (g.met.F.Layer.made l.second) l.together (omega (arith, c.if-node-eq0.false)) (omega (arith, c.if-node-primary_nodes.true, c.nodes-primary_nodes.ensures)) c.fact.ensures

pub returns-else-node-primary_nodes : goal.returns-else-node-primary_nodes
returns-else-node-primary_nodes g c =
    let l = c.args.self.now in
    fact-second _ _ c.args.space.now _ _ _ (g.met.P.Layer.made l.primary) (g.met.F.Layer.made l.second) l.together c.nodes-primary_nodes.ensures c.if-node-primary_nodes.false c.fact-else-node-primary_nodes.ensures
