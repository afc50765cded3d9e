use Rattle.std.proofs.Common.{sym, ap, ◌∙◌, List, length, ℕ, arith}
use Rattle.fallback.proofs.Telling.{numbers-first, numbers-second}
use Rattle.fallback.proofs.two_layers.FallbackLayer.state_len.Goals as goal

pub returns-then-node-primary_nodes : goal.returns-then-node-primary_nodes
returns-then-node-primary_nodes g c =
    let l = c.args.self.now in
    c.state_len.ensures ∙ ap (λ (xs : List ℕ). length xs) (sym (numbers-first (g.P.Layer.model l.primary) (g.F.Layer.model l.second) c.args.node (g.met.P.Layer.made l.primary) (omega (arith, c.if-node-eq0.false)) (omega (arith, c.if-node-primary_nodes.true, c.nodes-primary_nodes.ensures))))

pub returns-else-node-primary_nodes : goal.returns-else-node-primary_nodes
returns-else-node-primary_nodes g c =
    let l = c.args.self.now in
    c.state_len-else-node-primary_nodes.ensures ∙ ap (λ (xs : List ℕ). length xs) (sym (numbers-second (g.P.Layer.model l.primary) (g.F.Layer.model l.second) c.args.node c.nodes-primary_nodes.result (g.met.P.Layer.made l.primary) l.together c.nodes-primary_nodes.ensures c.if-node-primary_nodes.false))
