use Rattle.std.proofs.Common.{ap, subst, ◌∙◌, ◌<◌, List, length, slice_get, ℕ, arith}
use Rattle.fallback.proofs.Telling.{numbers-first, numbers-second}
use Rattle.fallback.proofs.two_layers.FallbackLayer.state_number.Goals as goal

pub state_number-requires-clause-number : goal.state_number-requires-clause-number
state_number-requires-clause-number g c =
    let l = c.args.self.now in
    subst (λ (xs : List ℕ). c.args.k < length xs) (numbers-first (g.P.Layer.model l.primary) (g.F.Layer.model l.second) c.args.node (g.met.P.Layer.made l.primary) (omega (arith, c.if-node-eq0.false)) (omega (arith, c.if-node-primary_nodes.true, c.nodes-primary_nodes.ensures))) c.requires.number

pub state_number-requires-else-node-primary_nodes-clause-number : goal.state_number-requires-else-node-primary_nodes-clause-number
state_number-requires-else-node-primary_nodes-clause-number g c =
    let l = c.args.self.now in
    subst (λ (xs : List ℕ). c.args.k < length xs) (numbers-second (g.P.Layer.model l.primary) (g.F.Layer.model l.second) c.args.node c.nodes-primary_nodes.result (g.met.P.Layer.made l.primary) l.together c.nodes-primary_nodes.ensures c.if-node-primary_nodes.false) c.requires.number

pub returns-then-node-primary_nodes : goal.returns-then-node-primary_nodes
returns-then-node-primary_nodes g c =
    let l = c.args.self.now in
    ap (λ (xs : List ℕ). slice_get xs c.args.k) (numbers-first (g.P.Layer.model l.primary) (g.F.Layer.model l.second) c.args.node (g.met.P.Layer.made l.primary) (omega (arith, c.if-node-eq0.false)) (omega (arith, c.if-node-primary_nodes.true, c.nodes-primary_nodes.ensures))) ∙ c.state_number.ensures

pub returns-else-node-primary_nodes : goal.returns-else-node-primary_nodes
returns-else-node-primary_nodes g c =
    let l = c.args.self.now in
    ap (λ (xs : List ℕ). slice_get xs c.args.k) (numbers-second (g.P.Layer.model l.primary) (g.F.Layer.model l.second) c.args.node c.nodes-primary_nodes.result (g.met.P.Layer.made l.primary) l.together c.nodes-primary_nodes.ensures c.if-node-primary_nodes.false) ∙ c.state_number-else-node-primary_nodes.ensures
