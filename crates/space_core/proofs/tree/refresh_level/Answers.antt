use Rattle.std.proofs.Common.{length, arith, ◌∙◌}
use Rattle.space_core.proofs.Nodes.{level-node}
use Rattle.space_core.proofs.tree.refresh_level.Goals as goal

pub refresh_node-requires : goal.refresh_node-requires
refresh_node-requires c = record {
  most = rw c.loop-i.invariant.size c.requires.most;
  power = c.requires.power;
  node = rw c.loop-i.invariant.size (level-node (length c.args.nodes.now) c.args.len c.args.low c.args.high c.loop-i.i c.requires.power c.requires.low c.requires.high (omega arith) (omega arith));
  children = λ j p. c.loop-i.invariant.tells j p c.args.len (λ x. c.requires.children j p);
}

pub loop-i-preserved : goal.loop-i-preserved
loop-i-preserved c = record {
  size = c.refresh_node.ensures.size ∙ c.loop-i.invariant.size;
  tells = λ j p n h. c.refresh_node.ensures.tells j p n (λ e. c.loop-i.invariant.tells j p n (λ f. h (λ x. omega (arith, f x, e))));
}

pub returns-clause-tells : goal.returns-clause-tells
returns-clause-tells c = λ j p n h. c.loop-i.invariant.tells j p n (λ f. h (λ x. omega (arith, f x)))
