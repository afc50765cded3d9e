use Rattle.std.proofs.Common.{◌+◌, ◌*◌, length, ap, arith}
use Rattle.space_core.specs.declared.tree.Summary.{Summary}
use Rattle.space_core.specs.Trees.{node_at}
use Rattle.space_core.proofs.Nodes.{parent, join-tells, tells-set}
use Rattle.space_core.proofs.tree.refresh_node.Goals as goal

pub join-requires-clause-front : goal.join-requires-clause-front
join-requires-clause-front c =
    let n = c.requires.node in
    let k = parent (length c.args.nodes.now) c.args.i n.0 c.args.len c.requires.power n.1 in
    let h = (c.requires.children (2 * c.args.i + 1) (n.0 + c.args.len) k.right).front_within in
    omega (arith, h, ap (λ (s : Summary). s.front) c.summary_of-right.ensures)

pub join-requires-clause-back : goal.join-requires-clause-back
join-requires-clause-back c =
    let n = c.requires.node in
    let k = parent (length c.args.nodes.now) c.args.i n.0 c.args.len c.requires.power n.1 in
    let h = (c.requires.children (2 * c.args.i) n.0 k.left).back_within in
    omega (arith, h, ap (λ (s : Summary). s.back) c.summary_of-left.ensures)

pub returns-clause-tells : goal.returns-clause-tells
returns-clause-tells c =
    let us = c.args.taken.now in
    let nodes = c.args.nodes.now in
    let i = c.args.i in
    let n = c.requires.node in
    let k = parent (length nodes) i n.0 c.args.len c.requires.power n.1 in
    let a = c.requires.children (2 * i) n.0 k.left in
    let b = c.requires.children (2 * i + 1) (n.0 + c.args.len) k.right in
    let s = join-tells us n.0 c.args.len (node_at us nodes (2 * i)) (node_at us nodes (2 * i + 1)) a b in
    tells-set us nodes i n.0 (2 * c.args.len) c.join.result k.inner n.1 (rw (c.join.ensures, c.summary_of-left.ensures, c.summary_of-right.ensures) s)
