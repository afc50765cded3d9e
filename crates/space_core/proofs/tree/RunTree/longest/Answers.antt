use Rattle.std.proofs.Common.{◌≡◌}
use Rattle.space_core.specs.Trees.{node_at}
use Rattle.space_core.proofs.Reading.{longest-root}
use Rattle.space_core.proofs.tree.RunTree.longest.Goals as goal

pub returns : goal.returns
returns c =
    let us = c.self.inside.taken.items in
    let nodes = c.self.inside.nodes.items in
    let e : c.summary_of.result ≡ node_at us nodes 1 = rw (c.deref.ensures.value, c.deref-2.ensures.value) at c.summary_of.ensures in
    rw (e, ← c.self.view_is) (longest-root us nodes c.self.invariant)
