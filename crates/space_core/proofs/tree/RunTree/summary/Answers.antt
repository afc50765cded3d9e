use Rattle.std.proofs.Common.{◌≡◌}
use Rattle.space_core.specs.Trees.{Covers, node_at}
use Rattle.space_core.proofs.Reading.{covered}
use Rattle.space_core.proofs.tree.RunTree.summary.Goals as goal

pub returns : goal.returns
returns c = λ p n h.
    let us = c.self.inside.taken.items in
    let nodes = c.self.inside.nodes.items in
    let e : c.summary_of.result ≡ node_at us nodes c.args.node = rw (c.deref.ensures.value, c.deref-2.ensures.value) at c.summary_of.ensures in
    let i : Covers us c.args.node p n = rw c.self.view_is h in
    rw (e, ← c.self.view_is) (covered us nodes c.args.node p n c.self.invariant i)
