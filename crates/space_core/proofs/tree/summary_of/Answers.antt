use Rattle.std.proofs.Common.{◌≡◌, ◌-◌, true, false, length, get_or, sym, ◌∙◌, ap}
use Rattle.std.proofs.lemmas.Bool.{le-leb}
use Rattle.std.proofs.lemmas.List.{get_or_past, get_or_default}
use Rattle.space_core.specs.Summaries.{leaf_of}
use Rattle.space_core.proofs.Nodes.{node-inner, node-leaf}
use Rattle.space_core.proofs.tree.summary_of.Goals as goal
use Rattle.space_core.proofs.tree.summary_of.Goals.{then-at-taken, else-at-taken}

pub returns-then-node-nodes : goal.returns-then-node-nodes
returns-then-node-nodes c = sym (node-inner c.args.taken.now c.args.nodes.now c.args.node c.if-node-nodes.true)

pub returns : goal.returns
returns c =
    let us = c.args.taken.now in
    let at = c.args.node - length c.args.nodes.now in
    let e : c.if-at-taken.leaf ≡ get_or us at true = elim c.if-at-taken.branch [
      | then-at-taken w ↦ w.leaf-is ∙ le-leb (length us) at w.if-at-taken.true ∙ sym (get_or_past us at true w.if-at-taken.true)
      | else-at-taken w ↦ w.leaf-is ∙ get_or_default us at false true w.if-at-taken.false
    ] in
    c.leaf.ensures ∙ ap leaf_of e ∙ sym (node-leaf us c.args.nodes.now c.args.node c.if-node-nodes.false)
