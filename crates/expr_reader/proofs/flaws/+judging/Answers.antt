use Rattle.std.proofs.Common.{◌≡◌, ◌+◌, ◌∙◌, ap, sym}
use Rattle.expr_reader.specs.declared.node.Node.{Node}
use Rattle.expr_reader.specs.declared.node.Args.{Args}
use Rattle.expr_reader.specs.Nodes.{node_tree, args_tree}
use Rattle.expr_reader.specs.Trees.{layer}
use Rattle.expr_reader.specs.Flaws.{first_told, flaws, flaws_in, size}
use Rattle.expr_reader.proofs.TokenRows.{slice_tail}
use Rattle.expr_reader.proofs.Told.{layer_told, layers_told}
use Rattle.expr_reader.proofs.flaws.+judging.Goals as goal

pub judge-returns-in_ok-own-in-Inner-clause-flaw : goal.judge-returns-in_ok-own-in-Inner-clause-flaw
judge-returns-in_ok-own-in-Inner-clause-flaw t c =
    let ps = c.args.places.now in
    c.first_of_two.ensures
    ∙ layer_told c.args.given c.gives.result c.in-Inner.at c.in-Inner.name (args_tree c.in-Inner.args) ps _ _ _ (slice_tail 2 ps) c.gives.ensures c.in_ok-own-in-Inner.ensures c.in_ok-below-in-Inner.ensures.flaw
    ∙ sym (ap (λ (n : Node). first_told (flaws c.args.given (node_tree n) ps)) c.in-Inner.is)

pub judge_args-returns-in_ok-others-in-Layer-clause-flaw : goal.judge_args-returns-in_ok-others-in-Layer-clause-flaw
judge_args-returns-in_ok-others-in-Layer-clause-flaw t c =
    let ps = c.args.places.now in
    let first : c.deref-in-Layer.result.now ≡ c.in-Layer.below.value = c.deref-in-Layer.ensures in
    let again : c.deref-in-Layer-2.result.now ≡ c.in-Layer.below.value = c.deref-in-Layer-2.ensures in
    let others : c.deref-in-Layer-3.result.now ≡ c.in-Layer.rest.value = c.deref-in-Layer-3.ensures in
    let told : first_told (flaws_in c.args.given (layer (node_tree c.deref-in-Layer.result.now) (args_tree c.deref-in-Layer-3.result.now)) ps) ≡ first_told (flaws_in c.args.given (args_tree c.args.args.now) ps) =
    (λ i. first_told (flaws_in c.args.given (layer (node_tree (first i)) (args_tree (others i))) ps)) ∙ sym (ap (λ (a : Args). first_told (flaws_in c.args.given (args_tree a) ps)) c.in-Layer.is) in
    c.first_of_two.ensures
    ∙ layers_told c.args.given (node_tree c.deref-in-Layer.result.now) (args_tree c.deref-in-Layer-3.result.now) ps _ c.size-behind.result _ _
    (c.size-behind.ensures ∙ ap (λ (n : Node). size (node_tree n)) (again ∙ sym first)) (slice_tail (c.size-behind.result + 1) ps) c.in_ok-first-in-Layer.ensures.flaw c.in_ok-others-in-Layer.ensures.flaw
    ∙ told
