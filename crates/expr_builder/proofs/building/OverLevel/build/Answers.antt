use Rattle.std.proofs.Common.{ap, ◌∙◌}
use Rattle.expr_reader.specs.declared.token.Name.TheVariants as name
use Rattle.expr_reader.specs.declared.tree.Expr.{Expr}
use Rattle.expr_reader.specs.declared.tree.Bounds.{Bounds}
use Rattle.expr_reader.specs.declared.tree.Form.{Form}
use Rattle.expr_reader.specs.Trees.{tree_of, form_tree, node, last, number, bounds_args, kind_args}
use Rattle.shapes.specs.RulesOf.{rules_of}
use Rattle.expr_builder.specs.ShapeOf.{shape_of}
use Rattle.expr_builder.proofs.Builds.{layer-stands}
use Rattle.expr_builder.proofs.WordMeanings.{region-proper, freelist-proper, quantize-kind, quantize-proper, stats-proper, affix-proper}
use Rattle.expr_builder.proofs.building.OverLevel.build.Goals as goal

pub new-layer-requires-clause-proper : goal.new-layer-requires-clause-proper
new-layer-requires-clause-proper g c =
    let made = c.args.space.now.leaves in
    let expr = c.args.expr.now in
    let size = c.in-Region.size in
    let align = c.in-Region.align in
    let below = tree_of c.in-Region.parent.value in
    region-proper size align below made _ (c.in_ok-build-in-Region.ensures.rules ∙ ap (λ (e : Expr). rules_of (shape_of (tree_of e) made)) c.deref.ensures)
    (layer-stands (tree_of expr) expr.at name.Region (number size (number align (last below))) made (ap (λ (f : Form). form_tree expr.at f) c.in-Region.is) c.requires.buildable)

pub new-layer-requires-in-Range-clause-proper : goal.new-layer-requires-in-Range-clause-proper
new-layer-requires-in-Range-clause-proper g c =
    let made = c.args.space.now.leaves in
    let expr = c.args.expr.now in
    let x = c.in-Range in
    let below = tree_of c.in-FreeList.parent.value in
    let is = ap (λ (f : Form). form_tree expr.at f) c.in-FreeList.is ∙ ap (λ (b : Bounds). node expr.at name.FreeList (bounds_args b (last below))) x.is in
    freelist-proper x.min x.max below made _ (c.in_ok-build-in-Range.ensures.rules ∙ ap (λ (e : Expr). rules_of (shape_of (tree_of e) made)) c.deref-in-Range.ensures)
    (layer-stands (tree_of expr) expr.at name.FreeList (number x.min (number x.max (last below))) made is c.requires.buildable)

pub quantizer-layer-requires-clause-kind : goal.quantizer-layer-requires-clause-kind
quantizer-layer-requires-clause-kind g c =
    let made = c.args.space.now.leaves in
    let expr = c.args.expr.now in
    let x = c.in-Quantize in
    let below = tree_of x.parent.value in
    quantize-kind x.kind below made (layer-stands (tree_of expr) expr.at name.Quantize (kind_args x.kind (last below)) made (ap (λ (f : Form). form_tree expr.at f) x.is) c.requires.buildable)

pub quantizer-layer-requires-clause-proper : goal.quantizer-layer-requires-clause-proper
quantizer-layer-requires-clause-proper g c =
    let made = c.args.space.now.leaves in
    let expr = c.args.expr.now in
    let x = c.in-Quantize in
    let below = tree_of x.parent.value in
    quantize-proper x.kind below made _ (c.in_ok-build-in-Quantize.ensures.rules ∙ ap (λ (e : Expr). rules_of (shape_of (tree_of e) made)) c.deref-in-Quantize.ensures)
    (layer-stands (tree_of expr) expr.at name.Quantize (kind_args x.kind (last below)) made (ap (λ (f : Form). form_tree expr.at f) x.is) c.requires.buildable)

pub new-layer-requires-in-Stats-clause-proper : goal.new-layer-requires-in-Stats-clause-proper
new-layer-requires-in-Stats-clause-proper g c =
    let made = c.args.space.now.leaves in
    let expr = c.args.expr.now in
    let below = tree_of c.in-Stats.parent.value in
    stats-proper below made _ (c.in_ok-build-in-Stats.ensures.rules ∙ ap (λ (e : Expr). rules_of (shape_of (tree_of e) made)) c.deref-in-Stats.ensures)
    (layer-stands (tree_of expr) expr.at name.Stats (last below) made (ap (λ (f : Form). form_tree expr.at f) c.in-Stats.is) c.requires.buildable)

pub new-layer-requires-in-Affix-clause-proper : goal.new-layer-requires-in-Affix-clause-proper
new-layer-requires-in-Affix-clause-proper g c =
    let made = c.args.space.now.leaves in
    let expr = c.args.expr.now in
    let x = c.in-Affix in
    let below = tree_of x.parent.value in
    affix-proper x.prefix x.suffix below made _ (c.in_ok-build-in-Affix.ensures.rules ∙ ap (λ (e : Expr). rules_of (shape_of (tree_of e) made)) c.deref-in-Affix.ensures)
    (layer-stands (tree_of expr) expr.at name.Affix (number x.prefix (number x.suffix (last below))) made (ap (λ (f : Form). form_tree expr.at f) x.is) c.requires.buildable)
