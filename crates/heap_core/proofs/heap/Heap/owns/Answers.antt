use Rattle.std.proofs.Common.{sym, ap, ◌∙◌}
use Rattle.layer_rules.specs.declared.Offers.{Offers}
use Rattle.heap_core.proofs.Stepping.{not_true, not_false}
use Rattle.heap_core.proofs.Asking.{owns-not_live, owns-not_offered, owns-said}
use Rattle.heap_core.proofs.heap.Heap.owns.Goals as goal

pub returns-in_default : goal.returns-in_default
returns-in_default g c = owns-not_live _ _ _ _ c.requires (sym c.find.ensures.block ∙ c.in_default.is)

pub returns-then-not-offers : goal.returns-then-not-offers
returns-then-not-offers g c = owns-not_offered _ _ _ _ _ c.requires (sym c.in-Some.ensures.block) (ap (λ (o : Offers). o.owns) (sym c.offers.ensures) ∙ not_true _ c.if-not-offers.true)

pub returns : goal.returns
returns g c =
    owns-said _ _ _ _ _ c.requires (sym c.in-Some.ensures.block) _ _ (g.met.L.Layer.made c.owns-yes.new.self)
    (ap (λ (o : Offers). o.owns) (sym c.offers.ensures) ∙ not_false _ c.if-not-offers.false) c.owns-yes.ensures
