use Rattle.std.proofs.Common.{sym, ap, ◌∙◌, is_some}
use Rattle.layer_rules.specs.declared.Offers.{Offers}
use Rattle.heap_core.proofs.Stepping.{not_true, not_false, live-out, live-marked}
use Rattle.heap_core.proofs.Changing.{expand-not_live, expand-not_offered, expand-refused, expand-room, expand-short, expand-grown}
use Rattle.heap_core.proofs.heap.Heap.expand.Goals as goal

pub returns-in_default : goal.returns-in_default
returns-in_default g c = expand-not_live _ _ _ _ _ c.requires (sym c.find.ensures.block ∙ c.in_default.is)

pub returns-then-not-offers : goal.returns-then-not-offers
returns-then-not-offers g c = expand-not_offered _ _ _ _ _ _ c.requires (sym c.in-Some.ensures.block) (ap (λ (o : Offers). o.expand) (sym c.offers.ensures) ∙ not_true _ c.if-not-offers.true)

pub expand-requires-clause-out : goal.expand-requires-clause-out
expand-requires-clause-out g c = live-out _ _ _ _ _ c.requires (sym c.in-Some.ensures.block)

pub expand-requires-clause-marked : goal.expand-requires-clause-marked
expand-requires-clause-marked g c = live-marked _ _ _ _ _ c.requires (sym c.in-Some.ensures.block)

pub expand-requires-clause-offered : goal.expand-requires-clause-offered
expand-requires-clause-offered g c = ap (λ (o : Offers). o.expand) (sym c.offers.ensures) ∙ not_false _ c.if-not-offers.false

pub returns-then-not-expand : goal.returns-then-not-expand
returns-then-not-expand g c =
    expand-refused _ _ _ _ _ _ c.requires (sym c.in-Some.ensures.block) _ _ _ (g.met.L.Layer.made c.expand.new.self) (ap (λ (o : Offers). o.expand) (sym c.offers.ensures) ∙ not_false _ c.if-not-offers.false)
    _ c.if-not-expand.true c.expand.ensures

pub clear_added-requires-clause-memory : goal.clear_added-requires-clause-memory
clear_added-requires-clause-memory g c = c.expand.ensures.frame.memory

pub clear_added-requires-clause-inside : goal.clear_added-requires-clause-inside
clear_added-requires-clause-inside g c =
    expand-room _ _ _ _ _ _ c.requires (sym c.in-Some.ensures.block) _ _ _ (g.met.L.Layer.made c.expand.new.self) (ap (λ (o : Offers). o.expand) (sym c.offers.ensures) ∙ not_false _ c.if-not-offers.false)
    _ c.if-not-expand.false c.expand.ensures

pub replace-requires-clause-live : goal.replace-requires-clause-live
replace-requires-clause-live g c = ap is_some (sym c.in-Some.ensures.block)

pub replace-requires-clause-short : goal.replace-requires-clause-short
replace-requires-clause-short g c =
    expand-short _ _ _ _ _ _ c.requires (sym c.in-Some.ensures.block) _ _ _ (g.met.L.Layer.made c.expand.new.self) (ap (λ (o : Offers). o.expand) (sym c.offers.ensures) ∙ not_false _ c.if-not-offers.false)
    _ c.if-not-expand.false c.expand.ensures

pub returns : goal.returns
returns g c =
    rw c.replace.ensures
    (expand-grown _ _ _ _ _ _ c.requires (sym c.in-Some.ensures.block) _ _ _ (g.met.L.Layer.made c.expand.new.self) (ap (λ (o : Offers). o.expand) (sym c.offers.ensures) ∙ not_false _ c.if-not-offers.false)
    _ c.if-not-expand.false c.expand.ensures _ c.clear_added.ensures)
