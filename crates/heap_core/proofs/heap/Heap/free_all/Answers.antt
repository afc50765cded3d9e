use Rattle.std.proofs.Common.{sym, ap, ◌∙◌}
use Rattle.layer_rules.specs.declared.Offers.{Offers}
use Rattle.heap_core.proofs.Stepping.{not_true, not_false}
use Rattle.heap_core.proofs.Changing.{free_all-not_offered, all-freed}
use Rattle.heap_core.proofs.heap.Heap.free_all.Goals as goal

pub returns-then-not-offers : goal.returns-then-not-offers
returns-then-not-offers g c = free_all-not_offered _ _ _ c.requires (ap (λ (o : Offers). o.all) (sym c.offers.ensures) ∙ not_true _ c.if-not-offers.true)

pub returns : goal.returns
returns g c =
    rw c.clear.ensures (all-freed _ _ _ _ _ c.requires (g.met.L.Layer.made c.deallocate_all.new.self) (ap (λ (o : Offers). o.all) (sym c.offers.ensures) ∙ not_false _ c.if-not-offers.false) c.deallocate_all.ensures)
