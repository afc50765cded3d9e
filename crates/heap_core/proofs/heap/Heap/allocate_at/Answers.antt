use Rattle.std.proofs.Common.{sym, ap, ◌∙◌}
use Rattle.layer_rules.specs.declared.Offers.{Offers}
use Rattle.heap_core.proofs.Stepping.{handed-on, not_true, not_false}
use Rattle.heap_core.proofs.Serving.{aligned-fault, aligned-not_offered, aligned-null, aligned-room, aligned-short, aligned-placed}
use Rattle.heap_core.proofs.heap.Heap.allocate_at.Goals as goal

pub returns-in_err-check_new : goal.returns-in_err-check_new
returns-in_err-check_new g c = rw (handed-on c.from_residual.result _ c.from_residual.ensures.1) (aligned-fault _ _ _ c.args.name c.args.size c.args.align _ c.requires.held c.in_err-check_new.ensures.fault)

pub returns-then-not-offers : goal.returns-then-not-offers
returns-then-not-offers g c =
    aligned-not_offered _ _ _ _ _ _ c.requires.held c.in_ok-check_new.ensures.may (ap (λ (o : Offers). o.aligned) (sym c.offers.ensures) ∙ not_true _ c.if-not-offers.true)

pub put_under-requires-clause-inside : goal.put_under-requires-clause-inside
put_under-requires-clause-inside g c = aligned-room _ _ _ _ _ c.args.name _ _ _ c.requires.held (g.met.L.Layer.made c.aligned_allocate.new.self) c.requires.call c.in-Some.ensures

pub put_under-requires-clause-short : goal.put_under-requires-clause-short
put_under-requires-clause-short g c = aligned-short _ _ _ _ _ c.args.name _ _ _ c.requires.held (g.met.L.Layer.made c.aligned_allocate.new.self) c.requires.call c.in-Some.ensures

pub returns-in-None : goal.returns-in-None
returns-in-None g c =
    aligned-null _ _ _ _ _ _ _ _ c.requires.held (g.met.L.Layer.made c.aligned_allocate.new.self) c.requires.call c.in_ok-check_new.ensures.may
    (ap (λ (o : Offers). o.aligned) (sym c.offers.ensures) ∙ not_false _ c.if-not-offers.false) c.in-None.ensures

pub returns-in-Some : goal.returns-in-Some
returns-in-Some g c =
    rw (c.put_under.ensures.answer, c.put_under.ensures.table, c.put_under.ensures.root)
    (aligned-placed _ _ _ _ _ c.args.name _ _ _ c.requires.held (g.met.L.Layer.made c.aligned_allocate.new.self) c.requires.call c.in-Some.ensures _ c.in_ok-check_new.ensures.may
    (ap (λ (o : Offers). o.aligned) (sym c.offers.ensures) ∙ not_false _ c.if-not-offers.false) c.put_under.ensures.filled)
