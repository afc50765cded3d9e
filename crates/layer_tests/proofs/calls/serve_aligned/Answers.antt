use Rattle.std.proofs.Common.{◌∙◌}
use Rattle.layer_laws.proofs.FurtherLaws.{aligned_allocated-keeps}
use Rattle.layer_tests.proofs.CallLaws.{served_aligned-held}
use Rattle.layer_tests.proofs.calls.serve_aligned.Goals as goal

pub returns-clause-ready : goal.returns-clause-ready
returns-clause-ready g c =
    let k = aligned_allocated-keeps _ _ _ _ _ _ _ (g.met.L.Layer.made c.args.layer.now) c.requires.ready.stands c.requires.ready.opened c.requires.power c.requires.most c.aligned_allocate.ensures in
    record { stands = k.stands; opened = c.aligned_allocate.ensures.opened ∙ c.requires.ready.opened }

pub returns-clause-held : goal.returns-clause-held
returns-clause-held g c =
    let k = aligned_allocated-keeps _ _ _ _ _ _ _ (g.met.L.Layer.made c.args.layer.now) c.requires.ready.stands c.requires.ready.opened c.requires.power c.requires.most c.aligned_allocate.ensures in
    served_aligned-held _ _ _ _ _ _ _ (g.met.L.Layer.made c.aligned_allocate.new.self) k c.aligned_allocate.ensures

pub returns-clause-kept : goal.returns-clause-kept
returns-clause-kept g c =
    let k = aligned_allocated-keeps _ _ _ _ _ _ _ (g.met.L.Layer.made c.args.layer.now) c.requires.ready.stands c.requires.ready.opened c.requires.power c.requires.most c.aligned_allocate.ensures in
    λ b h. record { out = k.out b h.out; marked = (c.aligned_allocate.ensures.others b h.out).marked h.marked }
