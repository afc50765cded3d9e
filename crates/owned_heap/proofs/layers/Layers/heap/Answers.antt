use Rattle.owned_heap.proofs.Planning.{plan-opens}
use Rattle.owned_heap.proofs.layers.Layers.heap.Goals as goal

pub returns-clause-ok : goal.returns-clause-ok
returns-clause-ok g c =
    rw (← c.self.view_is, plan-opens g.L.Layer.model c.self.inside.root c.self.inside.space _ _ _ c.self.invariant.fresh) c.open.ensures.ok

pub returns-clause-err : goal.returns-clause-err
returns-clause-err g c =
    rw (← c.self.view_is, plan-opens g.L.Layer.model c.self.inside.root c.self.inside.space _ _ _ c.self.invariant.fresh) c.open.ensures.err
