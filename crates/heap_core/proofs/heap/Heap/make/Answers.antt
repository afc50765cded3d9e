use Rattle.std.proofs.Common.{sym, subst, refl}
use Rattle.heap_core.specs.Holding.{Held}
use Rattle.heap_core.proofs.Stepping.{begins-held}
use Rattle.heap_core.proofs.heap.Heap.make.Goals as goal

pub returns-in-Ok-set_up-clause-held : goal.returns-in-Ok-set_up-clause-held
returns-in-Ok-set_up-clause-held g c =
    let made = g.met.L.Layer.made in
    subst (λ table. Held (g.L.Layer.model c.set_up.new.self) table c.set_up.new.space) (sym c.in-Ok.ensures)
    (begins-held _ _ _ _ _ (made c.args.root) (made c.set_up.new.self) c.requires.stands c.requires.shut refl c.in-Ok-set_up.ensures)
