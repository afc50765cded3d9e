use Rattle.std.proofs.Common.{◌∙◌, ap, sym, length}
use Rattle.owned_heap.proofs.Owning.{live-at, live-room, bytes-live, slice-size}
use Rattle.owned_heap.proofs.heap.OwnedHeap.bytes.Goals as goal

pub lend-requires : goal.lend-requires
lend-requires g c =
    rw (c.place.ensures, c.len.ensures) (live-room _ _ _ (g.met.L.Layer.made c.self.inside.root) c.self.invariant.owned c.args.b.now (live-at _ _ c.args.b.now c.self.view_is c.requires))

pub returns-clause-bytes : goal.returns-clause-bytes
returns-clause-bytes g c =
    rw (← c.self.view_is) (rw (c.place.ensures, c.len.ensures) at c.lend.ensures ∙ sym (bytes-live _ c.args.b.now (live-at _ _ c.args.b.now c.self.view_is c.requires)))

pub returns-clause-len : goal.returns-clause-len
returns-clause-len g c =
    ap length (rw (c.place.ensures, c.len.ensures) at c.lend.ensures)
    ∙ slice-size _ c.args.b.now.block (live-room _ _ _ (g.met.L.Layer.made c.self.inside.root) c.self.invariant.owned c.args.b.now (live-at _ _ c.args.b.now c.self.view_is c.requires))
