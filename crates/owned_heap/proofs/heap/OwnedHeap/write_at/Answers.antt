use Rattle.std.proofs.Common.{arith, ◌∙◌, ap, sym, refl, length}
use Rattle.std.specs.List.{slice_range}
use Rattle.space_core.specs.Memory.{Memory}
use Rattle.space_core.specs.Words.{write_from}
use Rattle.layer_rules.specs.Blocks.{end_of}
use Rattle.owned_heap.proofs.Owning.{only-written, live-at, live-room, put-inside, written-owned, written-others, bytes-kept, bytes-live, slice-size}
use Rattle.owned_heap.proofs.Slices.{slice-written}
use Rattle.owned_heap.proofs.heap.OwnedHeap.write_at.Goals as goal

pub overflow_add-place : goal.overflow_add-place
overflow_add-place g c =
    let room = live-room _ _ _ (g.met.L.Layer.made c.self.inside.root) c.self.invariant.owned c.args.b.now (live-at _ _ c.args.b.now c.self.view_is c.requires.live) in
    omega (arith, room, c.place.ensures, c.requires.inside, c.self.invariant.owned.stands.memory.sizes, c.self.invariant.owned.stands.memory.cells)

pub put-requires : goal.put-requires
put-requires g c =
    let room = live-room _ _ _ (g.met.L.Layer.made c.self.inside.root) c.self.invariant.owned c.args.b.now (live-at _ _ c.args.b.now c.self.view_is c.requires.live) in
    omega (arith, room, c.place.ensures, c.requires.inside)

pub invariant_of-self : goal.invariant_of-self
invariant_of-self g c = record {
  owned =
      written-owned _ _ _ _ c.args.b.now (g.met.L.Layer.made c.self.inside.root) c.self.invariant.owned (live-at _ _ c.args.b.now c.self.view_is c.requires.live)
      (put-inside c.args.b.now.block _ _ c.args.at c.args.bytes.now c.requires.inside (rw c.place.ensures at c.put.ensures));
  counted = c.self.invariant.counted;
}

pub returns-clause-written : goal.returns-clause-written
returns-clause-written g c =
    let k = live-at _ _ c.args.b.now c.self.view_is c.requires.live in
    rw (← c.self.view_is)
    (bytes-live _ c.args.b.now k
    ∙ (ap (λ (m : Memory). slice_range m.bytes c.args.b.now.block.place (end_of c.args.b.now.block)) (rw c.place.ensures at c.put.ensures)
    ∙ (slice-written c.self.inside.space.bytes c.args.b.now.block.place c.args.b.now.block.len c.args.at c.args.bytes.now c.requires.inside
    ∙ ap (λ xs. write_from xs c.args.at c.args.bytes.now) (sym (bytes-live _ c.args.b.now k)))))

pub returns-clause-size : goal.returns-clause-size
returns-clause-size g c =
    let k = live-at _ _ c.args.b.now c.self.view_is c.requires.live in
    let owned =
    written-owned _ _ _ _ c.args.b.now (g.met.L.Layer.made c.self.inside.root) c.self.invariant.owned k
    (put-inside c.args.b.now.block _ _ c.args.at c.args.bytes.now c.requires.inside (rw c.place.ensures at c.put.ensures)) in
    ap length (bytes-live _ c.args.b.now k) ∙ slice-size _ c.args.b.now.block (live-room _ _ _ (g.met.L.Layer.made c.self.inside.root) owned c.args.b.now k)

pub returns-clause-others : goal.returns-clause-others
returns-clause-others g c =
    rw (← c.self.view_is) (λ b n.
    bytes-kept _ _ b refl (λ j.
    written-others _ _ _ _ c.args.b.now (g.met.L.Layer.made c.self.inside.root) c.self.invariant.owned (live-at _ _ c.args.b.now c.self.view_is c.requires.live)
    (put-inside c.args.b.now.block _ _ c.args.at c.args.bytes.now c.requires.inside (rw c.place.ensures at c.put.ensures)) b j n))

pub returns-clause-only : goal.returns-clause-only
returns-clause-only g c = rw (← c.self.view_is) (only-written c.self.inside.root c.self.inside.events.items _ _ _ _ (rw c.place.ensures at c.put.ensures))
