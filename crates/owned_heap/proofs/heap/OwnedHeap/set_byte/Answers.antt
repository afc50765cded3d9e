use Rattle.std.proofs.Common.{arith, ◌∙◌, ap, sym, refl, set}
use Rattle.owned_heap.proofs.Owning.{only-written, live-at, live-room, set-inside, written-owned, written-others, bytes-kept, bytes-live}
use Rattle.std.specs.List.{slice_range}
use Rattle.space_core.specs.Memory.{Memory}
use Rattle.layer_rules.specs.Blocks.{end_of}
use Rattle.owned_heap.proofs.Slices.{slice-set}
use Rattle.owned_heap.proofs.heap.OwnedHeap.set_byte.Goals as goal

pub overflow_add-place : goal.overflow_add-place
overflow_add-place g c =
    let room = live-room _ _ _ (g.met.L.Layer.made c.self.inside.root) c.self.invariant.owned c.args.b.now (live-at _ _ c.args.b.now c.self.view_is c.requires.live) in
    omega (arith, room, c.place.ensures, c.self.invariant.owned.stands.memory.sizes, c.self.invariant.owned.stands.memory.cells)

pub set_byte-requires : goal.set_byte-requires
set_byte-requires g c =
    let room = live-room _ _ _ (g.met.L.Layer.made c.self.inside.root) c.self.invariant.owned c.args.b.now (live-at _ _ c.args.b.now c.self.view_is c.requires.live) in
    omega (arith, room, c.place.ensures)

pub invariant_of-self : goal.invariant_of-self
invariant_of-self g c = record {
  owned =
      written-owned _ _ _ _ c.args.b.now (g.met.L.Layer.made c.self.inside.root) c.self.invariant.owned (live-at _ _ c.args.b.now c.self.view_is c.requires.live)
      (set-inside c.args.b.now.block _ _ c.args.at c.args.value c.requires.at (rw c.place.ensures at c.set_byte.ensures.after));
  counted = c.self.invariant.counted;
}

pub returns-clause-written : goal.returns-clause-written
returns-clause-written g c =
    let k = live-at _ _ c.args.b.now c.self.view_is c.requires.live in
    rw (← c.self.view_is)
    (bytes-live _ c.args.b.now k
    ∙ (ap (λ (m : Memory). slice_range m.bytes c.args.b.now.block.place (end_of c.args.b.now.block)) (rw c.place.ensures at c.set_byte.ensures.after)
    ∙ (slice-set c.self.inside.space.bytes c.args.b.now.block.place c.args.b.now.block.len c.args.at c.args.value c.requires.at
    ∙ ap (λ xs. set xs c.args.at c.args.value) (sym (bytes-live _ c.args.b.now k)))))

pub returns-clause-others : goal.returns-clause-others
returns-clause-others g c =
    rw (← c.self.view_is) (λ b n.
    bytes-kept _ _ b refl (λ j.
    written-others _ _ _ _ c.args.b.now (g.met.L.Layer.made c.self.inside.root) c.self.invariant.owned (live-at _ _ c.args.b.now c.self.view_is c.requires.live)
    (set-inside c.args.b.now.block _ _ c.args.at c.args.value c.requires.at (rw c.place.ensures at c.set_byte.ensures.after)) b j n))

pub returns-clause-only : goal.returns-clause-only
returns-clause-only g c = rw (← c.self.view_is) (only-written c.self.inside.root c.self.inside.events.items _ _ _ _ (rw c.place.ensures at c.set_byte.ensures.after))
