use Rattle.std.proofs.Common.{◌∙◌, ap, sym, refl, length}
use Rattle.std.specs.List.{slice_range}
use Rattle.space_core.specs.Memory.{Memory}
use Rattle.layer_rules.specs.Blocks.{end_of}
use Rattle.owned_heap.specs.Owned.{Owned, bytes_of}
use Rattle.owned_heap.proofs.Altering.{called-at}
use Rattle.owned_heap.proofs.Owning.{only-written, live-at, live-room, replaced-inside, written-owned, written-others, bytes-kept, bytes-live, slice-size}
use Rattle.owned_heap.proofs.Slices.{slice-replaced}
use Rattle.owned_heap.proofs.heap.OwnedHeap.with_bytes_mut.Goals as goal

pub alter-requires-clause-inside : goal.alter-requires-clause-inside
alter-requires-clause-inside g c =
    rw (c.block.ensures) (live-room _ _ _ (g.met.L.Layer.made c.self.inside.root) c.self.invariant.owned c.args.b.now (live-at _ _ c.args.b.now c.self.view_is c.requires.live))

pub invariant_of-self : goal.invariant_of-self
invariant_of-self g c =
    let altered = rw c.block.ensures at c.alter.ensures in
    record {
      owned =
          written-owned _ _ _ _ c.args.b.now (g.met.L.Layer.made c.self.inside.root) c.self.invariant.owned (live-at _ _ c.args.b.now c.self.view_is c.requires.live)
          (replaced-inside c.args.b.now.block _ _ altered.left altered.size altered.same);
      counted = c.self.invariant.counted;
    }

pub returns-clause-changed : goal.returns-clause-changed
returns-clause-changed g c =
    let k = live-at _ _ c.args.b.now c.self.view_is c.requires.live in
    let altered = rw c.block.ensures at c.alter.ensures in
    let room = live-room _ _ _ (g.met.L.Layer.made c.self.inside.root) c.self.invariant.owned c.args.b.now k in
    let new = bytes-live _ c.args.b.now k ∙ (ap (λ (m : Memory). slice_range m.bytes c.args.b.now.block.place (end_of c.args.b.now.block)) altered.same ∙ slice-replaced _ c.args.b.now.block altered.left room altered.size) in
    let old = ap (λ h. bytes_of h c.args.b.now) (sym c.self.view_is) ∙ bytes-live _ c.args.b.now k in
    called-at g.F.FnOnce c.args.change _ _ _ _ old new altered.called

pub returns-clause-size : goal.returns-clause-size
returns-clause-size g c =
    let k = live-at _ _ c.args.b.now c.self.view_is c.requires.live in
    let altered = rw c.block.ensures at c.alter.ensures in
    let owned =
    written-owned _ _ _ _ c.args.b.now (g.met.L.Layer.made c.self.inside.root) c.self.invariant.owned k
    (replaced-inside c.args.b.now.block _ _ altered.left altered.size altered.same) in
    ap length (bytes-live _ c.args.b.now k) ∙ slice-size _ c.args.b.now.block (live-room _ _ _ (g.met.L.Layer.made c.self.inside.root) owned c.args.b.now k)

pub returns-clause-others : goal.returns-clause-others
returns-clause-others g c =
    let altered = rw c.block.ensures at c.alter.ensures in
    rw (← c.self.view_is) (λ b n.
    bytes-kept _ _ b refl (λ j.
    written-others _ _ _ _ c.args.b.now (g.met.L.Layer.made c.self.inside.root) c.self.invariant.owned (live-at _ _ c.args.b.now c.self.view_is c.requires.live)
    (replaced-inside c.args.b.now.block _ _ altered.left altered.size altered.same) b j n))

pub returns-clause-only : goal.returns-clause-only
returns-clause-only g c =
    let k = live-at _ _ c.args.b.now c.self.view_is c.requires.live in
    let altered = rw c.block.ensures at c.alter.ensures in
    let room = live-room _ _ _ (g.met.L.Layer.made c.self.inside.root) c.self.invariant.owned c.args.b.now k in
    let after : Owned g.row.L.Denot = record { root = c.self.inside.root; memory = c.alter.new.space; events = c.self.inside.events.items } in
    let new = bytes-live after c.args.b.now k ∙ (ap (λ (m : Memory). slice_range m.bytes c.args.b.now.block.place (end_of c.args.b.now.block)) altered.same ∙ slice-replaced _ c.args.b.now.block altered.left room altered.size) in
    rw (← c.self.view_is, new) (only-written c.self.inside.root c.self.inside.events.items _ _ _ _ altered.same)
