-- What further calls leave, as callers see it: aligned requests, refused changes, and who owns a block.
use Rattle.std.proofs.Common.{◌≡◌, refl, sym, ap, subst, ◌∙◌, ℕ, ◌≤◌, true, false}
use Rattle.size_round.proofs.PowerLaws.{powers_pass}
use Rattle.size_round.specs.SizeMeanings.{IsMultiple}
use Rattle.size_round.specs.Sizes.{is_power_of_two}
use Rattle.space_core.specs.Memory.{Memory}
use Rattle.layer_rules.specs.declared.Block.{Block}
use Rattle.layer_rules.specs.After.{Reallocated, moved_to, emptied, unmoved}
use Rattle.layer_rules.specs.Layering.{LayerModel, state_of, Stands, IsSetUp, Frames, aligned_allocated, reallocated, block_after, is_done}
use Rattle.layer_rules.specs.State.{uncounted}
use Rattle.layer_rules.specs.Steady.{steady}
use Rattle.layer_laws.proofs.CellRooms.{rest_of_multiple}
use Rattle.layer_laws.specs.Lawful.{IsAlignedGood, IsMade}
use Rattle.layer_laws.specs.Standing.{AlignedAllocateLeaves, RefusedExpandChangesNone, RefusedReallocateChangesNone, OwnsLeaves}
use Rattle.layer_laws.proofs.StandingLaws.{keeping, sound-again, out-again, extent-again, route-again, answered, Serves, served-stands, served-gives, served-keeps_out, served-keeps_extents, served-keeps_routes, served-finds, served-changes_own}

-- ---- a block is served at a multiple of what is asked

aligned-of : (t : LayerModel) (m : Memory) (n a : ℕ) → IsMade t.rules → Stands t m → IsSetUp t → is_power_of_two a ≡ true → a ≤ 4096 → IsAlignedGood t.rules (state_of t m) m.cells n a (aligned_allocated t m n a)
aligned-of t m n a l h u p k = (keeping t m l h).aligned n a (state_of t m) m.cells ((powers_pass a).0 p) k (l.regular.reading.opens_as_fields t.fields m.bytes ∙ u) h.sound.settled

pub aligned_allocated-keeps : AlignedAllocateLeaves
aligned_allocated-keeps t t' m m' n a r l h u p k z =
    let rule = aligned_allocated t m n a in
    let g = aligned-of t m n a l h u p k in
    let served : Serves rule t t' m m' n r = record { frame = z.frame; answer = z.answer; state = z.state; cells = z.cells; good = g.good; taken = l.regular.taking.aligned_allocate n a (state_of t m) m.cells } in
    record {
      stands = served-stands rule t t' m m' n r h served;
      gives = λ b e.
          let x = answered b rule.answer (sym e ∙ z.answer) in
          (served-gives rule t t' m m' n b (subst (λ r. Serves rule t t' m m' n r) e served), rest_of_multiple b.place a (subst (λ (b : Block). IsMultiple b.place a) x.2 (g.aligned x.0 x.1)));
      found = served-finds rule t t' m m' n r served;
      out = served-keeps_out rule t t' m m' n r served;
      extents = served-keeps_extents rule t t' m m' n r served;
      routes = served-keeps_routes rule t t' m m' n r served;
      changes_own = served-changes_own rule t t' m m' n r served;
    }

-- ---- refused changes

pub refused-expand : RefusedExpandChangesNone
refused-expand t t' m m' b b' delta l a =
    let k = l.regular.refusing.expand delta b (state_of t m) m.cells (sym a.answer) in (a.block, (a.cells ∙ k.0, ap uncounted a.state ∙ k.1))

undone : (r : Reallocated) → false ≡ is_done r → r ≡ unmoved
undone (moved_to c) e = absurd (cc)
undone emptied e = absurd (cc)
undone unmoved e = refl

pub refused-reallocate : RefusedReallocateChangesNone
refused-reallocate t t' m m' b b' n l a =
    let q = undone (reallocated t m b n).answer a.answer in
    let k = l.regular.refusing.reallocate n b (state_of t m) m.cells q in (a.block ∙ ap (block_after b) q, (a.cells ∙ k.0, ap uncounted a.state ∙ k.1))

-- ---- who owns a block

pub owned-keeps : OwnsLeaves
owned-keeps t t' m b r l h a =
    let s = state_of t m in
    let new = (t.rules.owns b s).state in
    let q = a.state m.bytes in
    let k = (keeping t m l h).owned b s m.cells h.sound.settled in
    let frame : Frames t t' m m = record { rules = a.rules; image = a.image m h; memory = h.memory; size = refl; leaves = refl; foreign = record { at = λ i x y. refl } } in
    record {
      stands = sound-again t t' m m h frame new m.cells q refl k.settled;
      steady = ap steady q ∙ l.regular.owning.rest b s;
      out = λ c o. out-again t t' m m new m.cells c frame q refl (k.out c ∙ o);
      extents = λ c. extent-again t t' m m new c frame q (k.extents c);
      routes = λ c o. route-again t t' m m new c frame q (k.routes c o);
      clean = λ c z. subst (λ e. e.is_clean c (state_of t' m) m.bytes ≡ true) (sym a.rules) (rw q (k.clean c m.bytes ∙ z));
      marked = λ c z. subst (λ e. e.is_marked c (state_of t' m) m.bytes ≡ true) (sym a.rules) (rw q (k.marked c m.bytes ∙ z));
    }
