use Rattle.std.proofs.Common.{◌≤◌, min, arith}
use Rattle.layer_laws.proofs.StandingLaws.{allocated-stands, allocated-gives, out-in_space}
use Rattle.fallback.proofs.Crossing.{holder-remains, stays-unmoved, copied-across, moves}
use Rattle.fallback.proofs.two_layers.move_across.Goals as goal

pub copy-requires-clause-source : goal.copy-requires-clause-source
copy-requires-clause-source g c =
    let x = holder-remains _ _ _ _ _ _ _ _ (record { made_holder = g.met.H.Layer.made c.args.holder.now; made_other = g.met.O.Layer.made c.args.other.now; beside = c.requires.beside; holder = c.requires.holder_stands; other = c.requires.other_stands; other_open = c.requires.other_opened; out = c.requires.out; marked = c.requires.marked }) c.in-Some.ensures in
    let r = out-in_space _ _ _ (g.met.H.Layer.made c.args.holder.now) x.stands (x.out c.args.b.now c.requires.out tt) in
    rw c.min.ensures (omega (arith, r))

pub copy-requires-clause-target : goal.copy-requires-clause-target
copy-requires-clause-target g c =
    let l = g.met.O.Layer.made c.args.other.now in
    let n = allocated-gives _ _ _ _ _ _ l c.requires.other_stands c.requires.other_opened c.in-Some.ensures in
    let r = out-in_space _ _ _ (g.met.O.Layer.made c.allocate.new.self) (allocated-stands _ _ _ _ _ _ l c.requires.other_stands c.requires.other_opened c.in-Some.ensures) n.out in
    rw c.min.ensures (omega (arith, r, n.len))

pub deallocate-requires-clause-stands : goal.deallocate-requires-clause-stands
deallocate-requires-clause-stands g c =
    let k : min c.args.n c.args.b.now.len ≤ c.args.n = omega arith in
    (copied-across _ _ _ _ _ _ _ _ _ _ (record { made_holder = g.met.H.Layer.made c.args.holder.now; made_other = g.met.O.Layer.made c.args.other.now; beside = c.requires.beside; holder = c.requires.holder_stands; other = c.requires.other_stands; other_open = c.requires.other_opened; out = c.requires.out; marked = c.requires.marked }) c.in-Some.ensures (rw c.min.ensures k) c.copy.ensures.copied c.copy.ensures.after).holder.stands

pub deallocate-requires-clause-out : goal.deallocate-requires-clause-out
deallocate-requires-clause-out g c =
    let k : min c.args.n c.args.b.now.len ≤ c.args.n = omega arith in
    (copied-across _ _ _ _ _ _ _ _ _ _ (record { made_holder = g.met.H.Layer.made c.args.holder.now; made_other = g.met.O.Layer.made c.args.other.now; beside = c.requires.beside; holder = c.requires.holder_stands; other = c.requires.other_stands; other_open = c.requires.other_opened; out = c.requires.out; marked = c.requires.marked }) c.in-Some.ensures (rw c.min.ensures k) c.copy.ensures.copied c.copy.ensures.after).holder.out c.args.b.now c.requires.out tt

pub deallocate-requires-clause-marked : goal.deallocate-requires-clause-marked
deallocate-requires-clause-marked g c =
    let k : min c.args.n c.args.b.now.len ≤ c.args.n = omega arith in
    ((copied-across _ _ _ _ _ _ _ _ _ _ (record { made_holder = g.met.H.Layer.made c.args.holder.now; made_other = g.met.O.Layer.made c.args.other.now; beside = c.requires.beside; holder = c.requires.holder_stands; other = c.requires.other_stands; other_open = c.requires.other_opened; out = c.requires.out; marked = c.requires.marked }) c.in-Some.ensures (rw c.min.ensures k) c.copy.ensures.copied c.copy.ensures.after).holder.stays c.args.b.now c.requires.out tt).marked c.requires.marked

pub returns-in-None : goal.returns-in-None
returns-in-None g c =
    stays-unmoved _ _ _ _ _ _ _ (record { made_holder = g.met.H.Layer.made c.args.holder.now; made_other = g.met.O.Layer.made c.args.other.now; beside = c.requires.beside; holder = c.requires.holder_stands; other = c.requires.other_stands; other_open = c.requires.other_opened; out = c.requires.out; marked = c.requires.marked }) c.in-None.ensures

pub returns-in-Some : goal.returns-in-Some
returns-in-Some g c =
    moves _ _ _ _ _ _ _ _ _ _ _ _ _ (record { made_holder = g.met.H.Layer.made c.args.holder.now; made_other = g.met.O.Layer.made c.args.other.now; beside = c.requires.beside; holder = c.requires.holder_stands; other = c.requires.other_stands; other_open = c.requires.other_opened; out = c.requires.out; marked = c.requires.marked }) c.in-Some.ensures c.min.ensures c.copy.ensures.copied c.copy.ensures.after c.deallocate.ensures
