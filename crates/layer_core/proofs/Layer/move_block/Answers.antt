use Rattle.std.proofs.Common.{◌≤◌, min, arith}
use Rattle.layer_laws.proofs.StandingLaws.{allocated-stands, allocated-gives, allocated-keeps_out, out-in_space}
use Rattle.layer_laws.proofs.Moving.{copied-to, done-move}
use Rattle.layer_core.proofs.Layer.move_block.Goals as goal

pub copy-requires-clause-source : goal.copy-requires-clause-source
copy-requires-clause-source g c =
    let l = g.met.Self.Layer.made c.args.self.now in
    let a = c.in-Some.ensures in
    let o = allocated-keeps_out _ _ _ _ _ _ l c.requires.stands c.requires.opened a c.args.b.now c.requires.out in
    let r = out-in_space _ _ _ (g.met.Self.Layer.made c.allocate.new.self) (allocated-stands _ _ _ _ _ _ l c.requires.stands c.requires.opened a) o in
    rw c.min.ensures (omega (arith, r))

pub copy-requires-clause-target : goal.copy-requires-clause-target
copy-requires-clause-target g c =
    let l = g.met.Self.Layer.made c.args.self.now in
    let a = c.in-Some.ensures in
    let n = allocated-gives _ _ _ _ _ _ l c.requires.stands c.requires.opened a in
    let r = out-in_space _ _ _ (g.met.Self.Layer.made c.allocate.new.self) (allocated-stands _ _ _ _ _ _ l c.requires.stands c.requires.opened a) n.out in
    rw c.min.ensures (omega (arith, r, n.len))

pub deallocate-requires-clause-stands : goal.deallocate-requires-clause-stands
deallocate-requires-clause-stands g c =
    let k : min c.args.n c.args.b.now.len ≤ c.args.n = omega arith in
    (copied-to _ _ _ _ _ _ _ _ _ (g.met.Self.Layer.made c.args.self.now) c.requires.stands c.requires.opened c.requires.out c.requires.marked c.in-Some.ensures (rw c.min.ensures k) c.copy.ensures.copied c.copy.ensures.after).stands

pub deallocate-requires-clause-out : goal.deallocate-requires-clause-out
deallocate-requires-clause-out g c =
    let k : min c.args.n c.args.b.now.len ≤ c.args.n = omega arith in
    (copied-to _ _ _ _ _ _ _ _ _ (g.met.Self.Layer.made c.args.self.now) c.requires.stands c.requires.opened c.requires.out c.requires.marked c.in-Some.ensures (rw c.min.ensures k) c.copy.ensures.copied c.copy.ensures.after).out

pub deallocate-requires-clause-marked : goal.deallocate-requires-clause-marked
deallocate-requires-clause-marked g c =
    let k : min c.args.n c.args.b.now.len ≤ c.args.n = omega arith in
    (copied-to _ _ _ _ _ _ _ _ _ (g.met.Self.Layer.made c.args.self.now) c.requires.stands c.requires.opened c.requires.out c.requires.marked c.in-Some.ensures (rw c.min.ensures k) c.copy.ensures.copied c.copy.ensures.after).marked

pub returns-in-Some : goal.returns-in-Some
returns-in-Some g c =
    let k : min c.args.n c.args.b.now.len ≤ c.args.n = omega arith in
    let x = copied-to _ _ _ _ _ _ _ _ _ (g.met.Self.Layer.made c.args.self.now) c.requires.stands c.requires.opened c.requires.out c.requires.marked c.in-Some.ensures (rw c.min.ensures k) c.copy.ensures.copied c.copy.ensures.after in
    done-move _ _ _ _ _ _ _ _ _ _ _ _ (g.met.Self.Layer.made c.args.self.now) c.requires.stands c.requires.opened c.requires.out c.in-Some.ensures c.min.ensures c.copy.ensures.copied x c.deallocate.ensures
