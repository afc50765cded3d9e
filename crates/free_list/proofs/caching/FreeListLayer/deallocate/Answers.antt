use Rattle.std.proofs.Common.{◌≡◌, sym, false, arith}
use Rattle.size_round.specs.Sizes.{is_between}
use Rattle.free_list.proofs.Standing.{here, parent-stands}
use Rattle.free_list.proofs.Taking.{passes, word-room-at, few-at, caches-at}
use Rattle.free_list.proofs.caching.FreeListLayer.deallocate.Goals as goal

pub deallocate-requires-clause-stands : goal.deallocate-requires-clause-stands
deallocate-requires-clause-stands g c =
    let l = c.args.self.now in
    parent-stands l.least l.greatest l.chain (g.P.Layer.model l.parent) c.args.space.now (here g.met.P.Layer.made l c.args.space.now c.requires.stands)

pub returns-then-not-is_cached : goal.returns-then-not-is_cached
returns-then-not-is_cached g c =
    let l = c.args.self.now in
    let e : is_between l.least l.greatest c.args.b.len ≡ false = sym c.if-not-is_cached.ensures in
    passes l.least l.greatest l.chain (g.P.Layer.model l.parent) (g.P.Layer.model c.deallocate.new.self) c.args.space.now c.deallocate.new.space c.args.b c.deallocate.result
    (here g.met.P.Layer.made l c.args.space.now c.requires.stands) c.requires.opened c.requires.out e c.deallocate.ensures

pub set_word-requires : goal.set_word-requires
set_word-requires g c =
    let l = c.args.self.now in
    word-room-at l.least l.greatest l.chain c.in-Some.chain (g.P.Layer.model l.parent) c.args.space.now c.args.b c.in-Some.is
    (record { here = here g.met.P.Layer.made l c.args.space.now c.requires.stands; out = c.requires.out; marked = c.requires.marked; ranged = sym c.if-not-is_cached.ensures })

pub overflow_add-self : goal.overflow_add-self
overflow_add-self g c =
    let l = c.args.self.now in
    let k = few-at l.least l.greatest l.chain c.in-Some.chain (g.P.Layer.model l.parent) c.args.space.now c.args.b c.in-Some.is
    (record { here = here g.met.P.Layer.made l c.args.space.now c.requires.stands; out = c.requires.out; marked = c.requires.marked; ranged = sym c.if-not-is_cached.ensures }) in
    omega (arith, k)

pub returns : goal.returns
returns g c =
    let l = c.args.self.now in
    caches-at l.least l.greatest l.chain c.in-Some.chain (g.P.Layer.model l.parent) c.args.space.now _ c.args.b c.in-Some.is
    (record { here = here g.met.P.Layer.made l c.args.space.now c.requires.stands; out = c.requires.out; marked = c.requires.marked; ranged = sym c.if-not-is_cached.ensures }) (omega arith) c.set_word.ensures.after
