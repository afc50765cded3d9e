use Rattle.std.proofs.Common.{◌≡◌, sym, true, false, arith}
use Rattle.size_round.specs.Sizes.{is_between}
use Rattle.free_list.proofs.Serving.{passes, asks-at, serves-at}
use Rattle.free_list.proofs.Standing.{here, parent-stands}
use Rattle.free_list.proofs.caching.FreeListLayer.allocate.Goals as goal

pub allocate-requires-clause-stands : goal.allocate-requires-clause-stands
allocate-requires-clause-stands g c =
    let l = c.args.self.now in
    parent-stands l.least l.greatest l.chain (g.P.Layer.model l.parent) c.args.space.now (here g.met.P.Layer.made l c.args.space.now c.requires.stands)

pub returns-then-not-is_cached : goal.returns-then-not-is_cached
returns-then-not-is_cached g c =
    let l = c.args.self.now in
    let e : is_between l.least l.greatest c.args.n ≡ false = sym c.if-not-is_cached.ensures in
    passes l.least l.greatest c.args.n l.chain (g.P.Layer.model l.parent) (g.P.Layer.model c.allocate.new.self) c.args.space.now c.allocate.new.space c.allocate.result
    (here g.met.P.Layer.made l c.args.space.now c.requires.stands) c.requires.opened (omega (arith, c.if-n-eq0.false)) c.if-n-gt-LIMIT.false e c.allocate.ensures

pub returns-in-Some-allocate : goal.returns-in-Some-allocate
returns-in-Some-allocate g c =
    let l = c.args.self.now in
    let e : is_between l.least l.greatest c.args.n ≡ true = sym c.if-not-is_cached.ensures in
    asks-at l.least l.greatest c.args.n l.chain c.in-Some.chain (g.P.Layer.model l.parent) _ c.args.space.now _ _ c.in-Some.is
    (here g.met.P.Layer.made l c.args.space.now c.requires.stands) (omega (arith, c.if-n-eq0.false)) c.if-n-gt-LIMIT.false e c.if-chain-eq0.true c.in-Some-allocate.ensures

pub returns : goal.returns
returns g c =
    let l = c.args.self.now in
    let e : is_between l.least l.greatest c.args.n ≡ true = sym c.if-not-is_cached.ensures in
    rw c.word.ensures
    (serves-at l.least l.greatest c.args.n l.chain c.in-Some.chain (g.P.Layer.model l.parent) c.args.space.now c.in-Some.is
    (here g.met.P.Layer.made l c.args.space.now c.requires.stands) (omega (arith, c.if-n-eq0.false)) c.if-n-gt-LIMIT.false e (omega (arith, c.if-chain-eq0.false)))
