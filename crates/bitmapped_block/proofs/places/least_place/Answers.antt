use Rattle.std.proofs.Common.{◌≡◌, ◌+◌, ◌*◌, ◌-◌, ◌≤◌, ◌<◌, ◌∙◌, ap, sym, subst, ℕ, true, length, arith}
use Rattle.std.proofs.Math.Nat.{mul-le-mul_left}
use Rattle.size_round.proofs.UpLeast.{times_below}
use Rattle.bitmapped_block.specs.UnitBits.{units_at, IsNext}
use Rattle.bitmapped_block.proofs.RowBits.{units-length}
use Rattle.bitmapped_block.proofs.Placing.{at-first, behind-within, free-here, none-at_all, passed-over, moves-on}
use Rattle.bitmapped_block.proofs.places.least_place.Goals as goal

pub loop-place-init : goal.loop-place-init
loop-place-init c =
    let u = c.args.units in
    let some = c.requires.align_some in
    rw c.up-place.ensures
    (record {
      none = at-first u.size c.args.n c.args.align u.base (units_at c.args.space.now.bytes u.row) some;
      most = let b = times_below u.base c.args.align some in omega (arith, c.requires.units.end, c.requires.align_most);
    })

pub returns-then-taken-behind : goal.returns-then-taken-behind
returns-then-taken-behind c =
    let u = c.args.units in
    let us = units_at c.args.space.now.bytes u.row in
    let span = c.touched-span.result in
    free-here u.size c.args.n c.args.align u.base us c.loop-place.place span.first span.count c.requires.units.some c.requires.some c.requires.align_some c.loop-place.invariant.none c.touched-span.ensures.first c.touched-span.ensures.count
    (subst (λ (k : ℕ). IsNext true us span.first (span.first + span.count) k) c.if-taken-behind.true c.next-taken.ensures)

pub loop-place-smaller : goal.loop-place-smaller
loop-place-smaller c =
    let u = c.args.units in
    let us = units_at c.args.space.now.bytes u.row in
    let span = c.touched-span.result in
    let p = c.loop-place.place in
    let above = c.loop-place.invariant.none.above in
    let short : c.next-taken.result < span.first + span.count = (let m = c.next-taken.ensures.most in omega (arith, c.if-taken-behind.false)) in
    let b = behind-within u.size u.base p c.args.n u.row.count c.requires.units.some c.requires.some above c.loop-place-test.true in
    let upto : span.first + span.count ≤ u.row.count = omega (arith, c.touched-span.ensures.first, c.touched-span.ensures.count) in
    let on = moves-on u.size c.args.n c.args.align u.base us p span.first span.count c.next-taken.result c.next-free.result u.row.count c.requires.units.some c.requires.align_some above c.touched-span.ensures.first
    c.next-taken.ensures short upto c.next-free.ensures in
    let there = c.loop-place-test.true in
    let some = c.requires.some in
    let q = c.up-place-in-loop-place.ensures in
    omega (arith, on, q, there, some)

pub loop-place-preserved : goal.loop-place-preserved
loop-place-preserved c =
    let u = c.args.units in
    let us = units_at c.args.space.now.bytes u.row in
    let span = c.touched-span.result in
    let short : c.next-taken.result < span.first + span.count = (let m = c.next-taken.ensures.most in omega (arith, c.if-taken-behind.false)) in
    let k : u.size * c.next-free.result ≤ u.size * u.row.count = (let m = c.next-free.ensures.most in mul-le-mul_left u.size m) in
    let most = times_below (u.base + u.size * c.next-free.result) c.args.align c.requires.align_some in
    rw c.up-place-in-loop-place.ensures
    (record {
      none = passed-over u.size c.args.n c.args.align u.base us c.loop-place.place span.first span.count c.next-taken.result c.next-free.result u.row.count c.requires.units.some c.requires.some c.requires.align_some
          c.loop-place.invariant.none c.touched-span.ensures.first c.touched-span.ensures.count c.next-taken.ensures short c.next-free.ensures;
      most = omega (arith, c.requires.units.end, c.requires.align_most, k, most);
    })

pub returns : goal.returns
returns c =
    let u = c.args.units in
    let us = units_at c.args.space.now.bytes u.row in
    let l : length us ≡ u.row.count = units-length c.args.space.now.bytes u.row c.requires.words.inside in
    none-at_all u.size c.args.n c.args.align u.base us c.loop-place.place c.requires.units.some c.requires.some c.requires.align_some c.loop-place.invariant.none
    (subst (λ (k : ℕ). u.base + u.size * k < c.loop-place.place + c.args.n) (sym l) c.loop-place-test.false)
