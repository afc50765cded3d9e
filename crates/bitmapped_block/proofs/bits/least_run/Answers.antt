use Rattle.std.proofs.Common.{◌+◌, ap, sym, ◌∙◌, subst, ℕ, arith}
use Rattle.bitmapped_block.specs.UnitBits.{units_at, IsNext}
use Rattle.bitmapped_block.proofs.RowBits.{units-length}
use Rattle.std.proofs.Common.{true}
use Rattle.bitmapped_block.proofs.Seeking.{none-at_first, none-over, none-up_to, run-found, run-none}
use Rattle.bitmapped_block.proofs.bits.least_run.Goals as goal

pub loop-at-init : goal.loop-at-init
loop-at-init c =
    let us = units_at c.args.space.now.bytes c.args.row in
    record { within = c.next-at.ensures.most; none = none-at_first c.args.n us c.args.row.count c.next-at.result c.requires.some c.next-at.ensures }

pub returns-then-end-at : goal.returns-then-end-at
returns-then-end-at c =
    let us = units_at c.args.space.now.bytes c.args.row in
    let at = c.loop-at.at in
    run-found c.args.n at c.args.row.count us c.requires.some (units-length c.args.space.now.bytes c.args.row c.requires.words.inside) c.loop-at-test.true c.loop-at.invariant.none
    (subst (λ (k : ℕ). IsNext true us at (at + c.args.n) k) c.if-end-at.true c.next-end.ensures)

pub loop-at-preserved : goal.loop-at-preserved
loop-at-preserved c =
    let us = units_at c.args.space.now.bytes c.args.row in
    let at = c.loop-at.at in
    let most = c.next-end.ensures.most in
    let over = none-over c.args.n us at c.next-end.result c.loop-at.invariant.none c.next-end.ensures (omega (arith, c.if-end-at.false)) in
    record {
      within = c.next-at-in-loop-at.ensures.most;
      none = none-up_to c.args.n us c.next-end.result c.args.row.count c.next-at-in-loop-at.result c.requires.some over c.next-at-in-loop-at.ensures;
    }

pub returns : goal.returns
returns c =
    let us = units_at c.args.space.now.bytes c.args.row in
    run-none c.args.n c.loop-at.at c.args.row.count us c.requires.some (units-length c.args.space.now.bytes c.args.row c.requires.words.inside) c.loop-at-test.false c.loop-at.invariant.none
