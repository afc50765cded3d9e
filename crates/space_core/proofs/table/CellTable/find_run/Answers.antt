use Rattle.std.proofs.Common.{length, ap, sym, ◌∙◌, arith}
use Rattle.space_core.proofs.CellRuns.{length-row}
use Rattle.space_core.proofs.TableRuns.{told-some, told-none, none-past, search-none, search-some, search-next}
use Rattle.space_core.proofs.table.CellTable.find_run.Goals as goal

pub returns-then-cells-len-clause-first : goal.returns-then-cells-len-clause-first
returns-then-cells-len-clause-first c =
    search-none c.args.align c.args.self.now c.args.cells 0 (λ i l a f. absurd (omega arith)) (λ i l f. none-past c.args.self.now c.args.cells i c.requires.some (omega (arith, c.if-cells-len.true, c.len.ensures, ap length c.self.view_is)) f)

pub loop-from-init : goal.loop-from-init
loop-from-init c = λ i l a f. absurd (omega arith)

pub returns-in_err-at-clause-first : goal.returns-in_err-at-clause-first
returns-in_err-at-clause-first c =
    c.from_residual.ensures ∙ search-none c.args.align c.args.self.now c.args.cells c.loop-from.from c.loop-from.invariant (told-none c.self.inside.tags.items c.args.self.now c.self.inside.free c.loop-from.from c.args.cells c.self.invariant c.self.view_is c.requires.some c.in_err-at.ensures)

pub is_aligned-requires : goal.is_aligned-requires
is_aligned-requires c =
    let s = told-some c.self.inside.tags.items c.args.self.now c.self.inside.free c.loop-from.from c.args.cells c.in_ok-at.field-0 c.self.invariant c.self.view_is c.requires.some c.in_ok-at.ensures in
    omega (arith, s.inside, c.self.invariant.most, ap length c.self.view_is)

pub returns-then-is_aligned-clause-first : goal.returns-then-is_aligned-clause-first
returns-then-is_aligned-clause-first c =
    let s = told-some c.self.inside.tags.items c.args.self.now c.self.inside.free c.loop-from.from c.args.cells c.in_ok-at.field-0 c.self.invariant c.self.view_is c.requires.some c.in_ok-at.ensures in
    search-some c.args.align c.args.self.now c.args.cells c.loop-from.from c.in_ok-at.field-0 c.requires.some c.loop-from.invariant s (sym c.is_aligned.ensures ∙ c.if-is_aligned.true)

pub returns-then-is_aligned-clause-within : goal.returns-then-is_aligned-clause-within
returns-then-is_aligned-clause-within c =
    (told-some c.self.inside.tags.items c.args.self.now c.self.inside.free c.loop-from.from c.args.cells c.in_ok-at.field-0 c.self.invariant c.self.view_is c.requires.some c.in_ok-at.ensures).inside

pub next_aligned-from-requires-clause-cell : goal.next_aligned-from-requires-clause-cell
next_aligned-from-requires-clause-cell c =
    let s = told-some c.self.inside.tags.items c.args.self.now c.self.inside.free c.loop-from.from c.args.cells c.in_ok-at.field-0 c.self.invariant c.self.view_is c.requires.some c.in_ok-at.ensures in
    omega (arith, s.inside, c.requires.some, c.self.invariant.most, ap length c.self.view_is)

pub overflow_cast-from : goal.overflow_cast-from
overflow_cast-from c =
    let s = told-some c.self.inside.tags.items c.args.self.now c.self.inside.free c.loop-from.from c.args.cells c.in_ok-at.field-0 c.self.invariant c.self.view_is c.requires.some c.in_ok-at.ensures in
    omega (arith, s.inside, c.self.invariant.most, ap length c.self.view_is, c.next_aligned-from.ensures.most)

pub loop-from-smaller : goal.loop-from-smaller
loop-from-smaller c =
    let s = told-some c.self.inside.tags.items c.args.self.now c.self.inside.free c.loop-from.from c.args.cells c.in_ok-at.field-0 c.self.invariant c.self.view_is c.requires.some c.in_ok-at.ensures in
    omega (arith, s.begins, s.inside, c.requires.some, c.next_aligned-from.ensures.behind)

pub loop-from-preserved : goal.loop-from-preserved
loop-from-preserved c =
    let s = told-some c.self.inside.tags.items c.args.self.now c.self.inside.free c.loop-from.from c.args.cells c.in_ok-at.field-0 c.self.invariant c.self.view_is c.requires.some c.in_ok-at.ensures in
    search-next c.args.align c.args.self.now c.args.cells c.loop-from.from c.in_ok-at.field-0 c.next_aligned-from.result c.loop-from.invariant s (sym c.is_aligned.ensures ∙ c.if-is_aligned.false) c.next_aligned-from.ensures.none

pub returns-clause-first : goal.returns-clause-first
returns-clause-first c =
    search-none c.args.align c.args.self.now c.args.cells c.loop-from.from c.loop-from.invariant (λ i l f. none-past c.args.self.now c.args.cells i c.requires.some (omega (arith, c.loop-from-test.false, c.len-in-loop-from.ensures, ap length c.self.invariant.taken, length-row c.self.inside.tags.items, ap length c.self.view_is, c.requires.some)) f)
