use Rattle.std.proofs.Common.{◌≡◌, ◌+◌, ◌-◌, ◌/◌, ◌%◌, arith, sym, ◌∙◌}
use Rattle.space_core.specs.Cells.{cell_behind, more_cells}
use Rattle.space_core.proofs.CellRuns.{behind-inside}
use Rattle.space_core.proofs.Space.grow.Goals as goal

pub put_tag-requires : goal.put_tag-requires
put_tag-requires c =
    let p = c.args.place in
    let n = c.args.bytes in
    let m = c.args.more in
    let a : p / 64 + (p % 64 + n + 63) / 64 ≡ cell_behind p n = omega arith in
    let k : (p % 64 + n + m + 63) / 64 - (p % 64 + n + 63) / 64 ≡ more_cells p n m = omega arith in
    let i = behind-inside c.args.tag p n m c.args.self.now.cells c.requires.has c.requires.some (rw (c.tags.ensures.tags, a, k) at (sym c.is_free.ensures ∙ c.if-not-is_free.false)) in
    omega (arith, i)
