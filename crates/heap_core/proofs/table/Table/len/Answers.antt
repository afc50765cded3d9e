use Rattle.std.proofs.Common.{◌≡◌, ◌+◌, length, ap, ◌∙◌, arith}
use Rattle.heap_core.specs.Names.{in_order, together}
use Rattle.heap_core.proofs.TableLemmas.{length-parts}
use Rattle.heap_core.proofs.table.Table.len.Goals as goal

pub overflow_cast-result : goal.overflow_cast-result
overflow_cast-result c = omega (arith, length-parts c.self.inside.map.entries c.self.inside.others.items, c.self.invariant.kept.most, c.len.ensures.len)

pub overflow_cast-result-2 : goal.overflow_cast-result-2
overflow_cast-result-2 c = omega (arith, length-parts c.self.inside.map.entries c.self.inside.others.items, c.self.invariant.kept.most, c.len-2.ensures)

pub overflow_add-result : goal.overflow_add-result
overflow_add-result c = omega (arith, length-parts c.self.inside.map.entries c.self.inside.others.items, c.self.invariant.kept.most, c.len.ensures.len, c.len-2.ensures)

pub returns-clause-len : goal.returns-clause-len
returns-clause-len c =
    let all : c.len.result + c.len-2.result ≡ length (in_order (together c.self.inside.map.entries c.self.inside.others.items)) = omega (arith, length-parts c.self.inside.map.entries c.self.inside.others.items, c.len.ensures.len, c.len-2.ensures) in
    all ∙ ap length c.self.view_is

pub returns-clause-most : goal.returns-clause-most
returns-clause-most c = omega (arith, length-parts c.self.inside.map.entries c.self.inside.others.items, c.self.invariant.kept.most, c.len.ensures.len, c.len-2.ensures)
