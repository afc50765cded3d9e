use Rattle.std.proofs.Common.{◌≡◌, ◌+◌, ap, ◌∙◌, arith}
use Rattle.layer_rules.specs.declared.Block.{Block}
use Rattle.heap_core.specs.Names.{asked_by, in_order, together}
use Rattle.heap_core.proofs.NameLemmas.{sum-fits}
use Rattle.heap_core.proofs.TableLemmas.{sum-parts}
use Rattle.heap_core.proofs.table.Table.asked.Goals as goal

pub asked_in_map-requires : goal.asked_in_map-requires
asked_in_map-requires c =
    let table = c.self.invariant.kept in
    omega (arith, sum-fits (λ x. x.block.len) _ table table.short, sum-parts (λ (b : Block). b.len) c.self.inside.map.entries c.self.inside.others.items)

pub asked_among-requires : goal.asked_among-requires
asked_among-requires c =
    let table = c.self.invariant.kept in
    rw c.deref.ensures.value (omega (arith, sum-fits (λ x. x.block.len) _ table table.short, sum-parts (λ (b : Block). b.len) c.self.inside.map.entries c.self.inside.others.items))

pub overflow_add-result : goal.overflow_add-result
overflow_add-result c =
    let table = c.self.invariant.kept in
    let among : c.asked_among.result ≡ asked_by c.self.inside.others.items = c.asked_among.ensures ∙ ap asked_by c.deref.ensures.value in
    omega (arith, sum-fits (λ x. x.block.len) _ table table.short, sum-parts (λ (b : Block). b.len) c.self.inside.map.entries c.self.inside.others.items, among, c.asked_in_map.ensures)

pub returns : goal.returns
returns c =
    let among : c.asked_among.result ≡ asked_by c.self.inside.others.items = c.asked_among.ensures ∙ ap asked_by c.deref.ensures.value in
    let all : c.asked_in_map.result + c.asked_among.result ≡ asked_by (in_order (together c.self.inside.map.entries c.self.inside.others.items)) = omega (arith, sum-parts (λ (b : Block). b.len) c.self.inside.map.entries c.self.inside.others.items, among, c.asked_in_map.ensures) in
    all ∙ ap asked_by c.self.view_is
