use Rattle.std.proofs.Common.{sym, ◌∙◌, arith}
use Rattle.heap_core.proofs.Asking.{read-not_live, read-out, read-room, read-bytes}
use Rattle.heap_core.proofs.heap.Heap.read.Goals as goal

pub returns-in_default : goal.returns-in_default
returns-in_default g c = read-not_live _ _ _ _ _ _ c.requires.held (sym c.find.ensures.block ∙ c.in_default.is)

pub returns-then-not-is_inside : goal.returns-then-not-is_inside
returns-then-not-is_inside g c = read-out _ _ _ _ _ _ _ c.requires.held (sym c.in-Some.ensures.block) (sym c.is_inside.ensures ∙ c.if-not-is_inside.true)

pub overflow_add-block : goal.overflow_add-block
overflow_add-block g c =
    let memory = c.requires.held.stands.memory in
    let room = read-room _ _ _ _ c.args.offset c.args.len _ c.requires.held (sym c.in-Some.ensures.block) (sym c.is_inside.ensures ∙ c.if-not-is_inside.false) in
    omega (arith, room, memory.sizes, memory.cells)

pub bytes_at-bytes-requires-clause-memory : goal.bytes_at-bytes-requires-clause-memory
bytes_at-bytes-requires-clause-memory g c = c.requires.held.stands.memory

pub bytes_at-bytes-requires-clause-inside : goal.bytes_at-bytes-requires-clause-inside
bytes_at-bytes-requires-clause-inside g c = read-room _ _ _ _ _ _ _ c.requires.held (sym c.in-Some.ensures.block) (sym c.is_inside.ensures ∙ c.if-not-is_inside.false)

pub returns : goal.returns
returns g c =
    read-bytes _ _ _ _ _ _ _ c.requires.held (sym c.in-Some.ensures.block) (sym c.is_inside.ensures ∙ c.if-not-is_inside.false) _ c.requires.call c.bytes_at-bytes.ensures
