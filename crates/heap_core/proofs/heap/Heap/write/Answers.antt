use Rattle.std.proofs.Common.{sym, ap, ◌∙◌, ◌+◌, nat_le, arith}
use Rattle.heap_core.proofs.Changing.{write-not_live, write-out, write-room, write-done}
use Rattle.heap_core.proofs.heap.Heap.write.Goals as goal

pub returns-in_default : goal.returns-in_default
returns-in_default g c = write-not_live _ _ _ _ _ _ c.requires (sym c.find.ensures.block ∙ c.in_default.is)

pub returns-then-not-is_inside : goal.returns-then-not-is_inside
returns-then-not-is_inside g c =
    write-out _ _ _ _ _ _ _ c.requires (sym c.in-Some.ensures.block) (ap (λ n. nat_le (c.args.offset + n) c.in-Some.block.len) (sym c.len.ensures.len) ∙ (sym c.is_inside.ensures ∙ c.if-not-is_inside.true))

pub overflow_add-block : goal.overflow_add-block
overflow_add-block g c =
    let memory = c.requires.stands.memory in
    let room = write-room _ _ _ _ _ c.args.bytes.now _ c.requires (sym c.in-Some.ensures.block) (ap (λ n. nat_le (c.args.offset + n) c.in-Some.block.len) (sym c.len.ensures.len) ∙ (sym c.is_inside.ensures ∙ c.if-not-is_inside.false)) in
    omega (arith, room, memory.sizes, memory.cells)

pub put_bytes-requires-clause-memory : goal.put_bytes-requires-clause-memory
put_bytes-requires-clause-memory g c = c.requires.stands.memory

pub put_bytes-requires-clause-inside : goal.put_bytes-requires-clause-inside
put_bytes-requires-clause-inside g c =
    write-room _ _ _ _ _ c.args.bytes.now _ c.requires (sym c.in-Some.ensures.block) (ap (λ n. nat_le (c.args.offset + n) c.in-Some.block.len) (sym c.len.ensures.len) ∙ (sym c.is_inside.ensures ∙ c.if-not-is_inside.false))

pub returns : goal.returns
returns g c =
    write-done _ _ _ _ _ _ _ c.requires (sym c.in-Some.ensures.block) (ap (λ n. nat_le (c.args.offset + n) c.in-Some.block.len) (sym c.len.ensures.len) ∙ (sym c.is_inside.ensures ∙ c.if-not-is_inside.false)) _ c.find.ensures.table c.put_bytes.ensures
