use Rattle.std.proofs.Common.{◌∙◌, ℕ, ◌+◌, ◌<◌, List, length, set, take, sym, ap, arith}
use Rattle.std.proofs.lemmas.List.{take_all}
use Rattle.space_core.specs.Memory.{Memory}
use Rattle.space_core.specs.Words.{write_from}
use Rattle.space_core.proofs.Writes.{length-write_from}
use Rattle.heap_core.proofs.ByteLemmas.{written-next}
use Rattle.heap_core.proofs.heap.put_bytes.Goals as goal

pub set_byte-requires : goal.set_byte-requires
set_byte-requires c =
    let size = ap (λ (m : Memory). length m.bytes) c.loop-k.invariant ∙ length-write_from c.args.space.now.bytes c.args.place (take c.loop-k.k c.args.bytes.now) in
    omega (arith, size, c.requires.inside, c.loop-k-test.true, c.len-k-end.ensures.len)

pub loop-k-preserved : goal.loop-k-preserved
loop-k-preserved c =
    let old = c.args.space.now in
    let more : c.loop-k.k < length c.args.bytes.now = omega (arith, c.loop-k-test.true, c.len-k-end.ensures.len) in
    c.set_byte.ensures.after
    ∙ (ap (λ (m : Memory). let u : Memory = record m { bytes = set m.bytes (c.args.place + c.loop-k.k) c.at.result } in u) c.loop-k.invariant
    ∙ ap (λ (bytes : List ℕ). let u : Memory = record old { bytes = bytes } in u) (sym (written-next old.bytes c.args.place c.loop-k.k c.args.bytes.now c.at.result more c.at.ensures)))

pub returns : goal.returns
returns c =
    let old = c.args.space.now in
    let whole = take_all c.loop-k.k c.args.bytes.now (omega (arith, c.loop-k-test.false, c.len-k-end.ensures.len)) in
    c.loop-k.invariant ∙ ap (λ (given : List ℕ). let u : Memory = record old { bytes = write_from old.bytes c.args.place given } in u) whole
