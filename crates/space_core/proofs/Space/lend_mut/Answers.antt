use Rattle.std.proofs.Common.{ℕ, ◌≡◌, ◌+◌, List, length, take, drop, ◌++◌, slice_range, refl, sym, ap, ◌∙◌}
use Rattle.space_core.specs.Held.{held_bytes, held_memory, with_bytes_from}
use Rattle.space_core.specs.Memory.{Memory}
use Rattle.space_core.specs.Words.{write_from}
use Rattle.space_core.proofs.Writes.{write_from-nil, write_from-refill}
use Rattle.space_core.specs.declared.store.Store.{Store}
use Rattle.space_core.specs.declared.store.Store.TheVariants.{Closed, Open}
use Rattle.space_core.proofs.Space.lend_mut.Goals as goal

held_memory-written : (store : Store) (leaves place : ℕ) (written : List ℕ) → held_memory (with_bytes_from store place written) leaves ≡ record (held_memory store leaves) { bytes = write_from (held_bytes store) place written }
held_memory-written (Closed none) leaves place written =
    ap (λ bs. record (held_memory (Closed none) leaves) { bytes = bs }) (sym (write_from-nil place written))
held_memory-written (Open bytes table) leaves place written =
    let old = bytes.items in
    let all = take place old ++ (written ++ drop (length written) (drop place old)) in
    let cut = ap (λ n. take n (all ++ drop (length all) old)) bytes.ok.0 ∙ write_from-refill old place written (drop (length all) old) in
    ap (λ bs. record (held_memory (Open bytes table) leaves) { bytes = bs }) cut

pub returns : goal.returns
returns c =
    let store = c.self.inside.store in
    let place = c.args.place in (
      (
        refl,
        λ written. held_memory-written store c.self.inside.leaves place written ∙ ap {A = Memory} (λ m. record m { bytes = write_from m.bytes place written }) c.self.view_is,
      ),
      record {
        writes_back = tt;
        value = c.lend_mut.ensures.value ∙ ap (λ m. slice_range m.bytes place (place + c.args.len)) c.self.view_is;
      },
    )
