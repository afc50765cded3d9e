-- Held: the memory that the fields of a Space stand for.
use Rattle.std.specs.Prelude.{ℕ, List, []}
use Rattle.std.specs.Borrow.{Lends, MutBor, Fml, Array, u8}
use Rattle.std.specs.Vec.{with_items_from}
use Rattle.space_core.specs.Memory.{Memory}
use Rattle.space_core.specs.contracts.store.Store.{the_row}
use Rattle.space_core.specs.declared.store.Store.{Store}
use Rattle.space_core.specs.declared.store.Store.TheVariants.{Closed, Open}

-- the bytes and the tags, of which there are none before the memory is taken
abbrev pub held_bytes : Store → List ℕ
held_bytes (Closed none) = []
held_bytes (Open bytes table) = bytes.items

abbrev pub held_tags : Store → List ℕ
held_tags (Closed none) = []
held_tags (Open bytes table) = table

abbrev pub held_memory : Store → (leaves : ℕ) → Memory
held_memory store leaves = record { bytes = held_bytes store; cells = record { tags = held_tags store }; leaves = leaves }

-- the store with a list written over the bytes from a place on
abbrev pub with_bytes_from : Store → (place : ℕ) → List ℕ → Store
with_bytes_from (Closed none) place written = Closed written
with_bytes_from (Open bytes table) place written = Open (with_items_from bytes place written) table

-- the store ends with what is written behind the reference, which is to its bytes from a place on
abbrev pub LendsBytes : MutBor Store → (place : ℕ) → MutBor (List ℕ) → Fml
LendsBytes store place lent = Lends the_row (Array u8 0) store lent (with_bytes_from store.now place)
