-- Moves: the block machine. It knows names, blocks, bytes and routes, and nothing of layers but the alignment of places.
use Rattle.std.specs.Prelude.{ℕ, ◌+◌, ◌*◌, ◌%◌, ◌≡◌, ◌≢◌, ◌≤◌, ◌⊎◌, Bool, true, false, List, [], Some, None, length, replicate, slice_range, nat_eq}
use Rattle.std.specs.List.{starts_with}
use Rattle.space_core.specs.Cells.{cell_size}
use Rattle.space_core.specs.Words.{write_from}
use Rattle.layer_rules.specs.declared.Block.{Block}
use Rattle.layer_rules.specs.Blocks.{block, with_len, end_of, is_apart}
use Rattle.layer_rules.specs.Rows.{Each}
use Rattle.heap_core.specs.declared.Call.{Call}
use Rattle.heap_core.specs.declared.Call.TheVariants.{Allocate, Aligned, Expand, Reallocate, Free, FreeAll, Owns, OwnsAt, Good, Write, Read}
use Rattle.heap_core.specs.declared.Answer.{Answer}
use Rattle.heap_core.specs.World.{World, Live, live, live_at, without, resized}
use Rattle.heap_core.specs.declared.Answer.TheVariants as answers

-- the block lies in an area of so many cells, and no byte of it is a live block's
pub record Fits (cells : ℕ) (w : World) (b : Block) : Type 0 where
  pub inside : end_of b ≤ cell_size * cells
  pub apart : Each (λ (x : Live). is_apart b x.block ≡ true) w

-- the most steps of a route
abbrev pub most_steps : ℕ
most_steps = 8

-- each other name keeps its block, its bytes and its route
pub record KeepsOthers (name : ℕ) (old new : World) : Type 0 where
  pub at : (other : ℕ) → other ≢ name → live_at new other ≡ live_at old other

-- a new block, as long as asked, of zeros, with some route of at most eight steps
pub record Places (align cells : ℕ) (old new : World) (name size place : ℕ) : Type 0 where
  pub route : List ℕ
  pub short : length route ≤ most_steps
  pub fresh : live_at old name ≡ None
  pub some : 1 ≤ size
  pub fits : Fits cells old (block place size)
  pub aligned : place % align ≡ 0
  pub now : live_at new name ≡ Some (live name (block place size) (replicate size 0) route)
  pub others : KeepsOthers name old new

-- The block that was live under the name is this one then, on this route. It fits beside the others, the bytes that both
-- lengths have are kept, and zeros follow.
pub record Resizes (align cells : ℕ) (old new : World) (name : ℕ) (was : Live) (b : Block) (route : List ℕ) : Type 0 where
  pub found : live_at old name ≡ Some was
  pub some : 1 ≤ b.len
  pub fits : Fits cells (without name old) b
  pub aligned : b.place % align ≡ 0
  pub now : live_at new name ≡ Some (live name b (resized was b.len) route)
  pub others : KeepsOthers name old new

-- it is longer, at the same place and on the same route
pub record Grows (align cells : ℕ) (old new : World) (name delta : ℕ) : Type 0 where
  pub was : Live
  pub grows : Resizes align cells old new name was (with_len was.block (was.block.len + delta)) was.route

-- It has the length that was asked, where it stood or apart from there, on a route of at most eight steps, which is the old
-- one where it had that length.
pub record Relocates (align cells : ℕ) (old new : World) (name size place : ℕ) : Type 0 where
  pub was : Live
  pub route : List ℕ
  pub gets : Resizes align cells old new name was (block place size) route
  pub short : length route ≤ most_steps
  pub same : size ≡ was.block.len → route ≡ was.route
  pub where_to : (place ≡ was.block.place) ⊎ (is_apart (block place size) was.block ≡ true)

-- the name isn't live then
pub record Frees (old new : World) (name : ℕ) : Type 0 where
  pub gone : live_at new name ≡ None
  pub others : KeepsOthers name old new

-- a live block is asked for, and nothing changes
pub record AsksFor (old new : World) (name : ℕ) : Type 0 where
  pub was : Live
  pub found : live_at old name ≡ Some was
  pub same : new ≡ old

-- a live block is asked for along a path, and is there exactly where its route begins with that; nothing changes
pub record AsksAlong (old new : World) (name : ℕ) (path : List ℕ) (said : Bool) : Type 0 where
  pub asks : AsksFor old new name
  pub exact : said ≡ starts_with nat_eq asks.was.route path

-- so many bytes from the offset on are the given ones then, and the block's others are as before
pub record Puts (old new : World) (name offset : ℕ) (given : List ℕ) : Type 0 where
  pub was : Live
  pub found : live_at old name ≡ Some was
  pub inside : offset + length given ≤ was.block.len
  pub now : live_at new name ≡ Some (live name was.block (write_from was.bytes offset given) was.route)
  pub others : KeepsOthers name old new

-- so many bytes from the offset on are these
pub record Gets (old new : World) (name offset len : ℕ) (bytes : List ℕ) : Type 0 where
  pub asks : AsksFor old new name
  pub inside : offset + len ≤ asks.was.block.len
  pub read : bytes ≡ slice_range asks.was.bytes offset (offset + len)

-- In an area of so many cells, with places at multiples of this number, the call may be answered so and lead from old to new.
abbrev pub Moves : (align cells : ℕ) (old : World) → Call → Answer → (new : World) → Type 0
Moves align cells old (Allocate name size) (answers.Placed place) new = Places align cells old new name size place
Moves align cells old (Allocate name size) answers.Null new = new ≡ old
Moves align cells old (Aligned name size multiple) (answers.Placed place) new = Places align cells old new name size place × (place % multiple ≡ 0)
Moves align cells old (Aligned name size multiple) answers.Null new = new ≡ old
Moves align cells old (Expand name delta) (answers.Said true) new = Grows align cells old new name delta
Moves align cells old (Expand name delta) (answers.Said false) new = new ≡ old
Moves align cells old (Reallocate name size) (answers.Moved place) new = Relocates align cells old new name size place
Moves align cells old (Reallocate name size) answers.Gone new = (size ≡ 0) × Frees old new name
Moves align cells old (Reallocate name size) (answers.Said false) new = new ≡ old
Moves align cells old (Free name) (answers.Said said) new = Frees old new name
Moves align cells old FreeAll answers.Done new = new ≡ []
Moves align cells old (Owns name) (answers.Said true) new = AsksFor old new name
Moves align cells old (OwnsAt name path) (answers.Said said) new = AsksAlong old new name path said
Moves align cells old (Good size) (answers.Size good) new = (size ≤ good) × (new ≡ old)
Moves align cells old (Write name offset given) answers.Done new = Puts old new name offset given
Moves align cells old (Read name offset len) (answers.Bytes bytes) new = Gets old new name offset len bytes
-- no other answer is given
Moves align cells old _ _ new = ⊥
