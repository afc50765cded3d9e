-- Carving: what is asked of a `Carving` so that its rules are regular and lawful over any parent that is.
use Rattle.std.specs.Prelude.{ℕ, ◌+◌, ◌≡◌, ◌≤◌, ◌<◌, ◌⊎◌, Bool, true, false, List, length, get_or, Option, is_none}
use Rattle.size_round.specs.Sizes.{limit}
use Rattle.size_round.specs.SizeMeanings.{IsMultiple, IsPower}
use Rattle.space_core.specs.Cells.{Cells}
use Rattle.layer_rules.specs.declared.Block.{Block}
use Rattle.layer_rules.specs.After.{After, after, Placed, refuse}
use Rattle.layer_rules.specs.Blocks.{block, end_of, is_apart, lies_in, with_len}
use Rattle.layer_rules.specs.Fields.{Kept}
use Rattle.layer_rules.specs.Rules.{Rules, HasSomeTags}
use Rattle.layer_rules.specs.State.{State, Own, closed, open_with, one_child, own_of, without_counts, uncounted}
use Rattle.layer_rules.specs.Unread.{own_unread}
use Rattle.layer_laws.specs.Carving.{Carving, carve, hold_instead, carving_rules}
use Rattle.layer_laws.specs.Lawful.{IsAlignment, IsRegular, IsLawful}

-- ---- what a call leaves

-- a block was carved at a place, and that place and what the layer holds of its own then are as they should be
pub record IsCarved (Fits : ℕ → Own → Type 0) (n : ℕ) (s : State) (cells : Cells) (r : After (Option Placed)) : Type 0 where
  pub place : ℕ
  pub own : Own
  pub leaves : r ≡ carve n place own s cells
  pub fits : Fits place own

-- a request changes nothing and is refused, or carves a block
abbrev pub Serves : (Fits : ℕ → Own → Type 0) (n : ℕ) (s : State) (cells : Cells) → After (Option Placed) → Type 0
Serves Fits n s cells r = (r ≡ refuse s cells) ⊎ IsCarved Fits n s cells r

-- what the layer holds of its own after a call is as it should be
pub record IsInstead (Fits : Own → Type 0) (s : State) (cells : Cells) (r : After Bool) : Type 0 where
  pub own : Own
  pub leaves : r ≡ hold_instead own s cells
  pub fits : Fits own

-- a call on a block changes nothing and is refused, or changes what the layer holds of its own
abbrev pub Changes : (Fits : Own → Type 0) (s : State) (cells : Cells) → After Bool → Type 0
Changes Fits s cells r = (r ≡ after false s cells) ⊎ IsInstead Fits s cells r

-- ---- what holds whatever its numbers are

abbrev pub AnyPlace : ℕ → Own → Type 0
AnyPlace p own = Unit {0}

abbrev pub AnyOwn : Own → Type 0
AnyOwn own = Unit {0}

-- calls change nothing but what the layer holds of its own
pub record ChangesItsOwn (c : Carving) : Type 0 where
  pub allocate : (n : ℕ) (s : State) (cells : Cells) → Serves AnyPlace n s cells (c.allocate n s cells)
  pub aligned_allocate : (n a : ℕ) (s : State) (cells : Cells) → Serves AnyPlace n s cells (c.aligned_allocate n a s cells)
  pub expand : (delta : ℕ) (b : Block) (s : State) (cells : Cells) → Changes AnyOwn s cells (c.expand delta b s cells)
  pub deallocate : (b : Block) (s : State) (cells : Cells) → Changes AnyOwn s cells (c.deallocate b s cells)

-- what is told of a block goes by nothing that is read from the bytes, and who is refused and what is held by no statistics
pub record GoesByNumbers (c : Carving) : Type 0 where
  pub read : (k : Kept) (x y : List ℕ) → own_unread (c.read k x) ≡ own_unread (c.read k y)
  pub room : (own : Own) → c.room (own_unread own) ≡ c.room own
  pub extent : (b : Block) (own : Own) → c.extent b (own_unread own) ≡ c.extent b own
  pub room_uncounted : (own : Own) → c.room (without_counts own) ≡ c.room own
  pub refuses : (n : ℕ) (own : Own) → c.refuses n (without_counts own) ≡ c.refuses n own
  pub refuses_aligned : (n a : ℕ) (own : Own) → c.refuses_aligned n a (without_counts own) ≡ c.refuses_aligned n a own

-- a tail that is served from is free in a closed layer, in one that was set up and between calls, and stays free as it serves
pub record KeepsTailFree (c : Carving) : Type 0 where
  pub shut : c.has_free_tail closed ≡ true
  pub first : (need : ℕ) (chunk : Block) (t : State) → c.has_free_tail (open_with (c.first need chunk) (one_child t)) ≡ true
  pub passes : (own : Own) (t : State) → c.is_own own ≡ true → c.passes own ≡ true → c.has_free_tail (open_with own (one_child t)) ≡ true
  pub allocate : (n : ℕ) (s : State) (cells : Cells) → c.has_free_tail s ≡ true → c.has_free_tail (c.allocate n s cells).state ≡ true
  pub uncounted : (s t : State) → uncounted s ≡ uncounted t → c.has_free_tail s ≡ c.has_free_tail t

pub record CarvesAnyhow (c : Carving) : Type 0 where
  pub changes : ChangesItsOwn c
  pub goes_by : GoesByNumbers c
  pub tail : KeepsTailFree c

-- ---- what it tells

-- A rounded length is enough, the alignment is one, and a request is refused exactly where the rule says so.
pub record TellsRight (c : Carving) : Type 0 where
  pub enough : (n : ℕ) → n ≤ c.rounded n
  pub aligned : IsAlignment c.alignment
  pub none : (n : ℕ) (s : State) (cells : Cells) → 1 ≤ n → c.has_free_tail s ≡ true → is_none (c.allocate n s cells).answer ≡ c.refuses n (own_of s)
  pub none_aligned : c.offers.aligned ≡ true → (n a : ℕ) (s : State) (cells : Cells) → 1 ≤ n → is_none (c.aligned_allocate n a s cells).answer ≡ c.refuses_aligned n a (own_of s)

pub record CarvesRegularly (c : Carving) : Type 0 where
  pub anyhow : CarvesAnyhow c
  pub tells : TellsRight c

-- ---- blocks in the chunk

-- What an open layer holds of its own between calls is of its kind and in order. Its chunk is one that a layer serves, at a multiple of the alignment.
pub record IsInOrder (c : Carving) (own : Own) : Type 0 where
  pub kind : c.is_own own ≡ true
  pub passes : c.passes own ≡ true
  pub bound : (c.chunk own).len ≤ limit
  pub aligned : IsMultiple (c.chunk own).place c.alignment

-- so after a call, over the same chunk
pub record StaysInOrder (c : Carving) (old new : Own) : Type 0 where
  pub kind : c.is_own new ≡ true
  pub passes : c.passes new ≡ true
  pub chunk : c.chunk new ≡ c.chunk old

-- a block of at least one byte is out
pub record IsOutIn (c : Carving) (b : Block) (own : Own) : Type 0 where
  pub some : 1 ≤ b.len
  pub out : c.is_out b own ≡ true

-- a block that was out is out still, with its extent
pub record StaysOut (c : Carving) (old new : Own) (b : Block) : Type 0 where
  pub out : c.is_out b new ≡ true
  pub extent : c.extent b new ≡ c.extent b old

-- the extents of two blocks have no byte in common
abbrev pub ApartIn : Carving → Own → (b d : Block) → Type 0
ApartIn c own b d = is_apart (c.extent b own) (c.extent d own) ≡ true

-- The block lies in its extent, this in the chunk, and the block in the room too; its place is aligned.
pub record LiesWell (c : Carving) (own : Own) (b : Block) : Type 0 where
  pub from : (c.extent b own).place ≤ b.place
  pub upto : end_of b ≤ end_of (c.extent b own)
  pub first : (c.chunk own).place ≤ (c.extent b own).place
  pub last : end_of (c.extent b own) ≤ end_of (c.chunk own)
  pub room : lies_in b (c.room own) ≡ true
  pub aligned : IsMultiple b.place c.alignment

pub record RoomInChunk (c : Carving) (own : Own) : Type 0 where
  pub from : (c.chunk own).place ≤ (c.room own).place
  pub upto : end_of (c.room own) ≤ end_of (c.chunk own)

-- ---- what calls keep and give

-- a new block of n bytes at the place p is out, and meets none that was
pub record CarvesNew (c : Carving) (old : Own) (n p : ℕ) (new : Own) : Type 0 where
  pub order : StaysInOrder c old new
  pub stays : (b : Block) → IsOutIn c b old → StaysOut c old new b
  pub out : c.is_out (block p n) new ≡ true
  pub fresh : (b : Block) → IsOutIn c b old → ApartIn c new (block p n) b

pub record CarvesNewAt (c : Carving) (old : Own) (n a p : ℕ) (new : Own) : Type 0 where
  pub carves : CarvesNew c old n p new
  pub aligned : IsMultiple p a

-- a block came back
pub record TakesBack (c : Carving) (old : Own) (b : Block) (new : Own) : Type 0 where
  pub order : StaysInOrder c old new
  pub stays : (d : Block) → IsOutIn c d old → ApartIn c old b d → StaysOut c old new d

-- a block grew by delta bytes where it stands
pub record GrowsThere (c : Carving) (old : Own) (b : Block) (delta : ℕ) (new : Own) : Type 0 where
  pub order : StaysInOrder c old new
  pub stays : (d : Block) → IsOutIn c d old → ApartIn c old b d → StaysOut c old new d
  pub out : c.is_out (with_len b (b.len + delta)) new ≡ true
  pub fresh : (d : Block) → IsOutIn c d old → ApartIn c old b d → ApartIn c new (with_len b (b.len + delta)) d

-- all blocks came back
pub record TakesAllBack (c : Carving) (old new : Own) : Type 0 where
  pub order : StaysInOrder c old new
  pub none : (b : Block) → IsOutIn c b new → ⊥

-- what the layer opens with over a chunk
pub record OpensWith (c : Carving) (given : Block) (own : Own) : Type 0 where
  pub kind : c.is_own own ≡ true
  pub passes : c.passes own ≡ true
  pub chunk : c.chunk own ≡ given

-- ---- its own bytes of the Space

-- each byte of the chunk that is in no block that is out stays
pub record BesideKept (c : Carving) (own : Own) (old new : List ℕ) : Type 0 where
  pub length_same : length new ≡ length old
  pub at : (i : ℕ) → (c.chunk own).place ≤ i → i < end_of (c.chunk own) → ((b : Block) → IsOutIn c b own → (i < b.place) ⊎ (end_of b ≤ i)) → get_or new i 0 ≡ get_or old i 0

-- the same is read, and its own bytes stand
pub record ReadsSame (c : Carving) (k : Kept) (old new : List ℕ) : Type 0 where
  pub read : c.read k new ≡ c.read k old
  pub image : c.is_image k (c.read k old) new ≡ true

-- ---- all that is asked

pub record Carves (c : Carving) (e : Rules) : Type 0 where
  pub regular : CarvesRegularly c
  -- the parent's blocks are aligned as these are
  pub below : c.alignment ≤ e.alignment
  -- what is set up, and where blocks lie
  pub opens : (need : ℕ) (chunk : Block) → chunk.len ≡ c.chunk_len need → OpensWith c chunk (c.first need chunk)
  pub room : (own : Own) → IsInOrder c own → RoomInChunk c own
  pub lies : (b : Block) (own : Own) → IsInOrder c own → IsOutIn c b own → LiesWell c own b
  -- what each call keeps and gives
  pub allocate : (n : ℕ) (own : Own) (t : State) (cells : Cells) → 1 ≤ n → IsInOrder c own
      → (let s = open_with own (one_child t) in Serves (CarvesNew c own n) n s cells (c.allocate n s cells))
  pub aligned_allocate : c.offers.aligned ≡ true → (n a : ℕ) (own : Own) (t : State) (cells : Cells) → 1 ≤ n → IsPower a → IsInOrder c own
      → (let s = open_with own (one_child t) in Serves (CarvesNewAt c own n a) n s cells (c.aligned_allocate n a s cells))
  pub expand : (delta : ℕ) (b : Block) (own : Own) (t : State) (cells : Cells) → IsInOrder c own → IsOutIn c b own
      → (let s = open_with own (one_child t) in Changes (GrowsThere c own b delta) s cells (c.expand delta b s cells))
  pub deallocate : (b : Block) (own : Own) (t : State) (cells : Cells) → IsInOrder c own → IsOutIn c b own
      → (let s = open_with own (one_child t) in Changes (TakesBack c own b) s cells (c.deallocate b s cells))
  pub deallocate_all : (own : Own) → IsInOrder c own → TakesAllBack c own (c.all_deallocated own)
  -- its own bytes are none of its blocks'
  pub beside : (k : Kept) (old new : List ℕ) → IsInOrder c (c.read k old) → c.is_image k (c.read k old) old ≡ true → BesideKept c (c.read k old) old new → ReadsSame c k old new

-- what a `Carving` that carves gives over a regular parent, and over one that is lawful too
abbrev pub CarvingIsRegular : Type 0
CarvingIsRegular = (c : Carving) (e : Rules) → CarvesRegularly c → IsRegular e → IsRegular (carving_rules c e)

abbrev pub CarvingIsLawful : Type 0
CarvingIsLawful = (c : Carving) (e : Rules) → Carves c e → HasSomeTags e → IsRegular e → IsLawful e → IsLawful (carving_rules c e)
