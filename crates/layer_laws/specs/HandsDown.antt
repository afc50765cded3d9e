-- Handing down: what is asked of a `Handing` so that its rules are regular and lawful over any parent that is.
use Rattle.std.specs.Prelude.{ℕ, ◌+◌, ◌-◌, ◌≡◌, ◌≤◌, ◌<◌, ◌⊎◌, Bool, true, false, List, length, get_or}
use Rattle.size_round.specs.Sizes.{limit}
use Rattle.layer_rules.specs.declared.Block.{Block}
use Rattle.layer_rules.specs.Blocks.{end_of, with_len}
use Rattle.layer_rules.specs.State.{Own, without_counts}
use Rattle.layer_rules.specs.After.{Reallocated, unmoved}
use Rattle.layer_rules.specs.Steady.{own_steady}
use Rattle.layer_rules.specs.Unread.{own_unread}
use Rattle.layer_rules.specs.Rules.{Rules, HasSomeTags}
use Rattle.layer_rules.specs.Handing.{Handing, handing_rules}
use Rattle.layer_laws.specs.Lawful.{IsAlignment, IsRegular, IsLawful}
use Rattle.size_round.specs.SizeMeanings.{IsMultiple}

-- the bytes of c that are not of b stay
pub record RoundKept (b c : Block) (old new : List ℕ) : Type 0 where
  pub length_same : length new ≡ length old
  pub at : (i : ℕ) → c.place ≤ i → i < end_of c → (i < b.place) ⊎ (end_of b ≤ i) → get_or new i 0 ≡ get_or old i 0

-- what the parent gives for n is shown as a block of n bytes, which is handed down as what was given
pub record IsShownBack (h : Handing) (n : ℕ) (b : Block) : Type 0 where
  pub fits : h.fits (h.shown n b) ≡ true
  pub back : h.down (h.shown n b) ≡ b
  pub len : (h.shown n b).len ≡ n

-- a block lies in what is handed down
pub record IsWider (h : Handing) (b : Block) : Type 0 where
  pub from : (h.down b).place ≤ b.place
  pub upto : end_of b ≤ end_of (h.down b)

-- a block that grows is handed down longer by what its length lacks there
pub record GrowsDown (h : Handing) (b : Block) (delta : ℕ) : Type 0 where
  pub fits : h.fits (with_len b (b.len + delta)) ≡ true
  pub down : h.down (with_len b (b.len + delta)) ≡ with_len (h.down b) ((h.down b).len + (h.asked (b.len + delta) - h.asked b.len))

-- a block that gets another length where it stands is handed down as before
pub record IsAsBefore (h : Handing) (b : Block) (n : ℕ) : Type 0 where
  pub fits : h.fits (with_len b n) ≡ true
  pub down : h.down (with_len b n) ≡ h.down b

-- a good size is enough, and is the size itself where no layer serves that; the alignment is one, and what the parent's alignment leaves
pub record TellsWell (h : Handing) (e : Rules) : Type 0 where
  pub enough : (n : ℕ) → n ≤ h.good_alloc_size n
  pub of_nothing : h.good_alloc_size 0 ≡ 0
  pub above_limit : (n : ℕ) → limit < n → h.good_alloc_size n ≡ n
  pub aligned : IsAlignment h.alignment
  pub shown_aligned : (b : Block) → h.fits b ≡ true → IsMultiple (h.down b).place e.alignment → IsMultiple b.place h.alignment

-- its numbers stay in order
pub record KeepsInOrder (h : Handing) : Type 0 where
  pub first : h.passes h.first ≡ true
  pub allocated : (ok : Bool) (n : ℕ) (own : Own) → h.passes own ≡ true → (ok ≡ true → h.admits n own ≡ true) → h.passes (h.allocated ok n own) ≡ true
  pub expanded : (ok : Bool) (delta : ℕ) (b : Block) (own : Own) → h.passes own ≡ true → (ok ≡ true → h.admits delta own ≡ true) → h.passes (h.expanded ok delta b own) ≡ true
  pub deallocated : (ok : Bool) (b : Block) (own : Own) → h.passes own ≡ true → h.passes (h.deallocated ok b own) ≡ true
  pub all_deallocated : (own : Own) → h.passes own ≡ true → h.passes (h.all_deallocated own) ≡ true
  pub reallocated : (n : ℕ) (b : Block) (r : Reallocated) (own : Own) → h.passes own ≡ true → h.passes (h.reallocated n b r own) ≡ true
  pub owned : (own : Own) → h.passes own ≡ true → h.passes (h.owned own) ≡ true

-- where a call is refused no number changes but statistics, and whether a request goes down goes by no statistics
pub record KeepsWhereRefused (h : Handing) : Type 0 where
  pub allocated : (n : ℕ) (own : Own) → without_counts (h.allocated false n own) ≡ without_counts own
  pub expanded : (delta : ℕ) (b : Block) (own : Own) → without_counts (h.expanded false delta b own) ≡ without_counts own
  pub reallocated : (n : ℕ) (b : Block) (own : Own) → without_counts (h.reallocated n b unmoved own) ≡ without_counts own
  pub owned : (own : Own) → without_counts (h.owned own) ≡ without_counts own
  pub owned_steady : (own : Own) → own_steady (h.owned own) ≡ own_steady own
  pub owned_unread : (own : Own) → own_unread (h.owned own) ≡ h.owned (own_unread own)
  pub admits : (n : ℕ) (x y : Own) → without_counts x ≡ without_counts y → h.admits n x ≡ h.admits n y

-- the bytes round a block: those outside of the block, as far as it is handed down, are all that they go by
pub record KeepsRound (h : Handing) : Type 0 where
  pub clean : (b : Block) (old new : List ℕ) → h.fits b ≡ true → RoundKept b (h.down b) old new → h.clean b old ≡ true → h.clean b new ≡ true
  pub marked : (b : Block) (old new : List ℕ) → h.fits b ≡ true → RoundKept b (h.down b) old new → h.marked b old ≡ true → h.marked b new ≡ true
  pub clean_is_marked : (b : Block) (bytes : List ℕ) → h.clean b bytes ≡ true → h.marked b bytes ≡ true

pub record HandsDown (h : Handing) (e : Rules) : Type 0 where
  pub shown : (n : ℕ) (b : Block) → b.len ≡ h.asked n → IsShownBack h n b
  pub wider : (b : Block) → h.fits b ≡ true → IsWider h b
  pub longer : (b : Block) (delta : ℕ) → h.fits b ≡ true → GrowsDown h b delta
  pub asked_some : (n : ℕ) → 1 ≤ n → 1 ≤ h.asked n
  -- where requests at an alignment are handed down, what the parent gives is shown at its place
  pub placed : h.aligns ≡ true → (n : ℕ) (b : Block) → (h.shown n b).place ≡ b.place
  pub tells : TellsWell h e
  pub in_order : KeepsInOrder h
  pub refused : KeepsWhereRefused h
  pub round : KeepsRound h
  -- a reallocation in place, and blocks that are handed down at one place, which have one place
  pub in_place : (b : Block) (n : ℕ) → h.fits b ≡ true → h.in_place b.len n ≡ true → IsAsBefore h b n
  pub one_place : (b c : Block) → h.fits b ≡ true → h.fits c ≡ true → (h.down b).place ≡ (h.down c).place → b.place ≡ c.place

-- what a `Handing` that hands down gives over a regular parent, and over one that is lawful too
abbrev pub HandingIsRegular : Type 0
HandingIsRegular = (h : Handing) (e : Rules) → HandsDown h e → IsRegular e → IsRegular (handing_rules h e)

abbrev pub HandingIsLawful : Type 0
HandingIsLawful = (h : Handing) (e : Rules) → HandsDown h e → HasSomeTags e → IsRegular e → IsLawful e → IsLawful (handing_rules h e)
