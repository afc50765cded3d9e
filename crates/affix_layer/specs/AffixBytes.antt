-- The bytes round a block, and those of them that a caller may write.
use Rattle.std.specs.Prelude.{ℕ, ◌≡◌, ◌+◌, ◌-◌, Bool, true, List, min, slice_range}
use Rattle.space_core.specs.Memory.{Memory}
use Rattle.layer_rules.specs.declared.Block.{Block}
use Rattle.layer_rules.specs.Blocks.{block, end_of}
use Rattle.layer_rules.specs.Layering.{LayerModel, IsOutOf, AreApartIn}

-- all bytes in front of a block, and all behind it
abbrev pub prefix_bytes : (prefix : ℕ) → Block → List ℕ → List ℕ
prefix_bytes prefix b bytes = slice_range bytes (b.place - prefix) b.place

abbrev pub suffix_bytes : (suffix : ℕ) → Block → List ℕ → List ℕ
suffix_bytes suffix b bytes = slice_range bytes (end_of b) (end_of b + suffix)

-- the word in front of a block that has its length, where there is one
abbrev pub length_word : (prefix : ℕ) → Block → Block
length_word prefix b = block (b.place - prefix) (min prefix 8)

-- Behind that word a caller may write: how many bytes these are, where they begin, and the bytes themselves.
abbrev pub open_len : (prefix : ℕ) → ℕ
open_len prefix = prefix - 8

abbrev pub open_place : (prefix : ℕ) → Block → ℕ
open_place prefix b = b.place - open_len prefix

abbrev pub open_bytes : (prefix : ℕ) → Block → List ℕ → List ℕ
open_bytes prefix b bytes = slice_range bytes (open_place prefix b) b.place

-- what a caller may have written round the block b stands round the block c
pub record CarriesAffixes (prefix suffix : ℕ) (old new : List ℕ) (b c : Block) : Type 0 where
  pub in_front : open_bytes prefix c new ≡ open_bytes prefix b old
  pub behind : suffix_bytes suffix c new ≡ suffix_bytes suffix b old

-- what callers may have written round blocks that are out stays there
abbrev pub KeepsAffixes : (prefix suffix : ℕ) (t : LayerModel) (m m' : Memory) → Type 0
KeepsAffixes prefix suffix t m m' = (c : Block) → IsOutOf t m c → CarriesAffixes prefix suffix m.bytes m'.bytes c c

-- the same where a call on the block b was done: round those that are apart from it
abbrev pub KeepsOtherAffixes : (prefix suffix : ℕ) (t : LayerModel) (m m' : Memory) (b : Block) (done : Bool) → Type 0
KeepsOtherAffixes prefix suffix t m m' b done =
    (c : Block) → IsOutOf t m c → (done ≡ true → AreApartIn t m b c) → CarriesAffixes prefix suffix m.bytes m'.bytes c c
