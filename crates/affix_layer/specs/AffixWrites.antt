-- What a caller writes round a block that is out, and what that leaves.
use Rattle.std.specs.Prelude.{ℕ, ◌≡◌, ◌+◌, ◌≤◌, ◌<◌, Bool, true, List, length, get_or}
use Rattle.space_core.specs.Memory.{Memory}
use Rattle.space_core.specs.Words.{write_from}
use Rattle.layer_rules.specs.declared.Block.{Block}
use Rattle.layer_rules.specs.Blocks.{end_of}
use Rattle.layer_rules.specs.Fields.{are_open}
use Rattle.layer_rules.specs.Layering.{LayerModel, state_of, Stands, IsOutOf, IsMarkedOf, AreApartIn, KeepsBytes, Stays}
use Rattle.layer_laws.specs.Lawful.{IsMade}
use Rattle.layer_laws.specs.Standing.{ChangesOwn}
use Rattle.affix_layer.specs.AffixBytes.{open_len, open_place, KeepsOtherAffixes}
use Rattle.affix_layer.specs.AffixModel.{affix_model}

-- Bytes change round the block alone, and only those that a caller may write.
pub record WritesAffixes (prefix suffix : ℕ) (b : Block) (m m' : Memory) : Type 0 where
  pub cells : m'.cells ≡ m.cells
  pub leaves : m'.leaves ≡ m.leaves
  pub size : length m'.bytes ≡ length m.bytes
  pub below : (i : ℕ) → i < open_place prefix b → get_or m'.bytes i 0 ≡ get_or m.bytes i 0
  pub inside : (i : ℕ) → b.place ≤ i → i < end_of b → get_or m'.bytes i 0 ≡ get_or m.bytes i 0
  pub above : (i : ℕ) → end_of b + suffix ≤ i → get_or m'.bytes i 0 ≡ get_or m.bytes i 0

-- What that leaves: the layer stands, its state is as before, who is out stays out. The block keeps its bytes and is marked as it was;
-- blocks that are apart from it keep theirs, with what stands round them.
pub record AffixWriteKeeps (prefix suffix : ℕ) (t : LayerModel) (m m' : Memory) (b : Block) : Type 0 where
  pub stands : Stands t m'
  pub state : state_of t m' ≡ state_of t m
  pub out : (c : Block) → IsOutOf t m c → IsOutOf t m' c
  pub bytes : KeepsBytes m.bytes m'.bytes b.place (end_of b)
  pub marked : IsMarkedOf t m b → IsMarkedOf t m' b
  pub others : (c : Block) → IsOutOf t m c → AreApartIn t m b c → Stays t t m m' c
  pub around : KeepsOtherAffixes prefix suffix t m m' b true
  pub changes_own : ChangesOwn t.rules m m'

-- what a caller finds of an affix, open or not, and of its block
pub record MayWrite (prefix suffix : ℕ) (u : Bool) (t : LayerModel) (m : Memory) (b : Block) : Type 0 where
  pub made : IsMade t.rules
  pub together : are_open t.fields ≡ u
  pub stands : Stands (affix_model prefix suffix u t) m
  pub out : IsOutOf (affix_model prefix suffix u t) m b

abbrev pub WrittenAffixesKeep : Type 0
WrittenAffixesKeep =
    (prefix suffix : ℕ) (u : Bool) (t : LayerModel) (m m' : Memory) (b : Block) → MayWrite prefix suffix u t m b → WritesAffixes prefix suffix b m m'
    → AffixWriteKeeps prefix suffix (affix_model prefix suffix u t) m m' b

-- what is written over the first of the bytes that were lent, in front and behind
abbrev pub LentPrefixKeeps : Type 0
LentPrefixKeeps =
    (prefix suffix : ℕ) (u : Bool) (t : LayerModel) (m : Memory) (b : Block) (written : List ℕ) → MayWrite prefix suffix u t m b → length written ≤ open_len prefix
    → AffixWriteKeeps prefix suffix (affix_model prefix suffix u t) m (record m { bytes = write_from m.bytes (open_place prefix b) written }) b

abbrev pub LentSuffixKeeps : Type 0
LentSuffixKeeps =
    (prefix suffix : ℕ) (u : Bool) (t : LayerModel) (m : Memory) (b : Block) (written : List ℕ) → MayWrite prefix suffix u t m b → length written ≤ suffix
    → AffixWriteKeeps prefix suffix (affix_model prefix suffix u t) m (record m { bytes = write_from m.bytes (end_of b) written }) b
