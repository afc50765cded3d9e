-- Affix: bytes in front of each block and behind it. A prefix of at least 8 bytes begins with the block's length, the rest of it
-- is 0, and the suffix is of one byte. A caller may write over all but the length.
use Rattle.std.specs.Prelude.{ℕ, zero, suc, ◌+◌, ◌-◌, ◌≡◌, ◌≤◌, ◌⊎◌, Bool, true, false, ◌&&◌, ◌||◌, List, min, nat_le, nat_lt}
use Rattle.size_round.specs.Sizes.{limit, power_part, is_multiple}
use Rattle.layer_rules.specs.declared.Block.{Block}
use Rattle.layer_rules.specs.Blocks.{block, end_of, has_place}
use Rattle.layer_rules.specs.Offering.{offers_of, if_served}
use Rattle.layer_rules.specs.Setting.{need_of}
use Rattle.layer_rules.specs.Rules.{Rules}
use Rattle.layer_rules.specs.Testing.{are_bytes, is_word}
use Rattle.layer_rules.specs.Handing.{Handing, as_it_is, handing_rules}

-- the greatest length of a prefix and of a suffix
abbrev pub affix_bound : ℕ
affix_bound = 256

-- The numbers that an affix is made with: multiples of 8, and with a prefix the parent's places are multiples of at least 8.
pub record IsAffixSize (prefix suffix : ℕ) (e : Rules) : Type 0 where
  pub prefix_whole : is_multiple prefix 8 ≡ true
  pub suffix_whole : is_multiple suffix 8 ≡ true
  pub prefix_most : prefix ≤ affix_bound
  pub suffix_most : suffix ≤ affix_bound
  pub aligned : (prefix ≡ 0) ⊎ (8 ≤ e.alignment)

-- the block with its bytes in front and behind, as the parent sees it; and what the parent serves, shown with n bytes
abbrev pub affix_down : (prefix suffix : ℕ) → Block → Block
affix_down prefix suffix b = block (b.place - prefix) (b.len + prefix + suffix)

abbrev pub affix_shown : (prefix n : ℕ) → Block → Block
affix_shown prefix n b = block (b.place + prefix) n

-- what a prefix leaves of the alignment of the parent
abbrev pub alignment_behind : (prefix : ℕ) → ℕ → ℕ
alignment_behind zero a = a
alignment_behind (suc n) a = min a (power_part (suc n) (suc n))

-- the byte of which each suffix is made
abbrev pub suffix_byte : ℕ
suffix_byte = 165

-- a prefix of at least 8 bytes begins with the length; so much a caller leaves
abbrev pub has_length : (prefix : ℕ) → Block → List ℕ → Bool
has_length prefix b bytes = nat_lt prefix 8 || is_word bytes (b.place - prefix) b.len

-- and zeros follow up to the block, and the suffix behind it
abbrev pub has_affixes : (prefix suffix : ℕ) → Block → List ℕ → Bool
has_affixes prefix suffix b bytes =
    let zeros = b.place - (prefix - 8) in
    has_length prefix b bytes && (are_bytes 0 zeros (b.place - zeros) bytes && are_bytes suffix_byte (end_of b) suffix bytes)

-- the bytes in front and behind
abbrev pub is_byte_around : (prefix suffix : ℕ) → Block → (place : ℕ) → Bool
is_byte_around prefix suffix b k = has_place (block (b.place - prefix) prefix) k || has_place (block (end_of b) suffix) k

abbrev pub affix_handing : (prefix suffix : ℕ) → Rules → Handing
affix_handing prefix suffix e = record (as_it_is e) {
  down = affix_down prefix suffix;
  fits = λ b. nat_le prefix b.place;
  asked = λ n. n + prefix + suffix;
  shown = affix_shown prefix;
  aligns = false;
  moves = true;
  clean = has_affixes prefix suffix;
  marked = has_length prefix;
  is_around = is_byte_around prefix suffix;
  opens_for = λ need. nat_le (need_of need (need + prefix + suffix)) limit;
  need = λ need. need_of need (need + prefix + suffix);
  offers = let o = e.offers in offers_of o.owns o.expand false o.all;
  alignment = alignment_behind prefix e.alignment;
  good_alloc_size = if_served (λ m. e.good_alloc_size (m + prefix + suffix) - prefix - suffix);
}

unfoldable pub affix_rules : (prefix suffix : ℕ) → Rules → Rules
affix_rules prefix suffix e = handing_rules (affix_handing prefix suffix e) e
