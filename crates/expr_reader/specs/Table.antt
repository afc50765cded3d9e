-- The table of words: what is written behind each, what its numbers may be, and which alignment its blocks have.
use Rattle.std.specs.Prelude.{ℕ, false, List, [], ◌∷◌, length, Option, Some, None}
use Rattle.layer_rules.specs.Offering.{full_alignment}
use Rattle.size_round.specs.Sizes.{size_bound}
use Rattle.space_core.specs.Cells.{cell_size}
use Rattle.affix_rules.specs.AffixRules.{affix_bound}
use Rattle.expr_reader.specs.declared.token.Choice.{Choice}
use Rattle.expr_reader.specs.declared.token.Choice.TheVariants.{Pow2}
use Rattle.expr_reader.specs.declared.token.Name.{Name}
use Rattle.expr_reader.specs.declared.token.Name.TheVariants as name
use Rattle.expr_reader.specs.declared.signature.Entry.{Entry}
use Rattle.expr_reader.specs.declared.signature.Entry.TheVariants.{Missing, Alone, Takes}
use Rattle.expr_reader.specs.declared.table.Allowed.{Allowed}
use Rattle.expr_reader.specs.declared.table.Allowed.TheVariants.{Between, PowerOfTwo, MultipleOf, AtMostNumber}
use Rattle.expr_reader.specs.declared.table.Alignment.{Alignment}
use Rattle.expr_reader.specs.declared.table.Alignment.TheVariants.{AsBelow, Fixed, OfNumber, Behind}
use Rattle.expr_reader.specs.declared.table.Profile as declared

-- what the table says of a word, with what each of its numbers may be, in order
pub record Profile : Type 0 where
  pub entry : Entry
  pub allowed : List Allowed
  pub alignment : Alignment

-- the same of what the program has, without where it lies in memory
abbrev pub profile_data : declared.Profile → Profile
profile_data p = record { entry = p.entry; allowed = p.allowed.now; alignment = p.alignment }

abbrev pub missing : Profile
missing = record { entry = Missing; allowed = []; alignment = AsBelow }

-- a word that stands alone, whose blocks begin at multiples of this
abbrev pub alone : (bytes : ℕ) → Profile
alone bytes = record { entry = Alone; allowed = []; alignment = Fixed bytes }

-- numbers, of which each may be so much, or a word in their place, and a layer
abbrev pub over_one : Option Choice → List Allowed → Alignment → Profile
over_one choice allowed alignment =
    record {
      entry = Takes (record { choice = choice; numbers = length allowed; layers = 0; pairs = false });
      allowed = allowed;
      alignment = alignment;
    }

-- The table: a row for each word of the grammar. A name with no row is no word yet.
abbrev pub profile_of : Name → Profile
profile_of name.Null = alone full_alignment
profile_of name.Mem = alone cell_size
profile_of name.Region = over_one None (Between 1 size_bound ∷ PowerOfTwo 4096 ∷ []) (OfNumber 1)
profile_of name.FreeList = over_one None (AtMostNumber 1 ∷ Between 8 size_bound ∷ []) AsBelow
profile_of name.Quantize = over_one (Some Pow2) (Between 1 size_bound ∷ []) AsBelow
profile_of name.Stats = over_one None [] AsBelow
profile_of name.Affix = over_one None (MultipleOf 8 affix_bound ∷ MultipleOf 8 affix_bound ∷ []) (Behind 0)
profile_of k = missing
