-- Names: the table of live blocks, in order of their names.
use Rattle.std.specs.Prelude.{ℕ, ◌<◌, ◌≤◌, not, List, [], ◌∷◌, ◌++◌, Option, Some, None, length, map, filter, slice_index_or, sum_by, nat_eq, nat_lt, if◌then◌else◌}
use Rattle.std.specs.Option.{unwrap_or}
use Rattle.size_round.specs.Sizes.{limit}
use Rattle.layer_rules.specs.declared.Block.{Block}
use Rattle.layer_rules.specs.Blocks.{no_block}
use Rattle.layer_rules.specs.Rows.{Each}
use Rattle.heap_core.specs.declared.Named.{Named}
use Rattle.heap_core.specs.Performing.{most_live}

-- a block under a name
abbrev pub named : (name : ℕ) → Block → Named
named name b = record { name = name; block = b }

-- the block of a name
abbrev pub named_at : List Named → (name : ℕ) → Option Block
named_at [] name = None
named_at (x ∷ xs) name = if nat_eq x.name name then Some x.block else named_at xs name

-- the block of a name that is live
abbrev pub block_of : List Named → (name : ℕ) → Block
block_of table name = unwrap_or (named_at table name) no_block

-- the table with a block under a name that wasn't in it
abbrev pub with_named : Named → List Named → List Named
with_named x [] = x ∷ []
with_named x (y ∷ ys) = if nat_lt x.name y.name then x ∷ y ∷ ys else y ∷ with_named x ys

-- the table without the name
abbrev pub without_name : (name : ℕ) → List Named → List Named
without_name name table = filter (λ x. not (nat_eq x.name name)) table

-- how many bytes the blocks have together
abbrev pub asked_by : List Named → ℕ
asked_by table = sum_by (λ x. x.block.len) table

-- the name at a place of the table, or 0 past its end
abbrev pub name_at : List Named → ℕ → ℕ
name_at table i = let x = slice_index_or table i (named 0 no_block) in x.name

-- the names rise, there are at most 65,536, and no block is longer than what a layer serves
pub record IsTable (table : List Named) : Type 0 where
  pub rising : (i j : ℕ) → i < j → j < length table → name_at table i < name_at table j
  pub most : length table ≤ most_live
  pub short : Each (λ (x : Named). x.block.len ≤ limit) table

-- blocks put in order of their names
abbrev pub in_order : List Named → List Named
in_order [] = []
in_order (x ∷ xs) = with_named x (in_order xs)

-- the entries of a map as blocks under their names, and the others behind them
abbrev pub together : (entries : List (ℕ × Block)) → (others : List Named) → List Named
together entries others = map (λ e. named e.0 e.1) entries ++ others

-- a table, and memory for all its blocks among the others
pub record IsRoomy (table : List Named) (capacity : ℕ) : Type 0 where
  pub kept : IsTable table
  pub room : most_live ≤ capacity
