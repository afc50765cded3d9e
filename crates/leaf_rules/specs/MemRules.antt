-- A leaf: runs of cells with its tag, the least one first.
use Rattle.std.specs.Prelude.{ℕ, ◌*◌, ◌/◌, ◌%◌, Bool, true, false, ◌&&◌, [], ◌∷◌, Some, None, Ok, is_none, nat_eq, get_or}
use Rattle.size_round.specs.Sizes.{ceil_div, up}
use Rattle.space_core.specs.Cells.{Cells, cell_size, used_by, has_tag, tag_cells, free_tag, cells_given, least_cells, has_room_behind, cells_grown}
use Rattle.space_core.specs.Runs.{first_run, put_run, starts_free, starts_taken}
use Rattle.layer_rules.specs.declared.Block.{Block}
use Rattle.layer_rules.specs.declared.Fact.TheVariants as Said
use Rattle.layer_rules.specs.declared.Offers.{Offers}
use Rattle.layer_rules.specs.After.{Serve, Change, after, placed, refuse, opened, reply}
use Rattle.layer_rules.specs.Allocating.{asked_for, over_limit_or}
use Rattle.layer_rules.specs.Blocks.{block}
use Rattle.layer_rules.specs.Expanding.{asked_to_expand}
use Rattle.layer_rules.specs.Facts.{if_open}
use Rattle.layer_rules.specs.Fields.{node_numbers}
use Rattle.layer_rules.specs.NullRules.{at_no_child}
use Rattle.layer_rules.specs.Offering.{offers_of, if_served}
use Rattle.layer_rules.specs.Owning.{is_plausible, is_some_block}
use Rattle.layer_rules.specs.Reallocating.{asked_to_reallocate, general_reallocate}
use Rattle.layer_rules.specs.Rules.{Rules}
use Rattle.layer_rules.specs.Setting.{if_set_up}
use Rattle.layer_rules.specs.State.{is_open, open_with, nothing, no_children}
use Rattle.layer_rules.specs.Testing.{settled_if, is_bare}
use Rattle.layer_rules.specs.Units.{touched_block}

-- ---- the cells of a block

-- each cell that the block touches is there and has the tag
abbrev pub has_cells : (tag : ℕ) → Block → Cells → Bool
has_cells tag b cells = has_tag tag b.place b.len cells

-- the table in which the block's cells are free
abbrev pub cells_without : Block → Cells → Cells
cells_without b cells = cells_given b.place b.len cells

-- ---- what calls do

-- the least run of free cells for n bytes, at a multiple of a
abbrev pub mem_allocate : (tag n a : ℕ) → Serve
mem_allocate tag n a s cells =
    elim (least_cells n a cells) [
      | None ↦ refuse s cells
      | Some i ↦ after (Some (placed (block (cell_size * i) n) [])) s (tag_cells tag i (ceil_div n cell_size) cells)
    ]

-- into the cells behind the block, where these are free
abbrev pub mem_expand : (tag delta : ℕ) → Change
mem_expand tag delta b s cells = after (has_room_behind b.place b.len delta cells) s (cells_grown tag b.place b.len delta cells)

abbrev pub mem_deallocate : Change
mem_deallocate b s cells = after true s (cells_without b cells)

-- it never says whose a block is
abbrev pub mem_offers : Offers
mem_offers = offers_of false true true true

-- ---- the rules

unfoldable pub mem_rules : (tag : ℕ) → Rules
unfolding first_run put_run starts_free starts_taken
mem_rules tag = record {
  nodes = 1;
  depth = 0;
  leaf_tags = tag ∷ [];
  offers = mem_offers;
  alignment = cell_size;
  good_alloc_size = λ n. if_served (λ m. up m cell_size) n;
  set_up = λ need cells. Ok (opened (open_with nothing no_children) cells);
  allocate = λ n. asked_for n (mem_allocate tag n 1);
  aligned_allocate = λ n a. asked_for n (mem_allocate tag n a);
  expand = λ delta. asked_to_expand delta (mem_expand tag delta);
  reallocate = λ n.
      asked_to_reallocate n mem_deallocate
      (general_reallocate n mem_offers (λ delta. asked_to_expand delta (mem_expand tag delta)) (asked_for n (mem_allocate tag n 1)) mem_deallocate);
  deallocate = mem_deallocate;
  deallocate_all = λ s cells. opened s (free_tag tag cells);
  owns = λ b s. reply false s;
  owns_at = λ path possible b s. at_no_child false path possible;
  refuses = λ n s cells. over_limit_or n (is_none (least_cells n 1 cells));
  refuses_aligned = λ n a s cells. over_limit_or n (is_none (least_cells n a cells));
  has_free_tails = λ s. true;
  is_out = λ b s cells. is_some_block b s && (nat_eq (b.place % cell_size) 0 && has_cells tag b cells);
  holds = λ b s. false;
  route = λ b s. [];
  is_routed = λ b s. is_plausible b;
  extent = λ b s. touched_block cell_size 0 b;
  read = λ fs bytes. if_set_up fs (open_with nothing no_children);
  is_settled = λ s cells. settled_if s (tag ∷ []) cells (is_bare s);
  is_image = λ fs s bytes. true;
  is_clean = λ b s bytes. true;
  is_marked = λ b s bytes. true;
  is_occupied = λ s cells k. is_open s && nat_eq (get_or cells.tags (k / cell_size) 0) tag;
  is_meta = λ s k. false;
  is_affix_byte = λ b s k. false;
  state_numbers = λ fs. node_numbers fs ∷ [];
  facts = λ s cells. if_open s (Said.Cells (used_by tag cells)) ∷ [];
}
