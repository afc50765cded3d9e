-- The layer that serves nothing. A group has it where it has no member.
use Rattle.std.specs.Prelude.{true, false, [], ◌∷◌, Ok, ℕ}
use Rattle.layer_rules.specs.declared.Asked.TheVariants.{NoSuchLayer}
use Rattle.layer_rules.specs.declared.Asked.{Asked}
use Rattle.layer_rules.specs.declared.Fact.TheVariants as Said
use Rattle.std.specs.Prelude.{Bool, List}
use Rattle.layer_rules.specs.Blocks.{no_block}
use Rattle.layer_rules.specs.Fields.{node_numbers}
use Rattle.layer_rules.specs.Offering.{all_offers, full_alignment}
use Rattle.layer_rules.specs.State.{open_with, nothing, no_children}
use Rattle.layer_rules.specs.After.{refuse, opened, say, stay, reply}
use Rattle.layer_rules.specs.Expanding.{asked_to_expand}
use Rattle.layer_rules.specs.Reallocating.{asked_to_reallocate}
use Rattle.layer_rules.specs.Owning.{at_end}
use Rattle.layer_rules.specs.Setting.{if_set_up}
use Rattle.layer_rules.specs.Facts.{if_open}
use Rattle.layer_rules.specs.Rules.{Rules}
use Rattle.layer_rules.specs.Testing.{settled_if, is_bare}

-- a layer without children: it holds nothing, and no step leads on
abbrev pub at_no_child : (owns : Bool) (path : List ℕ) → (possible : Bool) → Asked
at_no_child owns [] possible = at_end owns possible false
at_no_child owns (i ∷ path) possible = NoSuchLayer

unfoldable pub null_rules : Rules
null_rules = record {
  nodes = 1;
  depth = 0;
  leaf_tags = [];
  offers = all_offers;
  alignment = full_alignment;
  good_alloc_size = λ n. n;
  set_up = λ need cells. Ok (opened (open_with nothing no_children) cells);
  allocate = λ n. refuse;
  aligned_allocate = λ n a. refuse;
  expand = λ delta. asked_to_expand delta (say false);
  reallocate = λ n. asked_to_reallocate n (say true) stay;
  deallocate = say true;
  deallocate_all = opened;
  owns = λ b s. reply false s;
  owns_at = λ path possible b s. at_no_child true path possible;
  refuses = λ n s cells. true;
  refuses_aligned = λ n a s cells. true;
  has_free_tails = λ s. true;
  is_out = λ b s cells. false;
  holds = λ b s. false;
  route = λ b s. [];
  is_routed = λ b s. false;
  extent = λ b s. no_block;
  read = λ fs bytes. if_set_up fs (open_with nothing no_children);
  is_settled = λ s cells. settled_if s [] cells (is_bare s);
  is_image = λ fs s bytes. true;
  is_clean = λ b s bytes. true;
  is_marked = λ b s bytes. true;
  is_occupied = λ s cells k. false;
  is_meta = λ s k. false;
  is_affix_byte = λ b s k. false;
  state_numbers = λ fs. node_numbers fs ∷ [];
  facts = λ s cells. if_open s Said.Plain ∷ [];
}
