-- Choosing by length: a group each of whose blocks is served by the member for its length.
-- A form says which that is in a record `Choosing`; its rules follow.
use Rattle.std.specs.Prelude.{ℕ, suc, ◌+◌, ◌-◌, Bool, true, false, ◌&&◌, ◌||◌, not, List, [], ◌∷◌, nat_eq, cond}
use Rattle.layer_rules.specs.declared.Asked.{Asked}
use Rattle.layer_rules.specs.declared.Block.{Block}
use Rattle.layer_rules.specs.declared.Fact.TheVariants as Said
use Rattle.layer_rules.specs.Blocks.{no_block, with_len}
use Rattle.layer_rules.specs.State.{State, open_with, nothing, child}
use Rattle.layer_rules.specs.Fields.{node_numbers}
use Rattle.layer_rules.specs.After.{after, Serve, refuse, Change, change_child, answering, Reallocate, stay}
use Rattle.layer_rules.specs.Allocating.{asked_for, serve_member, over_limit_or}
use Rattle.layer_rules.specs.Expanding.{asked_to_expand, change_if}
use Rattle.layer_rules.specs.Facts.{if_open}
use Rattle.layer_rules.specs.Handing.{shown_by}
use Rattle.layer_rules.specs.Members.{nth, nodes_of, depth_of, tags_of, offers_of_all, least_alignment, open_each, empty_each, into_member, have_free_tails, read_each, are_images, is_occupied_in, is_meta_in, state_numbers_each, facts_each, group_settled}
use Rattle.layer_rules.specs.Offering.{is_served_size}
use Rattle.layer_rules.specs.Owning.{is_plausible, may_hold, is_some_block, owns_child_if, at_end}
use Rattle.layer_rules.specs.Reallocating.{in_place, asked_to_reallocate, general_reallocate, reallocate_child, either_reallocate}
use Rattle.layer_rules.specs.Setting.{open_group, if_set_up}
use Rattle.layer_rules.specs.Rules.{Rules}
use Rattle.layer_rules.specs.Testing.{settled_if, on_open}

pub record Choosing : Type 0 where
  -- whether a length has a member, the number of that member, and the length that is asked of it
  pub fits : ℕ → Bool
  pub chosen : ℕ → ℕ
  pub asked : ℕ → ℕ
  -- how what that member gives for n is shown
  pub shown : (n : ℕ) → Block → Block
  -- the need of the member i
  pub need : (need i : ℕ) → ℕ
  pub good_alloc_size : ℕ → ℕ

-- the block as the member for its length sees it
abbrev pub chosen_down : Choosing → Block → Block
chosen_down h b = with_len b (h.asked b.len)

abbrev pub choose_serve : (fits : Bool) (shown : Block → Block) (i : ℕ) → Serve → Serve
choose_serve true shown i serve s cells = serve_member shown i serve s cells
choose_serve false shown i serve s cells = refuse s cells

-- two lengths have one member
abbrev pub have_one_member : Choosing → (len n : ℕ) → Bool
have_one_member h len n = h.fits len && (h.fits n && nat_eq (h.chosen len) (h.chosen n))

-- The member is asked for what its own length of the block lacks, and is not asked where that is enough.
abbrev pub choose_growth : (enough : Bool) (i : ℕ) → Change → Change
choose_growth true i change b s cells = after true s cells
choose_growth false i change b s cells = change_child i change b s cells

abbrev pub choose_expand : Choosing → List Rules → (delta : ℕ) → Change
choose_expand h es delta = asked_to_expand delta (λ b.
    let i = h.chosen b.len in
    let less = h.asked b.len in
    let more = h.asked (b.len + delta) in
    change_if (have_one_member h b.len (b.len + delta)) (choose_growth (nat_eq less more) i ((nth es i).expand (more - less))) (chosen_down h b))

abbrev pub choose_deallocate : Choosing → List Rules → Change
choose_deallocate h es b = let i = h.chosen b.len in change_child i (nth es i).deallocate (chosen_down h b)

abbrev pub choose_allocate : Choosing → List Rules → (n : ℕ) → Serve
choose_allocate h es n = asked_for n (choose_serve (h.fits n) (h.shown n) (h.chosen n) ((nth es (h.chosen n)).allocate (h.asked n)))

-- the member's reallocation of the block as it sees it, shown as a block of n bytes
abbrev pub choose_within : Choosing → List Rules → (n : ℕ) → Reallocate
choose_within h es n b s cells =
    let i = h.chosen b.len in
    answering (shown_by (h.shown n)) (reallocate_child i ((nth es i).reallocate (h.asked n)) (chosen_down h b) s cells)

-- in place, or by the member, where both lengths have it; else by the general form; no length without a member
abbrev pub choose_reallocate : Choosing → List Rules → (n : ℕ) → Reallocate
choose_reallocate h es n =
    asked_to_reallocate n (choose_deallocate h es) (λ b.
    either_reallocate (h.fits n)
    (either_reallocate (have_one_member h b.len n)
    (either_reallocate (nat_eq (h.asked n) (h.asked b.len)) (in_place n) (choose_within h es n))
    (general_reallocate n (offers_of_all es) (choose_expand h es) (choose_allocate h es n) (choose_deallocate h es)))
    stay b)

abbrev pub choose_holds : Choosing → List Rules → Block → State → Bool
choose_holds h es b s =
    let i = h.chosen b.len in may_hold b s && (h.fits b.len && (nth es i).holds (chosen_down h b) (child s i))

abbrev pub choose_owns_at : Choosing → List Rules → (path : List ℕ) (possible : Bool) → Block → State → Asked
choose_owns_at h es [] possible b s = at_end (offers_of_all es).owns possible (choose_holds h es b s)
choose_owns_at h es (i ∷ path) possible b s =
    into_member es i ((nth es i).owns_at path (possible && (is_served_size b.len && h.fits b.len)) (chosen_down h b) (child s i))

unfoldable pub choosing_rules : Choosing → List Rules → Rules
unfolding open_each empty_each
choosing_rules h es = record {
  nodes = suc (nodes_of es);
  depth = suc (depth_of es);
  leaf_tags = tags_of es;
  offers = offers_of_all es;
  alignment = least_alignment es;
  good_alloc_size = h.good_alloc_size;
  set_up = λ need cells. open_group nothing (open_each es (h.need need) 0 1 cells);
  allocate = choose_allocate h es;
  aligned_allocate = λ n a. asked_for n (choose_serve (h.fits n) (h.shown n) (h.chosen n) ((nth es (h.chosen n)).aligned_allocate (h.asked n) a));
  expand = choose_expand h es;
  reallocate = choose_reallocate h es;
  deallocate = choose_deallocate h es;
  deallocate_all = λ s cells. empty_each es 0 s cells;
  owns = λ b s. let i = h.chosen b.len in owns_child_if (may_hold b s && h.fits b.len) i (λ c. (nth es i).owns (chosen_down h b)) b s;
  owns_at = choose_owns_at h es;
  refuses = λ n s cells. let i = h.chosen n in over_limit_or n (not (h.fits n) || (nth es i).refuses (h.asked n) (child s i) cells);
  refuses_aligned = λ n a s cells. let i = h.chosen n in over_limit_or n (not (h.fits n) || (nth es i).refuses_aligned (h.asked n) a (child s i) cells);
  has_free_tails = have_free_tails es 0;
  is_out = λ b s cells. let i = h.chosen b.len in is_some_block b s && (h.fits b.len && (nth es i).is_out (chosen_down h b) (child s i) cells);
  holds = choose_holds h es;
  route = λ b s. let i = h.chosen b.len in i ∷ (nth es i).route (chosen_down h b) (child s i);
  is_routed = λ b s. let i = h.chosen b.len in is_plausible b && (h.fits b.len && (nth es i).is_routed (chosen_down h b) (child s i));
  extent = λ b s. let i = h.chosen b.len in cond (h.fits b.len) ((nth es i).extent (chosen_down h b) (child s i)) no_block;
  read = λ fs bytes. if_set_up fs (open_with nothing (read_each es 0 fs bytes));
  is_settled = λ s cells. settled_if s (tags_of es) cells (group_settled es s cells);
  is_image = λ fs s bytes. on_open s (are_images es 0 fs s bytes);
  is_clean = λ b s bytes. let i = h.chosen b.len in (nth es i).is_clean (chosen_down h b) (child s i) bytes;
  is_marked = λ b s bytes. let i = h.chosen b.len in (nth es i).is_clean (chosen_down h b) (child s i) bytes;
  is_occupied = is_occupied_in es 0;
  is_meta = is_meta_in es 0;
  is_affix_byte = λ b s k. let i = h.chosen b.len in h.fits b.len && (nth es i).is_affix_byte (chosen_down h b) (child s i) k;
  state_numbers = λ fs. node_numbers fs ∷ state_numbers_each es 0 fs;
  facts = λ s cells. if_open s Said.Plain ∷ facts_each es 0 s cells;
}
