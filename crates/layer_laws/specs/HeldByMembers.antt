-- Held by members: what is asked of a form each of whose blocks is one member's, so that it is lawful where its members are.
use Rattle.std.specs.Prelude.{ℕ, ◌≡◌, ◌<◌, ◌⊎◌, ◌&&◌, Bool, true, false, List, [], ◌∷◌, length, Option, Some, None, Ok, unwrap_or}
use Rattle.std.specs.Option.{option_map_or}
use Rattle.space_core.specs.Cells.{Cells}
use Rattle.layer_rules.specs.declared.Block.{Block}
use Rattle.layer_rules.specs.declared.Offers.{Offers}
use Rattle.layer_rules.specs.Blocks.{no_block}
use Rattle.layer_rules.specs.State.{State, Own, closed, open_with, is_open, child}
use Rattle.layer_rules.specs.Fields.{Fields}
use Rattle.layer_rules.specs.After.{After, after, Placed, from_child, Serve, Opened, Change, Reallocated, moved_to, unmoved, Reallocate}
use Rattle.layer_rules.specs.Expanding.{asked_to_expand}
use Rattle.layer_rules.specs.Members.{nth, tags_of, least_alignment, read_each, are_images, into_member}
use Rattle.layer_rules.specs.Offering.{is_served_size}
use Rattle.layer_rules.specs.Owning.{is_some_block, is_plausible, at_end}
use Rattle.layer_rules.specs.Reallocating.{asked_to_reallocate, general_reallocate, then_give}
use Rattle.layer_rules.specs.Rules.{Rules, IsLeaf, IsSettled, owns_along}
use Rattle.layer_rules.specs.Setting.{if_set_up}
use Rattle.layer_rules.specs.Testing.{has_no_cells, on_open}
use Rattle.layer_laws.specs.Chooses.{EachMember, HaveOwnTags}
use Rattle.layer_laws.specs.Lawful.{IsRegular, IsLawful, NoCell, OnlyFreed}

-- ---- what is told of a block

-- the number of the member that a block is one of, where there is one
abbrev pub Holder : Type 0
Holder = Block → State → Option ℕ

-- what is told of a block is what its holder tells
pub record TellsByHolder (g : Rules) (es : List Rules) (holder : Holder) : Type 0 where
  pub out : (b : Block) (s : State) (cells : Cells) → g.is_out b s cells ≡ (is_some_block b s && option_map_or (λ i. (nth es i).is_out b (child s i) cells) (holder b s) false)
  pub routed : (b : Block) (s : State) → g.is_routed b s ≡ (is_plausible b && option_map_or (λ i. (nth es i).is_routed b (child s i)) (holder b s) false)
  pub route : (b : Block) (s : State) → g.route b s ≡ option_map_or (λ i. i ∷ (nth es i).route b (child s i)) (holder b s) []
  pub extent : (b : Block) (s : State) → g.extent b s ≡ option_map_or (λ i. (nth es i).extent b (child s i)) (holder b s) no_block
  pub clean : (b : Block) (s : State) (bytes : List ℕ) → g.is_clean b s bytes ≡ (let i = unwrap_or (holder b s) 0 in (nth es i).is_clean b (child s i) bytes)
  pub marked : (b : Block) (s : State) (bytes : List ℕ) → g.is_marked b s bytes ≡ g.is_clean b s bytes

-- no other member than this one holds the block
abbrev pub IsHeldByNoOther : List Rules → Block → State → ℕ → Type 0
IsHeldByNoOther es b s j = (i : ℕ) → (i ≡ j → ⊥) → (nth es i).holds b (child s i) ≡ false

-- In an open state that is in order the holder is the one member that holds the block. Where none does it is always the same one, which
-- alone needs no owns; or there is none.
pub record FindsHolder (g : Rules) (es : List Rules) (holder : Holder) (otherwise : Option ℕ) (fits : State → Bool) : Type 0 where
  pub owns : (j : ℕ) → j < length es → ((nth es j).offers.owns ≡ true) ⊎ (otherwise ≡ Some j)
  pub one : (b : Block) (s : State) (j : ℕ) → is_open s ≡ true → fits s ≡ true → j < length es → is_open (child s j) ≡ true → (nth es j).holds b (child s j) ≡ true → IsHeldByNoOther es b s j → holder b s ≡ Some j
  pub none : (b : Block) (s : State) → is_open s ≡ true → fits s ≡ true → ((i : ℕ) → (nth es i).holds b (child s i) ≡ false) → holder b s ≡ otherwise
  -- what a member holds, the group holds, and nothing else
  pub held : (b : Block) (s : State) → g.holds b s ≡ true → (i : ℕ) × ((nth es i).holds b (child s i) ≡ true)
  pub holds : (b : Block) (s : State) (i : ℕ) → is_open s ≡ true → fits s ≡ true → i < length es → is_served_size b.len ≡ true → (nth es i).holds b (child s i) ≡ true → g.holds b s ≡ true
  -- where owns is offered, each member offers it
  pub offered : g.offers.owns ≡ true → (j : ℕ) → j < length es → (nth es j).offers.owns ≡ true

-- ---- what is said at a path's end

-- the form itself answers by what it holds, and a step leads into the member with its number
pub record WalksIntoMembers (g : Rules) (es : List Rules) : Type 0 where
  pub ends : (b : Block) (s : State) → owns_along g [] b s ≡ at_end g.offers.owns true (g.holds b s)
  pub steps : (i : ℕ) (path : List ℕ) (b : Block) (s : State) → owns_along g (i ∷ path) b s ≡ into_member es i ((nth es i).owns_at path (is_served_size b.len) b (child s i))

-- ---- what stands between calls

-- an open state: what is the form's own is in order, and each member is sound
pub record IsOpenGroup (es : List Rules) (fits : State → Bool) (s : State) (cells : Cells) : Type 0 where
  pub is_set : is_open s ≡ true
  pub in_order : fits s ≡ true
  pub members : (j : ℕ) → j < length es → IsSettled (nth es j) (child s j) cells

-- an open state is sound exactly where it is such a group, and a closed one where no cell has a tag of the leaves
pub record StandsByMembers (g : Rules) (es : List Rules) (fits : State → Bool) : Type 0 where
  pub parts : (s : State) (cells : Cells) → is_open s ≡ true → IsSettled g s cells → IsOpenGroup es fits s cells
  pub sound : (s : State) (cells : Cells) → IsOpenGroup es fits s cells → IsSettled g s cells
  pub shut : (cells : Cells) → g.is_settled closed cells ≡ has_no_cells g.leaf_tags cells
  -- the state is read from the fields, and its image is that of each member
  pub own : Fields → Own
  pub read : (fs : Fields) (bytes : List ℕ) → g.read fs bytes ≡ if_set_up fs (open_with (own fs) (read_each es 0 fs bytes))
  pub image : (fs : Fields) (s : State) (bytes : List ℕ) → g.is_image fs s bytes ≡ on_open s (are_images es 0 fs s bytes)

-- ---- what a call does

-- the state with t for its member i: each other member is as before, and what is the form's own is in order
pub record IsWithMember (fits : State → Bool) (i : ℕ) (t old new : State) : Type 0 where
  pub is_set : is_open new ≡ true
  pub in_order : fits new ≡ true
  pub here : child new i ≡ t
  pub others : (j : ℕ) → (j ≡ i → ⊥) → child new j ≡ child old j

-- a call is one of the member i, and changes nothing but this member and what is the form's own
pub record IsCallOfMember {A : Type 0} (fits : State → Bool) (i : ℕ) (s : State) (below whole : After A) : Type 0 where
  pub state : State
  pub same : whole ≡ after below.answer state below.cells
  pub changed : IsWithMember fits i below.state s state

-- a request: members are asked one after the other until one serves, each in what the ones before it left
pub data ServedInTurn (es : List Rules) (fits : State → Bool) (serve : ℕ → Serve) : State → Cells → After (Option Placed) → Type 0 where
  -- none is left to be asked
  none_serves : (s : State) (cells : Cells) → ServedInTurn es fits serve s cells (after None s cells)
  -- an open one refuses, and others are asked
  refuses_then : (s t : State) (cells : Cells) (i : ℕ) (r : After (Option Placed)) → i < length es → is_open (child s i) ≡ true → (serve i (child s i) cells).answer ≡ None → IsWithMember fits i (serve i (child s i) cells).state s t
      → ServedInTurn es fits serve t (serve i (child s i) cells).cells r → ServedInTurn es fits serve s cells r
  -- an open one serves
  one_serves : (s t : State) (cells : Cells) (i : ℕ) (p : Placed) → i < length es → is_open (child s i) ≡ true → (serve i (child s i) cells).answer ≡ Some p → IsWithMember fits i (serve i (child s i) cells).state s t
      → ServedInTurn es fits serve s cells (after (Some (from_child (λ b. b) i p)) t (serve i (child s i) cells).cells)
  -- a closed one is set up, and serves
  new_serves : (s t : State) (cells : Cells) (i need : ℕ) (o : Opened) (p : Placed) → i < length es → child s i ≡ closed → (nth es i).set_up need cells ≡ Ok o → (serve i o.state o.cells).answer ≡ Some p
      → IsWithMember fits i (serve i o.state o.cells).state s t → ServedInTurn es fits serve s cells (after (Some (from_child (λ b. b) i p)) t (serve i o.state o.cells).cells)

-- members are asked whose a block is, one after the other, and what is the form's own may change after each
pub data AskedInTurn (es : List Rules) (fits : State → Bool) (b : Block) : State → State → Type 0 where
  none_asked : (s : State) → AskedInTurn es fits b s s
  asked_then : (s t u : State) (i : ℕ) → i < length es → is_open (child s i) ≡ true → IsWithMember fits i ((nth es i).owns b (child s i)).state s t → AskedInTurn es fits b t u → AskedInTurn es fits b s u

-- a block of the member i gets another length: by that member, or members serve a new block and that one gets the old one back
pub data MovedInTurn (es : List Rules) (fits : State → Bool) (i n : ℕ) (b : Block) : State → Cells → After Reallocated → Type 0 where
  -- whatever that member answers
  by_member : (s t : State) (cells : Cells) → IsWithMember fits i ((nth es i).reallocate n b (child s i) cells).state s t
      → MovedInTurn es fits i n b s cells (after ((nth es i).reallocate n b (child s i) cells).answer t ((nth es i).reallocate n b (child s i) cells).cells)
  -- it refuses, and more is tried
  declines_then : (s t : State) (cells : Cells) (r : After Reallocated) → ((nth es i).reallocate n b (child s i) cells).answer ≡ unmoved → IsWithMember fits i ((nth es i).reallocate n b (child s i) cells).state s t
      → MovedInTurn es fits i n b t ((nth es i).reallocate n b (child s i) cells).cells r → MovedInTurn es fits i n b s cells r
  -- members serve a new block, or none
  moved_away : (s : State) (cells : Cells) (r : After (Option Placed)) (give : Change) → ServedInTurn es fits (λ j. (nth es j).allocate n) s cells r
      → IsCallOfMember fits i r.state ((nth es i).deallocate b (child r.state i) r.cells) (give b r.state r.cells) → MovedInTurn es fits i n b s cells (then_give give b r)

-- ---- the calls

-- behind the guards that each form has, a block grows by its holder's call
pub record GrowsByHolder (g : Rules) (es : List Rules) (fits : State → Bool) (i delta : ℕ) (b : Block) (s : State) (cells : Cells) : Type 0 where
  pub change : Change
  pub guarded : g.expand delta b s cells ≡ asked_to_expand delta change b s cells
  pub by_holder : IsCallOfMember fits i s ((nth es i).expand delta b (child s i) cells) (change b s cells)

-- behind the guards that each form has, a block gets another length by its holder, or moves
pub record MovesByHolder (g : Rules) (es : List Rules) (fits : State → Bool) (i n : ℕ) (b : Block) (s : State) (cells : Cells) : Type 0 where
  pub move : Reallocate
  pub guarded : g.reallocate n b s cells ≡ asked_to_reallocate n g.deallocate move b s cells
  pub by_holder : MovedInTurn es fits i n b s cells (move b s cells)

-- the general form of reallocation, of the form's other calls
pub record MovesGenerally (g : Rules) : Type 0 where
  pub offered : Offers
  pub general : (n : ℕ) (b : Block) (s : State) (cells : Cells) → g.reallocate n b s cells ≡ asked_to_reallocate n g.deallocate (general_reallocate n offered g.expand (g.allocate n) g.deallocate) b s cells

-- of a block of the open member i, in an open state
abbrev pub OfHeld : (es : List Rules) → Holder → (fits : State → Bool) → (ℕ → Block → State → Cells → Type 0) → Type 0
OfHeld es holder fits P = (i : ℕ) (b : Block) (s : State) (cells : Cells) → IsOpenGroup es fits s cells → holder b s ≡ Some i → i < length es → is_open (child s i) ≡ true → P i b s cells

-- when all blocks come back, the state is an open one again, no member has a block out, and cells are freed alone
pub record IsAllBack (g : Rules) (es : List Rules) (fits : State → Bool) (cells : Cells) (o : Opened) : Type 0 where
  pub open_group : IsOpenGroup es fits o.state o.cells
  pub none : (j : ℕ) (b : Block) → (nth es j).is_out b (child o.state j) o.cells ≡ true → ⊥
  pub table : OnlyFreed (IsLeaf g) cells o.cells

-- each call goes to members
pub record CallsMembers (g : Rules) (es : List Rules) (holder : Holder) (fits : State → Bool) : Type 0 where
  pub allocate : (n : ℕ) (s : State) (cells : Cells) → IsOpenGroup es fits s cells → ServedInTurn es fits (λ i. (nth es i).allocate n) s cells (g.allocate n s cells)
  pub aligned_allocate : (n a : ℕ) (s : State) (cells : Cells) → IsOpenGroup es fits s cells → ServedInTurn es fits (λ i. (nth es i).aligned_allocate n a) s cells (g.aligned_allocate n a s cells)
  pub deallocate : OfHeld es holder fits (λ i b s cells. IsCallOfMember fits i s ((nth es i).deallocate b (child s i) cells) (g.deallocate b s cells))
  pub expand : (delta : ℕ) → OfHeld es holder fits (λ i b s cells. GrowsByHolder g es fits i delta b s cells)
  pub reallocate : MovesGenerally g ⊎ ((n : ℕ) → OfHeld es holder fits (λ i b s cells. MovesByHolder g es fits i n b s cells))
  -- a block that is to have the length that it has stays as it is
  pub same_length : (b : Block) (s : State) (cells : Cells) → g.reallocate b.len b s cells ≡ after (moved_to b) s cells
  pub owns : (b : Block) (s : State) (cells : Cells) → IsOpenGroup es fits s cells → AskedInTurn es fits b s (g.owns b s).state
  pub deallocate_all : (s : State) (cells : Cells) → IsOpenGroup es fits s cells → IsAllBack g es fits cells (g.deallocate_all s cells)
  pub set_up : (need : ℕ) (cells : Cells) (o : Opened) → NoCell (IsLeaf g) cells → g.set_up need cells ≡ Ok o → IsOpenGroup es fits o.state o.cells

-- ---- the whole

-- all that is asked of a form whose blocks its members hold
pub record HeldByMembers (g : Rules) (es : List Rules) : Type 0 where
  -- the member that a block is one of, and the one where none holds it
  pub holder : Holder
  pub otherwise : Option ℕ
  -- the test of what is the form's own
  pub fits : State → Bool
  pub leaves : g.leaf_tags ≡ tags_of es
  pub alignment : g.alignment ≡ least_alignment es
  pub tells : TellsByHolder g es holder
  pub finds : FindsHolder g es holder otherwise fits
  pub walks : WalksIntoMembers g es
  pub stands : StandsByMembers g es fits
  pub calls : CallsMembers g es holder fits

-- a regular form whose blocks its members hold is lawful, over members that are regular and lawful, with tags of their own
abbrev pub HeldByMembersIsLawful : Type 0
HeldByMembersIsLawful = (g : Rules) (es : List Rules) → HeldByMembers g es → HaveOwnTags es → IsRegular g → EachMember IsRegular es → EachMember IsLawful es → IsLawful g
