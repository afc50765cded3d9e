-- What the rules of a list mean: which member it opens next, which blocks are out of it, and its laws.
use Rattle.std.proofs.Common.{◌≡◌, true, List, ℕ, Some, ◌≤◌, ◌↔◌}
use Rattle.layer_rules.specs.Rules.{Rules}
use Rattle.layer_laws.specs.Chooses.{EachMember, HaveOwnTags}
use Rattle.layer_laws.specs.Lawful.{IsRegular, IsLawful}
use Rattle.list_rules.specs.ListRules.{list_rules, first_closed, holder}
use Rattle.layer_rules.specs.State.{State, closed, child, children_of, is_open}
use Rattle.space_core.specs.Cells.{Cells}
use Rattle.layer_rules.specs.declared.Block.{Block}
use Rattle.layer_rules.specs.Members.{nth}

-- ---- the member that is opened next

-- it is closed
abbrev pub NextMemberIsClosed : Type 0
NextMemberIsClosed = (s : State) (i : ℕ) → first_closed 0 (children_of s) ≡ Some i → child s i ≡ closed

-- ---- which blocks are out

-- out of the first open member, in its order, that holds it
pub record IsOutMember (es : List Rules) (b : Block) (s : State) (cells : Cells) : Type 0 where
  pub is_set : is_open s ≡ true
  pub some : 1 ≤ b.len
  pub number : ℕ
  pub held : holder es b s ≡ Some number
  pub below : (nth es number).is_out b (child s number) cells ≡ true

-- a block is out of a list exactly so
abbrev pub OutOfList : Type 0
OutOfList = (members : List Rules) (b : Block) (s : State) (cells : Cells) → ((list_rules members).is_out b s cells ≡ true) ↔ IsOutMember members b s cells

-- ---- the laws

-- over members that are regular
abbrev pub ListIsRegular : Type 0
ListIsRegular = (members : List Rules) → EachMember IsRegular members → IsRegular (list_rules members)

-- over members that are regular and lawful, with leaves that have tags of their own, where each offers owns
abbrev pub ListIsLawful : Type 0
ListIsLawful =
    (members : List Rules) → HaveOwnTags members → EachMember (λ e. e.offers.owns ≡ true) members → EachMember IsRegular members → EachMember IsLawful members → IsLawful (list_rules members)
