-- Held by members: that members serve in turn, by the pieces that rules are made of; the state with another member; and a closed member.
use Rattle.std.proofs.Common.{◌≡◌, refl, sym, ◌∙◌, ℕ, ◌<◌, Bool, true, false, List, length, Option, Some, None, option_map, nat_eq, nat_lt}
use Rattle.size_round.specs.Sizes.{limit}
use Rattle.space_core.specs.Cells.{Cells}
use Rattle.layer_rules.specs.After.{After, after, Placed, from_child, Serve}
use Rattle.layer_rules.specs.Allocating.{served_unless, asked_for, serve_member}
use Rattle.layer_rules.specs.Members.{nth}
use Rattle.layer_rules.specs.Rules.{Rules, IsLeaf, IsSettled}
use Rattle.layer_rules.specs.State.{State, States, Own, closed, open_with, is_open, child, set_child, with_child}
use Rattle.layer_laws.proofs.Children.{child_count, set-same, set-other}
use Rattle.layer_laws.proofs.MembersLawful.{some-member}
use Rattle.layer_laws.proofs.Tests.{no-cell}
use Rattle.layer_laws.specs.Chooses.{EachNumber, HaveOwnTags}
use Rattle.layer_laws.specs.HeldByMembers.{IsWithMember, ServedInTurn, none_serves, refuses_then, one_serves, new_serves}
use Rattle.layer_laws.specs.Lawful.{IsLawful, NoCell}

-- the open state with another member, and perhaps other things of its own
pub with-set : (fits : State → Bool) (i : ℕ) (old new : Own) (ss : States) (t : State) → i < child_count ss → fits (open_with new (set_child ss i t)) ≡ true → IsWithMember fits i t (open_with old ss) (open_with new (set_child ss i t))
with-set fits i old new ss t l f = record { is_set = refl; in_order = f; here = set-same ss i t l; others = λ j n. set-other ss i j t (λ e. n (sym e)) }

served-unless : (es : List Rules) (fits : State → Bool) (serve : ℕ → Serve) (x y : Bool) (whole : Serve) (s : State) (cells : Cells) → ServedInTurn es fits serve s cells (whole s cells) → ServedInTurn es fits serve s cells (served_unless x y whole s cells)
served-unless es fits serve true y whole s cells h = none_serves s cells
served-unless es fits serve false true whole s cells h = none_serves s cells
served-unless es fits serve false false whole s cells h = h

-- behind the guards of every request
pub served-asked_for : (es : List Rules) (fits : State → Bool) (serve : ℕ → Serve) (n : ℕ) (whole : Serve) (s : State) (cells : Cells) → ServedInTurn es fits serve s cells (whole s cells) → ServedInTurn es fits serve s cells (asked_for n whole s cells)
served-asked_for es fits serve n whole s cells h = served-unless es fits serve (nat_eq n 0) (nat_lt limit n) whole s cells h

-- one member alone is asked
pub served-member : (es : List Rules) (fits : State → Bool) (serve : ℕ → Serve) (i : ℕ) (s : State) (cells : Cells) → i < length es → is_open (child s i) ≡ true
    → IsWithMember fits i (serve i (child s i) cells).state s (with_child s i (serve i (child s i) cells).state) → ServedInTurn es fits serve s cells (serve_member (λ b. b) i (serve i) s cells)
served-member es fits serve i s cells l o m = go x.answer refl
  where
    x : After (Option Placed)
    x = serve i (child s i) cells

    go : (a : Option Placed) → x.answer ≡ a → ServedInTurn es fits serve s cells (after (option_map (from_child (λ b. b) i) a) (with_child s i x.state) x.cells)
    go None e = refuses_then s (with_child s i x.state) cells i _ l o e m (none_serves (with_child s i x.state) x.cells)
    go (Some p) e = one_serves s (with_child s i x.state) cells i p l o e m

-- the state that is left
pub served-order : (es : List Rules) (fits : State → Bool) (serve : ℕ → Serve) (s : State) (cells : Cells) (r : After (Option Placed)) → ServedInTurn es fits serve s cells r → is_open s ≡ true → fits s ≡ true → (is_open r.state ≡ true) × (fits r.state ≡ true)
served-order es fits serve s cells _ (none_serves _ _) o f = (o, f)
served-order es fits serve s cells _ (refuses_then _ t _ i r l q e m rest) o f = served-order es fits serve t _ r rest m.is_set m.in_order
served-order es fits serve s cells _ (one_serves _ t _ i p l q e m) o f = (m.is_set, m.in_order)
served-order es fits serve s cells _ (new_serves _ t _ i need q p l shut set e m) o f = (m.is_set, m.in_order)

-- a closed and sound member has no cell
pub shut-none : (es : List Rules) → HaveOwnTags es → EachNumber IsLawful es → (j : ℕ) (cells : Cells) → IsSettled (nth es j) closed cells → NoCell (IsLeaf (nth es j)) cells
shut-none es own law j cells z = no-cell (nth es j) cells (some-member es j own) (sym ((law j).opening.closed_settled cells) ∙ z)
