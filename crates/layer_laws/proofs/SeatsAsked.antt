-- A group each of whose blocks is out of one member, and is handed on as it is: what is said of them at a path's end.
use Rattle.std.proofs.Common.{◌≡◌, refl, sym, ap, ◌∙◌, ℕ, true, List, ◌∷◌, arith}
use Rattle.std.proofs.Math.Bool.{and-true}
use Rattle.space_core.specs.Cells.{Cells}
use Rattle.layer_rules.specs.declared.Block.{Block}
use Rattle.layer_rules.specs.Members.{nth, into_member}
use Rattle.layer_rules.specs.Offering.{is_served_size}
use Rattle.layer_rules.specs.Rules.{Rules, IsSettled, owns_along}
use Rattle.layer_rules.specs.State.{State, child, is_open}
use Rattle.layer_laws.specs.Chooses.{EachNumber}
use Rattle.layer_laws.specs.Lawful.{IsRegular, HoldingLaws, OpeningLaws, PathLaws}
use Rattle.layer_laws.proofs.MembersLawful.{beside}
use Rattle.layer_laws.proofs.PathEnds.{IsAskedItself}
use Rattle.layer_laws.proofs.PathSteps.{WalksOn, walk-paths}
use Rattle.layer_laws.proofs.Seats.{AreSeated, AreLawfulMembers}

-- each member is regular and lawful, a step leads into the member with its number, and an open and sound group is seated
pub record AreAskedSeats (g : Rules) (es : List Rules) : Type 0 where
  pub members : AreLawfulMembers g es
  pub regular : EachNumber IsRegular es
  pub ends : IsAskedItself g
  pub steps : (i : ℕ) (path : List ℕ) (b : Block) (s : State) → owns_along g (i ∷ path) b s ≡ into_member es i ((nth es i).owns_at path (is_served_size b.len) b (child s i))
  pub out_open : (b : Block) (s : State) (cells : Cells) → g.is_out b s cells ≡ true → is_open s ≡ true
  pub seated : (s : State) (cells : Cells) → is_open s ≡ true → IsSettled g s cells → AreSeated g es s cells

seats-walk_on : (g : Rules) (es : List Rules) → AreAskedSeats g es → WalksOn g es (λ b. b) (λ b. true)
seats-walk_on g es w =
    record {
      ends = w.ends;
      steps = λ i path b s. w.steps i path b s ∙ ap (λ x. into_member es i ((nth es i).owns_at path x b (child s i))) (sym (and-true (is_served_size b.len)));
      within = λ b f. record { from = omega arith; upto = omega arith };
      leaves = w.members.leaves;
      apart = λ i j n t x y. beside es i j t w.members.own.distinct n x y;
      regular = w.regular;
      lawful = w.members.lawful;
      members = λ s cells o z. (w.seated s cells o z).members;
      out = λ b s cells z o.
          let first = w.out_open b s cells o in
          let x = w.seated s cells first z in
          let k = x.seat b o in
          record {
            is_set = first;
            some = (w.members.lawful k.number).keeping.out_some b (child s k.number) cells k.below;
            fitting = refl;
            number = k.number;
            below = k.below;
            route = (x.seen k.number b k.below).route;
          };
    }

pub seats-paths : (g : Rules) (es : List Rules) → AreAskedSeats g es → HoldingLaws g → OpeningLaws g → PathLaws g
seats-paths g es w holding opening = walk-paths g es (λ b. b) (λ b. true) (seats-walk_on g es w) holding opening
