-- What hands its blocks down: what is said of them at a path's end.
use Rattle.std.proofs.Common.{◌≡◌, ◌≢◌, refl, ℕ, zero, suc, ◌<◌, ◌&&◌, List, [], ◌∷◌, length, arith}
use Rattle.space_core.specs.Cells.{Cells}
use Rattle.layer_rules.specs.declared.Asked.{Asked}
use Rattle.layer_rules.specs.Members.{nth, into_member}
use Rattle.layer_rules.specs.NullRules.{null_rules}
use Rattle.layer_rules.specs.Offering.{is_served_size}
use Rattle.layer_rules.specs.Owning.{into_parent}
use Rattle.layer_rules.specs.Handing.{Handing, handing_rules}
use Rattle.layer_rules.specs.Rules.{Rules, IsLeaf, IsSettled}
use Rattle.layer_rules.specs.State.{State, child}
use Rattle.layer_laws.specs.Chooses.{EachMember}
use Rattle.layer_laws.specs.HandsDown.{HandsDown}
use Rattle.layer_laws.specs.Lawful.{IsRegular, IsLawful, HoldingLaws, OpeningLaws, PathLaws}
use Rattle.layer_laws.proofs.HandingParts.{out-hand, hand-opened}
use Rattle.layer_laws.proofs.MembersLawful.{all-regular, all-lawful}
use Rattle.layer_laws.proofs.Owners.{size-may_hold}
use Rattle.layer_laws.proofs.PathSteps.{WalksOn, walk-paths}

-- ---- the parent as the one member

abbrev pub only : Rules → List Rules
only e = e ∷ []

pub only-each : (P : Rules → Type 0) (e : Rules) → P e → EachMember P (only e)
only-each P e p zero l = p
only-each P e p (suc i) l = absurd (omega arith)

-- a step into the one child is one into the one member
pub only-step : (e : Rules) (i : ℕ) (answer : Rules → ℕ → Asked) → into_parent i (answer e 0) ≡ into_member (only e) i (answer (nth (only e) i) i)
only-step e zero answer = refl
only-step e (suc i) answer = refl

pub only-leaves : (e : Rules) (i t : ℕ) → IsLeaf (nth (only e) i) t → IsLeaf e t
unfolding null_rules
only-leaves e zero t l = l
only-leaves e (suc i) t l = absurd l

pub only-apart : (e : Rules) (i j : ℕ) → i ≢ j → (t : ℕ) → IsLeaf (nth (only e) i) t → IsLeaf (nth (only e) j) t → ⊥
unfolding null_rules
only-apart e zero zero n t x y = n refl
only-apart e zero (suc j) n t x y = y
only-apart e (suc i) j n t x y = x

pub only-settled : (e : Rules) (s : State) (cells : Cells) → IsSettled e (child s 0) cells → (i : ℕ) → i < length (only e) → IsSettled (nth (only e) i) (child s i) cells
only-settled e s cells z zero l = z
only-settled e s cells z (suc i) l = absurd (omega arith)

-- ---- paths

hand-walks_on : (h : Handing) (e : Rules) → HandsDown h e → IsRegular e → IsLawful e → WalksOn (handing_rules h e) (only e) h.down h.fits
unfolding handing_rules
hand-walks_on h e w g p =
    record {
      ends = record { asked = λ b s. refl; size = λ b s z. size-may_hold b s (h.fits b && e.holds (h.down b) (child s 0)) z };
      steps = λ i path b s. only-step e i (λ f k. f.owns_at path (is_served_size b.len && h.fits b) (h.down b) (child s k));
      within = λ b f. let v = w.wider b f in record { from = v.from; upto = v.upto };
      leaves = only-leaves e;
      apart = only-apart e;
      regular = all-regular (only e) (only-each IsRegular e g);
      lawful = all-lawful (only e) (only-each IsLawful e p);
      members = λ s cells o z. only-settled e s cells (hand-opened h e s cells o z).below;
      out = λ b s cells z o.
          let x = out-hand h e b s cells o in
          record { is_set = x.is_set; some = x.some; fitting = x.fits; number = 0; below = x.below; route = refl };
    }

pub hand-paths : (h : Handing) (e : Rules) → HandsDown h e → IsRegular e → IsLawful e → HoldingLaws (handing_rules h e) → OpeningLaws (handing_rules h e) → PathLaws (handing_rules h e)
hand-paths h e w g p holding opening = walk-paths (handing_rules h e) (only e) h.down h.fits (hand-walks_on h e w g p) holding opening
