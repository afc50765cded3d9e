-- Choosing by length: what is said of blocks at a path's end.
use Rattle.std.proofs.Common.{◌≡◌, refl, ◌≤◌, true, ◌&&◌, arith, List}
use Rattle.layer_rules.specs.declared.Block.{Block}
use Rattle.layer_rules.specs.Blocks.{end_of}
use Rattle.layer_rules.specs.Choosing.{Choosing, chosen_down, choosing_rules}
use Rattle.layer_rules.specs.Members.{nth}
use Rattle.layer_rules.specs.Rules.{Rules}
use Rattle.layer_rules.specs.State.{child}
use Rattle.layer_laws.specs.Chooses.{AreMembers}
use Rattle.layer_laws.specs.Lawful.{HoldingLaws, OpeningLaws, PathLaws}
use Rattle.layer_laws.proofs.ChoosingParts.{out-chosen, chosen-opened}
use Rattle.layer_laws.proofs.MembersLawful.{beside, leaf-in}
use Rattle.layer_laws.proofs.Owners.{size-may_hold}
use Rattle.layer_laws.proofs.PathSteps.{IsWithin, WalksOn, walk-paths}

chosen-within : (h : Choosing) (es : List Rules) → AreMembers h es → (b : Block) → h.fits b.len ≡ true → IsWithin b (chosen_down h b)
chosen-within h es w b f =
    let l = w.chooses.enough b.len f in
    let from : (chosen_down h b).place ≤ b.place = omega arith in
    let upto : end_of b ≤ end_of (chosen_down h b) = omega arith in
    record { from = from; upto = upto }

choosing-walks_on : (h : Choosing) (es : List Rules) → AreMembers h es → WalksOn (choosing_rules h es) es (chosen_down h) (λ b. h.fits b.len)
unfolding choosing_rules
choosing-walks_on h es w =
    record {
      ends = record { asked = λ b s. refl; size = λ b s z. size-may_hold b s (h.fits b.len && (nth es (h.chosen b.len)).holds (chosen_down h b) (child s (h.chosen b.len))) z };
      steps = λ i path b s. refl;
      within = chosen-within h es w;
      leaves = λ i t l. leaf-in es i t l;
      apart = λ i j n t x y. beside es i j t w.own.distinct n x y;
      regular = w.regular;
      lawful = w.lawful;
      members = λ s cells o z. (chosen-opened h es s cells o z).settled;
      out = λ b s cells z o.
          let x = out-chosen h es b s cells o in
          record { is_set = x.is_set; some = x.some; fitting = x.fits; number = h.chosen b.len; below = x.below; route = refl };
    }

pub choosing-paths : (h : Choosing) (es : List Rules) → AreMembers h es → HoldingLaws (choosing_rules h es) → OpeningLaws (choosing_rules h es) → PathLaws (choosing_rules h es)
choosing-paths h es w holding opening = walk-paths (choosing_rules h es) es (chosen_down h) (λ b. h.fits b.len) (choosing-walks_on h es w) holding opening
