-- What is said of a free list's blocks at a path's end.
use Rattle.std.proofs.Common.{refl, sym, ℕ, ◌≤◌, true, ◌&&◌, ap, ◌∙◌, arith}
use Rattle.std.proofs.Math.Bool.{and-true}
use Rattle.layer_rules.specs.declared.Block.{Block}
use Rattle.layer_rules.specs.Blocks.{end_of}
use Rattle.layer_rules.specs.Offering.{is_served_size}
use Rattle.layer_rules.specs.Owning.{into_parent}
use Rattle.layer_rules.specs.Rules.{Rules}
use Rattle.layer_rules.specs.State.{child}
use Rattle.layer_laws.specs.Lawful.{IsRegular, IsLawful, HoldingLaws, OpeningLaws, PathLaws}
use Rattle.layer_laws.proofs.HandingAsked.{only, only-each, only-step, only-leaves, only-apart, only-settled}
use Rattle.layer_laws.proofs.MembersLawful.{all-regular, all-lawful}
use Rattle.layer_laws.proofs.Owners.{size-may_hold}
use Rattle.layer_laws.proofs.PathSteps.{IsWithin, WalksOn, walk-paths}
use Rattle.free_list_rules.specs.FreeListRules.{cache_down, free_list_rules}
use Rattle.free_list_rules.proofs.CacheParts.{cache-enough, cache-opened, out-free_list}

cached-within : (least greatest : ℕ) (b : Block) → IsWithin b (cache_down least greatest b)
cached-within least greatest b =
    let d = cache_down least greatest b in
    let n = cache-enough least greatest b.len in
    let from : d.place ≤ b.place = omega arith in
    let upto : end_of b ≤ end_of d = omega arith in
    record { from = from; upto = upto }

free_list-walks_on : (least greatest : ℕ) (e : Rules) → IsRegular e → IsLawful e → WalksOn (free_list_rules least greatest e) (only e) (cache_down least greatest) (λ b. true)
unfolding free_list_rules
free_list-walks_on least greatest e g p =
    let down = cache_down least greatest in
    record {
      ends = record { asked = λ b s. refl; size = λ b s z. size-may_hold b s (e.holds (down b) (child s 0)) z };
      steps = λ i path b s.
          ap (λ x. into_parent i (e.owns_at path x (down b) (child s 0))) (sym (and-true (is_served_size b.len)))
          ∙ only-step e i (λ f k. f.owns_at path (is_served_size b.len && true) (down b) (child s k));
      within = λ b f. cached-within least greatest b;
      leaves = only-leaves e;
      apart = only-apart e;
      regular = all-regular (only e) (only-each IsRegular e g);
      lawful = all-lawful (only e) (only-each IsLawful e p);
      members = λ s cells o z. only-settled e s cells (cache-opened least greatest e s cells o z).below;
      out = λ b s cells z o.
          let x = out-free_list least greatest e b s cells o in
          record { is_set = x.is_set; some = x.some; fitting = refl; number = 0; below = x.below; route = refl };
    }

pub free_list-paths : (least greatest : ℕ) (e : Rules) → IsRegular e → IsLawful e → HoldingLaws (free_list_rules least greatest e) → OpeningLaws (free_list_rules least greatest e) → PathLaws (free_list_rules least greatest e)
free_list-paths least greatest e g p holding opening =
    walk-paths (free_list_rules least greatest e) (only e) (cache_down least greatest) (λ b. true) (free_list-walks_on least greatest e g p) holding opening
