-- What holds of every layer that is made holds of a region over such a parent.
use Rattle.std.proofs.Common.{◌≡◌, refl, ℕ, true}
use Rattle.size_round.proofs.PowerLaws.{powers_pass}
use Rattle.layer_rules.specs.Rules.{Rules, HasSomeTags}
use Rattle.region_rules.specs.RegionRules.{region_rules}
use Rattle.region_rules.specs.RegionMeanings.{IsRegionSize}
use Rattle.region_rules.proofs.RegionRegular.{region_is_regular}
use Rattle.region_rules.proofs.RegionLawful.{region_is_lawful}
use Rattle.layer_laws.specs.Lawful.{IsMade}
use Rattle.layer_laws.proofs.Steps.{one-more}
use Rattle.layer_rules.specs.Layering.{LayerModel}
use Rattle.layer_core.specs.declared.Layer.{Ghosts}
use Rattle.region_block.specs.declared.bump.Region.{Region}
use Rattle.region_block.specs.RegionProper.{IsProper}
use Rattle.region_block.specs.RegionModel.{region_of}

pub region_size : (size align : ℕ) (e : Rules) → IsProper size align e → IsRegionSize size align e
region_size size align e p = record { some = p.size_some; most = p.size_most; power = (powers_pass align).0 p.power; align_most = p.align_most; align_below = p.aligned }

pub rules_made : (size align : ℕ) (e : Rules) → IsProper size align e → IsMade e → IsMade (region_rules size align e)
unfolding region_rules
rules_made size align e p l =
    let w = region_size size align e p in
    record {
      few = one-more e.nodes _ p.few;
      shallow = one-more e.depth _ p.depth;
      regular = region_is_regular size align e w l.regular;
      lawful = λ d h. let t : HasSomeTags e = record { least = h.least } in region_is_lawful size align e w t l.regular (l.lawful d t);
    }

pub region_made : {P : Type 0} {G : Ghosts P} → ((p : P) → IsMade (G.model p).rules) → (l : Region P G) → IsMade (region_of G.model l).rules
region_made made l = rules_made l.size l.align _ l.proper (made l.parent)

-- a region offers `owns`
pub region_owns : {P : Type 0} {G : Ghosts P} → (model : P → LayerModel) (l : Region P G) → (region_of model l).rules.offers.owns ≡ true
unfolding region_rules
region_owns model l = refl
