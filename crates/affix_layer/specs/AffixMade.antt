-- What holds of every layer that is made holds of an affix over such a parent.
use Rattle.affix_rules.specs.AffixRules.{affix_handing, affix_rules}
use Rattle.affix_rules.proofs.AffixLawful.{affix-hands}
use Rattle.layer_laws.specs.Lawful.{IsMade}
use Rattle.layer_laws.proofs.HandingStands.{hand-made}
use Rattle.layer_core.specs.declared.Layer.{Ghosts}
use Rattle.affix_layer.specs.declared.affixing.Affix.{Affix}
use Rattle.affix_layer.specs.AffixModel.{affix_of}

pub affix_made : {P : Type 0} {G : Ghosts P} → ((p : P) → IsMade (G.model p).rules) → (l : Affix P G) → IsMade (affix_of G.model l).rules
unfolding affix_rules
affix_made {P} {G} made l =
    let e = (G.model l.parent).rules in
    let below = made l.parent in
    hand-made (affix_handing l.prefix l.suffix e) e (affix-hands l.prefix l.suffix e below.regular.telling) l.proper.few l.proper.depth below
