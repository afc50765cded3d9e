-- A fallback is lawful over two layers that are, of which the primary tells what it holds: its blocks are held by the two.
use Rattle.layer_rules.specs.Rules.{Rules, HasDistinctTags, HasSomeTags}
use Rattle.layer_laws.proofs.HeldLawful.{held-lawful}
use Rattle.layer_laws.proofs.MembersLawful.{in-left, in-right, distinct-left, distinct-right}
use Rattle.layer_laws.specs.Lawful.{IsRegular, IsLawful}
use Rattle.fallback_rules.proofs.FallbackHeld.{AreLayers, both, each-layer, own-both, fallback-held}
use Rattle.fallback_rules.proofs.FallbackRegular.{fallback-regular}
use Rattle.fallback_rules.specs.FallbackMeanings.{FallbackIsLawful}
use Rattle.fallback_rules.specs.FallbackRules.{fallback_rules}

-- the tags of each of the two, where those of both are their own
pub tags-first : (p f : Rules) → HasDistinctTags (fallback_rules p f) → HasSomeTags (fallback_rules p f) → HasDistinctTags p × HasSomeTags p
unfolding fallback_rules
tags-first p f d s = (distinct-left p.leaf_tags f.leaf_tags d, record { least = λ t l. s.least t (in-left p.leaf_tags f.leaf_tags t l) })

pub tags-second : (p f : Rules) → HasDistinctTags (fallback_rules p f) → HasSomeTags (fallback_rules p f) → HasDistinctTags f × HasSomeTags f
unfolding fallback_rules
tags-second p f d s = (distinct-right p.leaf_tags f.leaf_tags d, record { least = λ t l. s.least t (in-right p.leaf_tags f.leaf_tags t l) })

pub fallback-lawful : FallbackIsLawful
fallback-lawful p f owns distinct some h k u v =
    let w : AreLayers p f = record { owns = owns; distinct = distinct; some = some; first_regular = h; second_regular = k; first = u; second = v } in
    held-lawful (fallback_rules p f) (both p f) (fallback-held p f w) (own-both p f w) (fallback-regular p f h k) (each-layer IsRegular p f h k) (each-layer IsLawful p f u v)
