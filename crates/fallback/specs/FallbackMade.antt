-- What holds of every layer that is made holds of a fallback over two such layers.
use Rattle.std.proofs.Common.{◌+◌, max}
use Rattle.layer_rules.specs.Rules.{Rules}
use Rattle.layer_laws.specs.Lawful.{IsMade, most_nodes, most_layers}
use Rattle.layer_laws.proofs.Steps.{one-more}
use Rattle.layer_core.specs.declared.Layer.{Ghosts}
use Rattle.fallback_rules.proofs.FallbackLawful.{tags-first, tags-second, fallback-lawful}
use Rattle.fallback_rules.proofs.FallbackRegular.{fallback-regular}
use Rattle.fallback_rules.specs.FallbackRules.{fallback_rules}
use Rattle.fallback.specs.declared.two_layers.Fallback.{Fallback}
use Rattle.fallback.specs.FallbackModel.{fallback_of}
use Rattle.fallback.specs.FallbackProper.{IsProper}

pub rules_made : (p f : Rules) → IsProper p f → IsMade p → IsMade f → IsMade (fallback_rules p f)
unfolding fallback_rules
rules_made p f h k l =
    record {
      few = one-more (p.nodes + f.nodes) most_nodes h.few;
      shallow = one-more (max p.depth f.depth) most_layers h.depth;
      regular = fallback-regular p f k.regular l.regular;
      lawful = λ d s.
          let first = tags-first p f d s in
          let second = tags-second p f d s in
          fallback-lawful p f h.owns d s k.regular l.regular (k.lawful first.0 first.1) (l.lawful second.0 second.1);
    }

pub fallback_made : {P F : Type 0} {G : Ghosts P} {H : Ghosts F} → ((p : P) → IsMade (G.model p).rules) → ((f : F) → IsMade (H.model f).rules) → (l : Fallback P F G H) → IsMade (fallback_of G.model H.model l).rules
fallback_made made others l = rules_made _ _ l.proper (made l.primary) (others l.second)
