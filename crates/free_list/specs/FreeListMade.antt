-- What holds of every layer that is made holds of a free list over such a parent.
use Rattle.std.proofs.Common.{ℕ}
use Rattle.layer_rules.specs.Rules.{Rules, HasSomeTags}
use Rattle.free_list_rules.specs.FreeListRules.{free_list_rules}
use Rattle.free_list_rules.proofs.FreeListRegular.{free_list-regular}
use Rattle.free_list_rules.proofs.FreeListLawful.{free_list-lawful}
use Rattle.layer_laws.specs.Lawful.{IsMade, most_nodes, most_layers}
use Rattle.layer_laws.proofs.Steps.{one-more}
use Rattle.layer_core.specs.declared.Layer.{Ghosts}
use Rattle.free_list.specs.declared.caching.FreeList.{FreeList}
use Rattle.free_list.specs.FreeListProper.{IsProper}
use Rattle.free_list.specs.FreeListModel.{free_list_of}

pub rules_made : (least greatest : ℕ) (e : Rules) → IsProper least greatest e → IsMade e → IsMade (free_list_rules least greatest e)
unfolding free_list_rules
rules_made least greatest e p l =
    record {
      few = one-more e.nodes most_nodes p.few;
      shallow = one-more e.depth most_layers p.depth;
      regular = free_list-regular least greatest e l.regular;
      lawful = λ d h. let t : HasSomeTags e = record { least = h.least } in free_list-lawful least greatest e p.size t l.regular (l.lawful d t);
    }

pub free_list_made : {P : Type 0} {G : Ghosts P} → ((p : P) → IsMade (G.model p).rules) → (l : FreeList P G) → IsMade (free_list_of G.model l).rules
free_list_made made l = rules_made l.least l.greatest _ l.proper (made l.parent)
