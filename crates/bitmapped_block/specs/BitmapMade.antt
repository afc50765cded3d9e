-- What holds of every layer that is made holds of a bitmap over such a parent.
use Rattle.std.proofs.Common.{◌≡◌, refl, ℕ, true}
use Rattle.layer_rules.specs.Rules.{Rules, HasSomeTags}
use Rattle.bitmap_rules.specs.BitmapRules.{bitmap_rules}
use Rattle.bitmap_rules.proofs.BitmapRegular.{bitmap_is_regular}
use Rattle.bitmap_rules.proofs.BitmapLawful.{bitmap-lawful}
use Rattle.layer_laws.specs.Lawful.{IsMade, most_nodes, most_layers}
use Rattle.layer_laws.proofs.Steps.{one-more}
use Rattle.layer_rules.specs.Layering.{LayerModel}
use Rattle.layer_core.specs.declared.Layer.{Ghosts}
use Rattle.bitmapped_block.specs.declared.bitmapped.BitmappedBlock.{BitmappedBlock}
use Rattle.bitmapped_block.specs.BitmapProper.{IsProper}
use Rattle.bitmapped_block.specs.BitmapModel.{bitmap_of}

pub rules_made : (unit count : ℕ) (e : Rules) → IsProper unit count e → IsMade e → IsMade (bitmap_rules unit count e)
unfolding bitmap_rules
rules_made unit count e p l =
    record {
      few = one-more e.nodes most_nodes p.few;
      shallow = one-more e.depth most_layers p.depth;
      regular = bitmap_is_regular unit count e p.size l.regular;
      lawful = λ d h. let t : HasSomeTags e = record { least = h.least } in bitmap-lawful unit count e p.size t l.regular (l.lawful d t);
    }

pub bitmap_made : {P : Type 0} {G : Ghosts P} → ((p : P) → IsMade (G.model p).rules) → (l : BitmappedBlock P G) → IsMade (bitmap_of G.model l).rules
bitmap_made made l = rules_made l.unit l.count _ l.proper (made l.parent)

-- a bitmap offers `owns`
pub bitmap_owns : {P : Type 0} {G : Ghosts P} → (model : P → LayerModel) (l : BitmappedBlock P G) → (bitmap_of model l).rules.offers.owns ≡ true
unfolding bitmap_rules
bitmap_owns model l = refl
