-- What contracts see of a layer of any form.
use Rattle.std.specs.Prelude.{refl}
use Rattle.layer_rules.specs.Layering.{LayerModel}
use Rattle.layer_laws.specs.Lawful.{IsMade}
use Rattle.layer_core.specs.declared.Layer.{Ghosts}
use Rattle.region_block.specs.RegionModel.{region_of}
use Rattle.region_block.specs.RegionMade.{region_made}
use Rattle.free_list.specs.FreeListModel.{free_list_of}
use Rattle.free_list.specs.FreeListMade.{free_list_made}
use Rattle.quantizer.specs.QuantizerModel.{quantizer_of}
use Rattle.quantizer.specs.QuantizerMade.{quantizer_made}
use Rattle.stats_collector.specs.CollectorModel.{collector_of}
use Rattle.stats_collector.specs.CollectorMade.{collector_made}
use Rattle.affix_layer.specs.AffixModel.{affix_of}
use Rattle.affix_layer.specs.AffixMade.{affix_made}
use Rattle.size_round.specs.Sizes.{multiple_of, power_of_two}
use Rattle.size_round.specs.declared.rounding.Multiple.{Multiple}
use Rattle.size_round.specs.declared.rounding.PowerOfTwo.{PowerOfTwo}
use Rattle.composition.specs.declared.any_layers.AnyLayer.{AnyLayer}
use Rattle.composition.specs.declared.any_layers.AnyLayer.TheVariants.{Region, FreeList, QuantizeStep, QuantizePow2, Stats, Affix}

-- The model of the layer inside. It is opened where a layer of any form is proved or built alone.
unfoldable pub any_of : {P : Type 0} {G : Ghosts P} → (P → LayerModel) → AnyLayer P G → LayerModel
any_of model (Region l) = region_of model l
any_of model (FreeList l) = free_list_of model l
any_of model (QuantizeStep l) = quantizer_of model (λ (r : Multiple). multiple_of r.step) l
any_of model (QuantizePow2 l) = quantizer_of model (λ (r : PowerOfTwo). power_of_two) l
any_of model (Stats l) = collector_of model l
any_of model (Affix l) = affix_of model l

-- its rules are lawful, since those of each form are
pub any_made : {P : Type 0} {G : Ghosts P} → ((p : P) → IsMade (G.model p).rules) → (l : AnyLayer P G) → IsMade (any_of G.model l).rules
unfolding any_of
any_made made (Region l) = region_made made l
any_made made (FreeList l) = free_list_made made l
any_made made (QuantizeStep l) = quantizer_made made (λ (r : Multiple). r.proper) l
any_made made (QuantizePow2 l) = quantizer_made made (λ (r : PowerOfTwo). refl) l
any_made made (Stats l) = collector_made made l
any_made made (Affix l) = affix_made made l
