-- What contracts see of a free list over a parent.
use Rattle.std.specs.Prelude.{ℕ, Option}
use Rattle.free_list_rules.specs.FreeListRules.{free_list_rules}
use Rattle.layer_rules.specs.Fields.{Kept, kept_cache}
use Rattle.layer_rules.specs.Layering.{LayerModel}
use Rattle.layer_laws.specs.HandingModel.{hand_fields}
use Rattle.layer_core.specs.declared.Layer.{Ghosts}
use Rattle.free_list.specs.declared.caching.Chain.{Chain}
use Rattle.free_list.specs.declared.caching.FreeList.{FreeList}

-- the numbers of an open free list: how many blocks are cached, and the place of the front
abbrev pub kept_chain : Chain → Kept
kept_chain c = kept_cache c.count c.front

abbrev pub free_list_model : (least greatest : ℕ) → Option Chain → (parent : LayerModel) → LayerModel
free_list_model least greatest chain parent = record { rules = free_list_rules least greatest parent.rules; fields = hand_fields kept_chain chain parent.fields }

abbrev pub free_list_of : {P : Type 0} {G : Ghosts P} → (P → LayerModel) → FreeList P G → LayerModel
free_list_of model l = free_list_model l.least l.greatest l.chain (model l.parent)
