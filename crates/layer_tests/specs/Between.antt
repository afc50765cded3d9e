-- Between calls: what callers know of a layer that stands, and of a block that it served.
use Rattle.space_core.specs.Memory.{Memory}
use Rattle.layer_rules.specs.declared.Block.{Block}
use Rattle.layer_rules.specs.Layering.{LayerModel, Stands, IsSetUp, IsShut, IsOutOf, IsMarkedOf}

-- a closed layer that stands
pub record IsWaiting (t : LayerModel) (m : Memory) : Type 0 where
  pub stands : Stands t m
  pub shut : IsShut t

-- an open layer that stands
pub record IsReady (t : LayerModel) (m : Memory) : Type 0 where
  pub stands : Stands t m
  pub opened : IsSetUp t

-- a block that is out, and may be given back
pub record IsHeld (t : LayerModel) (m : Memory) (b : Block) : Type 0 where
  pub out : IsOutOf t m b
  pub marked : IsMarkedOf t m b

-- each block that could be given back still can
abbrev pub KeepsHeld : (t t' : LayerModel) (m m' : Memory) → Type 0
KeepsHeld t t' m m' = (b : Block) → IsHeld t m b → IsHeld t' m' b
