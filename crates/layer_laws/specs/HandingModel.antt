-- What contracts see of a layer that hands its blocks down, made of its form over its parent: closed, or open with what it keeps.
use Rattle.std.specs.Prelude.{Bool, true, false, Option, Some, None}
use Rattle.layer_rules.specs.Fields.{Fields, Kept, open_fields, closed_fields, one_field, kept_nothing}
use Rattle.layer_rules.specs.Rules.{Rules}
use Rattle.layer_rules.specs.Handing.{Handing, handing_rules}
use Rattle.layer_rules.specs.Layering.{LayerModel}

abbrev pub hand_fields : {A : Type 0} → (A → Kept) → Option A → (parent : Fields) → Fields
hand_fields kept None parent = closed_fields
hand_fields kept (Some x) parent = open_fields (kept x) (one_field parent)

abbrev pub hand_model : {A : Type 0} → (Rules → Handing) → (A → Kept) → Option A → (parent : LayerModel) → LayerModel
hand_model form kept o t = record { rules = handing_rules (form t.rules) t.rules; fields = hand_fields kept o t.fields }

-- what is kept by one that keeps no number, open or not
abbrev pub open_if : Bool → Option (Unit {0})
open_if true = Some tt
open_if false = None

abbrev pub keeps_nothing : Unit {0} → Kept
keeps_nothing done = kept_nothing
