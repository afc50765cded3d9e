-- Members: what a group is to its members, whatever its own rule.
use Rattle.std.specs.Prelude.{ℕ, zero, suc, ◌+◌, Bool, true, false, ◌&&◌, ◌||◌, List, [], ◌∷◌, ◌++◌, Result, Ok, min, max}
use Rattle.space_core.specs.Cells.{Cells}
use Rattle.layer_rules.specs.declared.Asked.{Asked}
use Rattle.layer_rules.specs.declared.Asked.TheVariants.{NoSuchLayer}
use Rattle.layer_rules.specs.declared.Fact.{Fact}
use Rattle.layer_rules.specs.declared.Offers.{Offers}
use Rattle.layer_rules.specs.Offering.{all_offers, both_offer, full_alignment}
use Rattle.layer_rules.specs.Fields.{Fields, child_fields}
use Rattle.layer_rules.specs.State.{State, closed, open_with, States, no_children, child_and, is_open, child}
use Rattle.layer_rules.specs.Setting.{then_members}
use Rattle.layer_rules.specs.After.{Opened, opened}
use Rattle.layer_rules.specs.Deallocating.{emptied_child}
use Rattle.layer_rules.specs.Rules.{Rules}
use Rattle.layer_rules.specs.NullRules.{null_rules}
use Rattle.layer_rules.specs.Testing.{is_nothing}

-- the member with this number, and null where there is none
abbrev pub nth : List Rules → ℕ → Rules
nth [] i = null_rules
nth (e ∷ es) zero = e
nth (e ∷ es) (suc i) = nth es i

abbrev pub nodes_of : List Rules → ℕ
nodes_of [] = 0
nodes_of (e ∷ es) = e.nodes + nodes_of es

abbrev pub depth_of : List Rules → ℕ
depth_of [] = 0
depth_of (e ∷ es) = max e.depth (depth_of es)

abbrev pub tags_of : List Rules → List ℕ
tags_of [] = []
tags_of (e ∷ es) = e.leaf_tags ++ tags_of es

abbrev pub offers_of_all : List Rules → Offers
offers_of_all [] = all_offers
offers_of_all (e ∷ es) = both_offer e.offers (offers_of_all es)

abbrev pub least_alignment : List Rules → ℕ
least_alignment [] = full_alignment
least_alignment (e ∷ es) = min e.alignment (least_alignment es)

-- the members in order, counted from i; the first one's first node has this number
unfoldable pub open_each : List Rules → (need : ℕ → ℕ) (i node : ℕ) → Cells → Result (States × Cells) ℕ
open_each [] need i node cells = Ok (no_children, cells)
open_each (e ∷ es) need i node cells =
    then_members node (e.set_up (need i) cells) (λ rest. open_each es need (suc i) (node + e.nodes) rest)

-- all blocks of the members are taken back, in order, from number i on
unfoldable pub empty_each : List Rules → ℕ → State → Cells → Opened
empty_each [] i s cells = opened s cells
empty_each (e ∷ es) i s cells = let r = emptied_child s i e.deallocate_all cells in empty_each es (suc i) r.state r.cells

-- a step into the member i, where there is one
abbrev pub into_member : List Rules → ℕ → Asked → Asked
into_member [] i answer = NoSuchLayer
into_member (e ∷ es) zero answer = answer
into_member (e ∷ es) (suc i) answer = into_member es i answer

-- ---- the members from number i on

abbrev pub have_free_tails : List Rules → ℕ → State → Bool
have_free_tails [] i s = true
have_free_tails (e ∷ es) i s = e.has_free_tails (child s i) && have_free_tails es (suc i) s

abbrev pub read_each : List Rules → ℕ → Fields → List ℕ → States
read_each [] i fs bytes = no_children
read_each (e ∷ es) i fs bytes = child_and (e.read (child_fields fs i) bytes) (read_each es (suc i) fs bytes)

abbrev pub are_images : List Rules → ℕ → Fields → State → List ℕ → Bool
are_images [] i fs s bytes = true
are_images (e ∷ es) i fs s bytes = e.is_image (child_fields fs i) (child s i) bytes && are_images es (suc i) fs s bytes

abbrev pub is_occupied_in : List Rules → ℕ → State → Cells → ℕ → Bool
is_occupied_in [] i s cells k = false
is_occupied_in (e ∷ es) i s cells k = e.is_occupied (child s i) cells k || is_occupied_in es (suc i) s cells k

abbrev pub is_meta_in : List Rules → ℕ → State → ℕ → Bool
is_meta_in [] i s k = false
is_meta_in (e ∷ es) i s k = e.is_meta (child s i) k || is_meta_in es (suc i) s k

abbrev pub state_numbers_each : List Rules → ℕ → Fields → List (List ℕ)
state_numbers_each [] i fs = []
state_numbers_each (e ∷ es) i fs = e.state_numbers (child_fields fs i) ++ state_numbers_each es (suc i) fs

abbrev pub facts_each : List Rules → ℕ → State → Cells → List Fact
facts_each [] i s cells = []
facts_each (e ∷ es) i s cells = e.facts (child s i) cells ++ facts_each es (suc i) s cells

-- one open and sound child for each member
abbrev pub are_settled : List Rules → States → Cells → Bool
are_settled [] no_children cells = true
are_settled [] (child_and t ts) cells = false
are_settled (e ∷ es) no_children cells = false
are_settled (e ∷ es) (child_and t ts) cells = is_open t && (e.is_settled t cells && are_settled es ts cells)

-- an open group with nothing of its own
abbrev pub group_settled : List Rules → State → Cells → Bool
group_settled es closed cells = false
group_settled es (open_with own ss) cells = is_nothing own && are_settled es ss cells
