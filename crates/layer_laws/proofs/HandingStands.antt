-- For the code of a layer that hands its blocks down: what holds of its parent where it stands itself.
use Rattle.std.proofs.Common.{◌≡◌, refl, sym, ap, subst, ◌≤◌, ◌+◌, true, ◌&&◌, [], Option, Some, None, is_some}
use Rattle.space_core.specs.Memory.{Memory}
use Rattle.layer_rules.specs.declared.Block.{Block}
use Rattle.layer_rules.specs.Fields.{Kept, are_open}
use Rattle.layer_rules.specs.Owning.{is_plausible}
use Rattle.layer_rules.specs.State.{State, closed}
use Rattle.layer_laws.proofs.Basics.{and-snd}
use Rattle.layer_rules.specs.Rules.{Rules, HasSomeTags}
use Rattle.layer_rules.specs.Handing.{Handing, handing_rules}
use Rattle.layer_laws.specs.HandingModel.{hand_model}
use Rattle.layer_rules.specs.Layering.{LayerModel, state_of, kept_state, Stands, IsOutOf, IsCleanOf, IsMarkedOf, IsRoutedIn}
use Rattle.layer_laws.specs.Lawful.{IsMade, most_nodes, most_layers}
use Rattle.layer_laws.specs.HandsDown.{HandsDown}
use Rattle.layer_laws.proofs.Steps.{one-more}
use Rattle.layer_laws.proofs.StandingLaws.{made-shut, shut-stands, framing}
use Rattle.layer_laws.proofs.HandingLawful.{hand-lawful}
use Rattle.layer_laws.proofs.HandingParts.{hand-parts, out-hand}
use Rattle.layer_laws.proofs.HandingRegular.{hand-regular}

pub hand-made : (h : Handing) (e : Rules) → HandsDown h e → e.nodes + 1 ≤ most_nodes → e.depth + 1 ≤ most_layers → IsMade e → IsMade (handing_rules h e)
unfolding handing_rules
hand-made h e w n d l =
    record {
      few = one-more e.nodes most_nodes n;
      shallow = one-more e.depth most_layers d;
      regular = hand-regular h e w l.regular;
      lawful = λ k t. let v : HasSomeTags e = record { least = t.least } in hand-lawful h e w v l.regular (l.lawful k v);
    }

pub parent-stands : {A : Type 0} → (form : Rules → Handing) (kept : A → Kept) (o : Option A) (t : LayerModel) (m : Memory) → IsMade t.rules → are_open t.fields ≡ is_some o → Stands (hand_model form kept o t) m → Stands t m
unfolding handing_rules
parent-stands form kept None t m l e x =
    let w : HasSomeTags t.rules = record { least = x.sound.made.least } in
    shut-stands t m x.memory x.sound.distinct (record { least = x.sound.made.least; most = x.sound.made.most }) l.regular.reading (l.lawful x.sound.distinct w).opening e x.sound.settled
parent-stands form kept (Some k) t m l e x =
    let p = hand-parts (form t.rules) t.rules (state_of (hand_model form kept (Some k) t) m) m.cells x.sound.settled in
    record {
      memory = x.memory;
      sound = record { distinct = x.sound.distinct; made = record { least = x.sound.made.least; most = x.sound.made.most }; settled = p.below };
      image = x.image;
    }

-- a block that is out of it is out of its parent as it was handed down, and what is round that is as the parent wrote it
pub out-below : {A : Type 0} → (form : Rules → Handing) (kept : A → Kept) (o : Option A) (k : A) (t : LayerModel) (m : Memory) (b : Block) → o ≡ Some k → IsOutOf (hand_model form kept o t) m b → IsOutOf t m ((form t.rules).down b)
unfolding handing_rules
out-below form kept o k t m b q x = (out-hand (form t.rules) t.rules b (state_of (hand_model form kept (Some k) t) m) m.cells (subst (λ z. IsOutOf (hand_model form kept z t) m b) q x)).below

pub clean-below : {A : Type 0} → (form : Rules → Handing) (kept : A → Kept) (o : Option A) (k : A) (t : LayerModel) (m : Memory) (b : Block) → o ≡ Some k → IsMarkedOf (hand_model form kept o t) m b → IsCleanOf t m ((form t.rules).down b)
unfolding handing_rules
clean-below form kept o k t m b q x = and-snd ((form t.rules).marked b m.bytes) (t.rules.is_clean ((form t.rules).down b) (state_of t m) m.bytes) (subst (λ z. IsMarkedOf (hand_model form kept z t) m b) q x)

pub marked-below : {A : Type 0} → (form : Rules → Handing) (kept : A → Kept) (o : Option A) (k : A) (t : LayerModel) (m : Memory) (b : Block) → IsMade t.rules → are_open t.fields ≡ is_some o → Stands (hand_model form kept o t) m → o ≡ Some k → IsMarkedOf (hand_model form kept o t) m b → IsMarkedOf t m ((form t.rules).down b)
marked-below form kept o k t m b l e s q x = (framing t m l (parent-stands form kept o t m l e s)).marked ((form t.rules).down b) (state_of t m) m.bytes (clean-below form kept o k t m b q x)

-- ---- a block's route and extent

pub routed-below : {A : Type 0} → (form : Rules → Handing) (kept : A → Kept) (o : Option A) (t : LayerModel) (b : Block) → IsMade t.rules → are_open t.fields ≡ is_some o → IsRoutedIn (hand_model form kept o t) b → IsRoutedIn t ((form t.rules).down b)
unfolding handing_rules
routed-below form kept None t b l e x =
    subst (λ s. t.rules.is_routed ((form t.rules).down b) s ≡ true) (sym (made-shut t.rules l t.fields [] e))
    (and-snd ((form t.rules).fits b) (t.rules.is_routed ((form t.rules).down b) closed) (and-snd (is_plausible b) ((form t.rules).fits b && t.rules.is_routed ((form t.rules).down b) closed) x))
routed-below form kept (Some k) t b l e x =
    and-snd ((form t.rules).fits b) (t.rules.is_routed ((form t.rules).down b) (kept_state t)) (and-snd (is_plausible b) ((form t.rules).fits b && t.rules.is_routed ((form t.rules).down b) (kept_state t)) x)

pub extent-below : {A : Type 0} → (form : Rules → Handing) (kept : A → Kept) (o : Option A) (t : LayerModel) (b : Block) → IsMade t.rules → are_open t.fields ≡ is_some o → (form t.rules).fits b ≡ true
    → t.rules.extent ((form t.rules).down b) (kept_state t) ≡ (handing_rules (form t.rules) t.rules).extent b (kept_state (hand_model form kept o t))
unfolding handing_rules
extent-below form kept None t b l e f = rw f (ap (λ (s : State). t.rules.extent ((form t.rules).down b) s) (made-shut t.rules l t.fields [] e))
extent-below form kept (Some k) t b l e f = rw f refl
