-- What `owns` of a free list does: its parent is asked, and what is round the cached blocks stays.
use Rattle.std.proofs.Common.{◌≡◌, refl, ap, sym, ◌∙◌, ℕ, Bool, true, List, [], Option, Some, None, is_some}
use Rattle.space_core.specs.Memory.{Memory}
use Rattle.layer_rules.specs.declared.Block.{Block}
use Rattle.layer_rules.specs.After.{Reply}
use Rattle.layer_rules.specs.Fields.{are_open}
use Rattle.layer_rules.specs.Layering.{LayerModel, IsSetUp, Frames, Stays, Owns}
use Rattle.layer_rules.specs.Offering.{is_served_size}
use Rattle.layer_rules.specs.Owning.{owns_child_if}
use Rattle.layer_rules.specs.State.{State, open_with, cache_own, one_child}
use Rattle.layer_laws.specs.Lawful.{IsMade, Any}
use Rattle.layer_laws.proofs.FurtherLaws.{owned-keeps}
use Rattle.free_list_rules.specs.FreeListRules.{cache_down, read_chain, free_list_rules}
use Rattle.free_list.specs.declared.caching.Chain.{Chain}
use Rattle.free_list.specs.FreeListProper.{IsProper}
use Rattle.free_list.specs.FreeListModel.{free_list_model}
use Rattle.free_list.proofs.Standing.{IsList, list-of, any-each, places, kept-by, list-frames}

-- the parent as it is after it was asked, under the same chain
asked-frames : (least greatest : ℕ) (c : Chain) (t t' : LayerModel) (m : Memory) (d : Block) (r : Bool) → IsList greatest c t m → Owns t t' d r → Frames (free_list_model least greatest (Some c) t) (free_list_model least greatest (Some c) t') m m
asked-frames least greatest c t t' m d r l a =
    let k = owned-keeps t t' m d r l.made l.parent a in
    let f : Frames t t' m m = record { rules = a.rules; image = k.stands.image; memory = l.parent.memory; size = refl; leaves = refl; foreign = record { at = λ i x y. refl } } in
    let stays = λ (b : Block). let y : Stays t t' m m b = record { bytes = record { at = λ i x y. refl }; clean = k.clean b; marked = k.marked b } in y in
    list-frames least greatest c t t' m m l f (kept-by greatest c t t' m m Any l refl (λ b o x. stays b) (any-each greatest (places c m)))

owned-main : (least greatest : ℕ) (c : Chain) (t t' : LayerModel) (b : Block) (r : Bool) → IsMade t.rules → IsProper least greatest t.rules → are_open t.fields ≡ true → is_served_size b.len ≡ true → Owns t t' (cache_down least greatest b) r
    → Owns (free_list_model least greatest (Some c) t) (free_list_model least greatest (Some c) t') b r
unfolding free_list_rules
owned-main least greatest c t t' b r l w e p a =
    let u = free_list_model least greatest (Some c) t in
    let d = cache_down least greatest b in
    let asks = λ (z : Bool) (s : State). owns_child_if z 0 (λ g. t.rules.owns d) b s in
    let same = λ (bytes : List ℕ). let y : u.rules.owns b (u.rules.read u.fields bytes) ≡ asks true (u.rules.read u.fields bytes) = ap (λ z. asks z (u.rules.read u.fields bytes)) p in y in
    record {
      rules = ap (free_list_rules least greatest) a.rules;
      opened = refl;
      answer = a.answer ∙ ap (λ (z : Reply). z.owned) (sym (same []));
      state = λ bytes. ap (λ s. open_with (cache_own (read_chain c.count c.front bytes)) (one_child s)) (a.state bytes) ∙ ap (λ (z : Reply). z.state) (sym (same bytes));
      image = λ m h. (asked-frames least greatest c t t' m d r (list-of least greatest c t m (record { made = l; proper = w; together = e; stands = h })) a).image;
    }

pub owned : (least greatest : ℕ) (o : Option Chain) (t t' : LayerModel) (b d : Block) (r : Bool) → IsMade t.rules → IsProper least greatest t.rules → are_open t.fields ≡ is_some o → IsSetUp (free_list_model least greatest o t) → is_served_size b.len ≡ true
    → d ≡ cache_down least greatest b → Owns t t' d r → Owns (free_list_model least greatest o t) (free_list_model least greatest o t') b r
owned least greatest None t t' b d r l w e u p q a = absurd (cc)
owned least greatest (Some c) t t' b d r l w e u p q a = owned-main least greatest c t t' b r l w e p (rw q at a)
