-- A free list that is asked who owns a block: all that is told of blocks stays where it does of the parent.
use Rattle.std.proofs.Common.{◌≡◌, refl, sym, ap, ap₂, subst, ◌∙◌, ℕ, Bool, true, false, ◌&&◌, List, ◌∷◌, nat_le}
use Rattle.space_core.specs.Cells.{Cells}
use Rattle.layer_rules.specs.declared.Block.{Block}
use Rattle.layer_rules.specs.Offering.{is_served_size}
use Rattle.layer_rules.specs.Owning.{owns_child_if}
use Rattle.layer_rules.specs.State.{State, cache_own, closed, open_with, one_child, is_open, child, cached_of}
use Rattle.layer_rules.specs.Rules.{Rules, IsSettled}
use Rattle.layer_laws.specs.Lawful.{KeepsTold, OwnsKeeping, OpennessLaws}
use Rattle.layer_laws.proofs.Steps.{same-told}
use Rattle.free_list_rules.specs.FreeListRules.{cache_down, free_list_rules}
use Rattle.free_list_rules.specs.FreeListMeanings.{IsSoundCache}
use Rattle.free_list_rules.proofs.CacheParts.{cache-settles, cache-opened, out-free_list, all-out-moved, same-out, all-apart-moved, apart-from-same}

told-over : (least greatest : ℕ) (e : Rules) (ps : List ℕ) (t u : State) (cells : Cells) → is_open u ≡ true → IsSoundCache greatest e (open_with (cache_own ps) (one_child t)) cells → KeepsTold e t u cells
    → KeepsTold (free_list_rules least greatest e) (open_with (cache_own ps) (one_child t)) (open_with (cache_own ps) (one_child u)) cells
unfolding free_list_rules
told-over least greatest e ps t u cells o h k =
    let down = cache_down least greatest in
    let same = same-out e t u cells greatest ps (λ c o. k.extents c) h.out in
    record {
      settled = cache-settles greatest e ps u cells o (all-out-moved e t u cells cells greatest ps (λ b x. k.out b ∙ x) h.out) (all-apart-moved e t u greatest ps same h.apart) k.settled;
      holds = λ c. ap (λ x. is_served_size c.len && x) (k.holds (down c));
      extents = λ c. k.extents (down c);
      routes = λ c x. ap (λ r. 0 ∷ r) (k.routes (down c) (out-free_list least greatest e c (open_with (cache_own ps) (one_child t)) cells x).below);
      out = λ c. ap₂ (λ x y. nat_le 1 c.len && (x && y)) (k.out (down c)) (apart-from-same e t u greatest (down c) ps k.extents);
      clean = λ c bytes. k.clean (down c) bytes;
      marked = λ c bytes. k.clean (down c) bytes;
    }

-- whether the parent is asked or not
told-case : (least greatest : ℕ) (e : Rules) (b : Block) (ps : List ℕ) (t : State) (cells : Cells) (q : Bool) → OpennessLaws e → OwnsKeeping e → IsSoundCache greatest e (open_with (cache_own ps) (one_child t)) cells
    → IsSettled (free_list_rules least greatest e) (open_with (cache_own ps) (one_child t)) cells
    → KeepsTold (free_list_rules least greatest e) (open_with (cache_own ps) (one_child t)) (owns_child_if q 0 (λ c. e.owns (cache_down least greatest b)) b (open_with (cache_own ps) (one_child t))).state cells
told-case least greatest e b ps t cells false stays law h z = same-told (free_list_rules least greatest e) (open_with (cache_own ps) (one_child t)) cells z
told-case least greatest e b ps t cells true stays law h z =
    let d = cache_down least greatest b in told-over least greatest e ps t (e.owns d t).state cells (stays.owns d t ∙ h.parent) h (law d t cells h.below)

pub free_list-owned : (least greatest : ℕ) (e : Rules) → OpennessLaws e → OwnsKeeping e → OwnsKeeping (free_list_rules least greatest e)
unfolding free_list_rules
free_list-owned least greatest e stays law b closed cells z = same-told (free_list_rules least greatest e) closed cells z
free_list-owned least greatest e stays law b (open_with own ss) cells z =
    let f = free_list_rules least greatest e in
    let s = open_with own ss in
    let x = cache-opened least greatest e s cells refl z in
    subst (λ s. IsSettled f s cells → IsSoundCache greatest e s cells → KeepsTold f s (f.owns b s).state cells) (sym x.form)
    (λ z x. told-case least greatest e b (cached_of s) (child s 0) cells _ stays law x z) z x
