-- Choosing by length: a member that is asked who owns a block leaves all that is told of blocks, over lawful members with tags of their own.
use Rattle.std.proofs.Common.{◌≡◌, refl, sym, ap, subst, ◌∙◌, ℕ, ◌<◌, Bool, true, false, ◌&&◌, List, length, nat_le, cond}
use Rattle.space_core.specs.Cells.{Cells}
use Rattle.layer_rules.specs.declared.Block.{Block}
use Rattle.layer_rules.specs.Blocks.{no_block}
use Rattle.layer_rules.specs.Offering.{is_served_size}
use Rattle.layer_rules.specs.Owning.{may_hold, owns_child_if}
use Rattle.layer_rules.specs.State.{State, States, closed, nothing, is_open, open_with, nth_child, set_child}
use Rattle.layer_rules.specs.Rules.{Rules, IsSettled}
use Rattle.layer_rules.specs.Members.{nth}
use Rattle.layer_rules.specs.Choosing.{Choosing, chosen_down, choosing_rules}
use Rattle.layer_laws.proofs.Basics.{and-snd}
use Rattle.layer_laws.proofs.Children.{set-keeps}
use Rattle.layer_laws.specs.Chooses.{AreMembers}
use Rattle.layer_laws.proofs.ChoosingParts.{chosen-opened, IsMemberChanged, with_member, changed-sound, changed-routes}
use Rattle.layer_laws.specs.Lawful.{KeepsTold, OwnsKeeping}
use Rattle.layer_laws.proofs.MembersLawful.{GroupParts}
use Rattle.layer_laws.proofs.Steps.{same-told}

-- what is told of each member stays where it does of the one that was set
member-same : {A : Type 0} → (es : List Rules) (i : ℕ) (ss : States) (t : State) (f : Rules → State → A) (j : ℕ) → f (nth es i) t ≡ f (nth es i) (nth_child ss i)
    → f (nth es j) (nth_child (set_child ss i t) j) ≡ f (nth es j) (nth_child ss j)
member-same es i ss t f j q =
    set-keeps ss i t (λ u. f (nth es j) u ≡ f (nth es j) (nth_child ss j)) j refl (λ e. subst (λ k. f (nth es k) t ≡ f (nth es k) (nth_child ss k)) (sym e) q)

told-member : (h : Choosing) (es : List Rules) (i : ℕ) (ss : States) (t : State) (cells : Cells) → AreMembers h es → GroupParts es (open_with nothing ss) cells → i < length es → is_open t ≡ true → KeepsTold (nth es i) (nth_child ss i) t cells
    → KeepsTold (choosing_rules h es) (open_with nothing ss) (with_member i ss t) cells
unfolding choosing_rules
told-member h es i ss t cells w p li o k =
    let m : IsMemberChanged es i ss t cells cells = record { parts = p; there = li; is_set = o; settled = k.settled; others = λ j n. record { at = λ c l. refl; back = λ c l. refl } } in
    record {
      settled = changed-sound h es i ss t cells cells w m;
      holds = λ c. let d = chosen_down h c in ap (λ x. is_served_size c.len && (h.fits c.len && x)) (member-same es i ss t (λ e u. e.holds d u) (h.chosen c.len) (k.holds d));
      extents = λ c. let d = chosen_down h c in ap (λ x. cond (h.fits c.len) x no_block) (member-same es i ss t (λ e u. e.extent d u) (h.chosen c.len) (k.extents d));
      routes = λ c x. changed-routes h es i ss t cells cells m c x (λ f e y. k.routes (chosen_down h c) y);
      out = λ c. let d = chosen_down h c in ap (λ x. nat_le 1 c.len && (h.fits c.len && x)) (member-same es i ss t (λ e u. e.is_out d u cells) (h.chosen c.len) (k.out d));
      clean = λ c bytes. let d = chosen_down h c in member-same es i ss t (λ e u. e.is_clean d u bytes) (h.chosen c.len) (k.clean d bytes);
      marked = λ c bytes. let d = chosen_down h c in member-same es i ss t (λ e u. e.is_clean d u bytes) (h.chosen c.len) (k.clean d bytes);
    }

-- whether the member is asked or not
told-case : (h : Choosing) (es : List Rules) (b : Block) (ss : States) (cells : Cells) (q : Bool) → (q ≡ true → h.fits b.len ≡ true) → AreMembers h es → GroupParts es (open_with nothing ss) cells → IsSettled (choosing_rules h es) (open_with nothing ss) cells
    → KeepsTold (choosing_rules h es) (open_with nothing ss) (owns_child_if q (h.chosen b.len) (λ c. (nth es (h.chosen b.len)).owns (chosen_down h b)) b (open_with nothing ss)).state cells
told-case h es b ss cells false f w p z = same-told (choosing_rules h es) (open_with nothing ss) cells z
told-case h es b ss cells true f w p z =
    let i = h.chosen b.len in
    let d = chosen_down h b in
    let t = nth_child ss i in
    let li = w.chooses.there b.len (f refl) in
    told-member h es i ss ((nth es i).owns d t).state cells w p li ((w.regular i).openness.owns d t ∙ p.all_open i li) ((w.lawful i).keeping.owned d t cells (p.settled i li))

pub choosing-owned : (h : Choosing) (es : List Rules) → AreMembers h es → OwnsKeeping (choosing_rules h es)
unfolding choosing_rules
choosing-owned h es w b closed cells z = same-told (choosing_rules h es) closed cells z
choosing-owned h es w b (open_with own ss) cells z =
    let f = choosing_rules h es in
    let s = open_with own ss in
    let x = chosen-opened h es s cells refl z in
    subst (λ s. IsSettled f s cells → GroupParts es s cells → KeepsTold f s (f.owns b s).state cells) (sym x.form)
    (λ z x. told-case h es b ss cells _ (λ q. and-snd (may_hold b s) (h.fits b.len) q) w x z) z x
