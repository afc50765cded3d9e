-- Choosing by length: what it says that a block is out, that a group is sound, and that one member changed.
use Rattle.std.proofs.Common.{◌≡◌, refl, sym, ap, subst, ◌∙◌, ℕ, ◌≤◌, ◌<◌, Bool, true, false, ◌&&◌, arith, List, length, cond, nat_eq, nat_le, ◌∷◌}
use Rattle.std.proofs.lemmas.Bool.{and_from}
use Rattle.std.proofs.lemmas.Bool.Decides.{nat_tests}
use Rattle.space_core.specs.Cells.{Cells}
use Rattle.layer_rules.specs.declared.Block.{Block}
use Rattle.layer_rules.specs.Blocks.{no_block, with_len, is_apart}
use Rattle.layer_rules.specs.State.{State, nothing, is_open, child, open_with, States, nth_child, set_child}
use Rattle.layer_rules.specs.Rules.{Rules, IsLeaf, IsSettled, AreApart}
use Rattle.layer_rules.specs.Members.{nth, tags_of, group_settled}
use Rattle.layer_rules.specs.Choosing.{Choosing, chosen_down, have_one_member, choosing_rules}
use Rattle.layer_laws.proofs.Basics.{and-fst, and-snd}
use Rattle.layer_laws.proofs.Children.{child_count, child-case, set-same}
use Rattle.layer_laws.specs.Chooses.{AreMembers}
use Rattle.layer_laws.specs.Lawful.{TagsKept}
use Rattle.layer_laws.proofs.MembersLawful.{GroupParts, group-parts, changed-settled, out-some, covered-apart, beside}
use Rattle.layer_laws.proofs.Tests.{opened}

-- ---- members and lengths

-- a block that the member gave is handed down as it gave it
pub shown-back : (h : Choosing) (n : ℕ) (b : Block) → b.len ≡ h.asked n → chosen_down h (with_len b n) ≡ b
shown-back h n b q = ap (with_len b) (sym q)

-- two members have no tag in common
pub other-tags : (es : List Rules) (i : ℕ) (h : Choosing) (w : AreMembers h es) (j : ℕ) → (j ≡ i → ⊥) → (t : ℕ) → IsLeaf (nth es i) t → IsLeaf (nth es j) t → ⊥
other-tags es i h w j n t x y = beside es i j t w.own.distinct (λ e. n (sym e)) x y

-- two lengths of one member
pub record HaveOneMember (h : Choosing) (m n : ℕ) : Type 0 where
  pub less : h.fits m ≡ true
  pub more : h.fits n ≡ true
  pub same : h.chosen m ≡ h.chosen n

pub one-member : (h : Choosing) (m n : ℕ) → have_one_member h m n ≡ true → HaveOneMember h m n
one-member h m n q =
    let r = and-snd (h.fits m) (h.fits n && nat_eq (h.chosen m) (h.chosen n)) q in
    let z = and-snd (h.fits n) (nat_eq (h.chosen m) (h.chosen n)) r in
    record { less = and-fst (h.fits m) (h.fits n && nat_eq (h.chosen m) (h.chosen n)) q; more = and-fst (h.fits n) (nat_eq (h.chosen m) (h.chosen n)) r; same = grind (arith, nat_tests) }

-- ---- a block that is out

-- a length that has a member, out of that member
pub record IsOutChosen (h : Choosing) (es : List Rules) (b : Block) (s : State) (cells : Cells) : Type 0 where
  pub is_set : is_open s ≡ true
  pub some : 1 ≤ b.len
  pub fits : h.fits b.len ≡ true
  pub below : (nth es (h.chosen b.len)).is_out (chosen_down h b) (child s (h.chosen b.len)) cells ≡ true

out-parts : (b : Block) (s : State) (f x : Bool) → ((is_open s && nat_le 1 b.len) && (f && x)) ≡ true → (is_open s ≡ true) × (1 ≤ b.len) × (f ≡ true) × (x ≡ true)
out-parts b s f x o =
    let l : nat_le 1 b.len ≡ true = and-snd (is_open s) (nat_le 1 b.len) (and-fst (is_open s && nat_le 1 b.len) (f && x) o) in
    let y = and-snd (is_open s && nat_le 1 b.len) (f && x) o in
    (and-fst (is_open s) (nat_le 1 b.len) (and-fst (is_open s && nat_le 1 b.len) (f && x) o), grind (arith, nat_tests), and-fst f x y, and-snd f x y)

out-whole : (b : Block) (s : State) (f x : Bool) → is_open s ≡ true → 1 ≤ b.len → f ≡ true → x ≡ true → ((is_open s && nat_le 1 b.len) && (f && x)) ≡ true
out-whole b s f x o l p q = let z : nat_le 1 b.len ≡ true = grind (arith, nat_tests) in and_from _ _ (and_from _ _ o z) (and_from _ _ p q)

pub out-chosen : (h : Choosing) (es : List Rules) (b : Block) (s : State) (cells : Cells) → (choosing_rules h es).is_out b s cells ≡ true → IsOutChosen h es b s cells
unfolding choosing_rules
out-chosen h es b s cells o =
    let x = out-parts b s (h.fits b.len) ((nth es (h.chosen b.len)).is_out (chosen_down h b) (child s (h.chosen b.len)) cells) o in
    record { is_set = x.0; some = x.1; fits = x.2; below = x.3 }

pub chosen-out : (h : Choosing) (es : List Rules) (b : Block) (s : State) (cells : Cells) → IsOutChosen h es b s cells → (choosing_rules h es).is_out b s cells ≡ true
unfolding choosing_rules
chosen-out h es b s cells o = out-whole b s (h.fits b.len) ((nth es (h.chosen b.len)).is_out (chosen_down h b) (child s (h.chosen b.len)) cells) o.is_set o.some o.fits o.below

-- it is out of the member with this number
pub out-member : (h : Choosing) (es : List Rules) (b : Block) (s : State) (cells : Cells) (i : ℕ) → h.chosen b.len ≡ i → IsOutChosen h es b s cells → (nth es i).is_out (chosen_down h b) (child s i) cells ≡ true
out-member h es b s cells i q o = subst (λ k. (nth es k).is_out (chosen_down h b) (child s k) cells ≡ true) q o.below

pub chosen-opened : (h : Choosing) (es : List Rules) (s : State) (cells : Cells) → is_open s ≡ true → IsSettled (choosing_rules h es) s cells → GroupParts es s cells
unfolding choosing_rules
chosen-opened h es s cells o z = group-parts es s cells (opened s (tags_of es) cells (group_settled es s cells) o z)

-- ---- extents

cond-true : (x y : Block) (q : Bool) → q ≡ true → cond q x y ≡ x
cond-true x y true e = refl
cond-true x y false e = absurd (cc)

-- the extent is that of the block in the member with this number
pub extent-member : (h : Choosing) (es : List Rules) (b : Block) (s : State) (i : ℕ) → h.fits b.len ≡ true → h.chosen b.len ≡ i → (choosing_rules h es).extent b s ≡ (nth es i).extent (chosen_down h b) (child s i)
unfolding choosing_rules
extent-member h es b s i f q =
    cond-true ((nth es (h.chosen b.len)).extent (chosen_down h b) (child s (h.chosen b.len))) no_block (h.fits b.len) f
    ∙ ap (λ k. (nth es k).extent (chosen_down h b) (child s k)) q

-- and so is the route
pub route-member : (h : Choosing) (es : List Rules) (b : Block) (s : State) (i : ℕ) → h.chosen b.len ≡ i → (choosing_rules h es).route b s ≡ i ∷ (nth es i).route (chosen_down h b) (child s i)
unfolding choosing_rules
route-member h es b s i q = ap (λ k. k ∷ (nth es k).route (chosen_down h b) (child s k)) q

-- two blocks of one member are apart in the group and in the member alike
pub apart-member : (h : Choosing) (es : List Rules) (b c : Block) (s : State) (i : ℕ) → h.fits b.len ≡ true → h.fits c.len ≡ true → h.chosen b.len ≡ i → h.chosen c.len ≡ i → AreApart (choosing_rules h es) s b c
    → AreApart (nth es i) (child s i) (chosen_down h b) (chosen_down h c)
apart-member h es b c s i f g p q a = record { either = rw (← extent-member h es b s i f p, ← extent-member h es c s i g q) a.either }

-- a block with another length that its member is asked as the same
pub record IsSeenAsBefore (e : Rules) (b : Block) (n : ℕ) (s : State) (cells : Cells) : Type 0 where
  pub out : e.is_out (with_len b n) s cells ≡ true
  pub extent : e.extent (with_len b n) s ≡ e.extent b s
  pub route : e.route (with_len b n) s ≡ e.route b s

pub asked-as_one : (h : Choosing) (es : List Rules) (b : Block) (n : ℕ) (s : State) (cells : Cells) → HaveOneMember h b.len n → h.asked b.len ≡ h.asked n → 1 ≤ n → IsOutChosen h es b s cells
    → IsSeenAsBefore (choosing_rules h es) b n s cells
asked-as_one h es b n s cells one q l y =
    let c = with_len b n in
    let i = h.chosen b.len in
    let same : chosen_down h b ≡ chosen_down h c = ap (with_len b) q in
    record {
      out = chosen-out h es c s cells (record {
        is_set = y.is_set;
        some = l;
        fits = one.more;
        below = subst (λ k. (nth es k).is_out (chosen_down h c) (child s k) cells ≡ true) one.same (subst (λ d. (nth es i).is_out d (child s i) cells ≡ true) same y.below);
      });
      extent = extent-member h es c s i one.more (sym one.same) ∙ ap (λ d. (nth es i).extent d (child s i)) (sym same) ∙ sym (extent-member h es b s i one.less refl);
      route = route-member h es c s i (sym one.same) ∙ (ap (λ d. i ∷ (nth es i).route d (child s i)) (sym same) ∙ sym (route-member h es b s i refl));
    }

-- ---- one member changed

-- the member i stands as t, and the cells of each other are as before
pub record IsMemberChanged (es : List Rules) (i : ℕ) (ss : States) (t : State) (old new : Cells) : Type 0 where
  pub parts : GroupParts es (open_with nothing ss) old
  pub there : i < length es
  pub is_set : is_open t ≡ true
  pub settled : IsSettled (nth es i) t new
  pub others : (j : ℕ) → (j ≡ i → ⊥) → TagsKept (nth es j) old new

-- the open group with t for its member i
abbrev pub with_member : (i : ℕ) → States → State → State
with_member i ss t = open_with nothing (set_child ss i t)

in-count : (es : List Rules) (i : ℕ) (ss : States) (t : State) (old new : Cells) → IsMemberChanged es i ss t old new → i < child_count ss
in-count es i ss t old new m = let l = m.there in let c = m.parts.children in omega arith

pub changed-sound : (h : Choosing) (es : List Rules) (i : ℕ) (ss : States) (t : State) (old new : Cells) → AreMembers h es → IsMemberChanged es i ss t old new → IsSettled (choosing_rules h es) (with_member i ss t) new
unfolding choosing_rules
changed-sound h es i ss t old new w m =
    changed-settled es i ss t old new m.parts m.there m.is_set m.settled (λ j n s. (w.lawful j).placing.settled_tags (nth_child ss j) old new (m.others j n) s)

-- extent and route of a block of the changed member
pub changed-extent : (h : Choosing) (es : List Rules) (i : ℕ) (ss : States) (t : State) (old new : Cells) → IsMemberChanged es i ss t old new → (b : Block) → h.fits b.len ≡ true → h.chosen b.len ≡ i
    → (choosing_rules h es).extent b (with_member i ss t) ≡ (nth es i).extent (chosen_down h b) t
changed-extent h es i ss t old new m b f q =
    extent-member h es b (with_member i ss t) i f q ∙ ap (λ u. (nth es i).extent (chosen_down h b) u) (set-same ss i t (in-count es i ss t old new m))

pub changed-route : (h : Choosing) (es : List Rules) (i : ℕ) (ss : States) (t : State) (old new : Cells) → IsMemberChanged es i ss t old new → (b : Block) → h.chosen b.len ≡ i
    → (choosing_rules h es).route b (with_member i ss t) ≡ i ∷ (nth es i).route (chosen_down h b) t
unfolding choosing_rules
changed-route h es i ss t old new m b q =
    ap (λ k. k ∷ (nth es k).route (chosen_down h b) (nth_child (set_child ss i t) k)) q ∙ ap (λ u. i ∷ (nth es i).route (chosen_down h b) u) (set-same ss i t (in-count es i ss t old new m))

-- the extent of a block that was out stays where the changed member's own blocks have the same
pub changed-extents : (h : Choosing) (es : List Rules) (i : ℕ) (ss : States) (t : State) (old new : Cells) → IsMemberChanged es i ss t old new → (c : Block) → (choosing_rules h es).is_out c (open_with nothing ss) old ≡ true
    → (h.fits c.len ≡ true → h.chosen c.len ≡ i → (nth es i).is_out (chosen_down h c) (nth_child ss i) old ≡ true → (nth es i).extent (chosen_down h c) t ≡ (nth es i).extent (chosen_down h c) (nth_child ss i))
    → (choosing_rules h es).extent c (with_member i ss t) ≡ (choosing_rules h es).extent c (open_with nothing ss)
unfolding choosing_rules
changed-extents h es i ss t old new m c o f =
    let j = h.chosen c.len in
    let d = chosen_down h c in
    let x = out-chosen h es c (open_with nothing ss) old o in
    ap (λ x. cond (h.fits c.len) x no_block)
    (child-case ss i t (λ u. (nth es j).extent d u ≡ (nth es j).extent d (nth_child ss j)) j (in-count es i ss t old new m)
    (λ e. subst (λ k. (nth es k).extent d t ≡ (nth es k).extent d (nth_child ss k)) (sym e) (f x.fits e (out-member h es c (open_with nothing ss) old i e x)))
    (λ n. refl))

-- a block of the changed member is out where it is out of that
pub changed-out : (h : Choosing) (es : List Rules) (i : ℕ) (ss : States) (t : State) (old new : Cells) → IsMemberChanged es i ss t old new → (b : Block) → 1 ≤ b.len → h.fits b.len ≡ true → h.chosen b.len ≡ i
    → (nth es i).is_out (chosen_down h b) t new ≡ true → (choosing_rules h es).is_out b (with_member i ss t) new ≡ true
changed-out h es i ss t old new m b l f q o =
    chosen-out h es b (with_member i ss t) new (record {
      is_set = refl;
      some = l;
      fits = f;
      below = child-case ss i t (λ u. (nth es (h.chosen b.len)).is_out (chosen_down h b) u new ≡ true) (h.chosen b.len) (in-count es i ss t old new m)
          (λ e. subst (λ k. (nth es k).is_out (chosen_down h b) t new ≡ true) (sym q) o)
          (λ n. absurd (n q));
    })

-- a block that was out is out still, where the changed member leaves its own out
pub changed-stays : (h : Choosing) (es : List Rules) (i : ℕ) (ss : States) (t : State) (old new : Cells) → AreMembers h es → IsMemberChanged es i ss t old new → (c : Block)
    → (choosing_rules h es).is_out c (open_with nothing ss) old ≡ true
    → (h.fits c.len ≡ true → h.chosen c.len ≡ i → (nth es i).is_out (chosen_down h c) (nth_child ss i) old ≡ true → (nth es i).is_out (chosen_down h c) t new ≡ true)
    → (choosing_rules h es).is_out c (with_member i ss t) new ≡ true
changed-stays h es i ss t old new w m c o f =
    let j = h.chosen c.len in
    let x = out-chosen h es c (open_with nothing ss) old o in
    chosen-out h es c (with_member i ss t) new (record {
      is_set = refl;
      some = x.some;
      fits = x.fits;
      below = child-case ss i t (λ u. (nth es j).is_out (chosen_down h c) u new ≡ true) j (in-count es i ss t old new m)
          (λ e. subst (λ k. (nth es k).is_out (chosen_down h c) t new ≡ true) (sym e) (f x.fits e (out-member h es c (open_with nothing ss) old i e x)))
          (λ n. (w.lawful j).placing.out_tags (chosen_down h c) (nth_child ss j) old new (m.others j n) x.below);
    })

-- and so its route stays where that of the changed member's own blocks is the same
pub changed-routes : (h : Choosing) (es : List Rules) (i : ℕ) (ss : States) (t : State) (old new : Cells) → IsMemberChanged es i ss t old new → (c : Block) → (choosing_rules h es).is_out c (open_with nothing ss) old ≡ true
    → (h.fits c.len ≡ true → h.chosen c.len ≡ i → (nth es i).is_out (chosen_down h c) (nth_child ss i) old ≡ true → (nth es i).route (chosen_down h c) t ≡ (nth es i).route (chosen_down h c) (nth_child ss i))
    → (choosing_rules h es).route c (with_member i ss t) ≡ (choosing_rules h es).route c (open_with nothing ss)
unfolding choosing_rules
changed-routes h es i ss t old new m c o f =
    let j = h.chosen c.len in
    let d = chosen_down h c in
    let x = out-chosen h es c (open_with nothing ss) old o in
    ap (λ r. j ∷ r)
    (child-case ss i t (λ u. (nth es j).route d u ≡ (nth es j).route d (nth_child ss j)) j (in-count es i ss t old new m)
    (λ e. subst (λ k. (nth es k).route d t ≡ (nth es k).route d (nth_child ss k)) (sym e) (f x.fits e (out-member h es c (open_with nothing ss) old i e x)))
    (λ n. refl))

-- a block that the changed member has now is apart from each that was out, where it is apart from its own
pub changed-fresh : (h : Choosing) (es : List Rules) (i : ℕ) (ss : States) (t : State) (old new : Cells) → AreMembers h es → IsMemberChanged es i ss t old new → (b : Block) → h.fits b.len ≡ true → h.chosen b.len ≡ i
    → (nth es i).is_out (chosen_down h b) t new ≡ true → (c : Block) → (choosing_rules h es).is_out c (open_with nothing ss) old ≡ true
    → (h.fits c.len ≡ true → h.chosen c.len ≡ i → (nth es i).is_out (chosen_down h c) (nth_child ss i) old ≡ true → AreApart (nth es i) t (chosen_down h b) (chosen_down h c))
    → AreApart (choosing_rules h es) (with_member i ss t) b c
changed-fresh h es i ss t old new w m b f q o c p g =
    let s = open_with nothing ss in
    let j = h.chosen c.len in
    let x = out-chosen h es c s old p in
    let lj = out-some es j (chosen_down h c) (nth_child ss j) old x.below in
    let either : is_apart ((nth es i).extent (chosen_down h b) t) ((nth es j).extent (chosen_down h c) (nth_child (set_child ss i t) j)) ≡ true =
    child-case ss i t (λ u. is_apart ((nth es i).extent (chosen_down h b) t) ((nth es j).extent (chosen_down h c) u) ≡ true) j (in-count es i ss t old new m)
    (λ e. let z = g x.fits e (out-member h es c s old i e x) in
    subst (λ k. is_apart ((nth es i).extent (chosen_down h b) t) ((nth es k).extent (chosen_down h c) t) ≡ true) (sym e) z.either)
    (λ n. let k = m.others j n in
    covered-apart (nth es i) (nth es j) t (nth_child ss j) new (chosen_down h b) (chosen_down h c) (w.lawful i).placing.covers (w.lawful j).placing.covers
    (λ t x y. beside es i j t w.own.distinct (λ e. n (sym e)) x y) m.settled o ((w.lawful j).placing.settled_tags (nth_child ss j) old new k (m.parts.settled j lj)) ((w.lawful j).placing.out_tags (chosen_down h c) (nth_child ss j) old new k x.below)) in
    record { either = rw (changed-extent h es i ss t old new m b f q, extent-member h es c (with_member i ss t) j x.fits refl) either }
