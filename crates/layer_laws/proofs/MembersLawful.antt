-- Members: what holds of each member of a group, by its number, whatever the group's own rule.
use Rattle.std.proofs.Common.{length-append, ◌≡◌, ◌≢◌, refl, sym, ap, ap₂, subst, ◌∙◌, ℕ, zero, suc, ◌≤◌, ◌<◌, ◌+◌, ◌⊎◌, inl, inr, true, ◌&&◌, arith, List, [], ◌∷◌, ◌++◌, length, get_or, min, Result, Ok, Err, zero-add}
use Rattle.std.proofs.lemmas.Bool.{and_from, cases_lt}
use Rattle.size_round.specs.SizeMeanings.{IsMultiple}
use Rattle.space_core.specs.Cells.{Cells}
use Rattle.layer_rules.specs.declared.Block.{Block}
use Rattle.layer_rules.specs.Blocks.{end_of, is_apart}
use Rattle.layer_rules.specs.Rows.{Each, EachPair}
use Rattle.layer_rules.specs.Fields.{Fields, child_fields}
use Rattle.layer_rules.specs.State.{State, States, Own, nothing, no_children, child_and, nth_child, set_child, open_with, closed, is_open, child, children_of, with_child, uncounted}
use Rattle.layer_rules.specs.After.{Opened, opened, Opening}
use Rattle.layer_rules.specs.Setting.{then_members, open_group}
use Rattle.layer_rules.specs.Deallocating.{emptied_child}
use Rattle.layer_rules.specs.Unread.{unread_each}
use Rattle.layer_rules.specs.Rules.{Rules, IsIn, IsLeaf, IsSettled, HasDistinctTags, HasSomeTags}
use Rattle.layer_rules.specs.NullRules.{null_rules}
use Rattle.layer_rules.specs.Testing.{is_nothing}
use Rattle.layer_rules.specs.Members.{nth, nodes_of, depth_of, facts_each, tags_of, least_alignment, open_each, empty_each, read_each, are_images, have_free_tails, are_settled, group_settled, state_numbers_each}
use Rattle.layer_laws.proofs.Basics.{and-fst, and-snd}
use Rattle.layer_laws.proofs.Children.{child_count, child-case, child-keeps, set-count, runs-apart, apart-either}
use Rattle.layer_laws.specs.Lawful.{IsAlignment, TellingLaws, IsEmptied, OnlyFreed, OnlyOwnCells, IsFreeOrOwn, OnlyOwnChanged, Covering, TagsKept, NoCell, IsRegular, IsLawful, ChangesInside, OwnKept, Covers, ReadingLaws, RefusedLaws, TailLaws, TakingLaws, UnrangedLaws}
use Rattle.layer_laws.specs.Chooses.{EachMember, EachNumber, HaveOwnTags}
use Rattle.layer_laws.proofs.CellRooms.{multiple_of_multiple, power_in_power}
use Rattle.layer_laws.proofs.Steps.{members-refuses}
use Rattle.layer_laws.proofs.StayingOpen.{stays-emptied_child}
use Rattle.layer_laws.proofs.Uncounting.{same-child}
use Rattle.layer_laws.proofs.Unreading.{unread-child_and}
use Rattle.layer_laws.proofs.Takings.{TookEach, took-none, took-wider, took-then_members}
use Rattle.layer_laws.proofs.NullLawful.{null-lawful, null-regular, null-unranged, null-distinct}

-- ---- members that each have a property

-- what holds of each in the row holds by number, and so of null where that has it
pub each-of : (P : Rules → Type 0) (es : List Rules) → Each P es → EachMember P es
each-of P [] h i l = absurd (omega arith)
each-of P (e ∷ es) h zero l = h.0
each-of P (e ∷ es) h (suc i) l = each-of P es h.1 i (omega arith)

pub each-number : (P : Rules → Type 0) (es : List Rules) → P null_rules → EachMember P es → EachNumber P es
each-number P [] n h i = n
each-number P (e ∷ es) n h zero = h 0 (omega arith)
each-number P (e ∷ es) n h (suc i) = each-number P es n (λ j l. h (suc j) (omega arith)) i

pub all-regular : (es : List Rules) → EachMember IsRegular es → EachNumber IsRegular es
all-regular es h = each-number IsRegular es null-regular h

pub all-unranged : (es : List Rules) → EachMember UnrangedLaws es → EachNumber UnrangedLaws es
all-unranged es h = each-number UnrangedLaws es null-unranged h

pub all-lawful : (es : List Rules) → EachMember IsLawful es → EachNumber IsLawful es
all-lawful es h = each-number IsLawful es null-lawful h

-- ---- their facts and numbers

-- each node of each member has its fact
pub facts-of_each : (es : List Rules) → EachNumber TellingLaws es → (k : ℕ) (s : State) (cells : Cells) → length (facts_each es k s cells) ≡ nodes_of es
facts-of_each [] h k s cells = refl
facts-of_each (e ∷ es) h k s cells =
    length-append (e.facts (child s k) cells) (facts_each es (suc k) s cells)
    ∙ ap₂ (λ x y. x + y) ((h 0).facts_count (child s k) cells) (facts-of_each es (λ i. h (suc i)) (suc k) s cells)

-- and its row of numbers
pub numbers-of_each : (es : List Rules) → EachNumber TellingLaws es → (k : ℕ) (fs : Fields) → length (state_numbers_each es k fs) ≡ nodes_of es
numbers-of_each [] h k fs = refl
numbers-of_each (e ∷ es) h k fs =
    length-append (e.state_numbers (child_fields fs k)) (state_numbers_each es (suc k) fs)
    ∙ ap₂ (λ x y. x + y) ((h 0).numbers_count (child_fields fs k)) (numbers-of_each es (λ i. h (suc i)) (suc k) fs)

-- no route in a member is longer than the deepest of them
pub route-of_member : (es : List Rules) → EachNumber TellingLaws es → (i : ℕ) (b : Block) (s : State) → length ((nth es i).route b s) ≤ depth_of es
unfolding null_rules
route-of_member [] h i b s = omega arith
route-of_member (e ∷ es) h zero b s = omega (arith, (h 0).route_depth b s)
route-of_member (e ∷ es) h (suc i) b s = omega (arith, route-of_member es (λ j. h (suc j)) i b s)

-- ---- the tags

pub in-left : (xs ys : List ℕ) (t : ℕ) → IsIn xs t → IsIn (xs ++ ys) t
in-left [] ys t l = absurd l
in-left (x ∷ xs) ys t (inl l) = inl l
in-left (x ∷ xs) ys t (inr l) = inr (in-left xs ys t l)

pub in-right : (xs ys : List ℕ) (t : ℕ) → IsIn ys t → IsIn (xs ++ ys) t
in-right [] ys t l = l
in-right (x ∷ xs) ys t l = inr (in-right xs ys t l)

pub in-either : (xs ys : List ℕ) (t : ℕ) → IsIn (xs ++ ys) t → IsIn xs t ⊎ IsIn ys t
in-either [] ys t l = inr l
in-either (x ∷ xs) ys t (inl l) = inl (inl l)
in-either (x ∷ xs) ys t (inr l) = elim (in-either xs ys t l) [ inl k ↦ inl (inr k) | inr k ↦ inr k ]

pub leaf-in : (es : List Rules) (i t : ℕ) → IsLeaf (nth es i) t → IsIn (tags_of es) t
unfolding null_rules
leaf-in [] i t l = absurd l
leaf-in (e ∷ es) zero t l = in-left e.leaf_tags (tags_of es) t l
leaf-in (e ∷ es) (suc i) t l = in-right e.leaf_tags (tags_of es) t (leaf-in es i t l)

none-of : (x : ℕ) (xs : List ℕ) (t : ℕ) → Each (λ y. x ≢ y) xs → IsIn xs t → x ≡ t → ⊥
none-of x [] t h l q = absurd l
none-of x (y ∷ ys) t h (inl l) q = h.0 (q ∙ l)
none-of x (y ∷ ys) t h (inr l) q = none-of x ys t h.1 l q

each-left : (x : ℕ) (xs ys : List ℕ) → Each (λ y. x ≢ y) (xs ++ ys) → Each (λ y. x ≢ y) xs
each-left x [] ys h = tt
each-left x (z ∷ xs) ys h = (h.0, each-left x xs ys h.1)

pub distinct-left : (xs ys : List ℕ) → EachPair ◌≢◌ (xs ++ ys) → EachPair ◌≢◌ xs
distinct-left [] ys h = tt
distinct-left (x ∷ xs) ys h = (each-left x xs ys h.0, distinct-left xs ys h.1)

pub distinct-right : (xs ys : List ℕ) → EachPair ◌≢◌ (xs ++ ys) → EachPair ◌≢◌ ys
distinct-right [] ys h = h
distinct-right (x ∷ xs) ys h = distinct-right xs ys h.1

pub distinct-apart : (xs ys : List ℕ) (t : ℕ) → EachPair ◌≢◌ (xs ++ ys) → IsIn xs t → IsIn ys t → ⊥
distinct-apart [] ys t h l r = absurd l
distinct-apart (x ∷ xs) ys t h (inl l) r = none-of x (xs ++ ys) t h.0 (in-right xs ys t r) (sym l)
distinct-apart (x ∷ xs) ys t h (inr l) r = distinct-apart xs ys t h.1 l r

-- two members have no tag in common, and no member twice the same
pub beside : (es : List Rules) (i j t : ℕ) → EachPair ◌≢◌ (tags_of es) → i ≢ j → IsLeaf (nth es i) t → IsLeaf (nth es j) t → ⊥
unfolding null_rules
beside [] i j t w n l r = absurd l
beside (e ∷ es) zero zero t w n l r = n refl
beside (e ∷ es) zero (suc j) t w n l r = distinct-apart e.leaf_tags (tags_of es) t w l (leaf-in es j t r)
beside (e ∷ es) (suc i) zero t w n l r = distinct-apart e.leaf_tags (tags_of es) t w r (leaf-in es i t l)
beside (e ∷ es) (suc i) (suc j) t w n l r = let m : i ≢ j = omega arith in beside es i j t (distinct-right e.leaf_tags (tags_of es) w) m l r

pub distinct-member : (es : List Rules) (i : ℕ) → EachPair ◌≢◌ (tags_of es) → HasDistinctTags (nth es i)
distinct-member [] i w = null-distinct
distinct-member (e ∷ es) zero w = distinct-left e.leaf_tags (tags_of es) w
distinct-member (e ∷ es) (suc i) w = distinct-member es i (distinct-right e.leaf_tags (tags_of es) w)

pub some-member : (es : List Rules) (j : ℕ) → HaveOwnTags es → HasSomeTags (nth es j)
some-member es j w = record { least = λ t l. w.some t (leaf-in es j t l) }

-- the leaves of a group are those of its members
pub own-tags : (f : Rules) (es : List Rules) → f.leaf_tags ≡ tags_of es → HasDistinctTags f → HasSomeTags f → HaveOwnTags es
own-tags f es q d s = record { distinct = subst (λ tags. EachPair ◌≢◌ tags) q d; some = λ t l. s.least t (subst (λ tags. IsIn tags t) (sym q) l) }

-- members that are lawful where their leaves have tags of their own
pub each-lawful : (es : List Rules) → HaveOwnTags es → EachMember (λ e. HasDistinctTags e → HasSomeTags e → IsLawful e) es → EachMember IsLawful es
each-lawful es w h i l = h i l (distinct-member es i w.distinct) (some-member es i w)

-- ---- soundness, member by member

pub are-at : (es : List Rules) (ss : States) (cells : Cells) → are_settled es ss cells ≡ true → (j : ℕ) → j < length es → (is_open (nth_child ss j) ≡ true) × IsSettled (nth es j) (nth_child ss j) cells
are-at [] ss cells h j l = absurd (omega arith)
are-at (e ∷ es) no_children cells h j l = absurd (cc)
are-at (e ∷ es) (child_and t ts) cells h zero l =
    let k = and-snd (is_open t) (e.is_settled t cells && are_settled es ts cells) h in
    (and-fst (is_open t) (e.is_settled t cells && are_settled es ts cells) h, and-fst (e.is_settled t cells) (are_settled es ts cells) k)
are-at (e ∷ es) (child_and t ts) cells h (suc j) l =
    are-at es ts cells (and-snd (e.is_settled t cells) (are_settled es ts cells) (and-snd (is_open t) (e.is_settled t cells && are_settled es ts cells) h)) j (omega arith)

pub are-count : (es : List Rules) (ss : States) (cells : Cells) → are_settled es ss cells ≡ true → child_count ss ≡ length es
are-count [] no_children cells h = refl
are-count [] (child_and t ts) cells h = absurd (cc)
are-count (e ∷ es) no_children cells h = absurd (cc)
are-count (e ∷ es) (child_and t ts) cells h =
    ap suc (are-count es ts cells (and-snd (e.is_settled t cells) (are_settled es ts cells) (and-snd (is_open t) (e.is_settled t cells && are_settled es ts cells) h)))

pub are-from : (es : List Rules) (ss : States) (cells : Cells) → child_count ss ≡ length es → ((j : ℕ) → j < length es → (is_open (nth_child ss j) ≡ true) × IsSettled (nth es j) (nth_child ss j) cells) → are_settled es ss cells ≡ true
are-from [] no_children cells c h = refl
are-from [] (child_and t ts) cells c h = absurd (omega arith)
are-from (e ∷ es) no_children cells c h = absurd (omega arith)
are-from (e ∷ es) (child_and t ts) cells c h = let x = h 0 (omega arith) in and_from _ _ x.0 (and_from _ _ x.1 (are-from es ts cells (omega arith) (λ j l. h (suc j) (omega arith))))

pub record GroupParts (es : List Rules) (s : State) (cells : Cells) : Type 0 where
  pub form : s ≡ open_with nothing (children_of s)
  pub children : child_count (children_of s) ≡ length es
  pub all_open : (j : ℕ) → j < length es → is_open (child s j) ≡ true
  pub settled : (j : ℕ) → j < length es → IsSettled (nth es j) (child s j) cells

pub own-form : (own : Own) → is_nothing own ≡ true → own ≡ nothing
own-form nothing h = refl
own-form _ h = absurd (cc)

pub group-parts : (es : List Rules) (s : State) (cells : Cells) → group_settled es s cells ≡ true → GroupParts es s cells
group-parts es closed cells h = absurd (cc)
group-parts es (open_with own ss) cells h =
    let k = and-snd (is_nothing own) (are_settled es ss cells) h in
    record {
      form = ap (λ o. open_with o ss) (own-form own (and-fst (is_nothing own) (are_settled es ss cells) h));
      children = are-count es ss cells k;
      all_open = λ j l. (are-at es ss cells k j l).0;
      settled = λ j l. (are-at es ss cells k j l).1;
    }

-- the members of a changed group are sound: the one that changed, and the others as they were
pub changed-settled : (es : List Rules) (i : ℕ) (ss : States) (t : State) (old new : Cells) → GroupParts es (open_with nothing ss) old → i < length es → is_open t ≡ true → IsSettled (nth es i) t new
    → ((j : ℕ) → (j ≡ i → ⊥) → IsSettled (nth es j) (nth_child ss j) old → IsSettled (nth es j) (nth_child ss j) new) → are_settled es (set_child ss i t) new ≡ true
changed-settled es i ss t old new h li o s kept =
    let lc : i < child_count ss = omega (arith, h.children) in
    are-from es (set_child ss i t) new (set-count ss i t ∙ h.children) (λ j l. (
      child-case ss i t (λ u. is_open u ≡ true) j lc (λ e. o) (λ m. h.all_open j l),
      child-case ss i t (λ u. IsSettled (nth es j) u new) j lc (λ e. subst (λ k. IsSettled (nth es k) t new) (sym e) s) (λ m. kept j m (h.settled j l)),
    ))

-- the child by whose number a block is seen: what holds of the changed member and of each other
pub member-case : (es : List Rules) (i : ℕ) (ss : States) (t : State) (P : Rules → State → Type 0) (j : ℕ) → i < child_count ss → P (nth es i) t → ((j ≡ i → ⊥) → P (nth es j) (nth_child ss j)) → P (nth es j) (nth_child (set_child ss i t) j)
member-case es i ss t P j l f g = child-case ss i t (λ u. P (nth es j) u) j l (λ e. subst (λ k. P (nth es k) t) (sym e) f) g

-- a block is out of a member that there is
pub out-some : (es : List Rules) (j : ℕ) (b : Block) (s : State) (cells : Cells) → (nth es j).is_out b s cells ≡ true → j < length es
unfolding null_rules
out-some [] j b s cells o = absurd (cc)
out-some (e ∷ es) zero b s cells o = omega arith
out-some (e ∷ es) (suc j) b s cells o = let l = out-some es j b s cells o in omega arith

-- ---- states and images, member by member

pub read-at : (es : List Rules) (i j : ℕ) (fs : Fields) (bytes : List ℕ) → j < length es → nth_child (read_each es i fs bytes) j ≡ (nth es j).read (child_fields fs (i + j)) bytes
read-at [] i j fs bytes l = absurd (omega arith)
read-at (e ∷ es) i zero fs bytes l = let q : i + 0 ≡ i = omega arith in rw q refl
read-at (e ∷ es) i (suc j) fs bytes l = let q : i + suc j ≡ suc i + j = omega arith in rw q (read-at es (suc i) j fs bytes (omega arith))

pub read-same : (es : List Rules) (i : ℕ) (fs : Fields) (old new : List ℕ) → ((j : ℕ) → j < length es → (nth es j).read (child_fields fs (i + j)) new ≡ (nth es j).read (child_fields fs (i + j)) old) → read_each es i fs new ≡ read_each es i fs old
read-same [] i fs old new h = refl
read-same (e ∷ es) i fs old new h =
    ap₂ child_and (let q : i + 0 ≡ i = omega arith in rw q at (h 0 (omega arith)))
    (read-same es (suc i) fs old new (λ j l. let q : i + suc j ≡ suc i + j = omega arith in rw q at (h (suc j) (omega arith))))

pub image-at : (es : List Rules) (i j : ℕ) (fs : Fields) (s : State) (bytes : List ℕ) → are_images es i fs s bytes ≡ true → j < length es → (nth es j).is_image (child_fields fs (i + j)) (child s (i + j)) bytes ≡ true
image-at [] i j fs s bytes h l = absurd (omega arith)
image-at (e ∷ es) i zero fs s bytes h l = let q : i + 0 ≡ i = omega arith in rw q (and-fst (e.is_image (child_fields fs i) (child s i) bytes) (are_images es (suc i) fs s bytes) h)
image-at (e ∷ es) i (suc j) fs s bytes h l =
    let q : i + suc j ≡ suc i + j = omega arith in rw q (image-at es (suc i) j fs s bytes (and-snd (e.is_image (child_fields fs i) (child s i) bytes) (are_images es (suc i) fs s bytes) h) (omega arith))

pub images-from : (es : List Rules) (i : ℕ) (fs : Fields) (s : State) (bytes : List ℕ) → ((j : ℕ) → j < length es → (nth es j).is_image (child_fields fs (i + j)) (child s (i + j)) bytes ≡ true) → are_images es i fs s bytes ≡ true
images-from [] i fs s bytes h = refl
images-from (e ∷ es) i fs s bytes h =
    and_from _ _ (let q : i + 0 ≡ i = omega arith in rw q at (h 0 (omega arith)))
    (images-from es (suc i) fs s bytes (λ j l. let q : i + suc j ≡ suc i + j = omega arith in rw q at (h (suc j) (omega arith))))

-- ---- one member's calls, seen from another

-- cells that one member takes, or frees, are not those of another
pub kept-taken : (e f : Rules) (old new : Cells) → HasSomeTags f → ((t : ℕ) → IsLeaf e t → IsLeaf f t → ⊥) → OnlyOwnCells e old new → TagsKept f old new
kept-taken e f old new some d g =
    record {
      at = λ c l. elim (g.each c) [ inl z ↦ z | inr z ↦ let y = some.least _ l in absurd (omega (arith, z.0)) ];
      back = λ c l. elim (g.each c) [ inl z ↦ sym z | inr z ↦ absurd (d _ z.1 l) ];
    }

pub kept-freed : (f : Rules) (Leaf : ℕ → Type 0) (old new : Cells) → HasSomeTags f → ((t : ℕ) → Leaf t → IsLeaf f t → ⊥) → OnlyFreed Leaf old new → TagsKept f old new
kept-freed f Leaf old new some d g =
    record {
      at = λ c l. elim (g c) [ inl z ↦ z | inr z ↦ absurd (d _ z.1 l) ];
      back = λ c l. elim (g c) [ inl z ↦ sym z | inr z ↦ let y = some.least _ l in absurd (omega (arith, z.0)) ];
    }

pub kept-changed : (e f : Rules) (old new : Cells) → HasSomeTags f → ((t : ℕ) → IsLeaf e t → IsLeaf f t → ⊥) → OnlyOwnChanged e old new → TagsKept f old new
kept-changed e f old new some d g =
    let other = λ (t : ℕ) (l : IsLeaf f t) (z : IsFreeOrOwn e t). let x : ⊥ = elim z [ inl q ↦ let y = some.least t l in absurd (omega arith) | inr m ↦ d t m l ] in x in
    record {
      at = λ c l. elim (g c) [ inl z ↦ z | inr z ↦ absurd (other _ l z.0) ];
      back = λ c l. elim (g c) [ inl z ↦ sym z | inr z ↦ absurd (other _ l z.1) ];
    }

-- two blocks, each out of its member, are apart
pub covered-apart : (e f : Rules) (s u : State) (cells : Cells) (b c : Block) → Covering e → Covering f → ((t : ℕ) → IsLeaf e t → IsLeaf f t → ⊥)
    → IsSettled e s cells → e.is_out b s cells ≡ true → IsSettled f u cells → f.is_out c u cells ≡ true → is_apart (e.extent b s) (f.extent c u) ≡ true
covered-apart e f s u cells b c cover cover_f d h o k p =
    let x = cover b s cells h o in
    let y = cover_f c u cells k p in
    apart-either (e.extent b s) (f.extent c u)
    (runs-apart (e.extent b s).place (end_of (e.extent b s)) (f.extent c u).place (end_of (f.extent c u)) x.some y.some
    (λ i p v a z. d _ (x.leaf i p v) (y.leaf i a z)))

-- a write into a block of one member changes no byte of another's cells
pub other-kept : (e f : Rules) (s : State) (cells : Cells) (old new : List ℕ) (b : Block) → Covers e b s cells → ((t : ℕ) → IsLeaf e t → IsLeaf f t → ⊥) → ChangesInside b old new → OwnKept f cells old new
other-kept e f s cells old new b v d k =
    record { length_same = k.length_same; at = λ i l. elim (where-is b i) [ inl x ↦ k.below i x | inr y ↦ elim y [ inl x ↦ k.above i x | inr x ↦ absurd (d _ (v.leaf i (omega (arith, v.from, x.0)) (omega (arith, v.upto, x.1))) l) ] ] }
  where
    where-is : (b : Block) (i : ℕ) → (i < b.place) ⊎ (end_of b ≤ i) ⊎ ((b.place ≤ i) × (i < end_of b))
    where-is b i = grind arith

-- ---- the blocks of all members are taken back, one member after another

-- the members as they stand, those before the number i with no block out
pub record AreEmptied (es : List Rules) (i : ℕ) (cells : Cells) (ss : States) (new : Cells) : Type 0 where
  pub count : child_count ss ≡ length es
  pub all_open : (j : ℕ) → j < length es → is_open (nth_child ss j) ≡ true
  pub settled : (j : ℕ) → j < length es → IsSettled (nth es j) (nth_child ss j) new
  pub none : (j : ℕ) → j < i → (b : Block) → (nth es j).is_out b (nth_child ss j) new ≡ true → ⊥
  pub table : OnlyFreed (IsIn (tags_of es)) cells new

flipped : (e : Rules) (old new : Cells) → TagsKept e old new → TagsKept e new old
flipped e old new k = record { at = k.back; back = k.at }

then-freed : (es : List Rules) (i : ℕ) (cells old new : Cells) (c : ℕ) → (get_or old.tags c 0 ≡ get_or cells.tags c 0) ⊎ ((get_or old.tags c 0 ≡ 0) × IsIn (tags_of es) (get_or cells.tags c 0))
    → (get_or new.tags c 0 ≡ get_or old.tags c 0) ⊎ ((get_or new.tags c 0 ≡ 0) × IsLeaf (nth es i) (get_or old.tags c 0))
    → (get_or new.tags c 0 ≡ get_or cells.tags c 0) ⊎ ((get_or new.tags c 0 ≡ 0) × IsIn (tags_of es) (get_or cells.tags c 0))
then-freed es i cells old new c (inl x) (inl y) = inl (y ∙ x)
then-freed es i cells old new c (inl x) (inr y) = inr (y.0, subst (IsIn (tags_of es)) x (leaf-in es i _ y.1))
then-freed es i cells old new c (inr x) (inl y) = inr (y ∙ x.0, x.1)
then-freed es i cells old new c (inr x) (inr y) = inr (y.0, x.1)

next-emptied : (es : List Rules) (i : ℕ) (cells : Cells) (ss : States) (old : Cells) (o : Opened) → HaveOwnTags es → EachNumber IsLawful es → i < length es
    → AreEmptied es i cells ss old → IsEmptied (nth es i) old o → AreEmptied es (suc i) cells (set_child ss i o.state) o.cells
next-emptied es i cells ss old o w law li h g =
    let lc : i < child_count ss = omega (arith, h.count) in
    let kept = λ (j : ℕ) (m : j ≡ i → ⊥). kept-freed (nth es j) (IsLeaf (nth es i)) old o.cells (some-member es j w) (λ t x y. beside es i j t w.distinct (λ e. m (sym e)) x y) g.table in
    record {
      count = set-count ss i o.state ∙ h.count;
      all_open = λ j y. child-case ss i o.state (λ u. is_open u ≡ true) j lc (λ e. g.is_set) (λ m. h.all_open j y);
      settled = λ j y. child-case ss i o.state (λ u. IsSettled (nth es j) u o.cells) j lc
          (λ e. subst (λ k. IsSettled (nth es k) o.state o.cells) (sym e) g.settled)
          (λ m. (law j).placing.settled_tags (nth_child ss j) old o.cells (kept j m) (h.settled j y));
      none = λ j y b x. child-case ss i o.state (λ u. (nth es j).is_out b u o.cells ≡ true → ⊥) j lc
          (λ e. subst (λ k. (nth es k).is_out b o.state o.cells ≡ true → ⊥) (sym e) (g.none b))
          (λ m. λ x. h.none j (omega arith) b ((law j).placing.out_tags b (nth_child ss j) o.cells old (flipped (nth es j) old o.cells (kept j m)) x)) x;
      table = λ c. then-freed es i cells old o.cells c (h.table c) (g.table c);
    }

-- the state and the table that are left
pub record GroupEmptied (es : List Rules) (own : Own) (cells : Cells) (o : Opened) : Type 0 where
  pub form : o.state ≡ open_with own (children_of o.state)
  pub whole : AreEmptied es (length es) cells (children_of o.state) o.cells

each-emptied : (F : List Rules) (own : Own) → HaveOwnTags F → EachNumber IsLawful F
    → (es : List Rules) (i : ℕ) → ((j : ℕ) → nth es j ≡ nth F (i + j)) → i + length es ≡ length F → (cells : Cells) (ss : States) (old : Cells) → AreEmptied F i cells ss old
    → GroupEmptied F own cells (empty_each es i (open_with own ss) old)
unfolding empty_each
each-emptied F own w law [] i same n cells ss old h =
    let q : i ≡ length F = omega arith in record { form = refl; whole = subst (λ k. AreEmptied F k cells ss old) q h }
each-emptied F own w law (e ∷ es) i same n cells ss old h =
    let li : i < length F = omega arith in
    let z : i + 0 ≡ i = omega arith in
    let q : nth F i ≡ e = sym (same 0 ∙ ap (nth F) z) in
    let g = (law i).keeping.emptied (nth_child ss i) old (h.all_open i li) (h.settled i li) in
    let r = e.deallocate_all (nth_child ss i) old in
    let g' : IsEmptied (nth F i) old r = subst (λ (k : Rules). IsEmptied (nth F i) old (k.deallocate_all (nth_child ss i) old)) q g in
    each-emptied F own w law es (suc i) (λ j. same (suc j) ∙ ap (nth F) (let p : i + suc j ≡ suc i + j = omega arith in p)) (omega arith) cells (set_child ss i r.state) r.cells
    (next-emptied F i cells ss old r w law li h g')

pub members-emptied : (es : List Rules) (own : Own) → HaveOwnTags es → EachNumber IsLawful es → (ss : States) (cells : Cells)
    → child_count ss ≡ length es → ((j : ℕ) → j < length es → is_open (nth_child ss j) ≡ true) → ((j : ℕ) → j < length es → IsSettled (nth es j) (nth_child ss j) cells) → GroupEmptied es own cells (empty_each es 0 (open_with own ss) cells)
members-emptied es own w law ss cells count open_all settled =
    each-emptied es own w law es 0 (λ j. ap (nth es) (sym (zero-add j))) (zero-add (length es)) cells ss cells (record { count = count; all_open = open_all; settled = settled; none = λ j l. absurd (omega arith); table = λ c. inl refl })

-- ---- alignment

pub least-of_two : (a b : ℕ) → IsAlignment a → IsAlignment b → IsAlignment (min a b)
least-of_two a b x y = elim (cases_lt a b) [
  | inl l ↦ let q : a ≡ min a b = omega arith in subst IsAlignment q x
  | inr l ↦ let q : b ≡ min a b = omega arith in subst IsAlignment q y
]

-- the members' alignment is one
pub least-is-alignment : (es : List Rules) → EachNumber TellingLaws es → IsAlignment (least_alignment es)
least-is-alignment [] h = record { power = (16, refl); some = omega arith; most = omega arith }
least-is-alignment (e ∷ es) h = least-of_two e.alignment (least_alignment es) (h 0).aligned (least-is-alignment es (λ i. h (suc i)))

least-below : (es : List Rules) (i : ℕ) → i < length es → least_alignment es ≤ (nth es i).alignment
least-below [] i l = absurd (omega arith)
least-below (e ∷ es) zero l = omega arith
least-below (e ∷ es) (suc i) l = let w = least-below es i (omega arith) in omega arith

-- a multiple of a member's alignment is one of the least of all
pub least-multiple : (es : List Rules) (i n : ℕ) → EachNumber IsRegular es → i < length es → IsMultiple n (nth es i).alignment → IsMultiple n (least_alignment es)
least-multiple es i n h l m =
    let a = least-is-alignment es (λ j. (h j).telling) in
    multiple_of_multiple n (nth es i).alignment (least_alignment es) m (power_in_power (least_alignment es) (nth es i).alignment a.power (h i).telling.aligned.power (least-below es i l))

-- ---- what is set up

pub record AreFresh (es : List Rules) (p : States × Cells) : Type 0 where
  pub count : child_count p.0 ≡ length es
  pub members : (j : ℕ) → j < length es → (is_open (nth_child p.0 j) ≡ true) × IsSettled (nth es j) (nth_child p.0 j) p.1

members-ok : (node : ℕ) (x : Opening) (rest : Cells → Result (States × Cells) ℕ) (p : States × Cells) → then_members node x rest ≡ Ok p
    → (o : Opened) × (x ≡ Ok o) × ((q : States × Cells) × (rest o.cells ≡ Ok q) × ((child_and o.state q.0, q.1) ≡ p))
members-ok node (Err k) rest p e = absurd (cc)
members-ok node (Ok o) rest p e = (o, refl, rest-ok (rest o.cells) refl e)
  where
    rest-ok : (r : Result (States × Cells) ℕ) → rest o.cells ≡ r → elim r as (λ _. Result (States × Cells) ℕ) [ Err k ↦ Err k | Ok q ↦ Ok (child_and o.state q.0, q.1) ] ≡ Ok p → (q : States × Cells) × (rest o.cells ≡ Ok q) × ((child_and o.state q.0, q.1) ≡ p)
    rest-ok (Err k) s e = absurd (cc)
    rest-ok (Ok q) s e = let z : (child_and o.state q.0, q.1) ≡ p = cc in (q, s, z)

fresh-members : (e : Rules) (es : List Rules) (o : Opened) (ss : States) (cells : Cells) → is_open o.state ≡ true → IsSettled e o.state cells → ((j : ℕ) → j < length es → (is_open (nth_child ss j) ≡ true) × IsSettled (nth es j) (nth_child ss j) cells)
    → (j : ℕ) → j < suc (length es) → (is_open (nth_child (child_and o.state ss) j) ≡ true) × IsSettled (nth (e ∷ es) j) (nth_child (child_and o.state ss) j) cells
fresh-members e es o ss cells a s g zero l = (a, s)
fresh-members e es o ss cells a s g (suc j) l = g j (omega arith)

-- the members' cells alone are taken, of any layer with their leaves
pub took-each : (f : Rules) (es : List Rules) → ((t : ℕ) → IsIn (tags_of es) t → IsLeaf f t) → EachNumber TakingLaws es → (need : ℕ → ℕ) (i node : ℕ) (cells : Cells) → TookEach f cells (open_each es need i node cells)
unfolding open_each
took-each f [] leaves h need i node cells = took-none f cells no_children
took-each f (e ∷ es) leaves h need i node cells =
    took-then_members f node (e.set_up (need i) cells) (λ rest. open_each es need (suc i) (node + e.nodes) rest) cells
    (took-wider e f cells (e.set_up (need i) cells) (λ t l. leaves t (in-left e.leaf_tags (tags_of es) t l)) ((h 0).set_up (need i) cells))
    (λ c. took-each f es (λ t l. leaves t (in-right e.leaf_tags (tags_of es) t l)) (λ j. h (suc j)) need (suc i) (node + e.nodes) c)

-- a layer of these tags alone
tagged : List ℕ → Rules
unfolding null_rules
tagged tags = record null_rules { leaf_tags = tags }

pub opens-each : (es : List Rules) → HaveOwnTags es → EachNumber IsRegular es → EachNumber IsLawful es
    → (need : ℕ → ℕ) (i node : ℕ) (cells : Cells) (p : States × Cells) → NoCell (IsIn (tags_of es)) cells → open_each es need i node cells ≡ Ok p → AreFresh es p
unfolding open_each tagged
opens-each [] w reg law need i node cells p n q =
    let e : (no_children, cells) ≡ p = cc in
    subst (AreFresh []) e (record { count = refl; members = λ j l. absurd (omega arith) })
opens-each (e ∷ es) w reg law need i node cells p n q =
    let left = λ (t : ℕ) (l : IsLeaf e t). in-left e.leaf_tags (tags_of es) t l in
    let right = λ (t : ℕ) (l : IsIn (tags_of es) t). in-right e.leaf_tags (tags_of es) t l in
    let x = members-ok node (e.set_up (need i) cells) (λ rest. open_each es need (suc i) (node + e.nodes) rest) p q in
    let o = x.0 in
    let r = x.2.0 in
    let is_set = (reg 0).openness.set_up (need i) cells o x.1 in
    let settled = (law 0).opening.opens (need i) cells o (λ c l. n c (left _ l)) x.1 in
    let taken = (reg 0).taking.set_up (need i) cells o x.1 in
    let own : HaveOwnTags es = record { distinct = distinct-right e.leaf_tags (tags_of es) w.distinct; some = λ t l. w.some t (right t l) } in
    let none : NoCell (IsIn (tags_of es)) o.cells =
    λ c l. elim (taken.each c) [ inl z ↦ n c (right _ (subst (IsIn (tags_of es)) z l)) | inr z ↦ distinct-apart e.leaf_tags (tags_of es) _ w.distinct z.1 l ] in
    let g = opens-each es own (λ j. reg (suc j)) (λ j. law (suc j)) need (suc i) (node + e.nodes) o.cells r none x.2.1 in
    let rest = took-each (tagged (tags_of es)) es (λ t l. l) (λ j. (reg (suc j)).taking) need (suc i) (node + e.nodes) o.cells r x.2.1 in
    let kept = kept-taken (tagged (tags_of es)) e o.cells r.1 (record { least = λ t l. w.some t (left t l) }) (λ t l m. distinct-apart e.leaf_tags (tags_of es) t w.distinct m l) rest in
    subst (AreFresh (e ∷ es)) x.2.2 (record {
      count = ap suc g.count;
      members = fresh-members e es o r.0 r.1 is_set ((law 0).placing.settled_tags o.state o.cells r.1 kept settled) g.members;
    })

pub group-ok : (own : Own) (x : Result (States × Cells) ℕ) (o : Opened) → open_group own x ≡ Ok o → (p : States × Cells) × (x ≡ Ok p) × (opened (open_with own p.0) p.1 ≡ o)
group-ok own (Err k) o e = absurd (cc)
group-ok own (Ok p) o e = let q : opened (open_with own p.0) p.1 ≡ o = cc in (p, refl, q)

-- a refusal names a node of a member
pub refuses-each : (es : List Rules) → EachNumber TakingLaws es → (need : ℕ → ℕ) (i node : ℕ) (cells : Cells) (k : ℕ) → open_each es need i node cells ≡ Err k → k < node + nodes_of es
unfolding open_each
refuses-each [] law need i node cells k h = absurd (cc)
refuses-each (e ∷ es) law need i node cells k h =
    members-refuses node (e.set_up (need i) cells) (λ rest. open_each es need (suc i) (node + e.nodes) rest) k (node + (e.nodes + nodes_of es))
    (λ j q. let w = (law 0).names_a_node (need i) cells j q in omega arith)
    (λ c q. let w = refuses-each es (λ j. law (suc j)) need (suc i) (node + e.nodes) c k q in omega arith) h

-- ---- tails that are served from, and what is read of bytes

pub tails-at : (es : List Rules) (i j : ℕ) (s : State) → have_free_tails es i s ≡ true → (nth es j).has_free_tails (child s (i + j)) ≡ true
unfolding null_rules
tails-at [] i j s h = refl
tails-at (e ∷ es) i zero s h = let q : i + 0 ≡ i = omega arith in rw q (and-fst (e.has_free_tails (child s i)) (have_free_tails es (suc i) s) h)
tails-at (e ∷ es) i (suc j) s h = let q : i + suc j ≡ suc i + j = omega arith in rw q (tails-at es (suc i) j s (and-snd (e.has_free_tails (child s i)) (have_free_tails es (suc i) s) h))

pub tails-from : (es : List Rules) (i : ℕ) (s : State) → ((j : ℕ) → j < length es → (nth es j).has_free_tails (child s (i + j)) ≡ true) → have_free_tails es i s ≡ true
tails-from [] i s h = refl
tails-from (e ∷ es) i s h =
    and_from _ _ (let q : i + 0 ≡ i = omega arith in rw q at (h 0 (omega arith))) (tails-from es (suc i) s (λ j l. let q : i + suc j ≡ suc i + j = omega arith in rw q at (h (suc j) (omega arith))))

pub tails-uncounted : (es : List Rules) (i : ℕ) (s t : State) → EachNumber RefusedLaws es → uncounted s ≡ uncounted t → have_free_tails es i s ≡ have_free_tails es i t
tails-uncounted [] i s t h q = refl
tails-uncounted (e ∷ es) i s t h q = ap₂ (λ x y. x && y) ((h 0).free_tails_uncounted (child s i) (child t i) (same-child s t i q)) (tails-uncounted es (suc i) s t (λ j. h (suc j)) q)

pub unread-read_each : (es : List Rules) (i : ℕ) (fs : Fields) (x y : List ℕ) → EachNumber ReadingLaws es → unread_each (read_each es i fs x) ≡ unread_each (read_each es i fs y)
unread-read_each [] i fs x y h = refl
unread-read_each (e ∷ es) i fs x y h =
    unread-child_and (e.read (child_fields fs i) x) (e.read (child_fields fs i) y) (read_each es (suc i) fs x) (read_each es (suc i) fs y) ((h 0).read (child_fields fs i) x y) (unread-read_each es (suc i) fs x y (λ j. h (suc j)))

-- one member's state changed, and its tails are free
pub tails-with_child : (es : List Rules) (s : State) (i : ℕ) (t : State) → have_free_tails es 0 s ≡ true → (nth es i).has_free_tails t ≡ true → have_free_tails es 0 (with_child s i t) ≡ true
tails-with_child es s i t h k =
    tails-from es 0 (with_child s i t) (λ j l. rw zero-add
    (child-keeps s i t (λ u. (nth es j).has_free_tails u ≡ true) j (rw zero-add at (tails-at es 0 j s h)) (λ e. subst (λ n. (nth es n).has_free_tails t ≡ true) (sym e) k)))

-- the tails of what was set up
pub tails-opened : (es : List Rules) → EachNumber TailLaws es → (need : ℕ → ℕ) (i node : ℕ) (cells : Cells) (p : States × Cells) → open_each es need i node cells ≡ Ok p
    → (j : ℕ) → j < length es → (nth es j).has_free_tails (nth_child p.0 j) ≡ true
unfolding open_each
tails-opened [] h need i node cells p q j l = absurd (omega arith)
tails-opened (e ∷ es) h need i node cells p q zero l =
    let x = members-ok node (e.set_up (need i) cells) (λ rest. open_each es need (suc i) (node + e.nodes) rest) p q in
    subst (λ (r : States × Cells). e.has_free_tails (nth_child r.0 0) ≡ true) x.2.2 ((h 0).set_up (need i) cells x.0 x.1)
tails-opened (e ∷ es) h need i node cells p q (suc j) l =
    let x = members-ok node (e.set_up (need i) cells) (λ rest. open_each es need (suc i) (node + e.nodes) rest) p q in
    subst (λ (r : States × Cells). (nth es j).has_free_tails (nth_child r.0 (suc j)) ≡ true) x.2.2 (tails-opened es (λ k. h (suc k)) need (suc i) (node + e.nodes) x.0.cells x.2.0 x.2.1 j (omega arith))

-- as many cells as before, as the members are emptied
pub count-empty_each : (es : List Rules) → EachNumber TakingLaws es → (i : ℕ) (s : State) (cells : Cells) → length (empty_each es i s cells).cells.tags ≡ length cells.tags
unfolding empty_each
count-empty_each [] h i s cells = refl
count-empty_each (e ∷ es) h i s cells =
    let r = emptied_child s i e.deallocate_all cells in count-empty_each es (λ k. h (suc k)) (suc i) r.state r.cells ∙ (h 0).deallocate_all_count (child s i) cells

-- a group stays open as its members are emptied
pub stays-empty_each : (es : List Rules) (i : ℕ) (s : State) (cells : Cells) → is_open (empty_each es i s cells).state ≡ is_open s
unfolding empty_each
stays-empty_each [] i s cells = refl
stays-empty_each (e ∷ es) i s cells =
    let r = emptied_child s i e.deallocate_all cells in stays-empty_each es (suc i) r.state r.cells ∙ stays-emptied_child s i e.deallocate_all cells
