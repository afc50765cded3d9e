-- Held by members: the member that a block is out of, and what one member's call leaves of the whole.
use Rattle.std.proofs.Common.{◌≡◌, refl, sym, ap, subst, ◌∙◌, ℕ, zero, suc, ◌≤◌, ◌<◌, inl, inr, Bool, true, false, nat_le, arith, List, [], ◌∷◌, length, Option, Some, None, option_map}
use Rattle.std.proofs.lemmas.Bool.{and_from, cases_eq, cases_lt}
use Rattle.std.proofs.lemmas.Bool.Decides.{nat_tests}
use Rattle.std.specs.Option.{option_map_or}
use Rattle.space_core.specs.Cells.{Cells}
use Rattle.layer_rules.specs.declared.Block.{Block}
use Rattle.layer_rules.specs.Blocks.{no_block}
use Rattle.layer_rules.specs.State.{State, is_open, child}
use Rattle.layer_rules.specs.After.{After, after, Placed, from_child, Reallocated}
use Rattle.layer_rules.specs.Members.{nth}
use Rattle.layer_rules.specs.NullRules.{null_rules}
use Rattle.layer_rules.specs.Owning.{is_some_block}
use Rattle.layer_rules.specs.Rules.{Rules, IsIn, IsLeaf, IsSettled}
use Rattle.layer_laws.proofs.Basics.{and-fst, and-snd}
use Rattle.layer_laws.specs.Chooses.{EachNumber, HaveOwnTags}
use Rattle.layer_laws.specs.HeldByMembers.{IsHeldByNoOther, IsOpenGroup, IsWithMember, IsCallOfMember, HeldByMembers}
use Rattle.layer_laws.specs.Lawful.{IsRegular, IsLawful, IsGood, IsFreed, IsGrown, IsReallocated, OnlyOwnCells, TagsKept}
use Rattle.layer_laws.proofs.MembersLawful.{leaf-in, beside, out-some, some-member, kept-taken, kept-freed, kept-changed}
use Rattle.layer_laws.proofs.Seats.{held-by_no_other, IsSeenAs, AreSeated, AreLawfulMembers, IsSeatChanged, seat-good, seat-freed, seat-grown, seat-reallocated}

-- a group whose blocks its members hold, and its members
pub record IsHeldGroup (g : Rules) (es : List Rules) : Type 0 where
  pub held : HeldByMembers g es
  pub own : HaveOwnTags es
  pub whole : IsRegular g
  pub regular : EachNumber IsRegular es
  pub lawful : EachNumber IsLawful es

pub lawful-members : (g : Rules) (es : List Rules) → IsHeldGroup g es → AreLawfulMembers g es
lawful-members g es w = record { own = w.own; leaves = λ i t l. subst (λ ts. IsIn ts t) (sym w.held.leaves) (leaf-in es i t l); lawful = w.lawful }

pub other-tags : (es : List Rules) → HaveOwnTags es → (i j : ℕ) → (j ≡ i → ⊥) → (t : ℕ) → IsLeaf (nth es i) t → IsLeaf (nth es j) t → ⊥
other-tags es w i j n t x y = beside es i j t w.distinct (λ e. n (sym e)) x y

-- ---- what it says that a block is out

pub record IsOutOfHolder (g : Rules) (es : List Rules) (h : HeldByMembers g es) (b : Block) (s : State) (cells : Cells) : Type 0 where
  pub is_set : is_open s ≡ true
  pub some : 1 ≤ b.len
  pub number : ℕ
  pub held : h.holder b s ≡ Some number
  pub below : (nth es number).is_out b (child s number) cells ≡ true

holder-of : (o : Option ℕ) (f : ℕ → Bool) → option_map_or f o false ≡ true → (i : ℕ) × (o ≡ Some i) × (f i ≡ true)
holder-of None f h = absurd (cc)
holder-of (Some i) f h = (i, refl, h)

pub out-holder : (g : Rules) (es : List Rules) (h : HeldByMembers g es) (b : Block) (s : State) (cells : Cells) → g.is_out b s cells ≡ true → IsOutOfHolder g es h b s cells
out-holder g es h b s cells o =
    let x = sym (h.tells.out b s cells) ∙ o in
    let here = and-fst (is_some_block b s) _ x in
    let q : nat_le 1 b.len ≡ true = and-snd (is_open s) (nat_le 1 b.len) here in
    let k = holder-of (h.holder b s) (λ i. (nth es i).is_out b (child s i) cells) (and-snd (is_some_block b s) _ x) in
    record { is_set = and-fst (is_open s) (nat_le 1 b.len) here; some = grind (arith, nat_tests); number = k.0; held = k.1; below = k.2 }

pub holder-out : (g : Rules) (es : List Rules) (h : HeldByMembers g es) (b : Block) (s : State) (cells : Cells) → IsOutOfHolder g es h b s cells → g.is_out b s cells ≡ true
holder-out g es h b s cells k =
    let l = k.some in
    let q : nat_le 1 b.len ≡ true = grind (arith, nat_tests) in
    h.tells.out b s cells ∙ and_from _ _ (and_from _ _ k.is_set q) (ap (λ o. option_map_or (λ i. (nth es i).is_out b (child s i) cells) o false) k.held ∙ k.below)

-- ---- one member holds a block

null-behind : (es : List Rules) (i : ℕ) → length es ≤ i → nth es i ≡ null_rules
null-behind [] i l = refl
null-behind (e ∷ es) zero l = absurd (omega arith)
null-behind (e ∷ es) (suc i) l = null-behind es i (omega arith)

null-holds : (e : Rules) (b : Block) (s : State) → e ≡ null_rules → e.holds b s ≡ false
unfolding null_rules
null-holds e b s q = ap (λ (e : Rules). e.holds b s) q

pub unheld-behind : (es : List Rules) (i : ℕ) (b : Block) (s : State) → length es ≤ i → (nth es i).holds b s ≡ false
unheld-behind es i b s l = null-holds (nth es i) b s (null-behind es i l)

-- there is no member behind the last one
pub held-there : (es : List Rules) (i : ℕ) (b : Block) (s : State) → (nth es i).holds b s ≡ true → i < length es
held-there es i b s h = elim (cases_lt i (length es)) [ inl l ↦ l | inr l ↦ absurd (let z : false ≡ true = sym (unheld-behind es i b s l) ∙ h in cc) ]

pub held-some : (g : Rules) (es : List Rules) → IsHeldGroup g es → (i : ℕ) (b : Block) (s : State) → (nth es i).holds b s ≡ true → 1 ≤ b.len
held-some g es w i b s h =
    let first : nat_le 1 b.len ≡ true = and-fst (nat_le 1 b.len) _ ((w.regular i).owning.held_size b s h) in
    grind (arith, nat_tests)

pub one-holder : (g : Rules) (es : List Rules) → IsHeldGroup g es → (s : State) (cells : Cells) → ((j : ℕ) → j < length es → IsSettled (nth es j) (child s j) cells) → (b : Block) (i j : ℕ)
    → (nth es i).holds b (child s i) ≡ true → (nth es j).holds b (child s j) ≡ true → i ≡ j
one-holder g es w s cells members b i j x y =
    let some = held-some g es w i b (child s i) x in
    elim (cases_eq i j) [
      | inl e ↦ e
      | inr n ↦ absurd (beside es i j _ w.own.distinct n (((w.lawful i).holding.own b (child s i) cells (members i (held-there es i b (child s i) x)) x).at b.place (omega arith) (omega arith))
          (((w.lawful j).holding.own b (child s j) cells (members j (held-there es j b (child s j) y)) y).at b.place (omega arith) (omega arith)))
    ]

-- no other member than the one that a block is out of
out-by_no_other : (g : Rules) (es : List Rules) → IsHeldGroup g es → (s : State) (cells : Cells) → ((j : ℕ) → j < length es → IsSettled (nth es j) (child s j) cells) → (b : Block) (j : ℕ)
    → (nth es j).is_out b (child s j) cells ≡ true → IsHeldByNoOther es b s j
out-by_no_other g es w s cells members b j o i n =
    let lj = out-some es j b (child s j) cells o in
    elim (cases_lt i (length es)) [
      | inl l ↦
          held-by_no_other (nth es i) (nth es j) (child s i) (child s j) cells b ((nth es i).holds b (child s i)) refl (w.lawful i).holding.own (members i l)
          ((w.lawful j).placing.covers b (child s j) cells (members j lj) o) ((w.lawful j).keeping.out_some b (child s j) cells o) (λ t x y. beside es i j t w.own.distinct n x y)
      | inr l ↦ unheld-behind es i b (child s i) l
    ]

-- the member that a block is out of is its holder
pub holder-is : (g : Rules) (es : List Rules) (w : IsHeldGroup g es) (s : State) (cells : Cells) → IsOpenGroup es w.held.fits s cells → (b : Block) (j : ℕ) → (nth es j).is_out b (child s j) cells ≡ true → w.held.holder b s ≡ Some j
holder-is g es w s cells k b j o =
    let f = w.held.finds in
    let lj = out-some es j b (child s j) cells o in
    let others = out-by_no_other g es w s cells k.members b j o in
    let by_one = λ (x : (nth es j).holds b (child s j) ≡ true). f.one b s j k.is_set k.in_order lj ((w.lawful j).keeping.out_open b (child s j) cells o) x others in
    elim (f.owns j lj) [
      | inl owns ↦ by_one ((w.lawful j).holding.out_held owns b (child s j) cells (k.members j lj) o)
      | inr last ↦ by-holds ((nth es j).holds b (child s j)) refl others by_one last
    ]
  where
    by-holds : (x : Bool) → (nth es j).holds b (child s j) ≡ x → IsHeldByNoOther es b s j → ((nth es j).holds b (child s j) ≡ true → w.held.holder b s ≡ Some j) → w.held.otherwise ≡ Some j → w.held.holder b s ≡ Some j
    by-holds true e others by_one last = by_one e
    by-holds false e others by_one last =
        w.held.finds.none b s k.is_set k.in_order (λ i. elim (cases_eq i j) [ inl q ↦ subst (λ n. (nth es n).holds b (child s n) ≡ false) (sym q) e | inr n ↦ others i n ]) ∙ last

-- ---- the seats

seen-as : (g : Rules) (es : List Rules) (w : IsHeldGroup g es) (s : State) (cells : Cells) → IsOpenGroup es w.held.fits s cells → (j : ℕ) (b : Block) → (nth es j).is_out b (child s j) cells ≡ true → IsSeenAs g es j b s cells
seen-as g es w s cells k j b o =
    let q = holder-is g es w s cells k b j o in
    record {
      out = holder-out g es w.held b s cells (record { is_set = k.is_set; some = (w.lawful j).keeping.out_some b (child s j) cells o; number = j; held = q; below = o });
      extent = w.held.tells.extent b s ∙ ap (λ x. option_map_or (λ i. (nth es i).extent b (child s i)) x no_block) q;
      route = w.held.tells.route b s ∙ ap (λ x. option_map_or (λ i. i ∷ (nth es i).route b (child s i)) x []) q;
    }

pub group-seated : (g : Rules) (es : List Rules) (w : IsHeldGroup g es) (s : State) (cells : Cells) → IsOpenGroup es w.held.fits s cells → AreSeated g es s cells
group-seated g es w s cells k = record {
  is_set = k.is_set;
  settled = w.held.stands.sound s cells k;
  members = k.members;
  seen = seen-as g es w s cells k;
  seat = λ b o. let x = out-holder g es w.held b s cells o in record { number = x.number; below = x.below };
}

-- ---- one member changed

pub changed-group : (g : Rules) (es : List Rules) (w : IsHeldGroup g es) (i : ℕ) (t s s' : State) (old new : Cells) → IsOpenGroup es w.held.fits s old → IsWithMember w.held.fits i t s s' → IsSettled (nth es i) t new
    → ((j : ℕ) → (j ≡ i → ⊥) → TagsKept (nth es j) old new) → IsOpenGroup es w.held.fits s' new
changed-group g es w i t s s' old new k m z kept = record {
  is_set = m.is_set;
  in_order = m.in_order;
  members = λ j l. elim (cases_eq j i) [
    | inl e ↦ subst (λ j. IsSettled (nth es j) (child s' j) new) (sym e) (subst (λ u. IsSettled (nth es i) u new) (sym m.here) z)
    | inr n ↦ subst (λ u. IsSettled (nth es j) u new) (sym (m.others j n)) ((w.lawful j).placing.settled_tags (child s j) old new (kept j n) (k.members j l))
  ];
}

seat-changed : (g : Rules) (es : List Rules) (w : IsHeldGroup g es) (i : ℕ) (t s s' : State) (old new : Cells) → IsOpenGroup es w.held.fits s old → IsWithMember w.held.fits i t s s' → IsSettled (nth es i) t new
    → ((j : ℕ) → (j ≡ i → ⊥) → TagsKept (nth es j) old new) → IsSeatChanged g es i s s' old new
seat-changed g es w i t s s' old new k m z kept =
    record { before = group-seated g es w s old k; later = group-seated g es w s' new (changed-group g es w i t s s' old new k m z kept); others = m.others; tags = kept }

taken-others : (es : List Rules) → HaveOwnTags es → (i : ℕ) (old new : Cells) → OnlyOwnCells (nth es i) old new → (j : ℕ) → (j ≡ i → ⊥) → TagsKept (nth es j) old new
taken-others es w i old new taken j n = kept-taken (nth es i) (nth es j) old new (some-member es j w) (other-tags es w i j n) taken

-- ---- what a member's call keeps and gives of the whole

pub member-good : (g : Rules) (es : List Rules) (w : IsHeldGroup g es) (i n : ℕ) (s s' : State) (cells : Cells) (r : After (Option Placed)) → IsOpenGroup es w.held.fits s cells → IsWithMember w.held.fits i r.state s s'
    → OnlyOwnCells (nth es i) cells r.cells → IsGood (nth es i) (child s i) cells n r → IsGood g s cells n (after (option_map (from_child (λ b. b) i) r.answer) s' r.cells)
member-good g es w i n s s' cells r k m taken x =
    seat-good g es i s s' cells r.cells n r.answer (lawful-members g es w) (seat-changed g es w i r.state s s' cells r.cells k m x.settled (taken-others es w.own i cells r.cells taken))
    (subst (λ u. IsGood (nth es i) (child s i) cells n (after r.answer u r.cells)) (sym m.here) x)

pub call-freed : (g : Rules) (es : List Rules) (w : IsHeldGroup g es) (i : ℕ) (b : Block) (s : State) (cells : Cells) (r q : After Bool) → IsOpenGroup es w.held.fits s cells → IsCallOfMember w.held.fits i s r q
    → (nth es i).is_out b (child s i) cells ≡ true → IsFreed (nth es i) (child s i) cells b r → IsFreed g s cells b q
call-freed g es w i b s cells r q k c o x =
    let m = c.changed in
    subst (IsFreed g s cells b) (sym c.same)
    (seat-freed g es i s c.state cells r.cells b r.answer (lawful-members g es w)
    (seat-changed g es w i r.state s c.state cells r.cells k m x.settled (λ j n. kept-freed (nth es j) (IsLeaf (nth es i)) cells r.cells (some-member es j w.own) (other-tags es w.own i j n) x.table)) o
    (subst (λ u. IsFreed (nth es i) (child s i) cells b (after r.answer u r.cells)) (sym m.here) x))

pub call-grown : (g : Rules) (es : List Rules) (w : IsHeldGroup g es) (i delta : ℕ) (b : Block) (s : State) (cells : Cells) (r q : After Bool) → IsOpenGroup es w.held.fits s cells → IsCallOfMember w.held.fits i s r q
    → (nth es i).is_out b (child s i) cells ≡ true → IsGrown (nth es i) (child s i) cells b delta r → IsGrown g s cells b delta q
call-grown g es w i delta b s cells r q k c o x =
    let m = c.changed in
    subst (IsGrown g s cells b delta) (sym c.same)
    (seat-grown g es i s c.state cells r.cells b delta r.answer (lawful-members g es w) (seat-changed g es w i r.state s c.state cells r.cells k m x.settled (taken-others es w.own i cells r.cells x.table)) o
    (subst (λ u. IsGrown (nth es i) (child s i) cells b delta (after r.answer u r.cells)) (sym m.here) x))

pub member-reallocated : (g : Rules) (es : List Rules) (w : IsHeldGroup g es) (i n : ℕ) (b : Block) (s s' : State) (cells : Cells) (r : After Reallocated) → IsOpenGroup es w.held.fits s cells → IsWithMember w.held.fits i r.state s s'
    → (nth es i).is_out b (child s i) cells ≡ true → IsReallocated (nth es i) (child s i) cells b n r → IsReallocated g s cells b n (after r.answer s' r.cells)
member-reallocated g es w i n b s s' cells r k m o x =
    seat-reallocated g es i s s' cells r.cells b n r.answer (lawful-members g es w)
    (seat-changed g es w i r.state s s' cells r.cells k m x.settled (λ j n. kept-changed (nth es i) (nth es j) cells r.cells (some-member es j w.own) (other-tags es w.own i j n) x.table)) o
    (subst (λ u. IsReallocated (nth es i) (child s i) cells b n (after r.answer u r.cells)) (sym m.here) x)
