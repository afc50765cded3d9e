-- Seats: a group each of whose blocks is out of one member, and is seen as that member sees it. What one member's call keeps and gives, the
-- group's keeps and gives.
use Rattle.std.proofs.Common.{◌≡◌, refl, sym, ap, subst, ◌∙◌, ℕ, ◌≤◌, ◌<◌, inl, inr, Bool, true, false, arith, List, ◌∷◌, length, Option, option_map}
use Rattle.std.proofs.lemmas.Bool.{cases_eq}
use Rattle.space_core.specs.Cells.{Cells}
use Rattle.layer_rules.specs.declared.Block.{Block}
use Rattle.layer_rules.specs.State.{State, is_open, child}
use Rattle.layer_rules.specs.After.{after, Placed, from_child, Reallocated}
use Rattle.layer_rules.specs.Layering.{is_done}
use Rattle.layer_rules.specs.Members.{nth}
use Rattle.layer_rules.specs.Rules.{Rules, IsLeaf, IsSettled, AreApart, longer_if}
use Rattle.layer_laws.proofs.Children.{shown-of}
use Rattle.layer_laws.specs.Chooses.{EachNumber, HaveOwnTags}
use Rattle.layer_laws.specs.Lawful.{IsGood, IsFreed, IsGrown, IsReallocated, IsLawful, TagsKept, Covers, HoldingOwn}
use Rattle.layer_laws.proofs.MembersLawful.{beside, out-some, covered-apart}
use Rattle.layer_laws.proofs.OwnChanges.{changed-wider}
use Rattle.layer_laws.proofs.Takings.{HasLeavesOf, takes-wider}

-- ---- a block that lies in cells of other leaves is not held

pub held-by_no_other : (e f : Rules) (s u : State) (cells : Cells) (b : Block) (x : Bool) → e.holds b s ≡ x → HoldingOwn e → IsSettled e s cells → Covers f b u cells → 1 ≤ b.len → ((t : ℕ) → IsLeaf e t → IsLeaf f t → ⊥) → x ≡ false
held-by_no_other e f s u cells b false q own z c some apart = refl
held-by_no_other e f s u cells b true q own z c some apart =
    absurd (apart _ ((own b s cells z q).at b.place (omega arith) (omega arith)) (c.leaf b.place c.from (omega (arith, c.upto))))

-- ---- seats

-- the group sees a block as its member i does
pub record IsSeenAs (g : Rules) (es : List Rules) (i : ℕ) (b : Block) (s : State) (cells : Cells) : Type 0 where
  pub out : g.is_out b s cells ≡ true
  pub extent : g.extent b s ≡ (nth es i).extent b (child s i)
  pub route : g.route b s ≡ i ∷ (nth es i).route b (child s i)

-- the member that a block is out of
pub record HasSeat (es : List Rules) (b : Block) (s : State) (cells : Cells) : Type 0 where
  pub number : ℕ
  pub below : (nth es number).is_out b (child s number) cells ≡ true

-- in a sound group a block is out where a member has it out, and is seen as that member sees it
pub record AreSeated (g : Rules) (es : List Rules) (s : State) (cells : Cells) : Type 0 where
  pub is_set : is_open s ≡ true
  pub settled : IsSettled g s cells
  pub members : (j : ℕ) → j < length es → IsSettled (nth es j) (child s j) cells
  pub seen : (j : ℕ) (b : Block) → (nth es j).is_out b (child s j) cells ≡ true → IsSeenAs g es j b s cells
  pub seat : (b : Block) → g.is_out b s cells ≡ true → HasSeat es b s cells

-- members with leaves of the group, with tags of their own, each lawful
pub record AreLawfulMembers (g : Rules) (es : List Rules) : Type 0 where
  pub own : HaveOwnTags es
  pub leaves : (i : ℕ) → HasLeavesOf g (nth es i)
  pub lawful : EachNumber IsLawful es

-- the member i changed: each other is as before, and so are its cells
pub record IsSeatChanged (g : Rules) (es : List Rules) (i : ℕ) (s s' : State) (old new : Cells) : Type 0 where
  pub before : AreSeated g es s old
  pub later : AreSeated g es s' new
  pub others : (j : ℕ) → (j ≡ i → ⊥) → child s' j ≡ child s j
  pub tags : (j : ℕ) → (j ≡ i → ⊥) → TagsKept (nth es j) old new

-- a block is out still, with its extent and its route
pub record IsKept (g : Rules) (s s' : State) (new : Cells) (c : Block) : Type 0 where
  pub out : g.is_out c s' new ≡ true
  pub extent : g.extent c s' ≡ g.extent c s
  pub route : g.route c s' ≡ g.route c s

-- the block of another member is out of it still
other-out : (g : Rules) (es : List Rules) (i : ℕ) (s s' : State) (old new : Cells) → AreLawfulMembers g es → IsSeatChanged g es i s s' old new → (c : Block) (j : ℕ) → (j ≡ i → ⊥) → (nth es j).is_out c (child s j) old ≡ true
    → (nth es j).is_out c (child s' j) new ≡ true
other-out g es i s s' old new w m c j n o = subst (λ u. (nth es j).is_out c u new ≡ true) (sym (m.others j n)) ((w.lawful j).placing.out_tags c (child s j) old new (m.tags j n) o)

seat-at : (es : List Rules) (b : Block) (s : State) (cells : Cells) (i : ℕ) (k : HasSeat es b s cells) → k.number ≡ i → (nth es i).is_out b (child s i) cells ≡ true
seat-at es b s cells i k e = subst (λ n. (nth es n).is_out b (child s n) cells ≡ true) e k.below

-- a block that was out is kept, where the changed member keeps its own
pub seat-kept : (g : Rules) (es : List Rules) (i : ℕ) (s s' : State) (old new : Cells) → AreLawfulMembers g es → IsSeatChanged g es i s s' old new → (c : Block) → g.is_out c s old ≡ true
    → ((nth es i).is_out c (child s i) old ≡ true → IsKept (nth es i) (child s i) (child s' i) new c) → IsKept g s s' new c
seat-kept g es i s s' old new w m c o f =
    let k = m.before.seat c o in
    elim (cases_eq k.number i) [
      | inl e ↦
          let below = seat-at es c s old i k e in
          let kept = f below in
          let was = m.before.seen i c below in
          let now = m.later.seen i c kept.out in
          record { out = now.out; extent = now.extent ∙ (kept.extent ∙ sym was.extent); route = now.route ∙ (ap (λ r. i ∷ r) kept.route ∙ sym was.route) }
      | inr n ↦
          let j = k.number in
          let was = m.before.seen j c k.below in
          let now = m.later.seen j c (other-out g es i s s' old new w m c j n k.below) in
          record {
            out = now.out;
            extent = now.extent ∙ (ap (λ u. (nth es j).extent c u) (m.others j n) ∙ sym was.extent);
            route = now.route ∙ (ap (λ u. j ∷ (nth es j).route c u) (m.others j n) ∙ sym was.route);
          }
    ]

-- a block lies where its member has it
pub seat-covers : (g : Rules) (es : List Rules) (b : Block) (s : State) (cells : Cells) → AreLawfulMembers g es → AreSeated g es s cells → g.is_out b s cells ≡ true → Covers g b s cells
seat-covers g es b s cells m t o =
    let k = t.seat b o in
    let i = k.number in
    let l = out-some es i b (child s i) cells k.below in
    let c = (m.lawful i).placing.covers b (child s i) cells (t.members i l) k.below in
    let q = (t.seen i b k.below).extent in
    record { some = rw q c.some; from = rw q c.from; upto = rw q c.upto; leaf = λ j x y. m.leaves i _ (c.leaf j (rw q at x) (rw q at y)) }

-- blocks of one member that are apart in the group are so in the member
pub seat-below : (g : Rules) (es : List Rules) (i : ℕ) (b c : Block) (s : State) (cells : Cells) → AreSeated g es s cells → (nth es i).is_out b (child s i) cells ≡ true → (nth es i).is_out c (child s i) cells ≡ true → AreApart g s b c
    → AreApart (nth es i) (child s i) b c
seat-below g es i b c s cells z o p a = record { either = rw ((z.seen i b o).extent, (z.seen i c p).extent) at a.either }

-- what the changed member tells of a block that was its own
pub record IsKeptApart (e : Rules) (t : State) (new : Cells) (b c : Block) : Type 0 where
  pub out : e.is_out c t new ≡ true
  pub apart : AreApart e t b c

-- a block that the changed member has out is apart from each that was out, where it is apart from its own
pub seat-apart : (g : Rules) (es : List Rules) (i : ℕ) (s s' : State) (old new : Cells) → AreLawfulMembers g es → IsSeatChanged g es i s s' old new → (b : Block) → (nth es i).is_out b (child s' i) new ≡ true
    → (c : Block) → g.is_out c s old ≡ true → ((nth es i).is_out c (child s i) old ≡ true → IsKeptApart (nth es i) (child s' i) new b c) → AreApart g s' b c
seat-apart g es i s s' old new w m b o c p f =
    let k = m.before.seat c p in
    let here = m.later.seen i b o in
    elim (cases_eq k.number i) [
      | inl e ↦
          let x = f (seat-at es c s old i k e) in
          record { either = rw (here.extent, (m.later.seen i c x.out).extent) x.apart.either }
      | inr n ↦
          let j = k.number in
          let q = other-out g es i s s' old new w m c j n k.below in
          let li = out-some es i b (child s' i) new o in
          let lj = out-some es j c (child s' j) new q in
          let z = covered-apart (nth es i) (nth es j) (child s' i) (child s' j) new b c (w.lawful i).placing.covers (w.lawful j).placing.covers (λ t x y. beside es i j t w.own.distinct (λ e. n (sym e)) x y) (m.later.members i li) o (m.later.members j lj) q in
          record { either = rw (here.extent, (m.later.seen j c q).extent) z }
    ]

-- ---- what a member's call keeps and gives

-- a request
pub seat-good : (g : Rules) (es : List Rules) (i : ℕ) (s s' : State) (cells new : Cells) (n : ℕ) (a : Option Placed) → AreLawfulMembers g es → IsSeatChanged g es i s s' cells new → IsGood (nth es i) (child s i) cells n (after a (child s' i) new)
    → IsGood g s cells n (after (option_map (from_child (λ b. b) i) a) s' new)
seat-good g es i s s' cells new n a w m x =
    let kept = λ (c : Block) (o : g.is_out c s cells ≡ true). seat-kept g es i s s' cells new w m c o (λ p. record { out = x.stays c p; extent = x.extents c p; route = x.routes c p }) in
    record {
      is_set = m.later.is_set;
      settled = m.later.settled;
      extents = λ c o. (kept c o).extent;
      routes = λ c o. (kept c o).route;
      stays = λ c o. (kept c o).out;
      len = λ q z. let y = shown-of i (λ b. b) a q z in ap (λ (b : Block). b.len) y.block ∙ x.len y.below y.answered;
      out = λ q z. let y = shown-of i (λ b. b) a q z in subst (λ b. g.is_out b s' new ≡ true) (sym y.block) (m.later.seen i y.below.block (x.out y.below y.answered)).out;
      found = λ q z.
          let y = shown-of i (λ b. b) a q z in
          subst (λ b. g.route b s' ≡ q.route) (sym y.block)
          ((m.later.seen i y.below.block (x.out y.below y.answered)).route ∙ (ap (λ r. i ∷ r) (x.found y.below y.answered) ∙ sym y.route));
      fresh = λ q z c o.
          let y = shown-of i (λ b. b) a q z in
          subst (λ b. AreApart g s' b c) (sym y.block)
          (seat-apart g es i s s' cells new w m y.below.block (x.out y.below y.answered) c o (λ p. record { out = x.stays c p; apart = x.fresh y.below y.answered c p }));
    }

-- a block comes back
pub seat-freed : (g : Rules) (es : List Rules) (i : ℕ) (s s' : State) (cells new : Cells) (b : Block) (a : Bool) → AreLawfulMembers g es → IsSeatChanged g es i s s' cells new → (nth es i).is_out b (child s i) cells ≡ true
    → IsFreed (nth es i) (child s i) cells b (after a (child s' i) new) → IsFreed g s cells b (after a s' new)
seat-freed g es i s s' cells new b a w m ob x =
    let kept = λ (c : Block) (o : g.is_out c s cells ≡ true) (y : AreApart g s b c). seat-kept g es i s s' cells new w m c o (λ p.
    let z = seat-below g es i b c s cells m.before ob p y in record { out = x.stays c p z; extent = x.extents c p z; route = x.routes c p z }) in
    record {
      is_set = m.later.is_set;
      settled = m.later.settled;
      extents = λ c o y. (kept c o y).extent;
      routes = λ c o y. (kept c o y).route;
      stays = λ c o y. (kept c o y).out;
      table = λ c. elim (x.table c) [ inl z ↦ inl z | inr z ↦ inr (z.0, w.leaves i _ z.1) ];
    }

-- a block grows
pub seat-grown : (g : Rules) (es : List Rules) (i : ℕ) (s s' : State) (cells new : Cells) (b : Block) (delta : ℕ) (a : Bool) → AreLawfulMembers g es → IsSeatChanged g es i s s' cells new → (nth es i).is_out b (child s i) cells ≡ true
    → IsGrown (nth es i) (child s i) cells b delta (after a (child s' i) new) → IsGrown g s cells b delta (after a s' new)
seat-grown g es i s s' cells new b delta a w m ob x =
    let below = λ (c : Block) (p : (nth es i).is_out c (child s i) cells ≡ true) (y : AreApart g s b c). seat-below g es i b c s cells m.before ob p y in
    let kept = λ (c : Block) (o : g.is_out c s cells ≡ true) (y : a ≡ true → AreApart g s b c). seat-kept g es i s s' cells new w m c o (λ p.
    let z = λ (q : a ≡ true). below c p (y q) in record { out = x.stays c p z; extent = x.extents c p z; route = x.routes c p z }) in
    record {
      is_set = m.later.is_set;
      settled = m.later.settled;
      extents = λ c o y. (kept c o y).extent;
      routes = λ c o y. (kept c o y).route;
      stays = λ c o y. (kept c o y).out;
      out = (m.later.seen i (longer_if a delta b) x.out).out;
      found = (m.later.seen i (longer_if a delta b) x.out).route ∙ (ap (λ r. i ∷ r) x.found ∙ sym (m.before.seen i b ob).route);
      fresh = λ c o y. seat-apart g es i s s' cells new w m (longer_if a delta b) x.out c o (λ p. let z = below c p y in record { out = x.stays c p (λ q. z); apart = x.fresh c p z });
      table = takes-wider (nth es i) g cells new (w.leaves i) x.table;
    }

-- a block gets another length
pub seat-reallocated : (g : Rules) (es : List Rules) (i : ℕ) (s s' : State) (cells new : Cells) (b : Block) (n : ℕ) (a : Reallocated) → AreLawfulMembers g es → IsSeatChanged g es i s s' cells new → (nth es i).is_out b (child s i) cells ≡ true
    → IsReallocated (nth es i) (child s i) cells b n (after a (child s' i) new) → IsReallocated g s cells b n (after a s' new)
seat-reallocated g es i s s' cells new b n a w m ob x =
    let below = λ (c : Block) (p : (nth es i).is_out c (child s i) cells ≡ true) (y : AreApart g s b c). seat-below g es i b c s cells m.before ob p y in
    let kept = λ (c : Block) (o : g.is_out c s cells ≡ true) (y : is_done a ≡ true → AreApart g s b c). seat-kept g es i s s' cells new w m c o (λ p.
    let z = λ (q : is_done a ≡ true). below c p (y q) in record { out = x.stays c p z; extent = x.extents c p z; route = x.routes c p z }) in
    record {
      is_set = m.later.is_set;
      settled = m.later.settled;
      extents = λ c o y. (kept c o y).extent;
      routes = λ c o y. (kept c o y).route;
      stays = λ c o y. (kept c o y).out;
      len = x.len;
      out = λ c q. (m.later.seen i c (x.out c q)).out;
      fresh = λ c q d o y. seat-apart g es i s s' cells new w m c (x.out c q) d o (λ p. let z = below d p y in record { out = x.stays d p (λ k. z); apart = x.fresh c q d p z });
      place = λ c q. elim (x.place c q) [
        | inl k ↦ inl k
        | inr k ↦ inr (record { either = rw ((m.later.seen i c (x.out c q)).extent, (m.before.seen i b ob).extent) k.either })
      ];
      empty = x.empty;
      some = x.some;
      count = x.count;
      table = changed-wider (nth es i) g cells new (w.leaves i) x.table;
    }
