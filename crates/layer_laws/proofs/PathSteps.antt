-- What is said at a path's end by a layer that walks on: its blocks are out of members, each as that member sees it.
use Rattle.std.proofs.Common.{◌≡◌, ◌≢◌, refl, sym, ap, subst, ◌∙◌, ℕ, zero, suc, ◌≤◌, ◌<◌, inl, inr, Bool, true, false, ◌&&◌, arith, List, [], ◌∷◌, length, nat_eq}
use Rattle.std.proofs.lemmas.Bool.{and_from, cases_eq}
use Rattle.std.proofs.lemmas.Bool.Decides.{nat_tests}
use Rattle.std.specs.List.{starts_with}
use Rattle.space_core.specs.Cells.{Cells}
use Rattle.layer_rules.specs.declared.Asked.{Asked}
use Rattle.layer_rules.specs.declared.Asked.TheVariants.{Yes, No, NotServing, NotOffered, NoSuchLayer}
use Rattle.layer_rules.specs.declared.Block.{Block}
use Rattle.layer_rules.specs.Blocks.{end_of}
use Rattle.layer_rules.specs.Members.{nth, into_member}
use Rattle.layer_rules.specs.Offering.{is_served_size}
use Rattle.layer_rules.specs.Rules.{Rules, IsLeaf, IsSettled, owns_along}
use Rattle.layer_rules.specs.State.{State, closed, open_with, child, is_open}
use Rattle.layer_rules.specs.Testing.{has_no_cells}
use Rattle.layer_laws.specs.Chooses.{EachNumber}
use Rattle.layer_laws.specs.Lawful.{IsRegular, IsLawful, IsInOwnCells, HoldingLaws, OpeningLaws, AnswersRoute, SayingRoute, SayingOwn, PathLaws, yes_if}
use Rattle.layer_laws.proofs.Basics.{and-fst, and-snd}
use Rattle.layer_laws.proofs.MembersLawful.{out-some}
use Rattle.layer_laws.proofs.PathEnds.{IsAskedItself, end-held, end-own, end-route}
use Rattle.layer_laws.proofs.Owners.{shorter-served}
use Rattle.layer_laws.proofs.Takings.{HasLeavesOf}
use Rattle.layer_laws.proofs.Tests.{none-at, none-all}

-- ---- a layer that walks on into its members

-- a block lies in another
pub record IsWithin (b c : Block) : Type 0 where
  pub from : c.place ≤ b.place
  pub upto : end_of b ≤ end_of c

-- a block that is out is out of a member, as that sees it, and its route goes on there
pub record IsOutBelow (g : Rules) (es : List Rules) (down : Block → Block) (fits : Block → Bool) (b : Block) (s : State) (cells : Cells) : Type 0 where
  pub is_set : is_open s ≡ true
  pub some : 1 ≤ b.len
  pub fitting : fits b ≡ true
  pub number : ℕ
  pub below : (nth es number).is_out (down b) (child s number) cells ≡ true
  pub route : g.route b s ≡ number ∷ (nth es number).route (down b) (child s number)

-- a group of lawful members with leaves of its own, no two with one leaf, that hands each its blocks down where they fit
pub record WalksOn (g : Rules) (es : List Rules) (down : Block → Block) (fits : Block → Bool) : Type 0 where
  pub ends : IsAskedItself g
  pub steps : (i : ℕ) (path : List ℕ) (b : Block) (s : State)
      → owns_along g (i ∷ path) b s ≡ into_member es i ((nth es i).owns_at path (is_served_size b.len && fits b) (down b) (child s i))
  pub within : (b : Block) → fits b ≡ true → IsWithin b (down b)
  pub leaves : (i : ℕ) → HasLeavesOf g (nth es i)
  pub apart : (i j : ℕ) → i ≢ j → (t : ℕ) → IsLeaf (nth es i) t → IsLeaf (nth es j) t → ⊥
  pub regular : EachNumber IsRegular es
  pub lawful : EachNumber IsLawful es
  pub members : (s : State) (cells : Cells) → is_open s ≡ true → IsSettled g s cells → (i : ℕ) → i < length es → IsSettled (nth es i) (child s i) cells
  pub out : (b : Block) (s : State) (cells : Cells) → IsSettled g s cells → g.is_out b s cells ≡ true → IsOutBelow g es down fits b s cells

-- what the member is asked, where its answer is a yes or a no
pub record IsAskedBelow (es : List Rules) (i : ℕ) (x said : Asked) : Type 0 where
  pub there : i < length es
  pub same : x ≡ said

member-asked : (es : List Rules) (i : ℕ) (x said : Asked) → said ≢ NoSuchLayer → into_member es i x ≡ said → IsAskedBelow es i x said
member-asked [] i x said n q = absurd (n (sym q))
member-asked (e ∷ es) zero x said n q = record { there = omega arith; same = q }
member-asked (e ∷ es) (suc i) x said n q = let k = member-asked es i x said n q in let l = k.there in record { there = omega arith; same = k.same }

-- a yes says that the block may be had on the way, and that there is one below
pub record IsYesBelow (fine : Bool) (said : Asked) : Type 0 where
  pub may : fine ≡ true
  pub is_yes : said ≡ Yes

yes-below : (fine : Bool) (said : Asked) → yes_if fine said ≡ Yes → IsYesBelow fine said
yes-below true said q = record { may = refl; is_yes = q }
yes-below false Yes q = absurd (cc)
yes-below false No q = absurd (cc)
yes-below false NotServing q = absurd (cc)
yes-below false NotOffered q = absurd (cc)
yes-below false NoSuchLayer q = absurd (cc)

-- and so does a no, where a yes below would say that it may be had
no-below : (fine : Bool) (said : Asked) → (said ≡ Yes → fine ≡ true) → yes_if fine said ≡ No → said ≡ No
no-below true said f q = q
no-below false Yes f q = let z = f refl in absurd (cc)
no-below false No f q = refl
no-below false NotServing f q = absurd (cc)
no-below false NotOffered f q = absurd (cc)
no-below false NoSuchLayer f q = absurd (cc)

module _ (g : Rules) (es : List Rules) (down : Block → Block) (fits : Block → Bool) (w : WalksOn g es down fits) (holding : HoldingLaws g) (opening : OpeningLaws g) where
  -- each member is sound, also where the group is closed
  member-settled : (s : State) (cells : Cells) → IsSettled g s cells → (i : ℕ) → i < length es → IsSettled (nth es i) (child s i) cells
  member-settled closed cells z i l =
      let none : has_no_cells g.leaf_tags cells ≡ true = sym (opening.closed_settled cells) ∙ z in
      (w.lawful i).opening.closed_settled cells ∙ none-all (nth es i).leaf_tags cells (λ t k. none-at g.leaf_tags cells t none (w.leaves i t k))
  member-settled (open_with own ss) cells z i l = w.members (open_with own ss) cells refl z i l

  -- a yes after a step is one below
  pub record IsYesAfter (i : ℕ) (path : List ℕ) (b : Block) (s : State) : Type 0 where
    pub there : i < length es
    pub size : is_served_size b.len ≡ true
    pub within : IsWithin b (down b)
    pub said : owns_along (nth es i) path (down b) (child s i) ≡ Yes

  asked-after : (i : ℕ) (path : List ℕ) (b : Block) (s : State) (said : Asked) → said ≢ NoSuchLayer → owns_along g (i ∷ path) b s ≡ said
      → IsAskedBelow es i (yes_if (is_served_size b.len && fits b) (owns_along (nth es i) path (down b) (child s i))) said
  asked-after i path b s said n q =
      let fine = is_served_size b.len && fits b in
      let k = member-asked es i ((nth es i).owns_at path fine (down b) (child s i)) said n (sym (w.steps i path b s) ∙ q) in
      record { there = k.there; same = sym ((w.regular i).owning.along path fine (down b) (child s i)) ∙ k.same }

  yes-after : (i : ℕ) (path : List ℕ) (b : Block) (s : State) → owns_along g (i ∷ path) b s ≡ Yes → IsYesAfter i path b s
  yes-after i path b s q =
      let k = asked-after i path b s Yes (λ z. cc) q in
      let y = yes-below (is_served_size b.len && fits b) _ k.same in
      record { there = k.there; size = and-fst (is_served_size b.len) (fits b) y.may; within = w.within b (and-snd (is_served_size b.len) (fits b) y.may); said = y.is_yes }

  step-own : (path : List ℕ) (i : ℕ) (b : Block) (s : State) (cells : Cells) → IsSettled g s cells → IsYesAfter i path b s → IsInOwnCells (nth es i) b cells
  step-own path i b s cells z y =
      let k = (w.lawful i).paths.said_own path (down b) (child s i) cells (member-settled s cells z i y.there) y.said in
      record { at = λ j u v. k.at j (omega (arith, y.within.from)) (omega (arith, y.within.upto)) }

  -- a block that is out is said yes to in no other member than the one that it is out of
  other-silent : (path : List ℕ) (i : ℕ) (b : Block) (s : State) (cells : Cells) → IsSettled g s cells → (o : IsOutBelow g es down fits b s cells) → i ≢ o.number → owns_along g (i ∷ path) b s ≡ Yes → ⊥
  other-silent path i b s cells z o n q =
      let j = o.number in
      let y = yes-after i path b s q in
      let k = step-own path i b s cells z y in
      let l = out-some es j (down b) (child s j) cells o.below in
      let c = (w.lawful j).placing.covers (down b) (child s j) cells (member-settled s cells z j l) o.below in
      let some = o.some in
      w.apart i j n _ (k.at b.place (omega arith) (omega arith)) (c.leaf b.place (omega (arith, c.from, y.within.from)) (omega (arith, c.upto, y.within.upto)))

  -- a no after the step that the block's route takes is one below
  no-after : (path : List ℕ) (b : Block) (s : State) (cells : Cells) → (o : IsOutBelow g es down fits b s cells) → owns_along g (o.number ∷ path) b s ≡ No → owns_along (nth es o.number) path (down b) (child s o.number) ≡ No
  no-after path b s cells o q =
      let i = o.number in
      let k = asked-after i path b s No (λ z. cc) q in
      let v = w.within b o.fitting in
      no-below (is_served_size b.len && fits b) _ (λ y. and_from _ _ (shorter-served b (down b) o.some v.from v.upto ((w.lawful i).paths.said_size path (down b) (child s i) y)) o.fitting) k.same

  same-step : (i j : ℕ) (path route : List ℕ) → i ≡ j → starts_with nat_eq (j ∷ route) (i ∷ path) ≡ starts_with nat_eq route path
  same-step i j path route q = let z : nat_eq i j ≡ true = grind (arith, nat_tests) in ap (λ x. x && starts_with nat_eq route path) z

  other-step : (i j : ℕ) (path route : List ℕ) → i ≢ j → starts_with nat_eq (j ∷ route) (i ∷ path) ≡ false
  other-step i j path route n = let z : nat_eq i j ≡ false = grind (arith, nat_tests) in ap (λ x. x && starts_with nat_eq route path) z

  step-route : (path : List ℕ) (i : ℕ) (b : Block) (s : State) (cells : Cells) → IsSettled g s cells → (o : IsOutBelow g es down fits b s cells)
      → AnswersRoute (i ∷ path) (o.number ∷ (nth es o.number).route (down b) (child s o.number)) (owns_along g (i ∷ path) b s)
  step-route path i b s cells z o =
      let j = o.number in
      let l = out-some es j (down b) (child s j) cells o.below in
      let k = (w.lawful j).paths.said_route path (down b) (child s j) cells (member-settled s cells z j l) o.below in
      let rest = (nth es j).route (down b) (child s j) in
      elim (cases_eq i j) [
        | inl e ↦ record {
          yes = λ q. same-step i j path rest e ∙ k.yes (yes-after j path b s (ap (λ n. owns_along g (n ∷ path) b s) (sym e) ∙ q)).said;
          no = λ q. same-step i j path rest e ∙ k.no (no-after path b s cells o (ap (λ n. owns_along g (n ∷ path) b s) (sym e) ∙ q));
        }
        | inr n ↦ record { yes = λ q. absurd (other-silent path i b s cells z o n q); no = λ q. other-step i j path rest n }
      ]

  pub walk-paths : PathLaws g
  walk-paths = record { said_route = route; said_own = own; said_size = size }
    where
      route : SayingRoute g
      route [] b s cells z o = end-route g w.ends holding b s cells z o
      route (i ∷ path) b s cells z o =
          let x = w.out b s cells z o in
          subst (λ r. AnswersRoute (i ∷ path) r (owns_along g (i ∷ path) b s)) (sym x.route) (step-route path i b s cells z x)

      own : SayingOwn g
      own [] b s cells z q = end-own g w.ends holding b s cells z q
      own (i ∷ path) b s cells z q = let k = step-own path i b s cells z (yes-after i path b s q) in record { at = λ j u v. w.leaves i _ (k.at j u v) }

      size : (path : List ℕ) (b : Block) (s : State) → owns_along g path b s ≡ Yes → is_served_size b.len ≡ true
      size [] b s q = w.ends.size b s (end-held g w.ends b s q)
      size (i ∷ path) b s q = (yes-after i path b s q).size
