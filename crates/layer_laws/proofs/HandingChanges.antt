-- For the code of a layer that hands its blocks down: a block that grows, that is asked for, and that gets another length, by what its
-- parent's calls did.
use Rattle.std.proofs.Common.{◌≡◌, refl, sym, ap, subst, ◌∙◌, ℕ, List, [], ◌≤◌, ◌<◌, ◌+◌, ◌-◌, Bool, true, false, ◌&&◌, ◌||◌, arith, get_or, Some, nat_eq, nat_le, nat_lt}
use Rattle.std.proofs.lemmas.Bool.{and_from}
use Rattle.std.proofs.lemmas.Bool.Decides.{nat_tests}
use Rattle.size_round.specs.Sizes.{limit}
use Rattle.space_core.specs.Cells.{Cells}
use Rattle.space_core.specs.Memory.{Memory}
use Rattle.layer_rules.specs.declared.Block.{Block}
use Rattle.layer_rules.specs.Blocks.{end_of, with_len}
use Rattle.layer_rules.specs.Fields.{Kept, are_open}
use Rattle.layer_rules.specs.State.{State, Own, open_with, one_child, own_of, with_own}
use Rattle.layer_rules.specs.After.{After, after, answering, Change, change_child, Reallocated, Reallocate, Reply, reply}
use Rattle.layer_rules.specs.Expanding.{change_if}
use Rattle.layer_rules.specs.Offering.{is_served_size}
use Rattle.layer_rules.specs.Owning.{owns_child_if}
use Rattle.layer_rules.specs.Reallocating.{in_place, reallocated_unless, asked_to_reallocate, general_reallocate, reallocate_child, either_reallocate}
use Rattle.layer_rules.specs.Rules.{Rules, longer_if}
use Rattle.layer_rules.specs.Handing.{Handing, count_expansion, hand_expansion, shown_by, hand_reallocation, hand_move, hand_owns, handing_rules}
use Rattle.layer_rules.specs.Layering.{LayerModel, state_of, IsOutOf, KeepsBytes, Frames, Carries, Expands, Owns, expanded}
use Rattle.layer_laws.proofs.Basics.{and-fst, and-snd}
use Rattle.layer_laws.specs.HandsDown.{RoundKept, HandsDown}
use Rattle.layer_laws.specs.HandingModel.{hand_model}
use Rattle.layer_laws.proofs.HandingCalls.{RulesOf, frame-open, narrower, hand-stays}
use Rattle.layer_laws.proofs.HandingParts.{out-hand, apart-hand}
use Rattle.layer_laws.proofs.HandingStands.{parent-stands}
use Rattle.layer_laws.specs.Lawful.{IsMade}
use Rattle.layer_laws.proofs.Uncounting.{with_own-own}

-- ---- a block grows

-- what is round the block that grows is as the layer writes it, where that was so
pub record GrowsRound (h : Handing) (b g : Block) (old new : List ℕ) : Type 0 where
  pub clean : h.clean b old ≡ true → h.clean g new ≡ true
  pub marked : h.marked b old ≡ true → h.marked g new ≡ true

-- the bytes of a block that stands where it stood
kept-there : (old new : List ℕ) (place len : ℕ) → ((i : ℕ) → i < len → get_or new (place + i) 0 ≡ get_or old (place + i) 0) → KeepsBytes old new place (place + len)
kept-there old new place len k = record { at = λ i p q. let e : place + (i - place) ≡ i = omega arith in subst (λ j. get_or new j 0 ≡ get_or old j 0) e (k (i - place) (omega arith)) }

carried-down : {A : Type 0} → (form : Rules → Handing) (kept : A → Kept) (x x' : A) (t t' : LayerModel) (m m' : Memory) (b g c : Block) → HandsDown (form t.rules) t.rules → (form t.rules).fits b ≡ true → Frames t t' m m' → g.place ≡ b.place → c.place ≡ ((form t.rules).down b).place
    → (form t.rules).down g ≡ c → GrowsRound (form t.rules) b g m.bytes m'.bytes → Carries t t' m m' ((form t.rules).down b) c ((form t.rules).down b).len
    → Carries (hand_model form kept (Some x) t) (hand_model form kept (Some x') t') m m' b g b.len
unfolding handing_rules
carried-down form kept x x' t t' m m' b g c w f frame gp cp down round k =
    let h = form t.rules in
    let d = h.down b in
    let v = w.wider b f in
    let bytes = narrower m.bytes m'.bytes d.place (end_of d) b.place (end_of b) v.from v.upto (kept-there m.bytes m'.bytes d.place d.len (λ i z. subst (λ p. get_or m'.bytes (p + i) 0 ≡ get_or m.bytes (d.place + i) 0) cp (k.bytes i z))) in
    let parent = t.rules.is_clean d (state_of t m) m.bytes in
    let again = λ (z : parent ≡ true). let y : t.rules.is_clean (h.down g) (state_of t' m') m'.bytes ≡ true = subst (λ c. t.rules.is_clean c (state_of t' m') m'.bytes ≡ true) (sym down) (subst (λ e. e.is_clean c (state_of t' m') m'.bytes ≡ true) frame.rules (k.clean z)) in y in
    record {
      bytes = λ i z. subst (λ p. get_or m'.bytes (p + i) 0 ≡ get_or m.bytes (b.place + i) 0) (sym gp) (bytes.at (b.place + i) (omega arith) (omega arith));
      clean = λ z. subst (λ e. ((form e).clean g m'.bytes && e.is_clean ((form e).down g) (state_of t' m') m'.bytes) ≡ true) (sym frame.rules)
          (and_from _ _ (round.clean (and-fst (h.clean b m.bytes) parent z)) (again (and-snd (h.clean b m.bytes) parent z)));
      marked = λ z. subst (λ e. ((form e).marked g m'.bytes && e.is_clean ((form e).down g) (state_of t' m') m'.bytes) ≡ true) (sym frame.rules)
          (and_from _ _ (round.marked (and-fst (h.marked b m.bytes) parent z)) (again (and-snd (h.marked b m.bytes) parent z)));
    }

-- the block grew below, or all is as it was
hand-carried : {A : Type 0} → (form : Rules → Handing) (kept : A → Kept) (x x' : A) (t t' : LayerModel) (m m' : Memory) (b : Block) (delta d : ℕ) (r : Bool) → HandsDown (form t.rules) t.rules → (form t.rules).fits b ≡ true → Frames t t' m m'
    → (form t.rules).asked (b.len + delta) - (form t.rules).asked b.len ≡ d → (r ≡ true → GrowsRound (form t.rules) b (with_len b (b.len + delta)) m.bytes m'.bytes)
    → Carries t t' m m' ((form t.rules).down b) (longer_if r d ((form t.rules).down b)) ((form t.rules).down b).len → Carries (hand_model form kept (Some x) t) (hand_model form kept (Some x') t') m m' b (longer_if r delta b) b.len
hand-carried form kept x x' t t' m m' b delta d true w f frame e round k =
    let h = form t.rules in
    let down : h.down (with_len b (b.len + delta)) ≡ with_len (h.down b) ((h.down b).len + d) = (w.longer b delta f).down ∙ ap (λ n. with_len (h.down b) ((h.down b).len + n)) e in
    carried-down form kept x x' t t' m m' b (with_len b (b.len + delta)) (with_len (h.down b) ((h.down b).len + d)) w f frame refl refl down (round refl) k
hand-carried form kept x x' t t' m m' b delta d false w f frame e round k =
    let h = form t.rules in
    let all = kept-there m.bytes m'.bytes (h.down b).place (h.down b).len k.bytes in
    let same : RoundKept b (h.down b) m.bytes m'.bytes = record { length_same = frame.size; at = λ i p q z. all.at i p q } in
    carried-down form kept x x' t t' m m' b b (h.down b) w f frame refl refl refl (record { clean = w.round.clean b m.bytes m'.bytes f same; marked = w.round.marked b m.bytes m'.bytes f same }) k

-- what it asks of its parent for a block that is to grow
pub record AsksToGrow (h : Handing) (own : Own) (b : Block) (delta d : ℕ) : Type 0 where
  pub expands : h.expands ≡ true
  pub some : 1 ≤ delta
  pub most : b.len + delta ≤ limit
  pub admits : h.admits delta own ≡ true
  pub lacks : h.asked (b.len + delta) ≡ h.asked b.len + d
  pub lacks_some : 1 ≤ d

asks-parent : (h : Handing) (e : Rules) (own : Own) (b : Block) (delta d : ℕ) (s : State) (cells : Cells) → AsksToGrow h own b delta d → own_of s ≡ own
    → (handing_rules h e).expand delta b s cells ≡ count_expansion h delta b (change_child 0 (e.expand d) (h.down b) s cells)
unfolding handing_rules
asks-parent h e own b delta d s cells a q =
    let less = h.asked b.len in
    let more = h.asked (b.len + delta) in
    let some : nat_eq delta 0 ≡ false = grind (arith, nat_tests, a.some) in
    let most : nat_le (b.len + delta) limit ≡ true = grind (arith, nat_tests, a.most) in
    let goes : (nat_le (b.len + delta) limit && h.admits delta (own_of s)) ≡ true = and_from _ _ most (ap (h.admits delta) q ∙ a.admits) in
    let lacks : nat_eq less more ≡ false = grind (arith, nat_tests, a.lacks, a.lacks_some) in
    let by : more - less ≡ d = omega (arith, a.lacks) in
    let change = λ (x : Bool) (n : ℕ). change_if x (e.expand n) in
    ap (λ x. hand_expansion h x (nat_le (b.len + delta) limit && h.admits delta (own_of s)) (nat_eq less more) delta (change h.expands (more - less)) b (h.down b) s cells) some
    ∙ (ap (λ x. hand_expansion h false x (nat_eq less more) delta (change h.expands (more - less)) b (h.down b) s cells) goes
    ∙ (ap (λ x. hand_expansion h false true x delta (change h.expands (more - less)) b (h.down b) s cells) lacks
    ∙ (ap (λ x. hand_expansion h false true false delta (change x (more - less)) b (h.down b) s cells) a.expands
    ∙ ap (λ n. hand_expansion h false true false delta (change true n) b (h.down b) s cells) by)))

pub hand-expanded : {A : Type 0} → (form : Rules → Handing) (kept : A → Kept) (x x' : A) (t t' : LayerModel) (m m' : Memory) (b c : Block) (delta d : ℕ) (r : Bool) → HandsDown (form t.rules) t.rules → IsOutOf (hand_model form kept (Some x) t) m b
    → AsksToGrow (form t.rules) ((form t.rules).kept (kept x)) b delta d → (form t'.rules).kept (kept x') ≡ (form t.rules).expanded r delta b ((form t.rules).kept (kept x)) → (r ≡ true → GrowsRound (form t.rules) b (with_len b (b.len + delta)) m.bytes m'.bytes)
    → Expands t t' m m' ((form t.rules).down b) c d r → Expands (hand_model form kept (Some x) t) (hand_model form kept (Some x') t') m m' b (longer_if r delta b) delta r
unfolding handing_rules
hand-expanded form kept x x' t t' m m' b c delta d r w o k q round a =
    let h = form t.rules in
    let T = hand_model form kept (Some x) t in
    let own = h.kept (kept x) in
    let s = expanded t m (h.down b) d in
    let same = asks-parent h t.rules own b delta d (state_of T m) m.cells k refl in
    let y = out-hand h t.rules b (state_of T m) m.cells o in
    let by : h.asked (b.len + delta) - h.asked b.len ≡ d = omega (arith, k.lacks) in
    record {
      frame = frame-open form kept (Some x) x' t t' m m' a.frame;
      opened = refl;
      answer = a.answer ∙ ap (λ (z : After Bool). z.answer) (sym same);
      block = refl;
      state = ap (λ own. open_with own (one_child (state_of t' m'))) q ∙ (ap (λ z. open_with (h.expanded z delta b own) (one_child (state_of t' m'))) a.answer ∙ (ap (λ u. open_with (h.expanded s.answer delta b own) (one_child u)) a.state ∙ ap (λ (z : After Bool). z.state) (sym same)));
      cells = a.cells ∙ ap (λ (z : After Bool). z.cells) (sym same);
      carried = hand-carried form kept x x' t t' m m' b delta d r w y.fits a.frame by round (subst (λ g. Carries t t' m m' (h.down b) g (h.down b).len) a.block a.carried);
      others = λ g p z.
          let v = out-hand h t.rules g (state_of T m) m.cells p in
          hand-stays form kept x x' t t' m m' g w v.fits a.frame (a.others (h.down g) v.below (λ done. let far = z done in let e = apart-hand h t.rules (state_of T m) b g y.fits v.fits (record { either = far.either }) in record { either = e.either }));
    }

-- ---- a block is asked for

pub hand-owned : {A : Type 0} → (form : Rules → Handing) (kept : A → Kept) (x x' : A) (t t' : LayerModel) (b : Block) (r : Bool) → IsMade t.rules → are_open t.fields ≡ true → is_served_size b.len ≡ true → (form t.rules).fits b ≡ true → (form t'.rules).kept (kept x') ≡ (form t.rules).owned ((form t.rules).kept (kept x))
    → Owns t t' ((form t.rules).down b) r → Owns (hand_model form kept (Some x) t) (hand_model form kept (Some x') t') b r
unfolding handing_rules
hand-owned form kept x x' t t' b r l u p f q a =
    let h = form t.rules in
    let T = hand_model form kept (Some x) t in
    let own = h.kept (kept x) in
    let goes : (is_served_size b.len && h.fits b) ≡ true = and_from _ _ p f in
    let answered = λ (z : Bool) (s : State). let y : Reply = (let o = owns_child_if z 0 (λ g. t.rules.owns (h.down b)) b s in reply o.owned (with_own o.state (h.owned (own_of o.state)))) in y in
    let same = λ (bytes : List ℕ). let y : hand_owns h t.rules b (T.rules.read T.fields bytes) ≡ answered true (T.rules.read T.fields bytes) = ap (λ z. answered z (T.rules.read T.fields bytes)) goes in y in
    record {
      rules = ap (RulesOf form) a.rules;
      opened = refl;
      answer = a.answer ∙ ap (λ (z : Reply). z.owned) (sym (same []));
      state = λ bytes. ap (λ own. open_with own (one_child (t'.rules.read t'.fields bytes))) q ∙ (ap (λ u. open_with (h.owned own) (one_child u)) (a.state bytes) ∙ ap (λ (z : Reply). z.state) (sym (same bytes)));
      image = λ m z. a.image m (parent-stands form kept (Some x) t m l u z);
    }

-- ---- a block gets another length: by the general form, in place never, and with nothing counted for it

pub record ReallocatesByTheForm (h : Handing) : Type 0 where
  pub moves : h.moves ≡ true
  pub in_place : (len n : ℕ) → h.in_place len n ≡ false
  pub uncounted : (n : ℕ) (b : Block) (r : Reallocated) (own : Own) → h.reallocated n b r own ≡ own

same-uncounted : (h : Handing) → ReallocatesByTheForm h → (x : Bool) (n : ℕ) (give : Change) (move : Reallocate) (b : Block) (s : State) (cells : Cells)
    → hand_reallocation h x n give move b s cells ≡ asked_to_reallocate n give move b s cells
same-uncounted h k true n give move b s cells = refl
same-uncounted h k false n give move b s cells =
    let r = asked_to_reallocate n give move b s cells in ap (λ t. after r.answer t r.cells) (ap (with_own r.state) (k.uncounted n b r.answer (own_of r.state)) ∙ with_own-own r.state)

same-unless : (x y z : Bool) (give : Change) (move other : Reallocate) (b : Block) (s : State) (cells : Cells) → move b s cells ≡ other b s cells → reallocated_unless x y z give move b s cells ≡ reallocated_unless x y z give other b s cells
same-unless true y z give move other b s cells q = refl
same-unless false true z give move other b s cells q = refl
same-unless false false true give move other b s cells q = refl
same-unless false false false give move other b s cells q = q

pub hand-reallocated_generally : (h : Handing) (e : Rules) → ReallocatesByTheForm h → (n : ℕ) (b : Block) (s : State) (cells : Cells)
    → (let f = handing_rules h e in f.reallocate n b s cells ≡ asked_to_reallocate n f.deallocate (general_reallocate n f.offers f.expand (f.allocate n) f.deallocate) b s cells)
unfolding handing_rules
hand-reallocated_generally h e k n b s cells =
    let f = handing_rules h e in
    let move = λ (c : Block). either_reallocate (h.in_place c.len n) (in_place n) (hand_move h e n) c in
    let general = general_reallocate n f.offers f.expand (f.allocate n) f.deallocate in
    let by_form : move b s cells ≡ general b s cells = ap (λ x. either_reallocate x (in_place n) (hand_move h e n) b s cells) (k.in_place b.len n) ∙ ap (λ x. either_reallocate x general (λ b s cells. answering (shown_by (h.shown n)) (reallocate_child 0 (e.reallocate (h.asked n)) (h.down b) s cells)) b s cells) k.moves in
    same-uncounted h k (nat_eq n b.len || nat_eq n 0) n f.deallocate move b s cells ∙ same-unless (nat_eq n b.len) (nat_eq n 0) (nat_lt limit n) f.deallocate move general b s cells by_form
