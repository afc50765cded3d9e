-- For the code of a layer that hands its blocks down: what its calls do, by what its parent's calls did.
use Rattle.std.proofs.Common.{◌≡◌, refl, sym, ap, subst, ◌∙◌, ℕ, List, option_map, ◌≤◌, ◌+◌, Bool, true, false, ◌&&◌, arith, Option, Some, None, Ok, Err, is_some, nat_eq, nat_le}
use Rattle.std.proofs.lemmas.Bool.{and_from}
use Rattle.std.proofs.lemmas.Bool.Decides.{nat_tests}
use Rattle.size_round.specs.Sizes.{limit}
use Rattle.space_core.specs.Memory.{Memory}
use Rattle.layer_rules.specs.declared.Block.{Block}
use Rattle.layer_rules.specs.declared.Refused.{Refused}
use Rattle.layer_rules.specs.Blocks.{end_of}
use Rattle.layer_rules.specs.Fields.{Kept, are_open}
use Rattle.layer_rules.specs.State.{Own, open_with, one_child}
use Rattle.layer_rules.specs.After.{After, Placed, from_child, Opening}
use Rattle.layer_rules.specs.Setting.{open_parent}
use Rattle.layer_laws.proofs.Basics.{and-fst, and-snd}
use Rattle.layer_rules.specs.Rules.{Rules}
use Rattle.layer_rules.specs.Handing.{Handing, hand_request, handing_rules}
use Rattle.layer_laws.specs.HandingModel.{hand_model}
use Rattle.layer_rules.specs.Layering.{LayerModel, state_of, Stands, IsShut, IsOutOf, IsCleanOf, KeepsBytes, Frames, Stays, SetsUp, TearsDown, OpensAs, Allocates, Deallocates, DeallocatesAll, block_in, allocated, deallocated}
use Rattle.layer_laws.specs.HandsDown.{RoundKept, HandsDown}
use Rattle.layer_laws.specs.Lawful.{IsMade}
use Rattle.layer_laws.proofs.StandingLaws.{allocated-gives}
use Rattle.layer_laws.proofs.HandingStands.{parent-stands}
use Rattle.layer_laws.proofs.HandingParts.{out-hand, apart-hand}

abbrev pub RulesOf : (Rules → Handing) → Rules → Rules
RulesOf form e = handing_rules (form e) e

-- the frame of a call, by the parent's
pub frame-open : {A : Type 0} → (form : Rules → Handing) (kept : A → Kept) (o : Option A) (x : A) (t t' : LayerModel) (m m' : Memory) → Frames t t' m m' → Frames (hand_model form kept o t) (hand_model form kept (Some x) t') m m'
unfolding handing_rules
frame-open form kept o x t t' m m' f =
    record { rules = ap (RulesOf form) f.rules; image = f.image; memory = f.memory; size = f.size; leaves = f.leaves; foreign = record { at = f.foreign.at } }

frame-shut : {A : Type 0} → (form : Rules → Handing) (kept : A → Kept) (o : Option A) (t t' : LayerModel) (m m' : Memory) → Frames t t' m m' → Frames (hand_model form kept o t) (hand_model form kept None t') m m'
unfolding handing_rules
frame-shut form kept o t t' m m' f =
    record { rules = ap (RulesOf form) f.rules; image = refl; memory = f.memory; size = f.size; leaves = f.leaves; foreign = record { at = f.foreign.at } }

-- ---- setting up and tearing down

pub hand-torn_down : {A : Type 0} → (form : Rules → Handing) (kept : A → Kept) (o : Option A) (t t' : LayerModel) (m m' : Memory) → TearsDown t t' m m' → TearsDown (hand_model form kept o t) (hand_model form kept None t') m m'
unfolding handing_rules
hand-torn_down form kept o t t' m m' k = record { frame = frame-shut form kept o t t' m m' k.frame; shut = refl; cells = k.cells }

opens-case : (own : Own) (T' t' : LayerModel) (m m' : Memory) (d : Unit {0}) (x : Opening) → state_of T' m' ≡ open_with own (one_child (state_of t' m')) → OpensAs x t' m m' (Ok d) → OpensAs (open_parent own x) T' m m' (Ok d)
opens-case own T' t' m m' d (Err k) q a = absurd a
opens-case own T' t' m m' d (Ok o) q a = (q ∙ ap (λ s. open_with own (one_child s)) a.0, a.1)

refuses-case : (own : Own) (T' t' : LayerModel) (m m' : Memory) (r r' : Refused) (x : Opening) → r'.node ≡ r.node + 1 → OpensAs x t' m m' (Err r) → OpensAs (open_parent own x) T' m m' (Err r')
refuses-case own T' t' m m' r r' (Err k) q a = (let z = a.0 in omega arith, a.1)
refuses-case own T' t' m m' r r' (Ok o) q a = absurd a

-- what it keeps once it is open is read as the first of its numbers
pub hand-set_up : {A : Type 0} → (form : Rules → Handing) (kept : A → Kept) (o : Option A) (x : A) (t t' : LayerModel) (m m' : Memory) (need : ℕ) (d : Unit {0}) → (form t.rules).opens_for need ≡ true → (form t'.rules).kept (kept x) ≡ (form t.rules).first
    → SetsUp t t' m m' ((form t.rules).need need) (Ok d) → SetsUp (hand_model form kept o t) (hand_model form kept (Some x) t') m m' need (Ok d)
unfolding handing_rules
hand-set_up form kept o x t t' m m' need d p q s =
    let h = form t.rules in
    record {
      frame = frame-open form kept o x t t' m m' s.frame;
      opened = refl;
      answer = subst (λ b. OpensAs (elim b as (λ _. Opening) [ true ↦ open_parent h.first (t.rules.set_up (h.need need) m.cells) | false ↦ Err 0 ]) (hand_model form kept (Some x) t') m m' (Ok d)) (sym p)
          (opens-case h.first (hand_model form kept (Some x) t') t' m m' d (t.rules.set_up (h.need need) m.cells) (ap (λ own. open_with own (one_child (state_of t' m'))) q) s.answer);
    }

-- the parent refuses
pub hand-refused : {A : Type 0} → (form : Rules → Handing) (kept : A → Kept) (o : Option A) (t t' : LayerModel) (m m' : Memory) (need : ℕ) (r r' : Refused) → IsShut (hand_model form kept o t) → (form t.rules).opens_for need ≡ true → r'.node ≡ r.node + 1
    → SetsUp t t' m m' ((form t.rules).need need) (Err r) → SetsUp (hand_model form kept o t) (hand_model form kept o t') m m' need (Err r')
unfolding handing_rules
hand-refused form kept (Some x) t t' m m' need r r' u p q s = absurd (cc)
hand-refused form kept None t t' m m' need r r' u p q s =
    let h = form t.rules in
    record {
      frame = frame-shut form kept None t t' m m' s.frame;
      opened = refl;
      answer = subst (λ b. OpensAs (elim b as (λ _. Opening) [ true ↦ open_parent h.first (t.rules.set_up (h.need need) m.cells) | false ↦ Err 0 ]) (hand_model form kept None t') m m' (Err r')) (sym p)
          (refuses-case h.first (hand_model form kept None t') t' m m' r r' (t.rules.set_up (h.need need) m.cells) q s.answer);
    }

-- ---- blocks that stay

pub narrower : (old new : List ℕ) (from upto low high : ℕ) → from ≤ low → high ≤ upto → KeepsBytes old new from upto → KeepsBytes old new low high
narrower old new from upto low high l k h = record { at = λ i x y. h.at i (omega arith) (omega arith) }

-- a block whose surroundings the parent kept
pub hand-stays : {A : Type 0} → (form : Rules → Handing) (kept : A → Kept) (x x' : A) (t t' : LayerModel) (m m' : Memory) (c : Block) → HandsDown (form t.rules) t.rules → (form t.rules).fits c ≡ true → Frames t t' m m' → Stays t t' m m' ((form t.rules).down c)
    → Stays (hand_model form kept (Some x) t) (hand_model form kept (Some x') t') m m' c
unfolding handing_rules
hand-stays form kept x x' t t' m m' c w f frame s =
    let h = form t.rules in
    let v = w.wider c f in
    let round : RoundKept c (h.down c) m.bytes m'.bytes = record { length_same = frame.size; at = λ i a b z. s.bytes.at i a b } in
    let again = subst (λ e. e.is_clean (h.down c) (state_of t' m') m'.bytes ≡ true) frame.rules in
    let parent = t.rules.is_clean (h.down c) (state_of t m) m.bytes in
    record {
      bytes = narrower m.bytes m'.bytes (h.down c).place (end_of (h.down c)) c.place (end_of c) v.from v.upto s.bytes;
      clean = λ z. subst (λ e. ((form e).clean c m'.bytes && e.is_clean ((form e).down c) (state_of t' m') m'.bytes) ≡ true) (sym frame.rules)
          (and_from _ _ (w.round.clean c m.bytes m'.bytes f round (and-fst (h.clean c m.bytes) parent z)) (again (s.clean (and-snd (h.clean c m.bytes) parent z))));
      marked = λ z. subst (λ e. ((form e).marked c m'.bytes && e.is_clean ((form e).down c) (state_of t' m') m'.bytes) ≡ true) (sym frame.rules)
          (and_from _ _ (w.round.marked c m.bytes m'.bytes f round (and-fst (h.marked c m.bytes) parent z)) (again (s.clean (and-snd (h.marked c m.bytes) parent z))));
    }

-- ---- a block is given back

pub hand-deallocated : {A : Type 0} → (form : Rules → Handing) (kept : A → Kept) (x x' : A) (t t' : LayerModel) (m m' : Memory) (b : Block) (r : Bool) → HandsDown (form t.rules) t.rules → IsOutOf (hand_model form kept (Some x) t) m b
    → (form t'.rules).kept (kept x') ≡ (form t.rules).deallocated r b ((form t.rules).kept (kept x)) → Deallocates t t' m m' ((form t.rules).down b) r → Deallocates (hand_model form kept (Some x) t) (hand_model form kept (Some x') t') m m' b r
unfolding handing_rules
hand-deallocated form kept x x' t t' m m' b r w o q a =
    let h = form t.rules in
    let T = hand_model form kept (Some x) t in
    let own = h.kept (kept x) in
    record {
      frame = frame-open form kept (Some x) x' t t' m m' a.frame;
      opened = refl;
      answer = a.answer;
      state = ap (λ own. open_with own (one_child (state_of t' m'))) q ∙ ap (λ k. open_with (h.deallocated k b own) (one_child (state_of t' m'))) a.answer ∙ ap (λ s. open_with (h.deallocated (deallocated t m (h.down b)).answer b own) (one_child s)) a.state;
      cells = a.cells;
      others = λ c p z.
          let y = out-hand h t.rules b (state_of T m) m.cells o in
          let v = out-hand h t.rules c (state_of T m) m.cells p in
          let d = apart-hand h t.rules (state_of T m) b c y.fits v.fits (record { either = z.either }) in
          hand-stays form kept x x' t t' m m' c w v.fits a.frame (a.others (h.down c) v.below (record { either = d.either }));
    }

-- ---- all blocks are taken back

pub hand-deallocated_all : {A : Type 0} → (form : Rules → Handing) (kept : A → Kept) (x x' : A) (t t' : LayerModel) (m m' : Memory) → (form t'.rules).kept (kept x') ≡ (form t.rules).all_deallocated ((form t.rules).kept (kept x)) → DeallocatesAll t t' m m'
    → DeallocatesAll (hand_model form kept (Some x) t) (hand_model form kept (Some x') t') m m'
unfolding handing_rules
hand-deallocated_all form kept x x' t t' m m' q a =
    let h = form t.rules in
    record {
      frame = frame-open form kept (Some x) x' t t' m m' a.frame;
      opened = refl;
      state = ap (λ own. open_with own (one_child (state_of t' m'))) q ∙ ap (λ s. open_with (h.all_deallocated (h.kept (kept x))) (one_child s)) a.state;
      cells = a.cells;
    }

-- ---- a request

shown-block : (shown : Block → Block) (o : Option Placed) → block_in (option_map (from_child shown 0) o) ≡ option_map shown (block_in o)
shown-block shown None = refl
shown-block shown (Some p) = refl

some-block : (shown : Block → Block) (o : Option Placed) → is_some (option_map (from_child shown 0) o) ≡ is_some (block_in o)
some-block shown None = refl
some-block shown (Some p) = refl

goes-down : (h : Handing) (n : ℕ) (own : Own) → 1 ≤ n → n ≤ limit → h.admits n own ≡ true → (nat_eq n 0 ≡ false) × ((nat_le n limit && h.admits n own) ≡ true)
goes-down h n own l m a = let k : nat_le n limit ≡ true = grind (arith, nat_tests) in (grind (arith, nat_tests), and_from _ _ k a)

-- The parent's answer is handed out; where there is one, the bytes round it are as the layer writes them.
pub hand-allocated : {A : Type 0} → (form : Rules → Handing) (kept : A → Kept) (x x' : A) (t t' : LayerModel) (m m' : Memory) (n : ℕ) (r : Option Block) → HandsDown (form t.rules) t.rules → IsMade t.rules → are_open t.fields ≡ true → Stands (hand_model form kept (Some x) t) m → 1 ≤ n → n ≤ limit → (form t.rules).admits n ((form t.rules).kept (kept x)) ≡ true
    → (form t'.rules).kept (kept x') ≡ (form t.rules).allocated (is_some r) n ((form t.rules).kept (kept x)) → ((b : Block) → r ≡ Some b → (form t.rules).clean ((form t.rules).shown n b) m'.bytes ≡ true)
    → Allocates t t' m m' ((form t.rules).asked n) r → Allocates (hand_model form kept (Some x) t) (hand_model form kept (Some x') t') m m' n (option_map ((form t.rules).shown n) r)
unfolding handing_rules
hand-allocated form kept x x' t t' m m' n r w law u st l k ad q written a =
    let h = form t.rules in
    let T = hand_model form kept (Some x) t in
    let T' = hand_model form kept (Some x') t' in
    let own = h.kept (kept x) in
    let s = allocated t m (h.asked n) in
    let go = goes-down h n own l k ad in
    let down : After (Option Placed) = hand_request h false true n (t.rules.allocate (h.asked n)) (state_of T m) m.cells in
    let same : allocated T m n ≡ down = ap (λ z. hand_request h z (nat_le n limit && h.admits n own) n (t.rules.allocate (h.asked n)) (state_of T m) m.cells) go.0 ∙ ap (λ z. hand_request h false z n (t.rules.allocate (h.asked n)) (state_of T m) m.cells) go.1 in
    let ok : is_some r ≡ is_some (option_map (from_child (h.shown n) 0) s.answer) = ap is_some a.answer ∙ sym (some-block (h.shown n) s.answer) in
    record {
      frame = frame-open form kept (Some x) x' t t' m m' a.frame;
      opened = refl;
      answer = ap (option_map (h.shown n)) a.answer ∙ sym (shown-block (h.shown n) s.answer) ∙ ap (λ (z : After (Option Placed)). block_in z.answer) (sym same);
      state = ap (λ own. open_with own (one_child (state_of t' m'))) q ∙ ap (λ z. open_with (h.allocated z n own) (one_child (state_of t' m'))) ok ∙ ap (λ u. open_with (h.allocated (is_some (option_map (from_child (h.shown n) 0) s.answer)) n own) (one_child u)) a.state ∙ ap (λ (z : After (Option Placed)). z.state) (sym same);
      cells = a.cells ∙ ap (λ (z : After (Option Placed)). z.cells) (sym same);
      others = λ c p. let v = out-hand h t.rules c (state_of T m) m.cells p in hand-stays form kept x x' t t' m m' c w v.fits a.frame (a.others (h.down c) v.below);
      made = λ b e. made-case r b e a.made (λ c z. ((allocated-gives t t' m m' (h.asked n) c law (parent-stands form kept (Some x) t m law u st) u (subst (λ o. Allocates t t' m m' (h.asked n) o) z a)).len, written c z));
    }
  where
    made-case : (o : Option Block) (b : Block) → option_map ((form t.rules).shown n) o ≡ Some b → ((c : Block) → o ≡ Some c → IsCleanOf t' m' c) → ((c : Block) → o ≡ Some c → (c.len ≡ (form t.rules).asked n) × ((form t.rules).clean ((form t.rules).shown n c) m'.bytes ≡ true)) → IsCleanOf (hand_model form kept (Some x') t') m' b
    made-case None b e f g = absurd (cc)
    made-case (Some c) b e f g =
        let h = form t.rules in
        let z : h.shown n c ≡ b = cc in
        let y = g c refl in
        let back = (w.shown n c y.0).back in
        subst (IsCleanOf (hand_model form kept (Some x') t') m') z
        (subst (λ e. ((form e).clean (h.shown n c) m'.bytes && e.is_clean ((form e).down (h.shown n c)) (state_of t' m') m'.bytes) ≡ true) (sym a.frame.rules)
        (and_from _ _ y.1 (subst (λ d. t.rules.is_clean d (state_of t' m') m'.bytes ≡ true) (sym back) (subst (λ e. e.is_clean c (state_of t' m') m'.bytes ≡ true) a.frame.rules (f c refl)))))
