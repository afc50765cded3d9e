-- A request: the primary serves it, and where that refuses the second.
use Rattle.std.proofs.Common.{◌≡◌, refl, sym, ap, ap₂, subst, ◌∙◌, ℕ, ◌≤◌, true, false, arith, nat_eq, nat_lt, Option, Some, None, option_map}
use Rattle.std.proofs.lemmas.Bool.Decides.{nat_tests}
use Rattle.size_round.specs.Sizes.{limit, is_power_of_two}
use Rattle.space_core.specs.Cells.{Cells}
use Rattle.space_core.specs.Memory.{Memory}
use Rattle.layer_rules.specs.declared.Block.{Block}
use Rattle.layer_rules.specs.After.{After, after, Placed, from_child, Serve}
use Rattle.layer_rules.specs.Allocating.{served_unless, asked_for, serve_member}
use Rattle.layer_rules.specs.Fields.{are_open}
use Rattle.layer_rules.specs.Layering.{LayerModel, state_of, Stands, IsSetUp, IsOutOf, IsCleanOf, Frames, Stays, Allocates, AlignedAllocates, block_in, allocated, aligned_allocated}
use Rattle.layer_rules.specs.State.{State}
use Rattle.layer_laws.specs.Lawful.{IsMade, Any}
use Rattle.layer_laws.specs.Standing.{ChangesOwn}
use Rattle.layer_laws.proofs.FurtherLaws.{aligned_allocated-keeps}
use Rattle.layer_laws.proofs.Placement.{others-keep_state}
use Rattle.layer_laws.proofs.StandingLaws.{allocated-changes_own, allocated-gives, answered, changes-in_turn}
use Rattle.fallback_rules.specs.FallbackRules.{answer_or, fallback_allocate, fallback_rules}
use Rattle.fallback.proofs.Holders.{pair_of}
use Rattle.fallback.specs.FallbackModel.{fallback_model}
use Rattle.fallback.specs.MovingAcross.{Remains}
use Rattle.fallback.proofs.Pairs.{ArePaired, open_pair, flip-beside, held-first, held-not, clean-first, clean-second, paired-again, pair-stays, pair-frames, changes-first, changes-second, as-open}
use Rattle.fallback.proofs.Remaining.{remains-beside, remains-allocated, remains-aligned, remains-then}

-- ---- what the rule does

-- a request of some bytes, up to the limit, goes to the form itself
some-asked : (n : ℕ) (serve : Serve) (s : State) (cells : Cells) → 1 ≤ n → n ≤ limit → asked_for n serve s cells ≡ serve s cells
some-asked n serve s cells l k =
    let x : nat_eq n 0 ≡ false = grind (arith, nat_tests) in
    let y : nat_lt limit n ≡ false = grind (arith, nat_tests) in
    ap (λ q. served_unless q (nat_lt limit n) serve s cells) x ∙ ap (λ q. served_unless false q serve s cells) y

-- the primary served it
by-first : (n : ℕ) (first second : Serve) (a c : State) (cells : Cells) (q : Placed) → 1 ≤ n → n ≤ limit → (first a cells).answer ≡ Some q
    → asked_for n (fallback_allocate first second) (pair_of a c) cells ≡ after (Some (from_child (λ b. b) 0 q)) (pair_of (first a cells).state c) (first a cells).cells
by-first n first second a c cells q l k e =
    some-asked n (fallback_allocate first second) (pair_of a c) cells l k
    ∙ ap (λ o. answer_or (option_map (from_child (λ b. b) 0) o) (serve_member (λ b. b) 1 second) (pair_of (first a cells).state c) (first a cells).cells) e

-- it refused, and the second is asked in what that left
by-second : (n : ℕ) (first second : Serve) (a c : State) (cells : Cells) → 1 ≤ n → n ≤ limit → (first a cells).answer ≡ None
    → asked_for n (fallback_allocate first second) (pair_of a c) cells ≡ serve_member (λ b. b) 1 second (pair_of (first a cells).state c) (first a cells).cells
by-second n first second a c cells l k e =
    some-asked n (fallback_allocate first second) (pair_of a c) cells l k
    ∙ ap (λ o. answer_or (option_map (from_child (λ b. b) 0) o) (serve_member (λ b. b) 1 second) (pair_of (first a cells).state c) (first a cells).cells) e

refused-answer : (o : Option Placed) → None ≡ block_in o → o ≡ None
refused-answer None e = refl
refused-answer (Some p) e = absurd (cc)

shown-second : (o : Option Placed) → block_in o ≡ block_in (option_map (from_child (λ b. b) 1) o)
shown-second None = refl
shown-second (Some p) = refl

-- ---- what a call does by it

-- a request, aligned or not, by what a rule does
pub record ServesBy (rule : After (Option Placed)) (t t' : LayerModel) (m m' : Memory) (r : Option Block) : Type 0 where
  pub frame : Frames t t' m m'
  pub opened : are_open t'.fields ≡ are_open t.fields
  pub answer : r ≡ block_in rule.answer
  pub state : state_of t' m' ≡ rule.state
  pub cells : m'.cells ≡ rule.cells
  pub others : (b : Block) → IsOutOf t m b → Stays t t' m m' b
  pub made : (b : Block) → r ≡ Some b → IsCleanOf t' m' b

-- and what follows of the layer that served it
pub record Served (rule : After (Option Placed)) (t t' : LayerModel) (m m' : Memory) (r : Option Block) : Type 0 where
  pub by : ServesBy rule t t' m m' r
  pub remains : Remains t t' m m' Any
  pub changes : ChangesOwn t.rules m m'
  pub out : (b : Block) → r ≡ Some b → IsOutOf t' m' b

first-serves : (p p' f : LayerModel) (m m' : Memory) (n : ℕ) (b : Block) (first second : Serve) → ArePaired p f m → 1 ≤ n → n ≤ limit → Served (first (state_of p m) m.cells) p p' m m' (Some b)
    → ServesBy (asked_for n (fallback_allocate first second) (pair_of (state_of p m) (state_of f m)) m.cells) (open_pair p f) (open_pair p' f) m m' (Some b)
unfolding fallback_rules
first-serves p p' f m m' n b first second h l k a =
    let rule = first (state_of p m) m.cells in
    let q = answered b rule.answer a.by.answer in
    let e = by-first n first second (state_of p m) (state_of f m) m.cells q.0 l k q.1 in
    let y = remains-beside p.rules f m m' h.made_second h.second h.apart a.changes in
    let later = paired-again p p' f f m m' _ _ h a.remains y in
    record {
      frame = pair-frames p p' f f m m' _ _ a.remains y (changes-first p.rules f.rules m m' a.changes);
      opened = refl;
      answer = ap Some (sym q.2) ∙ sym (ap (λ (r : After (Option Placed)). block_in r.answer) e);
      state = ap₂ pair_of a.by.state (others-keep_state p.rules f m m' h.made_second h.second h.apart a.changes) ∙ sym (ap (λ (r : After (Option Placed)). r.state) e);
      cells = a.by.cells ∙ sym (ap (λ (r : After (Option Placed)). r.cells) e);
      others = λ c out. pair-stays p p' f f m m' _ _ c h a.remains y out (λ below. tt) (λ below. tt);
      made = λ c z. clean-first p' f m' c (held-first p' f m' c later (a.out c z)) ∙ a.by.made c z;
    }

-- what stands of both once the primary refused
refused-first : (rule : After (Option Placed)) (p p' f : LayerModel) (m m' : Memory) (r : Option Block) → ArePaired p f m → Served rule p p' m m' r → ArePaired p' f m'
refused-first rule p p' f m m' r h a =
    paired-again p p' f f m m' _ _ h a.remains (remains-beside p.rules f m m' h.made_second h.second h.apart a.changes)

second-serves : (p p' f f' : LayerModel) (m m' w : Memory) (n : ℕ) (r : Option Block) (first second : Serve) → ArePaired p f m → 1 ≤ n → n ≤ limit → Served (first (state_of p m) m.cells) p p' m m' None → Served (second (state_of f m') m'.cells) f f' m' w r
    → ServesBy (asked_for n (fallback_allocate first second) (pair_of (state_of p m) (state_of f m)) m.cells) (open_pair p f) (open_pair p' f') m w r
unfolding fallback_rules
second-serves p p' f f' m m' w n r first second h l k a b =
    let rule = first (state_of p m) m.cells in
    let mid = refused-first rule p p' f m m' None h a in
    let back = flip-beside p'.rules f.rules mid.apart in
    let kept = others-keep_state p.rules f m m' h.made_second h.second h.apart a.changes in
    let later_kept = others-keep_state f.rules p' m' w mid.made_first mid.first back b.changes in
    let e = by-second n first second (state_of p m) (state_of f m) m.cells l k (refused-answer rule.answer a.by.answer) in
    let same : second (state_of f m') m'.cells ≡ second (state_of f m) rule.cells = ap (λ s. second s m'.cells) kept ∙ ap (λ c. second (state_of f m) c) a.by.cells in
    let ch = changes-in_turn (fallback_rules p.rules f.rules) m m' w (changes-first p.rules f.rules m m' a.changes) (changes-second p.rules f.rules m' w b.changes) in
    let x = remains-then p p' p' m m' w _ _ a.remains (remains-beside f.rules p' m' w mid.made_first mid.first back b.changes) (λ c o z. tt) in
    let y = remains-then f f f' m m' w _ _ (remains-beside p.rules f m m' h.made_second h.second h.apart a.changes) b.remains (λ c o z. tt) in
    let later = paired-again p p' f f' m w _ _ h x y in
    record {
      frame = pair-frames p p' f f' m w _ _ x y ch;
      opened = refl;
      answer = b.by.answer ∙ ap (λ (r : After (Option Placed)). block_in r.answer) same ∙ shown-second (second (state_of f m) rule.cells).answer ∙ sym (ap (λ (r : After (Option Placed)). block_in r.answer) e);
      state = ap₂ pair_of (later_kept ∙ a.by.state) (b.by.state ∙ ap (λ (r : After (Option Placed)). r.state) same) ∙ sym (ap (λ (r : After (Option Placed)). r.state) e);
      cells = b.by.cells ∙ ap (λ (r : After (Option Placed)). r.cells) same ∙ sym (ap (λ (r : After (Option Placed)). r.cells) e);
      others = λ c out. pair-stays p p' f f' m w _ _ c h x y out (λ below. tt) (λ below. tt);
      made = λ c z. clean-second p' f' w c (held-not p' f' w c later (b.out c z)) ∙ b.by.made c z;
    }

-- ---- a request

served : (t t' : LayerModel) (m m' : Memory) (n : ℕ) (r : Option Block) → IsMade t.rules → Stands t m → IsSetUp t → Allocates t t' m m' n r → Served (allocated t m n) t t' m m' r
served t t' m m' n r l h u a = record {
  by = record { frame = a.frame; opened = a.opened; answer = a.answer; state = a.state; cells = a.cells; others = a.others; made = a.made };
  remains = remains-allocated t t' m m' n r l h u a;
  changes = allocated-changes_own t t' m m' n r l h u a;
  out = λ b e. (allocated-gives t t' m m' n b l h u (subst (λ r. Allocates t t' m m' n r) e a)).out;
}

allocates-by : (t t' : LayerModel) (m m' : Memory) (n : ℕ) (r : Option Block) → ServesBy (allocated t m n) t t' m m' r → Allocates t t' m m' n r
allocates-by t t' m m' n r a = record { frame = a.frame; opened = a.opened; answer = a.answer; state = a.state; cells = a.cells; others = a.others; made = a.made }

-- what stands of both once the primary refused
pub refused-both : (p p' f : LayerModel) (m m' : Memory) (n : ℕ) (r : Option Block) → ArePaired p f m → Allocates p p' m m' n r → ArePaired p' f m'
refused-both p p' f m m' n r h a = refused-first (allocated p m n) p p' f m m' r h (served p p' m m' n r h.made_first h.first h.first_open a)

pub allocates-first : (p p' f : LayerModel) (m m' : Memory) (n : ℕ) (b : Block) → ArePaired p f m → 1 ≤ n → n ≤ limit → Allocates p p' m m' n (Some b) → Allocates (fallback_model p f) (fallback_model p' f) m m' n (Some b)
unfolding fallback_rules
allocates-first p p' f m m' n b h l k a =
    as-open (λ t t'. Allocates t t' m m' n (Some b)) p p' f f h.first_open (a.opened ∙ h.first_open)
    (allocates-by (open_pair p f) (open_pair p' f) m m' n (Some b) (first-serves p p' f m m' n b (p.rules.allocate n) (f.rules.allocate n) h l k (served p p' m m' n (Some b) h.made_first h.first h.first_open a)))

pub allocates-second : (p p' f f' : LayerModel) (m m' w : Memory) (n : ℕ) (r : Option Block) → ArePaired p f m → 1 ≤ n → n ≤ limit → Allocates p p' m m' n None → Allocates f f' m' w n r → Allocates (fallback_model p f) (fallback_model p' f') m w n r
unfolding fallback_rules
allocates-second p p' f f' m m' w n r h l k a b =
    let mid = refused-both p p' f m m' n None h a in
    as-open (λ t t'. Allocates t t' m w n r) p p' f f' h.first_open (a.opened ∙ h.first_open)
    (allocates-by (open_pair p f) (open_pair p' f') m w n r
    (second-serves p p' f f' m m' w n r (p.rules.allocate n) (f.rules.allocate n) h l k (served p p' m m' n None h.made_first h.first h.first_open a) (served f f' m' w n r mid.made_second mid.second mid.second_open b)))

-- ---- the same at a multiple of what is asked

served_aligned : (t t' : LayerModel) (m m' : Memory) (n i : ℕ) (r : Option Block) → IsMade t.rules → Stands t m → IsSetUp t → is_power_of_two i ≡ true → i ≤ 4096 → AlignedAllocates t t' m m' n i r → Served (aligned_allocated t m n i) t t' m m' r
served_aligned t t' m m' n i r l h u v w a =
    let k = aligned_allocated-keeps t t' m m' n i r l h u v w a in
    record {
      by = record { frame = a.frame; opened = a.opened; answer = a.answer; state = a.state; cells = a.cells; others = a.others; made = a.made };
      remains = remains-aligned t t' m m' n i r l h u v w a;
      changes = k.changes_own;
      out = λ b e. (k.gives b e).0.out;
    }

aligned-by : (t t' : LayerModel) (m m' : Memory) (n i : ℕ) (r : Option Block) → ServesBy (aligned_allocated t m n i) t t' m m' r → AlignedAllocates t t' m m' n i r
aligned-by t t' m m' n i r a = record { frame = a.frame; opened = a.opened; answer = a.answer; state = a.state; cells = a.cells; others = a.others; made = a.made }

pub refused-aligned : (p p' f : LayerModel) (m m' : Memory) (n i : ℕ) (r : Option Block) → ArePaired p f m → is_power_of_two i ≡ true → i ≤ 4096 → AlignedAllocates p p' m m' n i r → ArePaired p' f m'
refused-aligned p p' f m m' n i r h v w a = refused-first (aligned_allocated p m n i) p p' f m m' r h (served_aligned p p' m m' n i r h.made_first h.first h.first_open v w a)

pub aligned-first : (p p' f : LayerModel) (m m' : Memory) (n i : ℕ) (b : Block) → ArePaired p f m → 1 ≤ n → n ≤ limit → is_power_of_two i ≡ true → i ≤ 4096 → AlignedAllocates p p' m m' n i (Some b)
    → AlignedAllocates (fallback_model p f) (fallback_model p' f) m m' n i (Some b)
unfolding fallback_rules
aligned-first p p' f m m' n i b h l k v w a =
    as-open (λ t t'. AlignedAllocates t t' m m' n i (Some b)) p p' f f h.first_open (a.opened ∙ h.first_open)
    (aligned-by (open_pair p f) (open_pair p' f) m m' n i (Some b)
    (first-serves p p' f m m' n b (p.rules.aligned_allocate n i) (f.rules.aligned_allocate n i) h l k (served_aligned p p' m m' n i (Some b) h.made_first h.first h.first_open v w a)))

pub aligned-second : (p p' f f' : LayerModel) (m m' w : Memory) (n i : ℕ) (r : Option Block) → ArePaired p f m → 1 ≤ n → n ≤ limit → is_power_of_two i ≡ true → i ≤ 4096 → AlignedAllocates p p' m m' n i None → AlignedAllocates f f' m' w n i r
    → AlignedAllocates (fallback_model p f) (fallback_model p' f') m w n i r
unfolding fallback_rules
aligned-second p p' f f' m m' w n i r h l k v z a b =
    let mid = refused-aligned p p' f m m' n i None h v z a in
    as-open (λ t t'. AlignedAllocates t t' m w n i r) p p' f f' h.first_open (a.opened ∙ h.first_open)
    (aligned-by (open_pair p f) (open_pair p' f') m w n i r
    (second-serves p p' f f' m m' w n r (p.rules.aligned_allocate n i) (f.rules.aligned_allocate n i) h l k (served_aligned p p' m m' n i None h.made_first h.first h.first_open v z a) (served_aligned f f' m' w n i r mid.made_second mid.second mid.second_open v z b)))
