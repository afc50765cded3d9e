-- Asking who owns a block: its answer and what it leaves, by the pieces that rules are made of.
use Rattle.std.proofs.Common.{◌≡◌, refl, sym, ◌∙◌, ap, ap₂, ℕ, ◌≤◌, Bool, true, false, ◌&&◌, nat_le, arith}
use Rattle.std.proofs.lemmas.Bool.{and_from}
use Rattle.std.proofs.lemmas.Bool.Decides.{nat_tests}
use Rattle.std.proofs.Math.Bool.{and_assoc}
use Rattle.layer_rules.specs.declared.Block.{Block}
use Rattle.size_round.specs.Sizes.{limit}
use Rattle.layer_rules.specs.After.{Reply, reply, Owning}
use Rattle.layer_rules.specs.Blocks.{end_of}
use Rattle.layer_rules.specs.Offering.{is_served_size}
use Rattle.layer_rules.specs.Owning.{may_hold, owns_child_if, owns_if}
use Rattle.layer_rules.specs.State.{State, Own, child, with_child, with_own, own_of, is_open, uncounted, without_counts}
use Rattle.layer_rules.specs.Steady.{own_steady, steady}
use Rattle.layer_rules.specs.Rules.{Rules}
use Rattle.layer_rules.specs.Unread.{own_unread, unread}
use Rattle.layer_laws.proofs.Basics.{and-fst, and-snd}
use Rattle.layer_laws.specs.Lawful.{ReadingLaws}
use Rattle.layer_laws.proofs.Uncounting.{same-may_hold, uncounted-child_kept, uncounted-own_kept, steady-child_kept, steady-own_kept}
use Rattle.layer_laws.proofs.Unreading.{unread-child, unread-with_child, unread-change_own}

-- ---- the answer

pub owned-child_if : (fine : Bool) (i : ℕ) (owns : Owning) (b : Block) (s : State) → (owns_child_if fine i owns b s).owned ≡ (fine && (owns b (child s i)).owned)
owned-child_if true i owns b s = refl
owned-child_if false i owns b s = refl

-- where the child's answer is known
pub owned-child : (fine : Bool) (i : ℕ) (owns : Owning) (b : Block) (s : State) (x : Bool) → (owns b (child s i)).owned ≡ x → (owns_child_if fine i owns b s).owned ≡ (fine && x)
owned-child fine i owns b s x h = owned-child_if fine i owns b s ∙ ap (λ z. fine && z) h

-- where two tests come before the child
pub owned-child_both : (fine fits : Bool) (i : ℕ) (owns : Owning) (b : Block) (s : State) (x : Bool) → (owns b (child s i)).owned ≡ x → (owns_child_if (fine && fits) i owns b s).owned ≡ (fine && (fits && x))
owned-child_both fine fits i owns b s x h = owned-child (fine && fits) i owns b s x h ∙ and_assoc fine fits x

pub owned-if : (fine : Bool) (owns : Owning) (b : Block) (s : State) (x : Bool) → (owns b s).owned ≡ x → (owns_if fine owns b s).owned ≡ (fine && x)
owned-if true owns b s x h = h
owned-if false owns b s x h = refl

-- a block that may be held at all is one in an open layer
pub open-may_hold : (b : Block) (s : State) (x : Bool) → (may_hold b s && x) ≡ true → is_open s ≡ true
open-may_hold b s x h = and-fst (is_open s) _ (and-fst (may_hold b s) x h)

pub size-may_hold : (b : Block) (s : State) (x : Bool) → (may_hold b s && x) ≡ true → is_served_size b.len ≡ true
size-may_hold b s x h = and-snd (is_open s) (is_served_size b.len) (and-fst (may_hold b s) x h)

-- what it says that a block is held: that it may be at all, and the rest
pub record IsHeldBy (b : Block) (s : State) (x : Bool) : Type 0 where
  pub is_set : is_open s ≡ true
  pub size : is_served_size b.len ≡ true
  pub rest : x ≡ true

pub may-hold : (b : Block) (s : State) (x : Bool) → (may_hold b s && x) ≡ true → IsHeldBy b s x
may-hold b s x h = record { is_set = open-may_hold b s x h; size = size-may_hold b s x h; rest = and-snd (may_hold b s) x h }

pub served-size : (n : ℕ) → 1 ≤ n → n ≤ limit → is_served_size n ≡ true
served-size n some l =
    let p : nat_le 1 n ≡ true = grind (arith, nat_tests) in
    let q : nat_le n limit ≡ true = grind (arith, nat_tests) in
    and_from _ _ p q

-- a length of at least one byte that is within one that is served
pub shorter-size : (m n : ℕ) → 1 ≤ m → m ≤ n → is_served_size n ≡ true → is_served_size m ≡ true
shorter-size m n some l h =
    let u : nat_le n limit ≡ true = and-snd (nat_le 1 n) (nat_le n limit) h in
    served-size m some (grind (arith, nat_tests))

pub shorter-served : (b c : Block) → 1 ≤ b.len → c.place ≤ b.place → end_of b ≤ end_of c → is_served_size c.len ≡ true → is_served_size b.len ≡ true
shorter-served b c some from upto h = shorter-size b.len c.len some (omega arith) h

-- who holds a block goes by no statistics, where what is told below goes by none
pub held-same : (b : Block) (s t : State) (x y : Bool) → uncounted s ≡ uncounted t → x ≡ y → (may_hold b s && x) ≡ (may_hold b t && y)
held-same b s t x y q e = ap₂ (λ m z. m && z) (same-may_hold b s t q) e

-- ---- on a no: all but statistics

abbrev pub KeptOnNo : State → Reply → Type 0
KeptOnNo s r = r.owned ≡ false → uncounted r.state ≡ uncounted s

pub not_owned-same : (s : State) (x : Bool) → KeptOnNo s (reply x s)
not_owned-same s x h = refl

pub not_owned-child_if : (fine : Bool) (i : ℕ) (owns : Owning) (b : Block) (s : State) → KeptOnNo (child s i) (owns b (child s i)) → KeptOnNo s (owns_child_if fine i owns b s)
not_owned-child_if true i owns b s k = λ h. uncounted-child_kept s i (owns b (child s i)).state (k h)
not_owned-child_if false i owns b s k = λ h. refl

pub not_owned-if : (fine : Bool) (owns : Owning) (b : Block) (s : State) → KeptOnNo s (owns b s) → KeptOnNo s (owns_if fine owns b s)
not_owned-if true owns b s k = k
not_owned-if false owns b s k = λ h. refl

pub not_owned-own : (s : State) (r : Reply) (own : Own) → without_counts own ≡ without_counts (own_of r.state) → KeptOnNo s r → KeptOnNo s (reply r.owned (with_own r.state own))
not_owned-own s r own q k h = uncounted-own_kept r.state own q ∙ k h

-- one no after another
pub not_owned-next : (s : State) (r : Reply) (next : State → Reply) → r.owned ≡ false → KeptOnNo s r → KeptOnNo r.state (next r.state) → KeptOnNo s (next r.state)
not_owned-next s r next e k l h = l h ∙ k e

-- ---- the rest: orders of use and statistics alone change

pub steady-child_if : (fine : Bool) (i : ℕ) (owns : Owning) (b : Block) (s : State) → steady (owns b (child s i)).state ≡ steady (child s i) → steady (owns_child_if fine i owns b s).state ≡ steady s
steady-child_if true i owns b s h = steady-child_kept s i (owns b (child s i)).state h
steady-child_if false i owns b s h = refl

pub steady-owns_if : (fine : Bool) (owns : Owning) (b : Block) (s : State) → steady (owns b s).state ≡ steady s → steady (owns_if fine owns b s).state ≡ steady s
steady-owns_if true owns b s h = h
steady-owns_if false owns b s h = refl

pub steady-own : (s : State) (r : Reply) (own : Own) → own_steady own ≡ own_steady (own_of r.state) → steady r.state ≡ steady s → steady (with_own r.state own) ≡ steady s
steady-own s r own q h = steady-own_kept r.state own q ∙ h

-- ---- a state without what is read from the bytes

-- what is owned, and the state that is left, are the same without it
pub record AsksUnread (owns : Owning) (b : Block) (s : State) : Type 0 where
  pub owned : (owns b (unread s)).owned ≡ (owns b s).owned
  pub state : unread (owns b s).state ≡ (owns b (unread s)).state

-- a parent, or a member, that is asked for another block than the layer
pub asks-below : (e : Rules) → ReadingLaws e → (b c : Block) (s : State) → AsksUnread (λ d. e.owns b) c s
asks-below e r b c s = record { owned = r.owned b s; state = r.owns b s }

pub asks-same : (answer : Block → State → Bool) (b : Block) (s : State) → answer b (unread s) ≡ answer b s → AsksUnread (λ c t. reply (answer c t) t) b s
asks-same answer b s h = record { owned = h; state = refl }

asks-if_fine : (fine : Bool) (i : ℕ) (owns : Owning) (b : Block) (s : State) → AsksUnread owns b (child s i)
    → ((owns_child_if fine i owns b (unread s)).owned ≡ (owns_child_if fine i owns b s).owned) × (unread (owns_child_if fine i owns b s).state ≡ (owns_child_if fine i owns b (unread s)).state)
asks-if_fine true i owns b s k = (
  ap (λ t. (owns b t).owned) (unread-child s i) ∙ k.owned,
  unread-with_child s i (owns b (child s i)).state ∙ ap (with_child (unread s) i) (k.state ∙ ap (λ t. (owns b t).state) (sym (unread-child s i))),
)
asks-if_fine false i owns b s k = (refl, refl)

-- where the test may be one of the state
pub asks-child_if : (fine : Block → State → Bool) (i : ℕ) (owns : Owning) (b : Block) (s : State) → fine b (unread s) ≡ fine b s → AsksUnread owns b (child s i) → AsksUnread (λ c t. owns_child_if (fine c t) i owns c t) b s
asks-child_if fine i owns b s q k =
    let r = asks-if_fine (fine b s) i owns b s k in
    record {
      owned = ap (λ x. (owns_child_if x i owns b (unread s)).owned) q ∙ r.0;
      state = r.1 ∙ ap (λ x. (owns_child_if x i owns b (unread s)).state) (sym q);
    }

pub asks-own : (owns : Owning) (f : Own → Own) (b : Block) (s : State) → ((own : Own) → own_unread (f own) ≡ f (own_unread own)) → AsksUnread owns b s
    → AsksUnread (λ c t. let r = owns c t in reply r.owned (with_own r.state (f (own_of r.state)))) b s
asks-own owns f b s h k =
    record { owned = k.owned; state = unread-change_own f (owns b s).state h ∙ ap (λ t. with_own t (f (own_of t))) k.state }
