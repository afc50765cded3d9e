-- What holds of each child of a state, by its number, and what keeps it.
use Rattle.std.proofs.Common.{ℕ, zero, suc, Bool, true, false, nat_eq, nat_lt}
use Rattle.size_round.specs.Sizes.{limit}
use Rattle.space_core.specs.Cells.{Cells}
use Rattle.layer_rules.specs.declared.Block.{Block}
use Rattle.layer_rules.specs.After.{Serve}
use Rattle.layer_rules.specs.Allocating.{served_unless, asked_for, serve_member}
use Rattle.layer_rules.specs.State.{State, closed, open_with, Own, States, no_children, child_and, nth_child, set_child, child, with_child, with_own}

abbrev pub OfEach : (P : ℕ → State → Type 0) → States → Type 0
OfEach P ss = (i : ℕ) → P i (nth_child ss i)

abbrev pub OfChildren : (P : ℕ → State → Type 0) → State → Type 0
OfChildren P s = (i : ℕ) → P i (child s i)

of_each-set : (P : ℕ → State → Type 0) (ss : States) (i : ℕ) (t : State) → OfEach P ss → P i t → OfEach P (set_child ss i t)
of_each-set P no_children i t h k j = h j
of_each-set P (child_and s ss) zero t h k zero = k
of_each-set P (child_and s ss) zero t h k (suc j) = h (suc j)
of_each-set P (child_and s ss) (suc i) t h k zero = h zero
of_each-set P (child_and s ss) (suc i) t h k (suc j) = of_each-set (λ l. P (suc l)) ss i t (λ l. h (suc l)) k j

-- another child
pub of_children-child : (P : ℕ → State → Type 0) (s : State) (i : ℕ) (t : State) → OfChildren P s → P i t → OfChildren P (with_child s i t)
of_children-child P closed i t h k = h
of_children-child P (open_with own ss) i t h k = of_each-set P ss i t h k

-- other things of its own
pub of_children-own : (P : ℕ → State → Type 0) (s : State) (own : Own) → OfChildren P s → OfChildren P (with_own s own)
of_children-own P closed own h = h
of_children-own P (open_with old ss) own h = h

-- a request to a child that keeps what holds of it
pub of_children-member : (P : ℕ → State → Type 0) (shown : Block → Block) (i : ℕ) (serve : Serve) (s : State) (cells : Cells) → ((t : State) (c : Cells) → P i t → P i (serve t c).state)
    → OfChildren P s → OfChildren P (serve_member shown i serve s cells).state
of_children-member P shown i serve s cells k h = of_children-child P s i (serve (child s i) cells).state h (k (child s i) cells (h i))

after-served_unless : (P : State → Type 0) (x y : Bool) (serve : Serve) (s : State) (cells : Cells) → P s → P (serve s cells).state → P (served_unless x y serve s cells).state
after-served_unless P true y serve s cells h k = h
after-served_unless P false true serve s cells h k = h
after-served_unless P false false serve s cells h k = k

-- the guards of every request
pub after-asked_for : (P : State → Type 0) (n : ℕ) (serve : Serve) (s : State) (cells : Cells) → P s → P (serve s cells).state → P (asked_for n serve s cells).state
after-asked_for P n serve s cells h k = after-served_unless P (nat_eq n 0) (nat_lt limit n) serve s cells h k
