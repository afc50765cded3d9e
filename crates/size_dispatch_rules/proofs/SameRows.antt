-- Two calls that do the same do so behind the tests that all forms share.
use Rattle.std.proofs.Common.{◌≡◌, refl, ap, ℕ, Bool, true, false, nat_eq, nat_lt}
use Rattle.size_round.specs.Sizes.{limit}
use Rattle.space_core.specs.Cells.{Cells}
use Rattle.layer_rules.specs.declared.Block.{Block}
use Rattle.layer_rules.specs.After.{After, Serve, Change, Reallocate, Reallocated, moved_to, emptied, unmoved, answering}
use Rattle.layer_rules.specs.Allocating.{served_unless, asked_for}
use Rattle.layer_rules.specs.Expanding.{expanded_unless, asked_to_expand}
use Rattle.layer_rules.specs.Handing.{shown_by}
use Rattle.layer_rules.specs.Reallocating.{reallocated_unless, asked_to_reallocate, either_reallocate}
use Rattle.layer_rules.specs.State.{State}

served-same : (x y : Bool) (c d : Serve) (s : State) (cells : Cells) → c s cells ≡ d s cells → served_unless x y c s cells ≡ served_unless x y d s cells
served-same true y c d s cells h = refl
served-same false true c d s cells h = refl
served-same false false c d s cells h = h

pub asked-same : (n : ℕ) (c d : Serve) (s : State) (cells : Cells) → c s cells ≡ d s cells → asked_for n c s cells ≡ asked_for n d s cells
asked-same n c d s cells h = served-same (nat_eq n 0) (nat_lt limit n) c d s cells h

expanded-same : (delta : ℕ) (c d : Change) (b : Block) (s : State) (cells : Cells) (x y : Bool) → nat_eq delta 0 ≡ x → (nat_eq delta 0 ≡ false → c b s cells ≡ d b s cells) → expanded_unless x y c b s cells ≡ expanded_unless x y d b s cells
expanded-same delta c d b s cells true y q h = refl
expanded-same delta c d b s cells false true q h = refl
expanded-same delta c d b s cells false false q h = h q

-- an expansion by some bytes
pub asked-expand-same : (delta : ℕ) (c d : Change) (b : Block) (s : State) (cells : Cells) → (nat_eq delta 0 ≡ false → c b s cells ≡ d b s cells) → asked_to_expand delta c b s cells ≡ asked_to_expand delta d b s cells
asked-expand-same delta c d b s cells h = expanded-same delta c d b s cells (nat_eq delta 0) _ refl h

reallocated-same : (n : ℕ) (give : Change) (c d : Reallocate) (b : Block) (s : State) (cells : Cells) (x y z : Bool) → nat_eq n b.len ≡ x → (nat_eq n b.len ≡ false → c b s cells ≡ d b s cells)
    → reallocated_unless x y z give c b s cells ≡ reallocated_unless x y z give d b s cells
reallocated-same n give c d b s cells true y z q h = refl
reallocated-same n give c d b s cells false true z q h = refl
reallocated-same n give c d b s cells false false true q h = refl
reallocated-same n give c d b s cells false false false q h = h q

-- a reallocation to another length
pub asked-reallocate-same : (n : ℕ) (give : Change) (c d : Reallocate) (b : Block) (s : State) (cells : Cells) → (nat_eq n b.len ≡ false → c b s cells ≡ d b s cells) → asked_to_reallocate n give c b s cells ≡ asked_to_reallocate n give d b s cells
asked-reallocate-same n give c d b s cells h = reallocated-same n give c d b s cells (nat_eq n b.len) (nat_eq n 0) _ refl h

pub either-same : (q : Bool) (c d e : Reallocate) (b : Block) (s : State) (cells : Cells) → (q ≡ true → c b s cells ≡ d b s cells) → either_reallocate q c e b s cells ≡ either_reallocate q d e b s cells
either-same true c d e b s cells h = h refl
either-same false c d e b s cells h = refl

-- an answer that is shown as it is
pub shown-same : (r : After Reallocated) → answering (shown_by (λ b. b)) r ≡ r
shown-same r = ap (λ (a : Reallocated). record r { answer = a }) (same r.answer)
  where
    same : (a : Reallocated) → shown_by (λ b. b) a ≡ a
    same (moved_to b) = refl
    same emptied = refl
    same unmoved = refl
