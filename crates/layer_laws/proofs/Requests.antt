-- Requests: what one leaves that is answered with no block, and when it is, by the pieces that rules are made of.
use Rattle.std.proofs.Common.{◌≡◌, refl, ◌∙◌, ℕ, ◌≤◌, Bool, true, false, ◌&&◌, ◌||◌, Option, Some, None, arith, is_none, option_map, nat_eq, nat_lt}
use Rattle.std.proofs.lemmas.Bool.Decides.{nat_tests}
use Rattle.size_round.specs.Sizes.{limit}
use Rattle.space_core.specs.Cells.{Cells}
use Rattle.layer_rules.specs.declared.Block.{Block}
use Rattle.layer_rules.specs.After.{After, after, Placed, Serve, refuse, from_child, serve_below}
use Rattle.layer_rules.specs.Allocating.{served_unless, asked_for, serve_parent, serve_member, over_limit_or}
use Rattle.layer_rules.specs.State.{State, Own, child, own_of, with_own, without_counts}
use Rattle.layer_laws.specs.Lawful.{KeptOnNone, KeepsOnNone}
use Rattle.layer_laws.proofs.Uncounting.{same-then, same-in_child, same-with_own}

-- ---- what a refused request leaves

pub keeps-refuse : KeepsOnNone refuse
keeps-refuse s cells h = (refl, refl)

pub none-from-map : {A B : Type 0} (f : A → B) (o : Option A) → option_map f o ≡ None → o ≡ None
none-from-map f None h = refl
none-from-map f (Some x) h = cc

pub keeps-served_unless : (empty too_long : Bool) (serve : Serve) → KeepsOnNone serve → KeepsOnNone (served_unless empty too_long serve)
keeps-served_unless true too_long serve k = keeps-refuse
keeps-served_unless false true serve k = keeps-refuse
keeps-served_unless false false serve k = k

pub keeps-asked_for : (n : ℕ) (serve : Serve) → KeepsOnNone serve → KeepsOnNone (asked_for n serve)
keeps-asked_for n serve = keeps-served_unless (nat_eq n 0) (nat_lt limit n) serve

-- a request that the child refuses, in the state that stands
pub kept-serve_below : (shown : Block → Block) (i : ℕ) (serve : Serve) (s : State) (cells : Cells) → KeptOnNone (child s i) cells (serve (child s i) cells) → KeptOnNone s cells (serve_below shown i serve s (child s i) cells)
kept-serve_below shown i serve s cells k h =
    let r = serve (child s i) cells in same-in_child s cells i r.state r.cells (k (none-from-map (from_child shown i) r.answer h))

pub keeps-serve_member : (shown : Block → Block) (i : ℕ) (serve : Serve) → KeepsOnNone serve → KeepsOnNone (serve_member shown i serve)
keeps-serve_member shown i serve k s cells = kept-serve_below shown i serve s cells (k (child s i) cells)

pub keeps-serve_parent : (shown : Block → Block) (serve : Serve) → KeepsOnNone serve → KeepsOnNone (serve_parent shown serve)
keeps-serve_parent shown serve = keeps-serve_member shown 0 serve

-- what is of the layer's own changes by statistics alone where the request is refused
pub kept-own : (s : State) (cells : Cells) (r : After (Option Placed)) (own : Own) → (r.answer ≡ None → without_counts own ≡ without_counts (own_of r.state)) → KeptOnNone s cells r
    → KeptOnNone s cells (after r.answer (with_own r.state own) r.cells)
kept-own s cells r own q k h = same-with_own s cells r.state r.cells own (q h) (k h)

-- one refusal after another
pub kept-next : (s : State) (cells : Cells) (r : After (Option Placed)) (next : Serve) → KeepsOnNone next → r.answer ≡ None → KeptOnNone s cells r → KeptOnNone s cells (next r.state r.cells)
kept-next s cells r next keeps e k h = let x = next r.state r.cells in same-then s cells r.state r.cells x.state x.cells (k e) (keeps r.state r.cells h)

-- ---- when a request is refused

-- no block is answered
abbrev pub is_refusal : After (Option Placed) → Bool
is_refusal r = is_none r.answer

refusal-served_unless : (x y : Bool) (serve : Serve) (s : State) (cells : Cells) (z : Bool) → (x ≡ false → y ≡ false → is_refusal (serve s cells) ≡ z) → is_refusal (served_unless x y serve s cells) ≡ (x || (y || z))
refusal-served_unless true y serve s cells z k = refl
refusal-served_unless false true serve s cells z k = refl
refusal-served_unless false false serve s cells z k = k refl refl

-- the guards of every request: what is left to show is when the serving itself is refused
pub none-asked_for : (n : ℕ) (serve : Serve) (s : State) (cells : Cells) (z : Bool) → (1 ≤ n → n ≤ limit → is_refusal (serve s cells) ≡ z) → is_refusal (asked_for n serve s cells) ≡ (nat_eq n 0 || over_limit_or n z)
none-asked_for n serve s cells z k = refusal-served_unless (nat_eq n 0) (nat_lt limit n) serve s cells z (λ p q. k (grind (arith, nat_tests)) (grind (arith, nat_tests)))

some-of : (n : ℕ) (x y t : Bool) → t ≡ false → x ≡ (t || y) → x ≡ y
some-of n x y true e h = cc
some-of n x y false e h = h

-- the law of a child for a request of at least one byte
pub none-of-some : (n : ℕ) (x y : Bool) → 1 ≤ n → x ≡ (nat_eq n 0 || y) → x ≡ y
none-of-some n x y l h = some-of n x y (nat_eq n 0) (grind (arith, nat_tests)) h

-- a layer that never serves
pub none-refuse : (n : ℕ) → true ≡ (nat_eq n 0 || true)
none-refuse n = go (nat_eq n 0)
  where
    go : (b : Bool) → true ≡ (b || true)
    go true = refl
    go false = refl

is_none-map : {A B : Type 0} (f : A → B) (o : Option A) → is_none (option_map f o) ≡ is_none o
is_none-map f None = refl
is_none-map f (Some x) = refl

pub none-serve_below : (shown : Block → Block) (i : ℕ) (serve : Serve) (s t : State) (cells : Cells) → is_refusal (serve_below shown i serve s t cells) ≡ is_refusal (serve t cells)
none-serve_below shown i serve s t cells = is_none-map (from_child shown i) (serve t cells).answer

pub none-serve_member : (shown : Block → Block) (i : ℕ) (serve : Serve) (s : State) (cells : Cells) → is_refusal (serve_member shown i serve s cells) ≡ is_refusal (serve (child s i) cells)
none-serve_member shown i serve s cells = none-serve_below shown i serve s (child s i) cells

pub none-serve_parent : (shown : Block → Block) (serve : Serve) (s : State) (cells : Cells) → is_refusal (serve_parent shown serve s cells) ≡ is_refusal (serve (child s 0) cells)
none-serve_parent shown serve s cells = none-serve_below shown 0 serve s (child s 0) cells

-- a parent, or a member, that is asked for m bytes in place of n
pub none-parent : (shown : Block → Block) (m : ℕ) (serve : Serve) (s : State) (cells : Cells) (z : Bool) → 1 ≤ m → is_refusal (serve (child s 0) cells) ≡ (nat_eq m 0 || z) → is_refusal (serve_parent shown serve s cells) ≡ z
none-parent shown m serve s cells z l h = none-serve_parent shown serve s cells ∙ none-of-some m _ z l h

pub none-member : (shown : Block → Block) (i m : ℕ) (serve : Serve) (s : State) (cells : Cells) (z : Bool) → 1 ≤ m → is_refusal (serve (child s i) cells) ≡ (nat_eq m 0 || z) → is_refusal (serve_member shown i serve s cells) ≡ z
none-member shown i m serve s cells z l h = none-serve_member shown i serve s cells ∙ none-of-some m _ z l h

-- where two are asked in turn: the second, in what the first leaves as it refuses
pub none-or : (o : Option Placed) (first second : Bool) (x z : Bool) → is_none o ≡ x → (o ≡ None → second ≡ z) → (is_none o && second) ≡ (x && z)
none-or None first second true z h k = k refl
none-or (Some p) first second false z h k = refl
none-or None first second false z h k = absurd (cc)
none-or (Some p) first second true z h k = absurd (cc)
