-- A list's requests: what a refused one leaves, when one is refused, and what each keeps.
use Rattle.std.proofs.Common.{◌≡◌, refl, sym, ◌∙◌, ap, ap₂, ℕ, suc, Bool, true, false, ◌&&◌, List, [], ◌∷◌, Option, Some, None, Ok, Err, is_none}
use Rattle.std.specs.List.{list_all}
use Rattle.space_core.specs.Cells.{Cells}
use Rattle.layer_rules.specs.After.{After, Placed, Serve, serve_below, Opened, Opening}
use Rattle.layer_rules.specs.Allocating.{serve_member}
use Rattle.layer_rules.specs.State.{State, closed, open_with, States, no_children, child_and, child, children_of, order_of, uncounted, uncounted_each}
use Rattle.layer_laws.specs.Lawful.{KeptOnNone, KeepsOnNone}
use Rattle.layer_laws.proofs.Requests.{is_refusal, keeps-serve_member, kept-next, none-serve_member, none-serve_below}
use Rattle.layer_laws.proofs.Uncounting.{same-child, same-order}
use Rattle.fallback_rules.proofs.EachChild.{OfChildren}
use Rattle.fallback_rules.proofs.OrElse.{after-or_else, keeps-or_else, none-or_else}
use Rattle.list_rules.specs.ListRules.{used_last, front_answer_or, or_next, first_serving, first_closed, fresh_or, ask_fresh, serve_closed, closed_left, serve_fresh, list_allocate, opened_refuses, closed_refuses, list_refuses}

-- ---- what a refused request leaves

kept-or_next : (i : ℕ) (next : Serve) (s : State) (cells : Cells) → KeepsOnNone next → (r : After (Option Placed)) → KeptOnNone s cells r → KeptOnNone s cells (or_next i next r)
kept-or_next i next s cells keeps r k = go r.answer refl
  where
    go : (o : Option Placed) → r.answer ≡ o → KeptOnNone s cells (front_answer_or o i next r.state r.cells)
    go None e = kept-next s cells r next keeps e k
    go (Some p) e = λ h. cc

keeps-first_serving : (serve : ℕ → Serve) (is : List ℕ) → ((i : ℕ) → KeepsOnNone (serve i)) → KeepsOnNone (first_serving serve is)
unfolding first_serving
keeps-first_serving serve [] k s cells = λ h. (refl, refl)
keeps-first_serving serve (i ∷ is) k s cells =
    kept-or_next i (first_serving serve is) s cells (keeps-first_serving serve is k) (serve_member (λ b. b) i (serve i) s cells) (keeps-serve_member (λ b. b) i (serve i) (k i) s cells)

-- what a fresh member refuses leaves all as before
kept-fresh_or : (o : Option Placed) (i : ℕ) (s : State) (cells : Cells) (t : State) (c : Cells) → KeptOnNone s cells (fresh_or o i s cells t c)
kept-fresh_or None i s cells t c = λ h. (refl, refl)
kept-fresh_or (Some p) i s cells t c = λ h. cc

kept-ask_fresh : (i : ℕ) (serve : Serve) (o : Opening) (s : State) (cells : Cells) → KeptOnNone s cells (ask_fresh i serve o s cells)
kept-ask_fresh i serve (Err node) s cells = λ h. (refl, refl)
kept-ask_fresh i serve (Ok o) s cells = let r = serve_below (λ b. b) i serve s o.state o.cells in kept-fresh_or r.answer i s cells r.state r.cells

kept-serve_closed : (o : Option ℕ) (serve : ℕ → Serve) (open_member : ℕ → Cells → Opening) → KeepsOnNone (serve_closed o serve open_member)
kept-serve_closed None serve open_member s cells = λ h. (refl, refl)
kept-serve_closed (Some i) serve open_member s cells = kept-ask_fresh i (serve i) (open_member i cells) s cells

pub keeps-list_allocate : (tried : Bool) (serve : ℕ → Serve) (open_member : ℕ → Cells → Opening) → ((i : ℕ) → KeepsOnNone (serve i)) → KeepsOnNone (list_allocate tried serve open_member)
keeps-list_allocate tried serve open_member k s cells =
    keeps-or_else (serve_fresh tried serve open_member) s cells (first_serving serve (order_of s) s cells)
    (λ t c. kept-serve_closed (closed_left tried t) serve open_member t c) (keeps-first_serving serve (order_of s) k s cells)

-- ---- when a request is refused

-- Of each member: it refuses by this rule, in the states of which T holds. Neither goes by statistics, and what is opened is such a state.
pub record RefuseBy (T : ℕ → State → Type 0) (serve : ℕ → Serve) (open_member : ℕ → Cells → Opening) (refuses : ℕ → State → Cells → Bool) : Type 0 where
  pub keeps : (i : ℕ) → KeepsOnNone (serve i)
  pub none : (i : ℕ) (t : State) (cells : Cells) → T i t → is_refusal (serve i t cells) ≡ refuses i t cells
  pub same : (i : ℕ) (s t : State) (cells : Cells) → uncounted s ≡ uncounted t → refuses i s cells ≡ refuses i t cells
  pub kept : (i : ℕ) (s t : State) → uncounted s ≡ uncounted t → T i s → T i t
  pub opened : (i : ℕ) (cells : Cells) (o : Opened) → open_member i cells ≡ Ok o → T i o.state

refusal-front_answer_or : (o : Option Placed) (i : ℕ) (next : Serve) (s : State) (cells : Cells) (x z : Bool) → is_none o ≡ x → (o ≡ None → is_refusal (next s cells) ≡ z) → is_refusal (front_answer_or o i next s cells) ≡ (x && z)
refusal-front_answer_or None i next s cells true z h k = k refl
refusal-front_answer_or (Some p) i next s cells false z h k = refl
refusal-front_answer_or None i next s cells false z h k = cc
refusal-front_answer_or (Some p) i next s cells true z h k = cc

all-same : (refuses : ℕ → State → Cells → Bool) → ((i : ℕ) (s t : State) (cells : Cells) → uncounted s ≡ uncounted t → refuses i s cells ≡ refuses i t cells) → (is : List ℕ) (s t : State) (cells : Cells) → uncounted s ≡ uncounted t
    → list_all (λ i. refuses i (child s i) cells) is ≡ list_all (λ i. refuses i (child t i) cells) is
all-same refuses h [] s t cells q = refl
all-same refuses h (i ∷ is) s t cells q = ap₂ (λ x y. x && y) (h i (child s i) (child t i) cells (same-child s t i q)) (all-same refuses h is s t cells q)

of_children-same : (T : ℕ → State → Type 0) → ((i : ℕ) (s t : State) → uncounted s ≡ uncounted t → T i s → T i t) → (s t : State) → uncounted s ≡ uncounted t → OfChildren T s → OfChildren T t
of_children-same T h s t q w i = h i (child s i) (child t i) (same-child s t i q) (w i)

none-first_serving : (T : ℕ → State → Type 0) (serve : ℕ → Serve) (open_member : ℕ → Cells → Opening) (refuses : ℕ → State → Cells → Bool) → RefuseBy T serve open_member refuses → (is : List ℕ) (s : State) (cells : Cells) → OfChildren T s
    → is_refusal (first_serving serve is s cells) ≡ list_all (λ i. refuses i (child s i) cells) is
unfolding first_serving
none-first_serving T serve open_member refuses h [] s cells w = refl
none-first_serving T serve open_member refuses h (i ∷ is) s cells w =
    let r = serve_member (λ b. b) i (serve i) s cells in
    refusal-front_answer_or r.answer i (first_serving serve is) r.state r.cells _ _ (none-serve_member (λ b. b) i (serve i) s cells ∙ h.none i (child s i) cells (w i))
    (λ e. let kept = keeps-serve_member (λ b. b) i (serve i) (h.keeps i) s cells e in
    none-first_serving T serve open_member refuses h is r.state r.cells (of_children-same T h.kept s r.state (sym kept.1) w)
    ∙ (ap (λ c. list_all (λ j. refuses j (child r.state j) c) is) kept.0 ∙ all-same refuses h.same is r.state s cells kept.1))

refusal-fresh_or : (o : Option Placed) (i : ℕ) (s : State) (cells : Cells) (t : State) (c : Cells) → is_refusal (fresh_or o i s cells t c) ≡ is_none o
refusal-fresh_or None i s cells t c = refl
refusal-fresh_or (Some p) i s cells t c = refl

none-ask_fresh : (i : ℕ) (serve : Serve) (o : Opening) (refuses : State → Cells → Bool) (s : State) (cells : Cells) → ((p : Opened) → o ≡ Ok p → is_refusal (serve p.state p.cells) ≡ refuses p.state p.cells)
    → is_refusal (ask_fresh i serve o s cells) ≡ opened_refuses o refuses
none-ask_fresh i serve (Err node) refuses s cells h = refl
none-ask_fresh i serve (Ok o) refuses s cells h =
    let r = serve_below (λ b. b) i serve s o.state o.cells in refusal-fresh_or r.answer i s cells r.state r.cells ∙ (none-serve_below (λ b. b) i serve s o.state o.cells ∙ h o refl)

none-serve_closed : (T : ℕ → State → Type 0) (serve : ℕ → Serve) (open_member : ℕ → Cells → Opening) (refuses : ℕ → State → Cells → Bool) → RefuseBy T serve open_member refuses → (o : Option ℕ) (s : State) (cells : Cells)
    → is_refusal (serve_closed o serve open_member s cells) ≡ closed_refuses o open_member refuses cells
none-serve_closed T serve open_member refuses h None s cells = refl
none-serve_closed T serve open_member refuses h (Some i) s cells = none-ask_fresh i (serve i) (open_member i cells) (refuses i) s cells (λ p e. h.none i p.state p.cells (h.opened i cells p e))

first_closed-uncounted : (i : ℕ) (ss : States) → first_closed i (uncounted_each ss) ≡ first_closed i ss
unfolding first_closed uncounted
first_closed-uncounted i no_children = refl
first_closed-uncounted i (child_and closed ss) = refl
first_closed-uncounted i (child_and (open_with own ts) ss) = first_closed-uncounted (suc i) ss

children-uncounted : (s : State) → children_of (uncounted s) ≡ uncounted_each (children_of s)
unfolding uncounted
children-uncounted closed = refl
children-uncounted (open_with own ss) = refl

next-uncounted : (s : State) → first_closed 0 (children_of (uncounted s)) ≡ first_closed 0 (children_of s)
next-uncounted s = ap (first_closed 0) (children-uncounted s) ∙ first_closed-uncounted 0 (children_of s)

same-closed_left : (tried : Bool) (s t : State) → uncounted s ≡ uncounted t → closed_left tried s ≡ closed_left tried t
same-closed_left true s t q = sym (next-uncounted s) ∙ ap (λ u. first_closed 0 (children_of u)) q ∙ next-uncounted t
same-closed_left false s t q = refl

-- each open member refuses, and a fresh one
pub none-list_allocate : (T : ℕ → State → Type 0) (tried : Bool) (serve : ℕ → Serve) (open_member : ℕ → Cells → Opening) (refuses : ℕ → State → Cells → Bool) → RefuseBy T serve open_member refuses → (s : State) (cells : Cells) → OfChildren T s
    → is_refusal (list_allocate tried serve open_member s cells) ≡ list_refuses tried open_member refuses s cells
none-list_allocate T tried serve open_member refuses h s cells w =
    let r = first_serving serve (order_of s) s cells in
    none-or_else (serve_fresh tried serve open_member) r _ _ (none-first_serving T serve open_member refuses h (order_of s) s cells w)
    (λ e. let kept = keeps-first_serving serve (order_of s) h.keeps s cells e in
    none-serve_closed T serve open_member refuses h (closed_left tried r.state) r.state r.cells
    ∙ ap₂ (λ o c. closed_refuses o open_member refuses c) (same-closed_left tried r.state s kept.1) kept.0)

-- refusing goes by no statistics
pub same-list_refuses : (tried : Bool) (open_member : ℕ → Cells → Opening) (refuses : ℕ → State → Cells → Bool) → ((i : ℕ) (s t : State) (cells : Cells) → uncounted s ≡ uncounted t → refuses i s cells ≡ refuses i t cells)
    → (s t : State) (cells : Cells) → uncounted s ≡ uncounted t → list_refuses tried open_member refuses s cells ≡ list_refuses tried open_member refuses t cells
same-list_refuses tried open_member refuses h s t cells q =
    ap₂ (λ x y. x && y)
    (ap (list_all (λ i. refuses i (child s i) cells)) (same-order s t q) ∙ all-same refuses h (order_of t) s t cells q)
    (ap (λ o. closed_refuses o open_member refuses cells) (same-closed_left tried s t q))

-- ---- what each request keeps of the state and the table

-- it is kept by each open member's serving, by another order of use, and by a fresh member's serving
pub record IsKeptBy (P : State → Cells → Type 0) (serve : ℕ → Serve) (open_member : ℕ → Cells → Opening) : Type 0 where
  pub member : (i : ℕ) (t : State) (c : Cells) → P t c → P (serve_member (λ b. b) i (serve i) t c).state (serve_member (λ b. b) i (serve i) t c).cells
  pub front : (i : ℕ) (t : State) (c : Cells) → P t c → P (used_last i t) c
  pub fresh : (i : ℕ) (t : State) (c : Cells) (o : Opened) → open_member i c ≡ Ok o → P t c → P (serve_below (λ b. b) i (serve i) t o.state o.cells).state (serve_below (λ b. b) i (serve i) t o.state o.cells).cells

after-front_answer_or : (P : State → Cells → Type 0) (next : Serve) (o : Option Placed) (i : ℕ) (s : State) (cells : Cells) → P (used_last i s) cells → P (next s cells).state (next s cells).cells
    → P (front_answer_or o i next s cells).state (front_answer_or o i next s cells).cells
after-front_answer_or P next None i s cells h k = k
after-front_answer_or P next (Some p) i s cells h k = h

after-first_serving : (P : State → Cells → Type 0) (serve : ℕ → Serve) (open_member : ℕ → Cells → Opening) → IsKeptBy P serve open_member → (is : List ℕ) (s : State) (cells : Cells) → P s cells
    → P (first_serving serve is s cells).state (first_serving serve is s cells).cells
unfolding first_serving
after-first_serving P serve open_member h [] s cells w = w
after-first_serving P serve open_member h (i ∷ is) s cells w =
    let r = serve_member (λ b. b) i (serve i) s cells in
    let first = h.member i s cells w in
    after-front_answer_or P (first_serving serve is) r.answer i r.state r.cells (h.front i r.state r.cells first) (after-first_serving P serve open_member h is r.state r.cells first)

after-ask_fresh : (P : State → Cells → Type 0) (i : ℕ) (serve : Serve) (o : Opening) (s : State) (cells : Cells) → ((t : State) (c : Cells) → P t c → P (used_last i t) c)
    → ((p : Opened) → o ≡ Ok p → P (serve_below (λ b. b) i serve s p.state p.cells).state (serve_below (λ b. b) i serve s p.state p.cells).cells) → P s cells → P (ask_fresh i serve o s cells).state (ask_fresh i serve o s cells).cells
after-ask_fresh P i serve (Err node) s cells f g w = w
after-ask_fresh P i serve (Ok o) s cells f g w = go r.answer
  where
    r : After (Option Placed)
    r = serve_below (λ b. b) i serve s o.state o.cells

    go : (x : Option Placed) → P (fresh_or x i s cells r.state r.cells).state (fresh_or x i s cells r.state r.cells).cells
    go None = w
    go (Some p) = f r.state r.cells (g o refl)

after-serve_closed : (P : State → Cells → Type 0) (serve : ℕ → Serve) (open_member : ℕ → Cells → Opening) → IsKeptBy P serve open_member → (o : Option ℕ) (s : State) (cells : Cells) → P s cells
    → P (serve_closed o serve open_member s cells).state (serve_closed o serve open_member s cells).cells
after-serve_closed P serve open_member h None s cells w = w
after-serve_closed P serve open_member h (Some i) s cells w = after-ask_fresh P i (serve i) (open_member i cells) s cells (h.front i) (λ p e. h.fresh i s cells p e w) w

pub after-list_allocate : (P : State → Cells → Type 0) (tried : Bool) (serve : ℕ → Serve) (open_member : ℕ → Cells → Opening) → IsKeptBy P serve open_member → (s : State) (cells : Cells) → P s cells
    → P (list_allocate tried serve open_member s cells).state (list_allocate tried serve open_member s cells).cells
after-list_allocate P tried serve open_member h s cells w =
    let r = first_serving serve (order_of s) s cells in
    let first = after-first_serving P serve open_member h (order_of s) s cells w in
    after-or_else P (serve_fresh tried serve open_member) r first (after-serve_closed P serve open_member h (closed_left tried r.state) r.state r.cells first)
