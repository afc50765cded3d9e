-- A list's calls go to its members in turn: each changes one member and perhaps the order of use.
use Rattle.std.proofs.Common.{◌≡◌, refl, sym, subst, ◌∙◌, ℕ, suc, ◌+◌, ◌<◌, Bool, true, false, arith, List, [], ◌∷◌, length, Option, Some, None, option_map, Ok, Err, nat_eq}
use Rattle.std.specs.List.{list_any}
use Rattle.space_core.specs.Cells.{Cells}
use Rattle.layer_rules.specs.declared.Block.{Block}
use Rattle.layer_rules.specs.Rows.{Each}
use Rattle.layer_rules.specs.State.{State, States, order_own, open_with, closed, no_children, child_and, is_open, child, children_of, order_of, set_child, nth_child}
use Rattle.layer_rules.specs.After.{After, Placed, from_child, Serve, Opening, Reply}
use Rattle.layer_rules.specs.Members.{nth}
use Rattle.layer_rules.specs.Owning.{owns_if}
use Rattle.layer_rules.specs.Rules.{Rules}
use Rattle.layer_laws.proofs.HeldTurns.{with-set}
use Rattle.layer_laws.proofs.StayingOpen.{StaysOpen}
use Rattle.layer_laws.specs.Chooses.{EachNumber}
use Rattle.layer_laws.specs.HeldByMembers.{IsWithMember, ServedInTurn, none_serves, refuses_then, one_serves, new_serves, AskedInTurn, none_asked, asked_then}
use Rattle.layer_laws.specs.Lawful.{IsRegular}
use Rattle.fallback_rules.proofs.OrElse.{served-or_else}
use Rattle.list_rules.proofs.ListHolder.{or-right}
use Rattle.list_rules.proofs.ListOrder.{IsOrdered, ordered-parts, ordered-test, any-here, list_with, kept-order, front-order, next-is_closed}
use Rattle.list_rules.specs.ListRules.{to_front, front_answer_or, first_serving, first_closed, fresh_or, ask_fresh, serve_closed, closed_left, serve_fresh, list_allocate, front_or, owns_members, child_count, is_ordered}

-- an open list with this order
abbrev pub listed : List ℕ → States → State
listed order ss = open_with (order_own order) ss

-- the test of a list's own
abbrev pub fits : List Rules → State → Bool
fits es s = is_ordered (length es) s

-- what holds of each open list with an order holds of an open state that is in order
pub by-order : (es : List Rules) (P : State → Type 0) (s : State) → fits es s ≡ true → ((order : List ℕ) (ss : States) → IsOrdered (length es) (listed order ss) → P (listed order ss)) → P s
by-order es P s f k =
    let h = ordered-parts (length es) s f in
    subst P (sym h.form) (k (order_of s) (children_of s) (subst (IsOrdered (length es)) h.form h))

-- the list with another member, which was open and is so still; and one with a member that is open and comes to the front
pub with-kept : (es : List Rules) (order : List ℕ) (ss : States) (i : ℕ) (t : State) → IsOrdered (length es) (listed order ss) → i < length es → is_open (nth_child ss i) ≡ true → is_open t ≡ true → IsWithMember (fits es) i t (listed order ss) (list_with order i ss t)
with-kept es order ss i t h l was now =
    let c = h.children in with-set (fits es) i (order_own order) (order_own order) ss t (omega arith) (ordered-test (length es) (list_with order i ss t) (kept-order (length es) order ss i t h l was now))

pub with-front : (es : List Rules) (order : List ℕ) (ss : States) (i : ℕ) (t : State) → IsOrdered (length es) (listed order ss) → i < length es → is_open t ≡ true → IsWithMember (fits es) i t (listed order ss) (list_with (to_front i order) i ss t)
with-front es order ss i t h l now =
    let c = h.children in
    with-set (fits es) i (order_own order) (order_own (to_front i order)) ss t (omega arith) (ordered-test (length es) (list_with (to_front i order) i ss t) (front-order (length es) order ss i t h l now))

-- these members are there, and named by the order
abbrev AreNamed : List Rules → (order : List ℕ) → List ℕ → Type 0
AreNamed es order is = Each (λ i. (i < length es) × (list_any (nat_eq i) order ≡ true)) is

-- each of a row is in a row that has all of it
each-in : (count : ℕ) (whole is : List ℕ) → ((k : ℕ) → list_any (nat_eq k) is ≡ true → list_any (nat_eq k) whole ≡ true) → Each (λ i. i < count) is → Each (λ i. (i < count) × (list_any (nat_eq i) whole ≡ true)) is
each-in count whole [] f h = tt
each-in count whole (k ∷ is) f h = ((h.0, f k (any-here k is)), each-in count whole is (λ j q. f j (or-right (nat_eq j k) (list_any (nat_eq j) is) q)) h.1)

-- ---- the open members serve

first-turn : (es : List Rules) (serve : ℕ → Serve) → ((i : ℕ) → StaysOpen (serve i)) → (is order : List ℕ) (ss : States) (cells : Cells) → IsOrdered (length es) (listed order ss) → AreNamed es order is
    → ServedInTurn es (fits es) serve (listed order ss) cells (first_serving serve is (listed order ss) cells)
unfolding first_serving
first-turn es serve stays [] order ss cells h n = none_serves (listed order ss) cells
first-turn es serve stays (i ∷ is) order ss cells h n =
    let was = h.those_open i n.0.0 ∙ n.0.1 in
    let now = stays i (nth_child ss i) cells ∙ was in
    let x = serve i (nth_child ss i) cells in
    by-served x.answer refl was now (first-turn es serve stays is order (set_child ss i x.state) x.cells (kept-order (length es) order ss i x.state h n.0.0 was now) n.1)
  where
    x : After (Option Placed)
    x = serve i (nth_child ss i) cells

    by-served : (a : Option Placed) → x.answer ≡ a → is_open (nth_child ss i) ≡ true → is_open x.state ≡ true → ServedInTurn es (fits es) serve (list_with order i ss x.state) x.cells (first_serving serve is (list_with order i ss x.state) x.cells)
        → ServedInTurn es (fits es) serve (listed order ss) cells (front_answer_or (option_map (from_child (λ b. b) i) a) i (first_serving serve is) (list_with order i ss x.state) x.cells)
    by-served None e was now rest = refuses_then (listed order ss) (list_with order i ss x.state) cells i _ n.0.0 was e (with-kept es order ss i x.state h n.0.0 was now) rest
    by-served (Some p) e was now rest = one_serves (listed order ss) (list_with (to_front i order) i ss x.state) cells i p n.0.0 was e (with-front es order ss i x.state h n.0.0 now)

-- ---- a closed member is opened, and serves

first-within : (k i : ℕ) (ss : States) → first_closed k ss ≡ Some i → i < k + child_count ss
unfolding first_closed
first-within k i no_children h = absurd (cc)
first-within k i (child_and closed ss) h = let e : k ≡ i = cc in omega arith
first-within k i (child_and (open_with own us) ss) h = let l = first-within (suc k) i ss h in omega arith

left-closed : (tried : Bool) (s : State) (i : ℕ) → closed_left tried s ≡ Some i → (child s i ≡ closed) × (i < child_count (children_of s))
left-closed true s i h = (next-is_closed s i h, let l = first-within 0 i (children_of s) h in omega arith)
left-closed false s i h = absurd (cc)

fresh-turn : (es : List Rules) → EachNumber IsRegular es → (serve : ℕ → Serve) → ((i : ℕ) → StaysOpen (serve i)) → (need : ℕ) (order : List ℕ) (ss : States) (cells : Cells) (i : ℕ) (x : Opening) → IsOrdered (length es) (listed order ss) → i < length es
    → nth_child ss i ≡ closed → (nth es i).set_up need cells ≡ x → ServedInTurn es (fits es) serve (listed order ss) cells (ask_fresh i (serve i) x (listed order ss) cells)
fresh-turn es regular serve stays need order ss cells i (Err node) h l shut e = none_serves (listed order ss) cells
fresh-turn es regular serve stays need order ss cells i (Ok o) h l shut e = by-served x.answer refl
  where
    x : After (Option Placed)
    x = serve i o.state o.cells

    by-served : (a : Option Placed) → x.answer ≡ a → ServedInTurn es (fits es) serve (listed order ss) cells (fresh_or (option_map (from_child (λ b. b) i) a) i (listed order ss) cells (list_with order i ss x.state) x.cells)
    by-served None q = none_serves (listed order ss) cells
    by-served (Some p) q =
        new_serves (listed order ss) (list_with (to_front i order) i ss x.state) cells i need o p l shut e q
        (with-front es order ss i x.state h l (stays i o.state o.cells ∙ (regular i).openness.set_up need cells o e))

closed-turn : (es : List Rules) → EachNumber IsRegular es → (serve : ℕ → Serve) → ((i : ℕ) → StaysOpen (serve i)) → (need : ℕ) (order : List ℕ) (ss : States) (cells : Cells) (o : Option ℕ) → IsOrdered (length es) (listed order ss)
    → ((i : ℕ) → o ≡ Some i → (nth_child ss i ≡ closed) × (i < child_count ss)) → ServedInTurn es (fits es) serve (listed order ss) cells (serve_closed o serve (λ i c. (nth es i).set_up need c) (listed order ss) cells)
closed-turn es regular serve stays need order ss cells None h f = none_serves (listed order ss) cells
closed-turn es regular serve stays need order ss cells (Some i) h f =
    let x = f i refl in
    let l = x.1 in
    let c = h.children in
    fresh-turn es regular serve stays need order ss cells i ((nth es i).set_up need cells) h (omega arith) x.0 refl

-- ---- a request

pub list-turn : (es : List Rules) → EachNumber IsRegular es → (tried : Bool) (serve : ℕ → Serve) → ((i : ℕ) → StaysOpen (serve i)) → (need : ℕ) (s : State) (cells : Cells) → fits es s ≡ true
    → ServedInTurn es (fits es) serve s cells (list_allocate tried serve (λ i c. (nth es i).set_up need c) s cells)
list-turn es regular tried serve stays need s cells f =
    by-order es (λ s. ServedInTurn es (fits es) serve s cells (list_allocate tried serve (λ i c. (nth es i).set_up need c) s cells)) s f
    (λ order ss h.
    let s = listed order ss in
    let fresh = serve_fresh tried serve (λ i c. (nth es i).set_up need c) in
    served-or_else es (fits es) serve fresh s cells (first_serving serve order s cells) refl (ordered-test (length es) s h)
    (first-turn es serve stays order order ss cells h (each-in (length es) order order (λ k q. q) h.named))
    (λ o f. by-order es (λ t. ServedInTurn es (fits es) serve t (first_serving serve order s cells).cells (fresh t (first_serving serve order s cells).cells)) (first_serving serve order s cells).state f
    (λ order' ss' h'. closed-turn es regular serve stays need order' ss' (first_serving serve order s cells).cells (closed_left tried (listed order' ss')) h' (λ i q. left-closed tried (listed order' ss') i q))))

-- ---- who owns a block

members-asked : (es : List Rules) → EachNumber IsRegular es → (b : Block) (is order : List ℕ) (ss : States) → IsOrdered (length es) (listed order ss) → AreNamed es order is
    → AskedInTurn es (fits es) b (listed order ss) (owns_members (λ i. (nth es i).owns) is b (listed order ss)).state
unfolding owns_members
members-asked es regular b [] order ss h n = none_asked (listed order ss)
members-asked es regular b (i ∷ is) order ss h n =
    let was = h.those_open i n.0.0 ∙ n.0.1 in
    let now = (regular i).openness.owns b (nth_child ss i) ∙ was in
    let r = (nth es i).owns b (nth_child ss i) in
    by-owned r.owned was now (members-asked es regular b is order (set_child ss i r.state) (kept-order (length es) order ss i r.state h n.0.0 was now) n.1)
  where
    r : Reply
    r = (nth es i).owns b (nth_child ss i)

    by-owned : (x : Bool) → is_open (nth_child ss i) ≡ true → is_open r.state ≡ true → AskedInTurn es (fits es) b (list_with order i ss r.state) (owns_members (λ j. (nth es j).owns) is b (list_with order i ss r.state)).state
        → AskedInTurn es (fits es) b (listed order ss) (front_or x i (owns_members (λ j. (nth es j).owns) is b) (list_with order i ss r.state)).state
    by-owned true was now rest =
        let t = list_with (to_front i order) i ss r.state in asked_then (listed order ss) t t i n.0.0 was (with-front es order ss i r.state h n.0.0 now) (none_asked t)
    by-owned false was now rest = asked_then (listed order ss) (list_with order i ss r.state) _ i n.0.0 was (with-kept es order ss i r.state h n.0.0 was now) rest

pub list-asked : (es : List Rules) → EachNumber IsRegular es → (b : Block) (s : State) → fits es s ≡ true → (fine : Bool) → AskedInTurn es (fits es) b s (owns_if fine (owns_members (λ i. (nth es i).owns) (order_of s)) b s).state
list-asked es regular b s f false = none_asked s
list-asked es regular b s f true =
    by-order es (λ s. AskedInTurn es (fits es) b s (owns_members (λ i. (nth es i).owns) (order_of s) b s).state) s f
    (λ order ss h. members-asked es regular b order order ss h (each-in (length es) order order (λ k q. q) h.named))
