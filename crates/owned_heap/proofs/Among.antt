-- Among: what holds of each live block, of a live one and the others, and after an event.
use Rattle.std.proofs.Common.{◌≡◌, ◌≢◌, refl, sym, ap, subst, ◌∙◌, ℕ, Bool, true, false, not, ◌&&◌, ◌||◌, nat_eq, cond, ◌⊎◌, inl, inr, List, [], ◌∷◌, map, length, arith}
use Rattle.std.proofs.lemmas.Bool.Decides.{nat_tests}
use Rattle.layer_rules.specs.Rows.{Each, EachPair}
use Rattle.owned_heap.specs.Ticket.{Ticket}
use Rattle.owned_heap.specs.Events.{is_same, made, is_live, without, live_of}
use Rattle.owned_heap.specs.declared.block.Event.{Event}
use Rattle.owned_heap.specs.declared.block.Event.TheVariants.{Made, Gone, Emptied}

-- the block is one of these
abbrev pub IsAmong : List Ticket → Ticket → Type 0
IsAmong [] b = ⊥
IsAmong (x ∷ xs) b = (x ≡ b) ⊎ IsAmong xs b

pub each-from : (P Q : Ticket → Type 0) (l : List Ticket) → ((b : Ticket) → P b → Q b) → Each P l → Each Q l
each-from P Q [] f h = tt
each-from P Q (x ∷ l) f h = (f x h.0, each-from P Q l f h.1)

pub each-both : (P Q R : Ticket → Type 0) (l : List Ticket) → ((b : Ticket) → P b → Q b → R b) → Each P l → Each Q l → Each R l
each-both P Q R [] f h k = tt
each-both P Q R (x ∷ l) f h k = (f x h.0 k.0, each-both P Q R l f h.1 k.1)

-- what two blocks of which P holds make of R
pub each_pair-under : (P : Ticket → Type 0) (R S : Ticket → Ticket → Type 0) (l : List Ticket) → ((b c : Ticket) → P b → P c → R b c → S b c) → Each P l → EachPair R l → EachPair S l
each_pair-under P R S [] f h k = tt
each_pair-under P R S (b ∷ l) f h k = (each-both P (R b) (S b) l (λ c p r. f b c h.0 p r) h.1 k.0, each_pair-under P R S l f h.1 k.1)

pub each_pair-from : (R S : Ticket → Ticket → Type 0) (l : List Ticket) → ((b c : Ticket) → R b c → S b c) → EachPair R l → EachPair S l
each_pair-from R S [] f h = tt
each_pair-from R S (x ∷ l) f h = (each-from (R x) (S x) l (f x) h.0, each_pair-from R S l f h.1)

pub each-among : (P : Ticket → Type 0) (l : List Ticket) (b : Ticket) → Each P l → IsAmong l b → P b
each-among P [] b h k = absurd k
each-among P (x ∷ l) b h (inl e) = subst P e h.0
each-among P (x ∷ l) b h (inr k) = each-among P l b h.1 k

-- a live block against each: it is that block, or R holds
pub among-pairs : (R : Ticket → Ticket → Type 0) → ((b c : Ticket) → R b c → R c b) → (l : List Ticket) (b : Ticket) → EachPair R l → IsAmong l b → Each (λ (c : Ticket). (c ≡ b) ⊎ R b c) l
among-pairs R flip [] b h k = tt
among-pairs R flip (x ∷ l) b h (inl e) =
    subst (λ (a : Ticket). Each (λ (c : Ticket). (c ≡ a) ⊎ R a c) (x ∷ l)) e (inl refl, each-from (R x) (λ (c : Ticket). (c ≡ x) ⊎ R x c) l (λ c r. inr r) h.0)
among-pairs R flip (x ∷ l) b h (inr k) = (inr (flip x b (each-among (R x) l b h.0 k)), among-pairs R flip l b h.1 k)

-- ---- the same block

both-of : (a b : Bool) → (a && b) ≡ true → (a ≡ true) × (b ≡ true)
both-of true b h = (refl, h)
both-of false b h = absurd (cc)

pub same-self : (x : Ticket) → is_same x x ≡ true
same-self x = grind (arith, nat_tests)

ticket-is : (x b : Ticket) → x.number ≡ b.number → x.block.place ≡ b.block.place → x.block.len ≡ b.block.len → x ≡ b
ticket-is x b n p k =
    let put : ℕ → ℕ → ℕ → Ticket = λ number place len. record { number = number; block = record { place = place; len = len } } in
    ap (λ number. put number x.block.place x.block.len) n ∙ (ap (λ place. put b.number place x.block.len) p ∙ ap (λ len. put b.number b.block.place len) k)

pub same-is : (x b : Ticket) → is_same x b ≡ true → x ≡ b
same-is x b h =
    let p : (nat_eq x.number b.number ≡ true) × ((nat_eq x.block.place b.block.place && nat_eq x.block.len b.block.len) ≡ true) = both-of _ _ h in
    let q : (nat_eq x.block.place b.block.place ≡ true) × (nat_eq x.block.len b.block.len ≡ true) = both-of _ _ p.1 in
    ticket-is x b (grind (arith, nat_tests)) (grind (arith, nat_tests)) (grind (arith, nat_tests))

pub not_same : (x b : Ticket) → is_same x b ≡ false → b ≢ x
not_same x b h e = let s : is_same x b ≡ true = subst (λ (c : Ticket). is_same x c ≡ true) (sym e) (same-self x) in absurd (cc)

pub other_number : (x b : Ticket) → b.number ≢ x.number → is_same x b ≡ false
other_number x b n = grind (arith, nat_tests)

-- ---- a block is given back

each-cons : (P : Ticket → Type 0) (x y : Ticket) (l : List Ticket) (t : Bool) → is_same x y ≡ t → (y ≢ x → P y) → Each P l → Each P (cond (not t) (y ∷ l) l)
each-cons P x y l true e f h = h
each-cons P x y l false e f h = (f (not_same x y e), h)

pub each-without : (P : Ticket → Type 0) (x : Ticket) (l : List Ticket) → Each (λ (b : Ticket). b ≢ x → P b) l → Each P (without x l)
each-without P x [] h = tt
each-without P x (y ∷ l) h = each-cons P x y (without x l) _ refl h.0 (each-without P x l h.1)

each_pair-cons : (R : Ticket → Ticket → Type 0) (y : Ticket) (l : List Ticket) (t : Bool) → Each (R y) l → EachPair R l → EachPair R (cond (not t) (y ∷ l) l)
each_pair-cons R y l true p h = h
each_pair-cons R y l false p h = (p, h)

pub each_pair-without : (R : Ticket → Ticket → Type 0) (x : Ticket) (l : List Ticket) → EachPair R l → EachPair R (without x l)
each_pair-without R x [] h = tt
each_pair-without R x (y ∷ l) h =
    each_pair-cons R y (without x l) (is_same x y)
    (each-without (R y) x l (each-from (R y) (λ (b : Ticket). b ≢ x → R y b) l (λ b r n. r) h.0)) (each_pair-without R x l h.1)

among-cons : (x y : Ticket) (l : List Ticket) (c : Ticket) (t : Bool) → is_same x y ≡ t → is_same x c ≡ false → (y ≡ c) ⊎ IsAmong l c → IsAmong (cond (not t) (y ∷ l) l) c
among-cons x y l c true q n (inl e) = let s : is_same x c ≡ true = subst (λ (b : Ticket). is_same x b ≡ true) e q in absurd (cc)
among-cons x y l c true q n (inr k) = k
among-cons x y l c false q n k = k

-- another block is live still
pub among-without : (x : Ticket) (l : List Ticket) (c : Ticket) → is_same x c ≡ false → IsAmong l c → IsAmong (without x l) c
among-without x [] c n k = k
among-without x (y ∷ l) c n (inl e) = among-cons x y (without x l) c (is_same x y) refl n (inl e)
among-without x (y ∷ l) c n (inr k) = among-cons x y (without x l) c (is_same x y) refl n (inr (among-without x l c n k))

either-of : (a b : Bool) → (a || b) ≡ true → (a ≡ true) ⊎ (b ≡ true)
either-of true b h = inl refl
either-of false b h = inr h

not-of : (a : Bool) → not a ≡ true → a ≡ false
not-of true h = absurd (cc)
not-of false h = refl

-- the live blocks are those of the list
pub live-among : (events : List Event) (b : Ticket) → is_live events b ≡ true → IsAmong (live_of events) b
live-among [] b h = absurd (cc)
live-among (Made x ∷ events) b h = elim (either-of (is_same x b) (is_live events b) h) [ inl e ↦ inl (same-is x b e) | inr k ↦ inr (live-among events b k) ]
live-among (Gone x ∷ events) b h = let p = both-of _ _ h in among-without x (live_of events) b (not-of _ p.0) (live-among events b p.1)
live-among (Emptied ∷ events) b h = absurd (cc)

-- a birth for each element
pub births-made : (x : Ticket) (l : List (Unit {0})) → made (map (λ _. Made x) l) ≡ length l
births-made x [] = refl
births-made x (y ∷ l) = let rest : made (map (λ _. Made x) l) ≡ length l = births-made x l in omega (arith, rest)
