-- A table of names is told by what stands under each name; an entry more, an entry less, and sums.
use Rattle.std.proofs.Common.{◌≡◌, ℕ, zero, suc, ◌+◌, ◌*◌, ◌^◌, ◌<◌, ◌≤◌, Bool, true, false, not, cond, nat_eq, nat_lt, List, [], ◌∷◌, length, Some, None, is_some, refl, sym, ap, subst, ◌∙◌, arith}
use Rattle.std.specs.List.{sum_by}
use Rattle.std.proofs.lemmas.Bool.Decides.{nat_tests}
use Rattle.std.proofs.lemmas.List.Sums.{sum_by-cons}
use Rattle.size_round.specs.Sizes.{limit}
use Rattle.layer_rules.specs.declared.Block.{Block}
use Rattle.layer_rules.specs.Rows.{Each}
use Rattle.heap_core.specs.declared.Named.{Named}
use Rattle.heap_core.specs.Performing.{most_live}
use Rattle.heap_core.specs.Names.{named, named_at, with_named, without_name, name_at, IsTable}

-- ---- rising names, step by step

abbrev pub IsRising : List Named → Type 0
IsRising l = (i j : ℕ) → i < j → j < length l → name_at l i < name_at l j

-- all names are greater than k
abbrev pub Above : ℕ → List Named → Type 0
Above k l = Each (λ (y : Named). k < y.name) l

-- each name is less than those behind it
abbrev pub Ascends : List Named → Type 0
Ascends [] = Unit {0}
Ascends (x ∷ l) = Above x.name l × Ascends l

above_less : (j k : ℕ) (l : List Named) → j ≤ k → Above k l → Above j l
above_less j k [] h a = tt
above_less j k (x ∷ l) h a = (omega (arith, a.0), above_less j k l h a.1)

above_absent : (k q : ℕ) (l : List Named) → q ≤ k → Above k l → named_at l q ≡ None
above_absent k q [] h a = refl
above_absent k q (x ∷ l) h a = grind (arith, nat_tests, a.0, above_absent k q l h a.1)

above_from : (k : ℕ) (l : List Named) → ((j : ℕ) → j < length l → k < name_at l j) → Above k l
above_from k [] h = tt
above_from k (x ∷ l) h = (h 0 (omega arith), above_from k l (λ j b. h (suc j) (omega arith)))

above_at : (k j : ℕ) (l : List Named) → Above k l → j < length l → k < name_at l j
above_at k j [] a h = absurd (omega arith)
above_at k zero (x ∷ l) a h = a.0
above_at k (suc j) (x ∷ l) a h = above_at k j l a.1 (omega arith)

pub ascends_from : (l : List Named) → IsRising l → Ascends l
ascends_from [] h = tt
ascends_from (x ∷ l) h = (above_from x.name l (λ j b. h 0 (suc j) (omega arith) (omega arith)), ascends_from l (λ i j a b. h (suc i) (suc j) (omega arith) (omega arith)))

pub rising_from : (l : List Named) → Ascends l → IsRising l
rising_from [] h i j a b = absurd (omega arith)
rising_from (x ∷ l) h i zero a b = absurd (omega arith)
rising_from (x ∷ l) h zero (suc j) a b = above_at x.name j l h.0 (omega arith)
rising_from (x ∷ l) h (suc i) (suc j) a b = rising_from l h.1 i j (omega arith) (omega arith)

-- ---- an entry more

pub named-with : (x : Named) (l : List Named) (q : ℕ) → named_at l x.name ≡ None → named_at (with_named x l) q ≡ cond (nat_eq x.name q) (Some x.block) (named_at l q)
named-with x [] q h = refl
named-with x (y ∷ l) q h = grind (arith, nat_tests, λ (e : named_at l x.name ≡ None). named-with x l q e)

Each-with : (P : Named → Type 0) (x : Named) (l : List Named) → P x → Each P l → Each P (with_named x l)
Each-with P x [] p h = (p, tt)
Each-with P x (y ∷ l) p h = with_by (Each-with P x l p h.1) (nat_lt x.name y.name)
  where
    with_by : Each P (with_named x l) → (b : Bool) → Each P (cond b (x ∷ y ∷ l) (y ∷ with_named x l))
    with_by i true = (p, h)
    with_by i false = (h.0, i)

-- what holds of each holds of the one that was put in, and of each of the others
pub Each-with-parts : (P : Named → Type 0) (x : Named) (l : List Named) → Each P (with_named x l) → record { one : P x; all : Each P l }
Each-with-parts P x [] h = record { one = h.0; all = tt }
Each-with-parts P x (y ∷ l) h = parts_by (Each-with-parts P x l) (nat_lt x.name y.name) h
  where
    parts_by : (Each P (with_named x l) → record { one : P x; all : Each P l }) → (b : Bool) → Each P (cond b (x ∷ y ∷ l) (y ∷ with_named x l)) → record { one : P x; all : P y × Each P l }
    parts_by i true h = record { one = h.0; all = h.1 }
    parts_by i false h = let r = i h.1 in record { one = r.one; all = (h.0, r.all) }

pub ascends-with : (x : Named) (l : List Named) → named_at l x.name ≡ None → Ascends l → Ascends (with_named x l)
ascends-with x [] e a = (tt, tt)
ascends-with x (y ∷ l) e a = with_by (λ f. ascends-with x l f a.1) (nat_lt x.name y.name) refl
  where
    with_by : (named_at l x.name ≡ None → Ascends (with_named x l)) → (b : Bool) → nat_lt x.name y.name ≡ b → Ascends (cond b (x ∷ y ∷ l) (y ∷ with_named x l))
    with_by i true t =
        let o : x.name < y.name = grind (arith, nat_tests) in
        ((o, above_less x.name y.name l (omega arith) a.0), a)
    with_by i false t =
        let o : y.name < x.name = grind (arith, nat_tests) in
        let f : named_at l x.name ≡ None = grind (arith, nat_tests) in
        (Each-with (λ (z : Named). y.name < z.name) x l o a.0, i f)

-- where the names rise with it, they rise without it, and its name is new
pub ascends-with-parts : (x : Named) (l : List Named) → Ascends (with_named x l) → record { rest : Ascends l; fresh : named_at l x.name ≡ None }
ascends-with-parts x [] a = record { rest = tt; fresh = refl }
ascends-with-parts x (y ∷ l) a = parts_by (ascends-with-parts x l) (nat_lt x.name y.name) a
  where
    parts_by : (Ascends (with_named x l) → record { rest : Ascends l; fresh : named_at l x.name ≡ None }) → (b : Bool) → Ascends (cond b (x ∷ y ∷ l) (y ∷ with_named x l)) → record { rest : Above y.name l × Ascends l; fresh : named_at (y ∷ l) x.name ≡ None }
    parts_by i true a = record { rest = a.1; fresh = above_absent x.name x.name (y ∷ l) (omega arith) a.0 }
    parts_by i false a =
        let r = i a.1 in
        let above = Each-with-parts (λ (z : Named). y.name < z.name) x l a.0 in
        record { rest = (above.all, r.rest); fresh = grind (arith, nat_tests, above.one, r.fresh) }

pub length-with : (x : Named) (l : List Named) → length (with_named x l) ≡ suc (length l)
length-with x [] = refl
length-with x (y ∷ l) = with_by (length-with x l) (nat_lt x.name y.name)
  where
    with_by : length (with_named x l) ≡ suc (length l) → (b : Bool) → length (cond b (x ∷ y ∷ l) (y ∷ with_named x l)) ≡ suc (suc (length l))
    with_by i true = refl
    with_by i false = ap suc i

pub sum-with : (f : Named → ℕ) (x : Named) (l : List Named) → sum_by f (with_named x l) ≡ f x + sum_by f l
sum-with f x [] = sum_by-cons f x []
sum-with f x (y ∷ l) = with_by (sum-with f x l) (nat_lt x.name y.name)
  where
    with_by : sum_by f (with_named x l) ≡ f x + sum_by f l → (b : Bool) → sum_by f (cond b (x ∷ y ∷ l) (y ∷ with_named x l)) ≡ f x + sum_by f (y ∷ l)
    with_by i true = sum_by-cons f x (y ∷ l)
    with_by i false = omega (arith, sum_by-cons f y (with_named x l), sum_by-cons f y l)

-- ---- an entry less

pub named-without : (k : ℕ) (l : List Named) (q : ℕ) → named_at (without_name k l) q ≡ cond (nat_eq k q) None (named_at l q)
named-without k [] q = grind (arith, nat_tests)
named-without k (x ∷ l) q = without_by (named-without k l q) (nat_eq x.name k) refl
  where
    without_by : named_at (without_name k l) q ≡ cond (nat_eq k q) None (named_at l q) → (b : Bool) → nat_eq x.name k ≡ b → named_at (cond (not b) (x ∷ without_name k l) (without_name k l)) q ≡ cond (nat_eq k q) None (named_at (x ∷ l) q)
    without_by i true e = grind (arith, nat_tests)
    without_by i false e = grind (arith, nat_tests)

-- without the name it isn't live
pub without-none : (l : List Named) (k : ℕ) → named_at (without_name k l) k ≡ None
without-none l k = named-without k l k ∙ grind (arith, nat_tests)

Each-without : (P : Named → Type 0) (k : ℕ) (l : List Named) → Each P l → Each P (without_name k l)
Each-without P k [] h = tt
Each-without P k (x ∷ l) h = without_by (Each-without P k l h.1) (nat_eq x.name k)
  where
    without_by : Each P (without_name k l) → (b : Bool) → Each P (cond (not b) (x ∷ without_name k l) (without_name k l))
    without_by i true = i
    without_by i false = (h.0, i)

pub ascends-without : (k : ℕ) (l : List Named) → Ascends l → Ascends (without_name k l)
ascends-without k [] a = tt
ascends-without k (x ∷ l) a = without_by (ascends-without k l a.1) (nat_eq x.name k)
  where
    without_by : Ascends (without_name k l) → (b : Bool) → Ascends (cond (not b) (x ∷ without_name k l) (without_name k l))
    without_by i true = i
    without_by i false = (Each-without (λ (y : Named). x.name < y.name) k l a.0, i)

length-without : (k : ℕ) (l : List Named) → length (without_name k l) ≤ length l
length-without k [] = omega arith
length-without k (x ∷ l) = without_by (length-without k l) (nat_eq x.name k)
  where
    without_by : length (without_name k l) ≤ length l → (b : Bool) → length (cond (not b) (x ∷ without_name k l) (without_name k l)) ≤ suc (length l)
    without_by i true = omega arith
    without_by i false = omega arith

-- without a name that is live there is an entry less
pub without-fewer : (l : List Named) (k : ℕ) → is_some (named_at l k) ≡ true → length (without_name k l) < length l
without-fewer [] k e = absurd (cc)
without-fewer (x ∷ l) k e = fewer_by (nat_eq x.name k) e (without-fewer l k)
  where
    fewer_by : (t : Bool) → is_some (cond t (Some x.block) (named_at l k)) ≡ true → (is_some (named_at l k) ≡ true → length (without_name k l) < length l)
        → length (cond (not t) (x ∷ without_name k l) (without_name k l)) < length (x ∷ l)
    fewer_by true e more = omega (arith, length-without k l)
    fewer_by false e more = omega (arith, more e)

-- without a name that isn't there
pub without-absent : (l : List Named) (k : ℕ) → named_at l k ≡ None → without_name k l ≡ l
without-absent [] k h = refl
without-absent (x ∷ l) k h = grind (arith, nat_tests, without-absent l k)

-- ---- a table is told by what stands under each name

head-same : (x : Named) (l : List Named) (y : Named) (m : List Named) → Above x.name l → Above y.name m → ((q : ℕ) → named_at (x ∷ l) q ≡ named_at (y ∷ m) q) → x ≡ y
head-same x l y m a b h = head_by (grind (arith, nat_tests, h x.name, h y.name, above_absent y.name x.name m, above_absent x.name y.name l))
  where
    head_by : x.name ≡ y.name → x ≡ y
    head_by e =
        let f : Some x.block ≡ Some y.block = grind (arith, nat_tests, h x.name) in
        let g : x.block ≡ y.block = cc in
        λ i. record { name = e i; block = g i }

tail-same : (x : Named) (l m : List Named) → Above x.name l → Above x.name m → ((q : ℕ) → named_at (x ∷ l) q ≡ named_at (x ∷ m) q) → (q : ℕ) → named_at l q ≡ named_at m q
tail-same x l m a b h q = grind (arith, nat_tests, h q, above_absent x.name q l, above_absent x.name q m)

pub same_table : (l m : List Named) → Ascends l → Ascends m → ((q : ℕ) → named_at l q ≡ named_at m q) → l ≡ m
same_table [] [] a b h = refl
same_table [] (y ∷ m) a b h = absurd (let e = h y.name in grind (arith, nat_tests))
same_table (x ∷ l) [] a b h = absurd (let e = h x.name in grind (arith, nat_tests))
same_table (x ∷ l) (y ∷ m) a b h =
    let e : x ≡ y = head-same x l y m a.0 b.0 h in
    let f : (q : ℕ) → named_at (y ∷ l) q ≡ named_at (y ∷ m) q = subst (λ (z : Named). (q : ℕ) → named_at (z ∷ l) q ≡ named_at (y ∷ m) q) e h in
    let g : Above y.name l = subst (λ (z : Named). Above z.name l) e a.0 in
    rw e (ap (λ t. y ∷ t) (same_table l m a.1 b.1 (tail-same y l m g b.0 f)))

-- another block under a name
pub named-replaced : (x : Named) (l : List Named) (q : ℕ) → named_at (with_named x (without_name x.name l)) q ≡ cond (nat_eq x.name q) (Some x.block) (named_at l q)
named-replaced x l q = named-with x (without_name x.name l) q (without-none l x.name) ∙ replaced_by (nat_eq x.name q) (named-without x.name l q)
  where
    replaced_by : (t : Bool) → named_at (without_name x.name l) q ≡ cond t None (named_at l q) → cond t (Some x.block) (named_at (without_name x.name l) q) ≡ cond t (Some x.block) (named_at l q)
    replaced_by true e = refl
    replaced_by false e = e

pub ascends-replaced : (x : Named) (l : List Named) → Ascends l → Ascends (with_named x (without_name x.name l))
ascends-replaced x l a = ascends-with x (without_name x.name l) (without-none l x.name) (ascends-without x.name l a)

-- taken out and put in again it is the same table
pub named-back : (l : List Named) (k : ℕ) (b : Block) → IsRising l → named_at l k ≡ Some b → with_named (named k b) (without_name k l) ≡ l
named-back l k b rising e =
    let x = named k b in
    same_table (with_named x (without_name k l)) l (ascends-replaced x l (ascends_from l rising)) (ascends_from l rising) (λ q. named-replaced x l q ∙ back_by q (nat_eq k q) refl)
  where
    back_by : (q : ℕ) (t : Bool) → nat_eq k q ≡ t → cond t (Some b) (named_at l q) ≡ named_at l q
    back_by q true t = let same : k ≡ q = grind (arith, nat_tests) in sym e ∙ ap (named_at l) same
    back_by q false t = refl

-- ---- tables stay tables

pub table-with : (x : Named) (l : List Named) → IsTable l → named_at l x.name ≡ None → length l < most_live → x.block.len ≤ limit → IsTable (with_named x l)
table-with x l h f m s = record {
  rising = rising_from (with_named x l) (ascends-with x l f (ascends_from l h.rising));
  most = omega (arith, length-with x l);
  short = Each-with (λ y. y.block.len ≤ limit) x l s h.short;
}

pub table-without : (k : ℕ) (l : List Named) → IsTable l → IsTable (without_name k l)
table-without k l h = record {
  rising = rising_from (without_name k l) (ascends-without k l (ascends_from l h.rising));
  most = omega (arith, length-without k l, h.most);
  short = Each-without (λ y. y.block.len ≤ limit) k l h.short;
}

pub table-replaced : (x : Named) (l : List Named) → IsTable l → is_some (named_at l x.name) ≡ true → x.block.len ≤ limit → IsTable (with_named x (without_name x.name l))
table-replaced x l h live s = table-with x (without_name x.name l) (table-without x.name l h) (without-none l x.name) (omega (arith, without-fewer l x.name live, h.most)) s

-- ---- sums over the table

-- a sum of lengths that a layer serves is at most as many times the greatest as there are entries
sum-bound : (f : Named → ℕ) (l : List Named) → Each (λ x. f x ≤ limit) l → sum_by f l ≤ length l * limit
sum-bound f [] h = omega arith
sum-bound f (x ∷ l) h = let more = sum_by-cons f x l in omega (arith, h.0, sum-bound f l h.1)

-- so it fits a word
pub sum-fits : (f : Named → ℕ) (l : List Named) → IsTable l → Each (λ x. f x ≤ limit) l → sum_by f l < 2 ^ 64
sum-fits f l h short = omega (arith, sum-bound f l short, h.most)
