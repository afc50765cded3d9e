-- A table whose parts are the entries of a map and others: what stands under each name, and what a change of a part does.
use Rattle.std.proofs.Common.{◌≡◌, ℕ, suc, ◌+◌, Bool, true, false, not, cond, nat_eq, List, [], ◌∷◌, ◌++◌, length, Option, Some, None, is_some, find, refl, sym, ap, ◌∙◌, arith}
use Rattle.std.specs.List.{IsDistinct, AllByRecursion, sum_by}
use Rattle.std.specs.Map.{keys_of, values_of, lookup}
use Rattle.std.specs.Option.{option_map}
use Rattle.std.proofs.lemmas.Bool.Decides.{nat_tests}
use Rattle.std.proofs.lemmas.List.Sums.{sum_by-cons}
use Rattle.std.proofs.lemmas.Map.Keys.{IsDistinct-head, IsDistinct-tail}
use Rattle.layer_rules.specs.declared.Block.{Block}
use Rattle.layer_rules.specs.Rows.{Each}
use Rattle.heap_core.specs.declared.Named.{Named}
use Rattle.heap_core.specs.Names.{named, named_at, with_named, without_name, in_order, together, IsTable}
use Rattle.heap_core.proofs.NameLemmas.{Ascends, ascends_from, ascends-with, ascends-with-parts, ascends-without, ascends-replaced, named-with, named-without, named-replaced, length-with, sum-with, Each-with-parts, same_table}

-- ---- blocks put in order

-- no two blocks have a name
abbrev pub HaveOwnNames : List Named → Type 0
HaveOwnNames [] = Unit {0}
HaveOwnNames (x ∷ l) = (named_at l x.name ≡ None) × HaveOwnNames l

-- the names rise, and under each name stands what stood there
pub record IsPutInOrder (l : List Named) : Type 0 where
  pub ascends : Ascends (in_order l)
  pub at : (q : ℕ) → named_at (in_order l) q ≡ named_at l q

pub put_in_order : (l : List Named) → HaveOwnNames l → IsPutInOrder l
put_in_order [] own = record { ascends = tt; at = λ q. refl }
put_in_order (x ∷ l) own =
    let o = put_in_order l own.1 in
    let fresh : named_at (in_order l) x.name ≡ None = o.at x.name ∙ own.0 in
    record { ascends = ascends-with x (in_order l) fresh o.ascends; at = λ q. named-with x (in_order l) q fresh ∙ ap (cond (nat_eq x.name q) (Some x.block)) (o.at q) }

own_names : (l : List Named) → Ascends (in_order l) → HaveOwnNames l
own_names [] a = tt
own_names (x ∷ l) a =
    let parts = ascends-with-parts x (in_order l) a in
    let own = own_names l parts.rest in
    (sym ((put_in_order l own).at x.name) ∙ parts.fresh, own)

pub table_own : (l : List Named) → IsTable (in_order l) → HaveOwnNames l
table_own l table = own_names l (ascends_from (in_order l) table.rising)

length-in_order : (l : List Named) → length (in_order l) ≡ length l
length-in_order [] = refl
length-in_order (x ∷ l) = length-with x (in_order l) ∙ ap suc (length-in_order l)

sum-in_order : (f : Named → ℕ) (l : List Named) → sum_by f (in_order l) ≡ sum_by f l
sum-in_order f [] = refl
sum-in_order f (x ∷ l) = omega (arith, sum-with f x (in_order l), sum_by-cons f x l, sum-in_order f l)

each-in_order : (P : Named → Type 0) (l : List Named) → Each P (in_order l) → Each P l
each-in_order P [] h = tt
each-in_order P (x ∷ l) h = let parts = Each-with-parts P x (in_order l) h in (parts.one, each-in_order P l parts.all)

-- ---- the entries of a map and the others

-- what the map has under a name, or else what the others have
abbrev pub either : Option Block → Option Block → Option Block
either None o = o
either (Some b) o = Some b

named-together : (es : List (ℕ × Block)) (others : List Named) (q : ℕ) → named_at (together es others) q ≡ either (lookup (nat_eq q) es) (named_at others q)
named-together [] others q = refl
named-together (e ∷ es) others q = named_by (named-together es others q) (nat_eq q e.0) refl
  where
    named_by : named_at (together es others) q ≡ either (lookup (nat_eq q) es) (named_at others q) → (t : Bool) → nat_eq q e.0 ≡ t → named_at (together (e ∷ es) others) q ≡ either (cond t (Some e.1) (lookup (nat_eq q) es)) (named_at others q)
    named_by i true t = grind (arith, nat_tests)
    named_by i false t = grind (arith, nat_tests)

-- so under a name of a table stands what the map has, or else what the others have
pub named-parts : (es : List (ℕ × Block)) (others : List Named) → IsTable (in_order (together es others)) → (q : ℕ) → named_at (in_order (together es others)) q ≡ either (lookup (nat_eq q) es) (named_at others q)
named-parts es others table q = (put_in_order (together es others) (table_own (together es others) table)).at q ∙ named-together es others q

-- a name of the map is none of the others'
abbrev AreApart : List (ℕ × Block) → List Named → Type 0
AreApart es others = (q : ℕ) → is_some (lookup (nat_eq q) es) ≡ true → named_at others q ≡ None

pub others_own : (es : List (ℕ × Block)) (others : List Named) → HaveOwnNames (together es others) → HaveOwnNames others
others_own [] others own = own
others_own (e ∷ es) others own = others_own es others own.1

none_in_either : (a b : Option Block) → either a b ≡ None → record { one : a ≡ None; two : b ≡ None }
none_in_either None b e = record { one = refl; two = e }
none_in_either (Some x) b e = absurd (cc)

-- a name that isn't live is in neither part
pub absent : (es : List (ℕ × Block)) (others : List Named) (k : ℕ) → named_at (together es others) k ≡ None → record { one : lookup (nat_eq k) es ≡ None; two : named_at others k ≡ None }
absent es others k e = none_in_either (lookup (nat_eq k) es) (named_at others k) (sym (named-together es others k) ∙ e)

pub are_apart : (es : List (ℕ × Block)) (others : List Named) → HaveOwnNames (together es others) → AreApart es others
are_apart [] others own q s = absurd (cc)
are_apart (e ∷ es) others own q s = apart_by (are_apart es others own.1 q) (nat_eq q e.0) refl s
  where
    apart_by : (is_some (lookup (nat_eq q) es) ≡ true → named_at others q ≡ None) → (t : Bool) → nat_eq q e.0 ≡ t → is_some (cond t (Some e.1) (lookup (nat_eq q) es)) ≡ true → named_at others q ≡ None
    apart_by i true t s = let same : e.0 ≡ q = grind (arith, nat_tests) in ap (named_at others) (sym same) ∙ (absent es others e.0 own.0).two
    apart_by i false t s = i s

together_own : (es : List (ℕ × Block)) (others : List Named) → IsDistinct nat_eq (keys_of es) → HaveOwnNames others → AreApart es others → HaveOwnNames (together es others)
together_own [] others distinct own apart = own
together_own (e ∷ es) others distinct own apart =
    let here : is_some (lookup (nat_eq e.0) (e ∷ es)) ≡ true = grind (arith, nat_tests) in
    let none = lookup-absent e.0 es (IsDistinct-head nat_eq e.0 (keys_of es) distinct) in
    (named-together es others e.0 ∙ rw none (apart e.0 here), together_own es others (IsDistinct-tail nat_eq e.0 (keys_of es) distinct) own (λ q s. apart q (still q (nat_eq q e.0) s)))
  where
    lookup-absent : (k : ℕ) (es : List (ℕ × Block)) → AllByRecursion (λ y. nat_eq k y ≡ false) (keys_of es) → lookup (nat_eq k) es ≡ None
    lookup-absent k [] h = refl
    lookup-absent k (e ∷ es) h = rw (h.0) (lookup-absent k es h.1)

    still : (q : ℕ) (t : Bool) → is_some (lookup (nat_eq q) es) ≡ true → is_some (cond t (Some e.1) (lookup (nat_eq q) es)) ≡ true
    still q true s = refl
    still q false s = s

length-together : (es : List (ℕ × Block)) (others : List Named) → length (together es others) ≡ length es + length others
length-together [] others = omega arith
length-together (e ∷ es) others = omega (arith, length-together es others)

-- a table is as long as its parts
pub length-parts : (es : List (ℕ × Block)) (others : List Named) → length es + length others ≡ length (in_order (together es others))
length-parts es others = sym (length-in_order (together es others) ∙ length-together es others)

sum-together : (f : Block → ℕ) (es : List (ℕ × Block)) (others : List Named) → sum_by (λ (x : Named). f x.block) (together es others) ≡ sum_by f (values_of es) + sum_by (λ (x : Named). f x.block) others
sum-together f [] others = omega arith
sum-together f (e ∷ es) others = omega (arith, sum-together f es others, sum_by-cons f e.1 (values_of es), sum_by-cons (λ (x : Named). f x.block) (named e.0 e.1) (together es others))

-- a sum over a table is the sum over its parts
pub sum-parts : (f : Block → ℕ) (es : List (ℕ × Block)) (others : List Named) → sum_by f (values_of es) + sum_by (λ (x : Named). f x.block) others ≡ sum_by (λ (x : Named). f x.block) (in_order (together es others))
sum-parts f es others = sym (sum-in_order (λ (x : Named). f x.block) (together es others) ∙ sum-together f es others)

-- what holds of each block of a table holds of each in a part
pub each-together : (P : Block → Type 0) (es : List (ℕ × Block)) (others : List Named) → Each (λ (x : Named). P x.block) (in_order (together es others)) → record { map : Each P (values_of es); others : Each (λ (x : Named). P x.block) others }
each-together P es others h = parts es (each-in_order (λ (x : Named). P x.block) (together es others) h)
  where
    parts : (es : List (ℕ × Block)) → Each (λ (x : Named). P x.block) (together es others) → record { map : Each P (values_of es); others : Each (λ (x : Named). P x.block) others }
    parts [] h = record { map = tt; others = h }
    parts (e ∷ es) h = let r = parts es h.1 in record { map = (h.0, r.map); others = r.others }

-- ---- what a change does

-- under the name stands w, and under each other name what stood there
pub record PutsAt (k : ℕ) (w : Option Block) (l m : List Named) : Type 0 where
  pub own : HaveOwnNames m
  pub at : (q : ℕ) → named_at m q ≡ cond (nat_eq k q) w (named_at l q)

pub map-puts : (k : ℕ) (w : Option Block) (es ns : List (ℕ × Block)) (others : List Named) → HaveOwnNames (together es others) → IsDistinct nat_eq (keys_of ns) → named_at others k ≡ None
    → ((q : ℕ) → lookup (nat_eq q) ns ≡ cond (nat_eq k q) w (lookup (nat_eq q) es)) → PutsAt k w (together es others) (together ns others)
map-puts k w es ns others own distinct free updates = record {
  own = together_own ns others distinct (others_own es others own) (λ q s. apart q (nat_eq k q) refl (ap is_some (sym (updates q)) ∙ s));
  at = λ q. named-together ns others q ∙ (ap (λ o. either o (named_at others q)) (updates q) ∙ (at q (nat_eq k q) refl w ∙ ap (cond (nat_eq k q) w) (sym (named-together es others q))));
}
  where
    none : (q : ℕ) → nat_eq k q ≡ true → named_at others q ≡ None
    none q t = let same : k ≡ q = grind (arith, nat_tests) in ap (named_at others) (sym same) ∙ free

    apart : (q : ℕ) (t : Bool) → nat_eq k q ≡ t → is_some (cond t w (lookup (nat_eq q) es)) ≡ true → named_at others q ≡ None
    apart q true t s = none q t
    apart q false t s = are_apart es others own q s

    at : (q : ℕ) (t : Bool) → nat_eq k q ≡ t → (w : Option Block) → either (cond t w (lookup (nat_eq q) es)) (named_at others q) ≡ cond t w (either (lookup (nat_eq q) es) (named_at others q))
    at q true t None = none q t
    at q true t (Some b) = refl
    at q false t w = refl

pub others-put : (k : ℕ) (w : Option Block) (es : List (ℕ × Block)) (others new : List Named) → HaveOwnNames (together es others) → IsDistinct nat_eq (keys_of es) → lookup (nat_eq k) es ≡ None
    → PutsAt k w others new → PutsAt k w (together es others) (together es new)
others-put k w es others new own distinct free puts = record {
  own = together_own es new distinct puts.own (λ q s. puts.at q ∙ apart q (nat_eq k q) refl s);
  at = λ q. named-together es new q ∙ (ap (either (lookup (nat_eq q) es)) (puts.at q) ∙ (at q (nat_eq k q) refl ∙ ap (cond (nat_eq k q) w) (sym (named-together es others q))));
}
  where
    none : (q : ℕ) → nat_eq k q ≡ true → lookup (nat_eq q) es ≡ None
    none q t = let same : k ≡ q = grind (arith, nat_tests) in ap (λ j. lookup (nat_eq j) es) (sym same) ∙ free

    apart : (q : ℕ) (t : Bool) → nat_eq k q ≡ t → is_some (lookup (nat_eq q) es) ≡ true → cond t w (named_at others q) ≡ None
    apart q true t s = let n = none q t in absurd (cc)
    apart q false t s = are_apart es others own q s

    at : (q : ℕ) (t : Bool) → nat_eq k q ≡ t → either (lookup (nat_eq q) es) (cond t w (named_at others q)) ≡ cond t w (either (lookup (nat_eq q) es) (named_at others q))
    at q true t = rw (none q t) refl
    at q false t = refl

named-behind : (x : Named) (l : List Named) (q : ℕ) → named_at l x.name ≡ None → named_at (l ++ x ∷ []) q ≡ cond (nat_eq x.name q) (Some x.block) (named_at l q)
named-behind x [] q h = refl
named-behind x (y ∷ l) q h = grind (arith, nat_tests, λ (e : named_at l x.name ≡ None). named-behind x l q e)

own-behind : (x : Named) (l : List Named) → HaveOwnNames l → named_at l x.name ≡ None → HaveOwnNames (l ++ x ∷ [])
own-behind x [] own h = (refl, tt)
own-behind x (y ∷ l) own h =
    let apart : nat_eq y.name x.name ≡ false = grind (arith, nat_tests) in
    let fresh : named_at l x.name ≡ None = grind (arith, nat_tests) in
    (named-behind x l y.name fresh ∙ grind (arith, nat_tests, own.0), own-behind x l own.1 fresh)

-- a block behind the others
pub behind-puts : (x : Named) (l : List Named) → HaveOwnNames l → named_at l x.name ≡ None → PutsAt x.name (Some x.block) l (l ++ x ∷ [])
behind-puts x l own h = record { own = own-behind x l own h; at = λ q. named-behind x l q h }

own-taken : (t : Bool) (o : Option Block) → o ≡ None → cond t None o ≡ None
own-taken true o e = refl
own-taken false o e = e

-- a name is taken out of the others
pub without-puts : (k : ℕ) (l : List Named) → HaveOwnNames l → PutsAt k None l (without_name k l)
without-puts k l own = record { own = own-without l own; at = named-without k l }
  where
    own-without : (l : List Named) → HaveOwnNames l → HaveOwnNames (without_name k l)
    own-without [] own = tt
    own-without (x ∷ l) own = own_by (own-without l own.1) (nat_eq x.name k)
      where
        own_by : HaveOwnNames (without_name k l) → (t : Bool) → HaveOwnNames (cond (not t) (x ∷ without_name k l) (without_name k l))
        own_by i true = i
        own_by i false = (named-without k l x.name ∙ own-taken (nat_eq k x.name) (named_at l x.name) own.0, i)

-- ---- the table after a change

pub with-put : (x : Named) (l m : List Named) → HaveOwnNames l → named_at l x.name ≡ None → PutsAt x.name (Some x.block) l m → in_order m ≡ with_named x (in_order l)
with-put x l m own fresh puts =
    let old = put_in_order l own in
    let new = put_in_order m puts.own in
    let f : named_at (in_order l) x.name ≡ None = old.at x.name ∙ fresh in
    same_table (in_order m) (with_named x (in_order l)) new.ascends (ascends-with x (in_order l) f old.ascends)
    (λ q. new.at q ∙ (puts.at q ∙ (ap (cond (nat_eq x.name q) (Some x.block)) (sym (old.at q)) ∙ sym (named-with x (in_order l) q f))))

pub without-put : (k : ℕ) (l m : List Named) → HaveOwnNames l → PutsAt k None l m → in_order m ≡ without_name k (in_order l)
without-put k l m own puts =
    let old = put_in_order l own in
    let new = put_in_order m puts.own in
    same_table (in_order m) (without_name k (in_order l)) new.ascends (ascends-without k (in_order l) old.ascends)
    (λ q. new.at q ∙ (puts.at q ∙ (ap (cond (nat_eq k q) None) (sym (old.at q)) ∙ sym (named-without k (in_order l) q))))

pub replaced-put : (x : Named) (l m : List Named) → HaveOwnNames l → PutsAt x.name (Some x.block) l m → in_order m ≡ with_named x (without_name x.name (in_order l))
replaced-put x l m own puts =
    let old = put_in_order l own in
    let new = put_in_order m puts.own in
    same_table (in_order m) (with_named x (without_name x.name (in_order l))) new.ascends (ascends-replaced x (in_order l) old.ascends)
    (λ q. new.at q ∙ (puts.at q ∙ (ap (cond (nat_eq x.name q) (Some x.block)) (sym (old.at q)) ∙ sym (named-replaced x (in_order l) q))))

-- ---- a look-up among some blocks

pub find-named : (k : ℕ) (l : List Named) → option_map (λ (x : Named). x.block) (find (λ (x : Named). nat_eq x.name k) l) ≡ named_at l k
find-named k [] = refl
find-named k (x ∷ l) = find_by (nat_eq x.name k) (find-named k l)
  where
    find_by : (t : Bool) → option_map (λ (x : Named). x.block) (find (λ (x : Named). nat_eq x.name k) l) ≡ named_at l k → option_map (λ (x : Named). x.block) (cond t (Some x) (find (λ (x : Named). nat_eq x.name k) l)) ≡ cond t (Some x.block) (named_at l k)
    find_by true i = refl
    find_by false i = i
