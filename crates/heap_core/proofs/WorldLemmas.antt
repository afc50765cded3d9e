-- The live blocks by name: what is live, what holds of each block of a table, and the world of a table.
use Rattle.std.proofs.Common.{◌≡◌, ◌≢◌, refl, ap, subst, ◌∙◌, ℕ, Bool, true, false, not, nat_eq, nat_lt, cond, if◌then◌else◌, List, [], ◌∷◌, length, Option, Some, None, is_some, arith}
use Rattle.std.proofs.lemmas.List.{length-map}
use Rattle.std.proofs.lemmas.Bool.Decides.{nat_tests}
use Rattle.space_core.specs.Memory.{Memory}
use Rattle.layer_rules.specs.declared.Block.{Block}
use Rattle.layer_rules.specs.Layering.{LayerModel}
use Rattle.layer_laws.specs.Standing.{route_of}
use Rattle.layer_rules.specs.Rows.{Each, EachPair}
use Rattle.heap_core.specs.declared.Named.{Named}
use Rattle.heap_core.specs.World.{World, Live, live_at, is_live, with_live, without}
use Rattle.heap_core.specs.Names.{named, named_at, with_named, without_name}
use Rattle.heap_core.specs.Holding.{live_in, world_of}

-- ---- what is live

pub live-with_same : (x : Live) (w : World) → live_at w x.name ≡ None → live_at (with_live x w) x.name ≡ Some x
live-with_same x [] h = grind (arith, nat_tests)
live-with_same x (y ∷ w) h = grind (arith, nat_tests, live-with_same x w)

pub live-with_other : (x : Live) (w : World) (other : ℕ) → other ≢ x.name → live_at (with_live x w) other ≡ live_at w other
live-with_other x [] other h = grind (arith, nat_tests)
live-with_other x (y ∷ w) other h = grind (arith, nat_tests, live-with_other x w other h)

pub live-without_same : (name : ℕ) (w : World) → live_at (without name w) name ≡ None
live-without_same name [] = refl
live-without_same name (y ∷ w) = grind (arith, nat_tests, live-without_same name w)

pub live-without_other : (name : ℕ) (w : World) (other : ℕ) → other ≢ name → live_at (without name w) other ≡ live_at w other
live-without_other name [] other h = refl
live-without_other name (y ∷ w) other h = grind (arith, nat_tests, live-without_other name w other h)

-- ---- the world of a table

pub length-world : (t : LayerModel) (table : List Named) (m : Memory) → length (world_of t table m) ≡ length table
length-world t table m = length-map table (live_in t m)

pub is_live-world : (t : LayerModel) (table : List Named) (m : Memory) (name : ℕ) → is_live (world_of t table m) name ≡ is_some (named_at table name)
is_live-world t [] m name = refl
is_live-world t (x ∷ table) m name = grind (arith, nat_tests, is_live-world t table m name)

pub live-none : (t : LayerModel) (table : List Named) (m : Memory) (name : ℕ) → named_at table name ≡ None → live_at (world_of t table m) name ≡ None
live-none t [] m name h = refl
live-none t (x ∷ table) m name h = grind (arith, nat_tests, live-none t table m name)

live-some_here : (t : LayerModel) (x : Named) (m : Memory) (name : ℕ) (b : Block) → x.name ≡ name → x.block ≡ b → live_in t m x ≡ live_in t m (named name b)
live-some_here t x m name b n e = ap (λ k. live_in t m (named k x.block)) n ∙ ap (λ c. live_in t m (named name c)) e

pub live-some : (t : LayerModel) (table : List Named) (m : Memory) (name : ℕ) (b : Block) → named_at table name ≡ Some b → live_at (world_of t table m) name ≡ Some (live_in t m (named name b))
live-some t [] m name b h = absurd (cc)
live-some t (x ∷ table) m name b h = grind (arith, nat_tests, live-some t table m name b, live-some_here t x m name b)

pub world-with : (t : LayerModel) (x : Named) (table : List Named) (m : Memory) → world_of t (with_named x table) m ≡ with_live (live_in t m x) (world_of t table m)
world-with t x [] m = refl
world-with t x (y ∷ table) m = grind (arith, nat_tests, world-with t x table m)

pub world-without : (t : LayerModel) (name : ℕ) (table : List Named) (m : Memory) → world_of t (without_name name table) m ≡ without name (world_of t table m)
world-without t name [] m = refl
world-without t name (y ∷ table) m = grind (arith, nat_tests, world-without t name table m)

-- where each live block's bytes and its route stay, the world is the same
pub world-same : (t t' : LayerModel) (table : List Named) (m m' : Memory) → Each (λ (x : Named). live_in t' m' x ≡ live_in t m x) table → world_of t' table m' ≡ world_of t table m
world-same t t' [] m m' h = refl
world-same t t' (x ∷ table) m m' h = ap (λ y. y ∷ world_of t' table m') h.0 ∙ ap (λ w. live_in t m x ∷ w) (world-same t t' table m m' h.1)

-- ---- what holds of each element

pub each-from : {X : Type 0} (P Q : X → Type 0) (l : List X) → ((x : X) → P x → Q x) → Each P l → Each Q l
each-from P Q [] f h = tt
each-from P Q (x ∷ l) f h = (f x h.0, each-from P Q l f h.1)

pub each-both : {X : Type 0} (P Q R : X → Type 0) (l : List X) → ((x : X) → P x → Q x → R x) → Each P l → Each Q l → Each R l
each-both P Q R [] f h k = tt
each-both P Q R (x ∷ l) f h k = (f x h.0 k.0, each-both P Q R l f h.1 k.1)

pub each_pair-from : {X : Type 0} (R S : X → X → Type 0) (l : List X) → ((x y : X) → R x y → S x y) → EachPair R l → EachPair S l
each_pair-from R S [] f h = tt
each_pair-from R S (x ∷ l) f h = (each-from (R x) (S x) l (f x) h.0, each_pair-from R S l f h.1)

-- what two elements of which P holds make of R
pub each_pair-under : {X : Type 0} (P : X → Type 0) (R S : X → X → Type 0) (l : List X) → ((x y : X) → P x → P y → R x y → S x y) → Each P l → EachPair R l → EachPair S l
each_pair-under P R S [] f h k = tt
each_pair-under P R S (x ∷ l) f h k = (each-both P (R x) (S x) l (λ y p r. f x y h.0 p r) h.1 k.0, each_pair-under P R S l f h.1 k.1)

pub each-world : (P : Block → Type 0) (t : LayerModel) (table : List Named) (m : Memory) → Each (λ (x : Named). P x.block) table → Each (λ (x : Live). P x.block) (world_of t table m)
each-world P t [] m h = tt
each-world P t (x ∷ table) m h = (h.0, each-world P t table m h.1)

-- each is live on the route that the root finds
pub found-world : (t : LayerModel) (table : List Named) (m : Memory) (routes : Block → List ℕ) → ((b : Block) → route_of t m b ≡ routes b) → Each (λ (x : Live). x.route ≡ routes x.block) (world_of t table m)
found-world t [] m routes h = tt
found-world t (x ∷ table) m routes h = (h x.block, found-world t table m routes h)

-- the block of a live name is one of the table
each-here : (P : Block → Type 0) (x : Named) (rest : Option Block) (b : Block) (t : Bool) → P x.block → (rest ≡ Some b → P b) → (if t then Some x.block else rest) ≡ Some b → P b
each-here P x rest b true p q e = let same : x.block ≡ b = cc in subst P same p
each-here P x rest b false p q e = q e

pub each-at : (P : Block → Type 0) (table : List Named) (name : ℕ) (b : Block) → Each (λ (x : Named). P x.block) table → named_at table name ≡ Some b → P b
each-at P [] name b h e = absurd (cc)
each-at P (x ∷ table) name b h e = each-here P x (named_at table name) b (nat_eq x.name name) h.0 (each-at P table name b h.1) e

-- ---- a new entry

pub each-with : (P : Named → Type 0) (x : Named) (l : List Named) → P x → Each P l → Each P (with_named x l)
each-with P x [] p h = (p, tt)
each-with P x (y ∷ l) p h =
    elim (nat_lt x.name y.name) as (λ t. Each P (if t then x ∷ y ∷ l else y ∷ with_named x l)) [ true ↦ (p, h) | false ↦ (h.0, each-with P x l p h.1) ]

pub each_pair-with : (R : Named → Named → Type 0) → ((x y : Named) → R x y → R y x) → (x : Named) (l : List Named) → Each (R x) l → EachPair R l → EachPair R (with_named x l)
each_pair-with R flip x [] p h = (tt, tt)
each_pair-with R flip x (y ∷ l) p h =
    elim (nat_lt x.name y.name) as (λ t. EachPair R (if t then x ∷ y ∷ l else y ∷ with_named x l)) [
      | true ↦ (p, h)
      | false ↦ (each-with (R y) x l (flip x y p.0) h.0, each_pair-with R flip x l p.1 h.1)
    ]

-- ---- an entry less

each-cons : {X : Type 0} (P : X → Type 0) (named name : ℕ) (x : X) (l : List X) (t : Bool) → nat_eq named name ≡ t → (named ≢ name → P x) → Each P l → Each P (cond (not t) (x ∷ l) l)
each-cons P named name x l true e p h = h
each-cons P named name x l false e p h = (p (grind (arith, nat_tests)), h)

pub each-without : (P : Named → Type 0) (name : ℕ) (l : List Named) → Each (λ (x : Named). x.name ≢ name → P x) l → Each P (without_name name l)
each-without P name [] h = tt
each-without P name (x ∷ l) h = each-cons P x.name name x (without_name name l) _ refl h.0 (each-without P name l h.1)

each_pair-cons : {X : Type 0} (R : X → X → Type 0) (x : X) (l : List X) (t : Bool) → Each (R x) l → EachPair R l → EachPair R (cond (not t) (x ∷ l) l)
each_pair-cons R x l true p h = h
each_pair-cons R x l false p h = (p, h)

pub each_pair-without : (R : Named → Named → Type 0) (name : ℕ) (l : List Named) → EachPair R l → EachPair R (without_name name l)
each_pair-without R name [] h = tt
each_pair-without R name (x ∷ l) h =
    each_pair-cons R x (without_name name l) (nat_eq x.name name)
    (each-without (R x) name l (each-from (R x) (λ (y : Named). y.name ≢ name → R x y) l (λ y r n. r) h.0)) (each_pair-without R name l h.1)

-- the block of a live name against each entry of another name
abbrev pub EachOther : (Block → Block → Type 0) → (name : ℕ) → Block → List Named → Type 0
EachOther R name b table = Each (λ (x : Named). x.name ≢ name → R b x.block) table

other-here : (R : Block → Block → Type 0) (x : Named) (table : List Named) (name : ℕ) (b : Block) (t : Bool) → nat_eq x.name name ≡ t → Each (λ (y : Named). R x.block y.block) table
    → (named_at table name ≡ Some b → R b x.block × EachOther R name b table) → (if t then Some x.block else named_at table name) ≡ Some b → EachOther R name b (x ∷ table)
other-here R x table name b true q h rest e =
    let same : x.block ≡ b = cc in (
      (λ n. absurd (n (grind (arith, nat_tests)))),
      subst (λ c. EachOther R name c table) same
          (each-from (λ (y : Named). R x.block y.block) (λ (y : Named). y.name ≢ name → R x.block y.block) table (λ y r n. r) h),
    )
other-here R x table name b false q h rest e = ((λ n. (rest e).0), (rest e).1)

pub each-other : (R : Block → Block → Type 0) → ((b c : Block) → R b c → R c b) → (table : List Named) (name : ℕ) (b : Block) → EachPair (λ (x y : Named). R x.block y.block) table
    → named_at table name ≡ Some b → EachOther R name b table
each-other R flip [] name b h e = tt
each-other R flip (x ∷ table) name b h e =
    other-here R x table name b (nat_eq x.name name) refl h.0 (λ r. (flip x.block b (each-at (R x.block) table name b h.0 r), each-other R flip table name b h.1 r)) e

-- ---- the same of a world

pub each-live_at : (P : Block → Type 0) (w : World) (name : ℕ) (x : Live) → Each (λ (y : Live). P y.block) w → live_at w name ≡ Some x → P x.block
each-live_at P [] name x h e = absurd (cc)
each-live_at P (y ∷ w) name x h e = live-here P y (live_at w name) x (nat_eq y.name name) h.0 (each-live_at P w name x h.1) e
  where
    live-here : (P : Block → Type 0) (y : Live) (rest : Option Live) (x : Live) (t : Bool) → P y.block → (rest ≡ Some x → P x.block) → (if t then Some y else rest) ≡ Some x → P x.block
    live-here P y rest x true p q e = let same : y ≡ x = cc in subst (λ (z : Live). P z.block) same p
    live-here P y rest x false p q e = q e

pub each-live_with : (P : Live → Type 0) (x : Live) (w : World) → P x → Each P w → Each P (with_live x w)
each-live_with P x [] p h = (p, tt)
each-live_with P x (y ∷ w) p h =
    elim (nat_lt x.name y.name) as (λ t. Each P (if t then x ∷ y ∷ w else y ∷ with_live x w)) [ true ↦ (p, h) | false ↦ (h.0, each-live_with P x w p h.1) ]

pub each_pair-live_with : (R : Live → Live → Type 0) → ((x y : Live) → R x y → R y x) → (x : Live) (w : World) → Each (R x) w → EachPair R w → EachPair R (with_live x w)
each_pair-live_with R flip x [] p h = (tt, tt)
each_pair-live_with R flip x (y ∷ w) p h =
    elim (nat_lt x.name y.name) as (λ t. EachPair R (if t then x ∷ y ∷ w else y ∷ with_live x w)) [
      | true ↦ (p, h)
      | false ↦ (each-live_with (R y) x w (flip x y p.0) h.0, each_pair-live_with R flip x w p.1 h.1)
    ]

pub each-live_without : (P : Live → Type 0) (name : ℕ) (w : World) → Each (λ (x : Live). x.name ≢ name → P x) w → Each P (without name w)
each-live_without P name [] h = tt
each-live_without P name (x ∷ w) h = each-cons P x.name name x (without name w) _ refl h.0 (each-live_without P name w h.1)

pub each_pair-live_without : (R : Live → Live → Type 0) (name : ℕ) (w : World) → EachPair R w → EachPair R (without name w)
each_pair-live_without R name [] h = tt
each_pair-live_without R name (x ∷ w) h =
    each_pair-cons R x (without name w) (nat_eq x.name name)
    (each-live_without (R x) name w (each-from (R x) (λ (y : Live). y.name ≢ name → R x y) w (λ y r n. r) h.0)) (each_pair-live_without R name w h.1)

-- what is live under a name against each other name
abbrev pub EachLiveOther : (Block → Block → Type 0) → (name : ℕ) → Block → World → Type 0
EachLiveOther R name b w = Each (λ (y : Live). y.name ≢ name → R b y.block) w

live_other-here : (R : Block → Block → Type 0) (y : Live) (w : World) (name : ℕ) (x : Live) (t : Bool) → nat_eq y.name name ≡ t → Each (λ (z : Live). R y.block z.block) w
    → (live_at w name ≡ Some x → R x.block y.block × EachLiveOther R name x.block w) → (if t then Some y else live_at w name) ≡ Some x → EachLiveOther R name x.block (y ∷ w)
live_other-here R y w name x true q h rest e =
    let same : y ≡ x = cc in (
      (λ n. absurd (n (grind (arith, nat_tests)))),
      subst (λ (z : Live). EachLiveOther R name z.block w) same
          (each-from (λ (z : Live). R y.block z.block) (λ (z : Live). z.name ≢ name → R y.block z.block) w (λ z r n. r) h),
    )
live_other-here R y w name x false q h rest e = ((λ n. (rest e).0), (rest e).1)

pub each-live_other : (R : Block → Block → Type 0) → ((b c : Block) → R b c → R c b) → (w : World) (name : ℕ) (x : Live) → EachPair (λ (y z : Live). R y.block z.block) w
    → live_at w name ≡ Some x → EachLiveOther R name x.block w
each-live_other R flip [] name x h e = tt
each-live_other R flip (y ∷ w) name x h e =
    live_other-here R y w name x (nat_eq y.name name) refl h.0 (λ r. (flip y.block x.block (each-live_at (R y.block) w name x h.0 r), each-live_other R flip w name x h.1 r)) e
