-- The cached blocks: what the tests of a free list say, and what makes them pass.
use Rattle.size_round.specs.Sizes.{is_between}
use Rattle.std.proofs.Common.{◌≡◌, refl, sym, ap, ap₂, subst, ◌∙◌, ℕ, ◌≤◌, true, false, ◌&&◌, arith, List, [], ◌∷◌, nat_le}
use Rattle.std.proofs.lemmas.Bool.{and_from}
use Rattle.std.proofs.lemmas.Bool.Decides.{nat_tests}
use Rattle.space_core.specs.Cells.{Cells}
use Rattle.layer_rules.specs.declared.Block.{Block}
use Rattle.layer_rules.specs.Blocks.{block, with_len, lies_in, is_apart}
use Rattle.layer_rules.specs.State.{State, Own, cache_own, open_with, one_child, is_open, own_of, child, cached_of, cached_in}
use Rattle.layer_rules.specs.Rows.{Each}
use Rattle.layer_rules.specs.Rules.{Rules, IsSettled, AreApart}
use Rattle.layer_rules.specs.Testing.{is_over}
use Rattle.layer_laws.proofs.Apart.{apart-moved}
use Rattle.layer_laws.proofs.Basics.{and-fst, and-snd}
use Rattle.layer_laws.proofs.Tests.{opened, over-parts}
use Rattle.free_list_rules.specs.FreeListRules.{cache_size, cache_down, is_cache_own, is_cache, is_apart_from, cache_settled, free_list_rules}
use Rattle.free_list_rules.specs.FreeListMeanings.{DownHasAllBytes, ApartFrom, AllOut, AllApart, IsSoundCache, IsOutCache}

-- ---- lengths

pub cached-size : (least greatest n : ℕ) → is_between least greatest n ≡ true → (p : ℕ) → cache_down least greatest (block p n) ≡ block p greatest
cached-size least greatest n i p = rw i refl

pub uncached-size : (least greatest n : ℕ) → is_between least greatest n ≡ false → (p : ℕ) → cache_down least greatest (block p n) ≡ block p n
uncached-size least greatest n i p = rw i refl

-- what the parent serves is enough
pub cache-enough : (least greatest n : ℕ) → n ≤ cache_size least greatest n
cache-enough least greatest n = grind (arith, nat_tests)

-- ---- rows of cached blocks

pub apart-each : (e : Rules) (s : State) (m : ℕ) (b : Block) (ps : List ℕ) → is_apart_from e s m b ps ≡ true → ApartFrom e s m b ps
apart-each e s m b [] h = tt
apart-each e s m b (p ∷ ps) h = (record { either = and-fst (is_apart (e.extent b s) (e.extent (block p m) s)) (is_apart_from e s m b ps) h }, apart-each e s m b ps (and-snd (is_apart (e.extent b s) (e.extent (block p m) s)) (is_apart_from e s m b ps) h))

pub apart-all : (e : Rules) (s : State) (m : ℕ) (b : Block) (ps : List ℕ) → ApartFrom e s m b ps → is_apart_from e s m b ps ≡ true
apart-all e s m b [] h = refl
apart-all e s m b (p ∷ ps) h = and_from _ _ h.0.either (apart-all e s m b ps h.1)

pub cache-out : (e : Rules) (m : ℕ) (ps : List ℕ) (t : State) (cells : Cells) → is_cache e m ps t cells ≡ true → AllOut e t cells m ps
cache-out e m [] t cells h = tt
cache-out e m (p ∷ ps) t cells h =
    let o = e.is_out (block p m) t cells in let a = is_apart_from e t m (block p m) ps in let c = is_cache e m ps t cells in
    (and-fst o (a && c) h, cache-out e m ps t cells (and-snd a c (and-snd o (a && c) h)))

pub cache-apart : (e : Rules) (m : ℕ) (ps : List ℕ) (t : State) (cells : Cells) → is_cache e m ps t cells ≡ true → AllApart e t m ps
cache-apart e m [] t cells h = tt
cache-apart e m (p ∷ ps) t cells h =
    let o = e.is_out (block p m) t cells in let a = is_apart_from e t m (block p m) ps in let c = is_cache e m ps t cells in
    (apart-each e t m (block p m) ps (and-fst a c (and-snd o (a && c) h)), cache-apart e m ps t cells (and-snd a c (and-snd o (a && c) h)))

pub cache-whole : (e : Rules) (m : ℕ) (ps : List ℕ) (t : State) (cells : Cells) → AllOut e t cells m ps → AllApart e t m ps → is_cache e m ps t cells ≡ true
cache-whole e m [] t cells o a = refl
cache-whole e m (p ∷ ps) t cells o a = and_from _ _ o.0 (and_from _ _ (apart-all e t m (block p m) ps a.0) (cache-whole e m ps t cells o.1 a.1))

-- ---- what the tests say

own-form : (own : Own) → is_cache_own own ≡ true → own ≡ cache_own (cached_in own)
own-form (cache_own places) h = refl
own-form _ h = absurd (cc)

pub cache-parts : (greatest : ℕ) (e : Rules) (s : State) (cells : Cells) → cache_settled greatest e s cells ≡ true → IsSoundCache greatest e s cells
cache-parts greatest e s cells h =
    let v = is_over is_cache_own s in let c = is_cache e greatest (cached_of s) (child s 0) cells in let b = e.is_settled (child s 0) cells in
    let o = over-parts is_cache_own s (and-fst v (c && b) h) in
    let k = and-fst c b (and-snd v (c && b) h) in
    record {
      form = o.form ∙ ap (λ own. open_with own (one_child (child s 0))) (own-form (own_of s) o.own);
      parent = o.parent;
      out = cache-out e greatest (cached_of s) (child s 0) cells k;
      apart = cache-apart e greatest (cached_of s) (child s 0) cells k;
      below = and-snd c b (and-snd v (c && b) h);
    }

pub cache-settles : (greatest : ℕ) (e : Rules) (ps : List ℕ) (t : State) (cells : Cells) → is_open t ≡ true → AllOut e t cells greatest ps → AllApart e t greatest ps → IsSettled e t cells
    → cache_settled greatest e (open_with (cache_own ps) (one_child t)) cells ≡ true
cache-settles greatest e ps t cells o out apart h = and_from _ _ o (and_from _ _ (cache-whole e greatest ps t cells out apart) h)

pub cache-opened : (least greatest : ℕ) (e : Rules) (s : State) (cells : Cells) → is_open s ≡ true → IsSettled (free_list_rules least greatest e) s cells → IsSoundCache greatest e s cells
unfolding free_list_rules
cache-opened least greatest e s cells o h = cache-parts greatest e s cells (opened s e.leaf_tags cells (cache_settled greatest e s cells) o h)

pub out-free_list : (least greatest : ℕ) (e : Rules) (b : Block) (s : State) (cells : Cells) → (free_list_rules least greatest e).is_out b s cells ≡ true → IsOutCache least greatest e b s cells
unfolding free_list_rules
out-free_list least greatest e b s cells h =
    let o = is_open s in let l = nat_le 1 b.len in let x = e.is_out (cache_down least greatest b) (child s 0) cells in let a = is_apart_from e (child s 0) greatest (cache_down least greatest b) (cached_of s) in
    let f = and-fst (o && l) (x && a) h in
    let k = and-snd (o && l) (x && a) h in
    let len = and-snd o l f in
    record { is_set = and-fst o l f; some = grind (arith, nat_tests, len); below = and-fst x a k; apart = apart-each e (child s 0) greatest (cache_down least greatest b) (cached_of s) (and-snd x a k) }

pub free_list-out : (least greatest : ℕ) (e : Rules) (b : Block) (s : State) (cells : Cells) → IsOutCache least greatest e b s cells → (free_list_rules least greatest e).is_out b s cells ≡ true
unfolding free_list_rules
free_list-out least greatest e b s cells o =
    let len : nat_le 1 b.len ≡ true = grind (arith, nat_tests, o.some) in
    and_from _ _ (and_from _ _ o.is_set len) (and_from _ _ o.below (apart-all e (child s 0) greatest (cache_down least greatest b) (cached_of s) o.apart))

pub free_list-settled : (least greatest : ℕ) (e : Rules) (s : State) (cells : Cells) → IsSoundCache greatest e s cells → IsSettled (free_list_rules least greatest e) s cells
unfolding free_list_rules
free_list-settled least greatest e s cells x =
    subst (λ t. IsSettled (free_list_rules least greatest e) t cells) (sym x.form) (cache-settles greatest e (cached_of s) (child s 0) cells x.parent x.out x.apart x.below)

-- a block lies in the one that is handed down
pub down_has_all_bytes : DownHasAllBytes
down_has_all_bytes least greatest b = longer b (cache_size least greatest b.len) (cache-enough least greatest b.len)
  where
    longer : (b : Block) (n : ℕ) → b.len ≤ n → lies_in b (with_len b n) ≡ true
    longer b n h = grind (arith, nat_tests)

-- ---- two states

-- what is out in one state is out in another
pub all-out-moved : (e : Rules) (s t : State) (old new : Cells) (m : ℕ) (ps : List ℕ) → ((b : Block) → e.is_out b s old ≡ true → e.is_out b t new ≡ true) → AllOut e s old m ps → AllOut e t new m ps
all-out-moved e s t old new m [] f a = tt
all-out-moved e s t old new m (p ∷ ps) f a = (f (block p m) a.0, all-out-moved e s t old new m ps f a.1)

-- each cached block has the same extent in both
abbrev pub SameEach : Rules → (s t : State) → (greatest : ℕ) → List ℕ → Type 0
SameEach e s t m ps = Each (λ p. e.extent (block p m) t ≡ e.extent (block p m) s) ps

-- where what is out keeps its extent, and where what is out and apart from a block does
pub same-out : (e : Rules) (s t : State) (cells : Cells) (m : ℕ) (ps : List ℕ) → ((c : Block) → e.is_out c s cells ≡ true → e.extent c t ≡ e.extent c s) → AllOut e s cells m ps → SameEach e s t m ps
same-out e s t cells m [] f o = tt
same-out e s t cells m (p ∷ ps) f o = (f (block p m) o.0, same-out e s t cells m ps f o.1)

pub same-apart : (e : Rules) (s t : State) (cells : Cells) (m : ℕ) (b : Block) (ps : List ℕ) → ((c : Block) → e.is_out c s cells ≡ true → AreApart e s b c → e.extent c t ≡ e.extent c s) → AllOut e s cells m ps → ApartFrom e s m b ps → SameEach e s t m ps
same-apart e s t cells m b [] f o a = tt
same-apart e s t cells m b (p ∷ ps) f o a = (f (block p m) o.0 a.0, same-apart e s t cells m b ps f o.1 a.1)

-- blocks that are apart are so where their extents are the same
pub apart-from-moved : (e : Rules) (s t : State) (m : ℕ) (b : Block) (ps : List ℕ) → e.extent b t ≡ e.extent b s → SameEach e s t m ps → ApartFrom e s m b ps → ApartFrom e t m b ps
apart-from-moved e s t m b [] q g a = tt
apart-from-moved e s t m b (p ∷ ps) q g a = (apart-moved e s t b (block p m) q g.0 a.0, apart-from-moved e s t m b ps q g.1 a.1)

pub all-apart-moved : (e : Rules) (s t : State) (m : ℕ) (ps : List ℕ) → SameEach e s t m ps → AllApart e s m ps → AllApart e t m ps
all-apart-moved e s t m [] g a = tt
all-apart-moved e s t m (p ∷ ps) g a = (apart-from-moved e s t m (block p m) ps g.0 g.1 a.0, all-apart-moved e s t m ps g.1 a.1)

pub apart-from-same : (e : Rules) (s t : State) (m : ℕ) (b : Block) (ps : List ℕ) → ((c : Block) → e.extent c t ≡ e.extent c s) → is_apart_from e t m b ps ≡ is_apart_from e s m b ps
apart-from-same e s t m b [] g = refl
apart-from-same e s t m b (p ∷ ps) g = ap₂ (λ x y. x && y) (ap₂ is_apart (g b) (g (block p m))) (apart-from-same e s t m b ps g)
