-- What `allocate` of a free list does.
use Rattle.std.proofs.Common.{ℕ, zero, suc, ◌≡◌, ◌-◌, ◌≤◌, ◌<◌, List, [], ◌∷◌, length, Option, Some, None, option_map, Bool, true, false, refl, ap, ap₂, sym, ◌∙◌, subst, nat_eq, nat_lt, arith}
use Rattle.std.proofs.lemmas.Bool.Decides.{nat_tests}
use Rattle.size_round.specs.Sizes.{limit, is_between}
use Rattle.space_core.specs.Cells.{Cells}
use Rattle.space_core.specs.Memory.{Memory}
use Rattle.space_core.specs.Words.{word_at, has_bytes}
use Rattle.layer_rules.specs.declared.Block.{Block}
use Rattle.layer_rules.specs.Blocks.{block}
use Rattle.layer_rules.specs.After.{After, after, Serve, Placed, from_child}
use Rattle.layer_rules.specs.Allocating.{served_unless, asked_for, truncated}
use Rattle.layer_rules.specs.Layering.{LayerModel, state_of, IsSetUp, IsCleanOf, block_in, allocated, Allocates}
use Rattle.layer_rules.specs.Rules.{Rules}
use Rattle.layer_rules.specs.State.{State, child, open_with, cache_own, one_child}
use Rattle.layer_laws.specs.Lawful.{Any}
use Rattle.layer_laws.proofs.StandingLaws.{allocated-gives}
use Rattle.free_list_rules.specs.FreeListRules.{cache_down, cache_allocate, read_chain, free_list_rules}
use Rattle.free_list_rules.specs.FreeListMeanings.{AllClean, IsChain}
use Rattle.free_list_rules.proofs.FreeListGood.{FitsDown}
use Rattle.free_list_rules.proofs.CacheImage.{free_list-image}
use Rattle.free_list_rules.proofs.CacheParts.{cached-size, uncached-size}
use Rattle.free_list.specs.declared.caching.Chain.{Chain}
use Rattle.free_list.specs.FreeListModel.{free_list_model}
use Rattle.free_list.proofs.Standing.{IsHere, IsList, list-of, seen, any-each, places, places-same, kept-by, list-frames, stays-below, nothing-moved}

-- ---- the rule, step by step

served_unless-false : (a b : Bool) (serve : Serve) (s : State) (cells : Cells) → a ≡ false → b ≡ false → served_unless a b serve s cells ≡ serve s cells
served_unless-false false false serve s cells h k = refl
served_unless-false true b serve s cells h k = absurd (cc)
served_unless-false false true serve s cells h k = absurd (cc)

asked_for-served : (n : ℕ) (serve : Serve) (s : State) (cells : Cells) → 1 ≤ n → n ≤ limit → asked_for n serve s cells ≡ serve s cells
asked_for-served n serve s cells h k = served_unless-false (nat_eq n 0) (nat_lt limit n) serve s cells (grind (arith, nat_tests)) (grind (arith, nat_tests))

-- what a request goes on with once its length is known to be cached or not
cache-step : (least greatest n : ℕ) (q : Bool) (e : Rules) (s : State) (cells : Cells) → 1 ≤ n → n ≤ limit → is_between least greatest n ≡ q
    → (free_list_rules least greatest e).allocate n s cells ≡ cache_allocate q n (λ s p. e.route (block p greatest) (child s 0)) (e.allocate greatest) (e.allocate n) s cells
unfolding free_list_rules
cache-step least greatest n q e s cells a b i =
    asked_for-served n _ s cells a b ∙ ap (λ c. cache_allocate c n (λ s p. e.route (block p greatest) (child s 0)) (e.allocate greatest) (e.allocate n) s cells) i

-- what the parent's call leaves, under a free list
abbrev over : (shown : Block → Block) (ps : List ℕ) → After (Option Placed) → After (Option Placed)
over shown ps r = after (option_map (from_child shown 0) r.answer) (open_with (cache_own ps) (one_child r.state)) r.cells

-- ---- the parent serves

block_in-map : (shown : Block → Block) (o : Option Placed) → option_map shown (block_in o) ≡ block_in (option_map (from_child shown 0) o)
block_in-map shown None = refl
block_in-map shown (Some p) = refl

shown-block : (shown : Block → Block) (r : Option Block) (b : Block) → option_map shown r ≡ Some b → (c : Block) × (r ≡ Some c) × (shown c ≡ b)
shown-block shown None b e = absurd (cc)
shown-block shown (Some c) b e = let q : shown c ≡ b = cc in (c, refl, q)

serves-over : (least greatest n k : ℕ) (c : Chain) (shown : Block → Block) (t t' : LayerModel) (m m' : Memory) (r r' : Option Block) → IsList greatest c t m
    → allocated (free_list_model least greatest (Some c) t) m n ≡ over shown (places c m) (allocated t m k) → Allocates t t' m m' k r → r' ≡ option_map shown r → FitsDown (cache_down least greatest) shown k n
    → Allocates (free_list_model least greatest (Some c) t) (free_list_model least greatest (Some c) t') m m' n r'
unfolding free_list_rules
serves-over least greatest n k c shown t t' m m' r r' l e a q fit =
    let kept = kept-by greatest c t t' m m' Any l a.frame.size (λ b o x. a.others b o) (any-each greatest (places c m)) in
    record {
      frame = list-frames least greatest c t t' m m' l a.frame kept;
      opened = refl;
      answer = q ∙ ap (option_map shown) a.answer ∙ block_in-map shown (allocated t m k).answer ∙ sym (ap (λ (r : After (Option Placed)). block_in r.answer) e);
      state = ap₂ (λ ps s. open_with (cache_own ps) (one_child s)) (places-same c m m' a.frame.size kept.words) a.state ∙ sym (ap (λ (r : After (Option Placed)). r.state) e);
      cells = a.cells ∙ sym (ap (λ (r : After (Option Placed)). r.cells) e);
      others = λ b o. stays-below least greatest c c t t' m m' b (a.others (cache_down least greatest b) (seen least greatest c t m b o).below);
      made = λ b z.
          let y = shown-block shown r b (sym q ∙ z) in
          let g = allocated-gives t t' m m' k y.0 l.made l.parent l.is_set (subst (λ o. Allocates t t' m m' k o) y.1 a) in
          subst (λ c. IsCleanOf t' m' c) (sym (fit.same y.0 g.len) ∙ ap (cache_down least greatest) y.2) (a.made y.0 y.1);
    }

-- a length that isn't cached, and one that is where nothing is cached
exact-step : (least greatest n : ℕ) (c : Chain) (t : LayerModel) (m : Memory) → 1 ≤ n → n ≤ limit → is_between least greatest n ≡ false → allocated (free_list_model least greatest (Some c) t) m n ≡ over (λ b. b) (places c m) (allocated t m n)
unfolding free_list_rules
exact-step least greatest n c t m a b i = cache-step least greatest n false t.rules (state_of (free_list_model least greatest (Some c) t) m) m.cells a b i

whole-step : (least greatest n : ℕ) (c : Chain) (t : LayerModel) (m : Memory) → 1 ≤ n → n ≤ limit → is_between least greatest n ≡ true → c.count ≡ 0 → allocated (free_list_model least greatest (Some c) t) m n ≡ over (truncated n) (places c m) (allocated t m greatest)
unfolding free_list_rules read_chain
whole-step least greatest n c t m a b i z =
    let none : places c m ≡ [] = ap (λ k. read_chain k c.front m.bytes) z in
    let serve = λ (ps : List ℕ). cache_allocate true n (λ s p. t.rules.route (block p greatest) (child s 0)) (t.rules.allocate greatest) (t.rules.allocate n) (open_with (cache_own ps) (one_child (state_of t m))) m.cells in
    cache-step least greatest n true t.rules (state_of (free_list_model least greatest (Some c) t) m) m.cells a b i ∙ ap serve none ∙ ap (λ ps. over (truncated n) ps (allocated t m greatest)) (sym none)

pub passes : (least greatest n : ℕ) (o : Option Chain) (t t' : LayerModel) (m m' : Memory) (r : Option Block) → IsHere least greatest o t m → IsSetUp (free_list_model least greatest o t) → 1 ≤ n → n ≤ limit → is_between least greatest n ≡ false
    → Allocates t t' m m' n r → Allocates (free_list_model least greatest o t) (free_list_model least greatest o t') m m' n r
passes least greatest n None t t' m m' r h u a b i p = absurd (cc)
passes least greatest n (Some c) t t' m m' r h u a b i p =
    serves-over least greatest n n c (λ b. b) t t' m m' r r (list-of least greatest c t m h) (exact-step least greatest n c t m a b i) p (mapped r)
    (record { same = λ b q. uncached-size least greatest b.len (ap (λ m. is_between least greatest m) q ∙ i) b.place; len = λ b q. q })
  where
    mapped : (o : Option Block) → o ≡ option_map (λ b. b) o
    mapped None = refl
    mapped (Some b) = refl

asks : (least greatest n : ℕ) (c : Chain) (t t' : LayerModel) (m m' : Memory) (r : Option Block) → IsHere least greatest (Some c) t m → 1 ≤ n → n ≤ limit → is_between least greatest n ≡ true → c.count ≡ 0
    → Allocates t t' m m' greatest r → Allocates (free_list_model least greatest (Some c) t) (free_list_model least greatest (Some c) t') m m' n (option_map (truncated n) r)
asks least greatest n c t t' m m' r h a b i z p =
    serves-over least greatest n greatest c (truncated n) t t' m m' r (option_map (truncated n) r) (list-of least greatest c t m h) (whole-step least greatest n c t m a b i z) p refl
    (record { same = λ b q. cached-size least greatest n i b.place ∙ ap (block b.place) (sym q); len = λ b q. refl })

-- ---- the front of the cache

-- a chain of at least one block
record IsMore (count front : ℕ) (bytes : List ℕ) : Type 0 where
  inside : has_bytes bytes front 8 ≡ true
  chain : read_chain count front bytes ≡ front ∷ read_chain (count - 1) (word_at bytes front) bytes

more-case : (n p : ℕ) (bytes : List ℕ) (b : Bool) → has_bytes bytes p 8 ≡ b → suc n ≡ length (elim b as (λ _. List ℕ) [ true ↦ p ∷ read_chain n (word_at bytes p) bytes | false ↦ [] ]) → b ≡ true
more-case n p bytes true e h = refl
more-case n p bytes false e h = absurd (omega arith)

pub read_chain-in : (n p : ℕ) (bytes : List ℕ) → has_bytes bytes p 8 ≡ true → read_chain (suc n) p bytes ≡ p ∷ read_chain n (word_at bytes p) bytes
unfolding read_chain
read_chain-in n p bytes h = ap (λ b. elim b as (λ _. List ℕ) [ true ↦ p ∷ read_chain n (word_at bytes p) bytes | false ↦ [] ]) h

chain-more : (n p : ℕ) (bytes : List ℕ) → n ≡ length (read_chain n p bytes) → 0 < n → IsMore n p bytes
unfolding read_chain
chain-more zero p bytes h l = absurd (omega arith)
chain-more (suc n) p bytes h l =
    let i = more-case n p bytes (has_bytes bytes p 8) refl h in
    let q : suc n - 1 ≡ n = omega arith in
    record { inside = i; chain = rw q (read_chain-in n p bytes i) }

-- the chain behind its front
abbrev pub shorter : Chain → Memory → Chain
shorter c m = record { count = c.count - 1; front = word_at m.bytes c.front }

serves : (least greatest n : ℕ) (c : Chain) (t : LayerModel) (m : Memory) → IsHere least greatest (Some c) t m → 1 ≤ n → n ≤ limit → is_between least greatest n ≡ true → 0 < c.count
    → Allocates (free_list_model least greatest (Some c) t) (free_list_model least greatest (Some (shorter c m)) t) m m n (Some (block c.front n))
unfolding free_list_rules
serves least greatest n c t m h a b i z =
    let l = list-of least greatest c t m h in
    let x = chain-more c.count c.front m.bytes l.counted z in
    let u = free_list_model least greatest (Some (shorter c m)) t in
    let rest = places (shorter c m) m in
    let chain : IsChain m.bytes (c.front ∷ rest) = subst (IsChain m.bytes) x.chain l.chain in
    let cleans : AllClean t.rules (state_of t m) m.bytes greatest (c.front ∷ rest) = subst (λ (ps : List ℕ). AllClean t.rules (state_of t m) m.bytes greatest ps) x.chain l.clean in
    let few : c.count ≡ suc (length rest) = l.counted ∙ ap length x.chain in
    let e = cache-step least greatest n true t.rules (state_of (free_list_model least greatest (Some c) t) m) m.cells a b i
    ∙ ap (λ ps. cache_allocate true n (λ s p. t.rules.route (block p greatest) (child s 0)) (t.rules.allocate greatest) (t.rules.allocate n) (open_with (cache_own ps) (one_child (state_of t m))) m.cells) x.chain in
    let still = nothing-moved (free_list_model least greatest (Some c) t) m h.stands in
    record {
      frame = record {
        rules = refl;
        image = free_list-image least greatest t.rules u.fields (state_of u m) m.bytes (record { own = record { count = omega (arith, few); front = chain.0.value; chain = chain.1 }; clean = cleans.1; below = l.parent.image });
        memory = still.memory;
        size = refl;
        leaves = refl;
        foreign = still.foreign;
      };
      opened = refl;
      answer = sym (ap (λ (r : After (Option Placed)). block_in r.answer) e);
      state = sym (ap (λ (r : After (Option Placed)). r.state) e);
      cells = sym (ap (λ (r : After (Option Placed)). r.cells) e);
      others = λ b o. record { bytes = record { at = λ i a b. refl }; clean = λ k. k; marked = λ k. k };
      made = λ b q.
          let y : block c.front n ≡ b = cc in
          subst (λ b. IsCleanOf t m (cache_down least greatest b)) y (subst (λ c. IsCleanOf t m c) (sym (cached-size least greatest n i c.front)) cleans.0);
    }

-- ---- the same for the chain that the code finds

pub asks-at : (least greatest n : ℕ) (o : Option Chain) (c : Chain) (t t' : LayerModel) (m m' : Memory) (r : Option Block) → o ≡ Some c → IsHere least greatest o t m → 1 ≤ n → n ≤ limit → is_between least greatest n ≡ true → c.count ≡ 0
    → Allocates t t' m m' greatest r → Allocates (free_list_model least greatest o t) (free_list_model least greatest o t') m m' n (option_map (truncated n) r)
asks-at least greatest n o c t t' m m' r q h a b i z p =
    subst (λ (x : Option Chain). IsHere least greatest x t m → Allocates (free_list_model least greatest x t) (free_list_model least greatest x t') m m' n (option_map (truncated n) r)) (sym q)
    (λ y. asks least greatest n c t t' m m' r y a b i z p) h

pub serves-at : (least greatest n : ℕ) (o : Option Chain) (c : Chain) (t : LayerModel) (m : Memory) → o ≡ Some c → IsHere least greatest o t m → 1 ≤ n → n ≤ limit → is_between least greatest n ≡ true → 0 < c.count
    → Allocates (free_list_model least greatest o t) (free_list_model least greatest (Some (shorter c m)) t) m m n (Some (block c.front n))
serves-at least greatest n o c t m q h a b i z =
    subst (λ (x : Option Chain). IsHere least greatest x t m → Allocates (free_list_model least greatest x t) (free_list_model least greatest (Some (shorter c m)) t) m m n (Some (block c.front n))) (sym q)
    (λ y. serves least greatest n c t m y a b i z) h
