-- What `deallocate` of a free list does.
use Rattle.std.proofs.Common.{ℕ, suc, ◌≡◌, inl, ◌+◌, ◌≤◌, ◌<◌, ◌^◌, List, ◌∷◌, length, Option, Some, None, Bool, true, false, refl, ap, ap₂, sym, ◌∙◌, subst, arith}
use Rattle.std.proofs.lemmas.Bool.Decides.{nat_tests}
use Rattle.size_round.specs.Sizes.{is_between}
use Rattle.space_core.specs.Memory.{Memory}
use Rattle.space_core.specs.Words.{word_at, put_word, has_bytes}
use Rattle.layer_rules.specs.declared.Block.{Block}
use Rattle.layer_rules.specs.Blocks.{block}
use Rattle.layer_rules.specs.After.{After, after, change_child}
use Rattle.layer_rules.specs.Layering.{LayerModel, state_of, IsSetUp, IsOutOf, IsCleanOf, IsMarkedOf, AreApartIn, Deallocates}
use Rattle.layer_rules.specs.State.{cached_of, with_own, open_with, cache_own, one_child}
use Rattle.layer_laws.specs.Standing.{Writes}
use Rattle.layer_laws.proofs.StandingLaws.{out-in_space}
use Rattle.layer_laws.proofs.Placement.{write-keeps}
use Rattle.free_list_rules.specs.FreeListRules.{cache_down, first_of, read_chain, free_list_rules}
use Rattle.free_list_rules.specs.FreeListMeanings.{ApartFrom, AllClean, IsChain}
use Rattle.free_list_rules.proofs.CacheChains.{chain-same}
use Rattle.free_list_rules.proofs.CacheImage.{free_list-image}
use Rattle.free_list_rules.proofs.CacheParts.{cached-size, uncached-size}
use Rattle.free_list.specs.declared.caching.Chain.{Chain}
use Rattle.free_list.specs.FreeListModel.{free_list_model}
use Rattle.free_list.proofs.Counting.{few-cached}
use Rattle.free_list.proofs.Serving.{read_chain-in}
use Rattle.free_list.proofs.Standing.{IsHere, list-of, seen, apart-below, places, places-same, kept-by, list-frames, stays-below}
use Rattle.layer_laws.proofs.Writing.{word-inside, word_at-put_word, write-frames, write-stays}

-- ---- the parent takes it

passes-main : (least greatest : ℕ) (c : Chain) (t t' : LayerModel) (m m' : Memory) (b : Block) (r : Bool) → IsHere least greatest (Some c) t m → IsOutOf (free_list_model least greatest (Some c) t) m b → is_between least greatest b.len ≡ false
    → Deallocates t t' m m' b r → Deallocates (free_list_model least greatest (Some c) t) (free_list_model least greatest (Some c) t') m m' b r
unfolding free_list_rules
passes-main least greatest c t t' m m' b r h o i a =
    let l = list-of least greatest c t m h in
    let y = seen least greatest c t m b o in
    let d : cache_down least greatest b ≡ b = uncached-size least greatest b.len i b.place in
    let far = subst (λ (k : Block). ApartFrom t.rules (state_of t m) greatest k (places c m)) d y.apart in
    let kept = kept-by greatest c t t' m m' (λ k. AreApartIn t m b k) l a.frame.size a.others far in
    let s = state_of (free_list_model least greatest (Some c) t) m in
    let e : (free_list_rules least greatest t.rules).deallocate b s m.cells ≡ change_child 0 t.rules.deallocate b s m.cells =
    ap (λ q. elim q as (λ _. After Bool) [ true ↦ after true (with_own s (cache_own (b.place ∷ cached_of s))) m.cells | false ↦ change_child 0 t.rules.deallocate b s m.cells ]) i in
    record {
      frame = list-frames least greatest c t t' m m' l a.frame kept;
      opened = refl;
      answer = a.answer ∙ sym (ap (λ (r : After Bool). r.answer) e);
      state = ap₂ (λ ps s. open_with (cache_own ps) (one_child s)) (places-same c m m' a.frame.size kept.words) a.state ∙ sym (ap (λ (r : After Bool). r.state) e);
      cells = a.cells ∙ sym (ap (λ (r : After Bool). r.cells) e);
      others = λ k p z.
          stays-below least greatest c c t t' m m' k
          (a.others (cache_down least greatest k) (seen least greatest c t m k p).below (subst (λ q. AreApartIn t m q (cache_down least greatest k)) d (apart-below least greatest c t m b k z)));
    }

pub passes : (least greatest : ℕ) (o : Option Chain) (t t' : LayerModel) (m m' : Memory) (b : Block) (r : Bool) → IsHere least greatest o t m → IsSetUp (free_list_model least greatest o t) → IsOutOf (free_list_model least greatest o t) m b
    → is_between least greatest b.len ≡ false → Deallocates t t' m m' b r → Deallocates (free_list_model least greatest o t) (free_list_model least greatest o t') m m' b r
passes least greatest None t t' m m' b r h u o i a = absurd (cc)
passes least greatest (Some c) t t' m m' b r h u o i a = passes-main least greatest c t t' m m' b r h o i a

-- ---- it goes to the front of the cache

word-room : (least greatest : ℕ) (c : Chain) (t : LayerModel) (m : Memory) (b : Block) → IsHere least greatest (Some c) t m → IsOutOf (free_list_model least greatest (Some c) t) m b → is_between least greatest b.len ≡ true
    → b.place + 8 ≤ length m.bytes
word-room least greatest c t m b h o i =
    let l = list-of least greatest c t m h in
    let p = subst (λ k. IsOutOf t m k) (cached-size least greatest b.len i b.place) (seen least greatest c t m b o).below in
    let r = out-in_space t m (block b.place greatest) l.made l.parent p in
    omega (arith, r, l.word)

-- the chain with a new front
abbrev pub longer : Chain → Block → Chain
longer c b = record { count = c.count + 1; front = b.place }

-- the Space with the place of the old front in the block's first word
abbrev pub linked : Chain → Memory → Block → Memory
linked c m b = record m { bytes = put_word m.bytes b.place c.front }

-- the block at the front, and the places behind it
linked-places : (c : Chain) (m : Memory) (b : Block) → b.place + 8 ≤ length m.bytes → c.front < 2 ^ 64 → length (linked c m b).bytes ≡ length m.bytes → places c (linked c m b) ≡ places c m → places (longer c b) (linked c m b) ≡ b.place ∷ places c m
linked-places c m b room fits size same =
    let bytes = (linked c m b).bytes in
    let has : has_bytes bytes b.place 8 ≡ true = grind (arith, nat_tests, size, room) in
    let word : word_at bytes b.place ≡ c.front = word_at-put_word m.bytes b.place c.front room fits in
    let more : c.count + 1 ≡ suc c.count = omega arith in
    ap (λ n. read_chain n b.place bytes) more ∙ read_chain-in c.count b.place bytes has ∙ ap (λ q. b.place ∷ read_chain c.count q bytes) word ∙ ap (λ ps. b.place ∷ ps) same

caches : (least greatest : ℕ) (c : Chain) (t : LayerModel) (m : Memory) (b : Block) → IsHere least greatest (Some c) t m → IsOutOf (free_list_model least greatest (Some c) t) m b → IsMarkedOf (free_list_model least greatest (Some c) t) m b
    → is_between least greatest b.len ≡ true → c.front < 2 ^ 64 → Deallocates (free_list_model least greatest (Some c) t) (free_list_model least greatest (Some (longer c b)) t) m (linked c m b) b true
unfolding free_list_rules
caches least greatest c t m b h o mark i fits =
    let m' = linked c m b in
    let l = list-of least greatest c t m h in
    let y = seen least greatest c t m b o in
    let k = block b.place greatest in
    let d : cache_down least greatest b ≡ k = cached-size least greatest b.len i b.place in
    let out : IsOutOf t m k = subst (λ q. IsOutOf t m q) d y.below in
    let far = subst (λ (q : Block). ApartFrom t.rules (state_of t m) greatest q (places c m)) d y.apart in
    let w : Writes k m m' = word-inside k m c.front l.word in
    let f = write-frames t m m' k l.made l.parent out w in
    let kept = kept-by greatest c t t m m' (λ q. AreApartIn t m k q) l f.size (write-stays t m m' k l.made l.parent out w) far in
    let same = places-same c m m' f.size kept.words in
    let room = word-room least greatest c t m b h o i in
    let inside : b.place + 8 ≤ length m'.bytes = omega (arith, room, f.size) in
    let word : word_at m'.bytes b.place ≡ c.front = word_at-put_word m.bytes b.place c.front room fits in
    let chain = linked-places c m b room fits f.size same in
    let wrote = write-keeps t m m' k l.made l.parent out w in
    let own : IsCleanOf t m' k = wrote.clean k out (inl refl) (subst (λ q. IsCleanOf t m q) d mark) in
    let u = free_list_model least greatest (Some (longer c b)) t in
    let s = state_of (free_list_model least greatest (Some c) t) m in
    let e : (free_list_rules least greatest t.rules).deallocate b s m.cells ≡ after true (open_with (cache_own (b.place ∷ places c m)) (one_child (state_of t m))) m.cells =
    ap (λ q. elim q as (λ _. After Bool) [ true ↦ after true (with_own s (cache_own (b.place ∷ cached_of s))) m.cells | false ↦ change_child 0 t.rules.deallocate b s m.cells ]) i in
    let more : c.count + 1 ≡ suc c.count = omega arith in
    record {
      frame = record {
        rules = refl;
        image = free_list-image least greatest t.rules u.fields (state_of u m') m'.bytes (record {
          own = record {
            count = more ∙ ap suc l.counted ∙ ap length (sym chain);
            front = ap first_of (sym chain);
            chain = subst (IsChain m'.bytes) (sym chain) (record { inside = inside; value = word ∙ l.first }, chain-same m.bytes m'.bytes (places c m) kept.words l.chain);
          };
          clean = subst (λ (ps : List ℕ). AllClean t.rules (state_of t m') m'.bytes greatest ps) (sym chain) (own, kept.clean);
          below = f.image;
        });
        memory = f.memory;
        size = f.size;
        leaves = f.leaves;
        foreign = record { at = f.foreign.at };
      };
      opened = refl;
      answer = sym (ap (λ (r : After Bool). r.answer) e);
      state = ap₂ (λ ps s. open_with (cache_own ps) (one_child s)) chain wrote.state ∙ sym (ap (λ (r : After Bool). r.state) e);
      cells = sym (ap (λ (r : After Bool). r.cells) e);
      others = λ q p z.
          stays-below least greatest c (longer c b) t t m m' q
          (write-stays t m m' k l.made l.parent out w (cache_down least greatest q) (seen least greatest c t m q p).below (subst (λ x. AreApartIn t m x (cache_down least greatest q)) d (apart-below least greatest c t m b q z)));
    }

-- ---- the same for the chain that the code finds

-- what `deallocate` finds: the list stands, and the block is out, marked, and of a length that is cached
pub record IsTaken (least greatest : ℕ) (o : Option Chain) (t : LayerModel) (m : Memory) (b : Block) : Type 0 where
  pub here : IsHere least greatest o t m
  pub out : IsOutOf (free_list_model least greatest o t) m b
  pub marked : IsMarkedOf (free_list_model least greatest o t) m b
  pub ranged : is_between least greatest b.len ≡ true

pub word-room-at : (least greatest : ℕ) (o : Option Chain) (c : Chain) (t : LayerModel) (m : Memory) (b : Block) → o ≡ Some c → IsTaken least greatest o t m b → b.place + 8 ≤ length m.bytes
word-room-at least greatest o c t m b q h =
    let y = subst (λ (x : Option Chain). IsTaken least greatest x t m b) q h in word-room least greatest c t m b y.here y.out y.ranged

pub few-at : (least greatest : ℕ) (o : Option Chain) (c : Chain) (t : LayerModel) (m : Memory) (b : Block) → o ≡ Some c → IsTaken least greatest o t m b → c.count ≤ 16777216
few-at least greatest o c t m b q h =
    let y = subst (λ (x : Option Chain). IsTaken least greatest x t m b) q h in few-cached greatest c t m (list-of least greatest c t m y.here)

pub caches-at : (least greatest : ℕ) (o : Option Chain) (c : Chain) (t : LayerModel) (m m' : Memory) (b : Block) → o ≡ Some c → IsTaken least greatest o t m b → c.front < 2 ^ 64 → m' ≡ linked c m b
    → Deallocates (free_list_model least greatest o t) (free_list_model least greatest (Some (longer c b)) t) m m' b true
caches-at least greatest o c t m m' b q h fits e =
    subst (λ (k : Memory). Deallocates (free_list_model least greatest o t) (free_list_model least greatest (Some (longer c b)) t) m k b true) (sym e)
    (subst (λ (x : Option Chain). IsTaken least greatest x t m b → Deallocates (free_list_model least greatest x t) (free_list_model least greatest (Some (longer c b)) t) m (linked c m b) b true) (sym q)
    (λ y. caches least greatest c t m b y.here y.out y.marked y.ranged fits) h)
