-- What a free list that stands knows: its lengths, its parent, and its chain.
use Rattle.std.proofs.Common.{◌≡◌, sym, ◌∙◌, ap, subst, ℕ, ◌≤◌, refl, List, [], ◌∷◌, length, Option, Some, None, is_some, arith}
use Rattle.space_core.specs.Memory.{Memory}
use Rattle.layer_rules.specs.declared.Block.{Block}
use Rattle.layer_rules.specs.Blocks.{block, end_of}
use Rattle.layer_rules.specs.Fields.{are_open}
use Rattle.layer_rules.specs.Rows.{Each}
use Rattle.layer_rules.specs.Rules.{HasSomeTags}
use Rattle.layer_rules.specs.Layering.{LayerModel, state_of, Stands, IsSetUp, IsOutOf, IsCleanOf, AreApartIn, KeepsBytes, Frames, Stays}
use Rattle.layer_laws.specs.Lawful.{IsMade, Any}
use Rattle.layer_laws.proofs.StandingLaws.{shut-stands}
use Rattle.layer_core.specs.declared.Layer.{Ghosts}
use Rattle.free_list_rules.specs.FreeListRules.{cache_down, first_of, read_chain, free_list_rules}
use Rattle.free_list_rules.specs.FreeListMeanings.{ApartFrom, AllOut, AllApart, AllClean, IsChain}
use Rattle.free_list_rules.proofs.CacheChains.{WordsKept, chain-same, read_chain-same}
use Rattle.free_list_rules.proofs.CacheImage.{image-free_list, free_list-image}
use Rattle.free_list_rules.proofs.CacheParts.{cache-parts, cache-enough, out-free_list}
use Rattle.free_list.specs.declared.caching.Chain.{Chain}
use Rattle.free_list.specs.declared.caching.FreeList.{FreeList}
use Rattle.free_list.specs.FreeListProper.{IsProper}
use Rattle.free_list.specs.FreeListModel.{free_list_model, free_list_of}

-- what each call of a free list finds
pub record IsHere (least greatest : ℕ) (o : Option Chain) (t : LayerModel) (m : Memory) : Type 0 where
  pub made : IsMade t.rules
  pub proper : IsProper least greatest t.rules
  pub together : are_open t.fields ≡ is_some o
  pub stands : Stands (free_list_model least greatest o t) m

pub here : {P : Type 0} {G : Ghosts P} → ((p : P) → IsMade (G.model p).rules) → (l : FreeList P G) (m : Memory) → Stands (free_list_of G.model l) m → IsHere l.least l.greatest l.chain (G.model l.parent) m
here made l m h = record { made = made l.parent; proper = l.proper; together = l.together; stands = h }

-- the parent stands too
pub parent-stands : (least greatest : ℕ) (o : Option Chain) (t : LayerModel) (m : Memory) → IsHere least greatest o t m → Stands t m
unfolding free_list_rules
parent-stands least greatest None t m h =
    let x = h.stands.sound in
    let w : HasSomeTags t.rules = record { least = x.made.least } in
    shut-stands t m h.stands.memory x.distinct (record { least = x.made.least; most = x.made.most }) h.made.regular.reading (h.made.lawful x.distinct w).opening h.together x.settled
parent-stands least greatest (Some c) t m h =
    let u = free_list_model least greatest (Some c) t in
    let x = h.stands.sound in
    record {
      memory = h.stands.memory;
      sound = record { distinct = x.distinct; made = record { least = x.made.least; most = x.made.most }; settled = (cache-parts greatest t.rules (state_of u m) m.cells x.settled).below };
      image = (image-free_list least greatest t.rules u.fields (state_of u m) m.bytes refl h.stands.image).below;
    }

-- the places of the cached blocks
abbrev pub places : Chain → Memory → List ℕ
places c m = read_chain c.count c.front m.bytes

-- what an open free list has
pub record IsList (greatest : ℕ) (c : Chain) (t : LayerModel) (m : Memory) : Type 0 where
  pub word : 8 ≤ greatest
  pub made : IsMade t.rules
  pub parent : Stands t m
  pub is_set : IsSetUp t
  pub out : AllOut t.rules (state_of t m) m.cells greatest (places c m)
  pub apart : AllApart t.rules (state_of t m) greatest (places c m)
  pub counted : c.count ≡ length (places c m)
  pub first : c.front ≡ first_of (places c m)
  pub chain : IsChain m.bytes (places c m)
  pub clean : AllClean t.rules (state_of t m) m.bytes greatest (places c m)

pub list-of : (least greatest : ℕ) (c : Chain) (t : LayerModel) (m : Memory) → IsHere least greatest (Some c) t m → IsList greatest c t m
unfolding free_list_rules
list-of least greatest c t m h =
    let u = free_list_model least greatest (Some c) t in
    let x = cache-parts greatest t.rules (state_of u m) m.cells h.stands.sound.settled in
    let i = image-free_list least greatest t.rules u.fields (state_of u m) m.bytes refl h.stands.image in
    record {
      word = h.proper.size.word;
      made = h.made;
      parent = parent-stands least greatest (Some c) t m h;
      is_set = h.together;
      out = x.out;
      apart = x.apart;
      counted = i.own.count;
      first = i.own.front;
      chain = i.own.chain;
      clean = i.clean;
    }

-- a block that is out of a free list, as its parent sees it
pub record IsSeen (least greatest : ℕ) (c : Chain) (t : LayerModel) (m : Memory) (b : Block) : Type 0 where
  pub some : 1 ≤ b.len
  pub below : IsOutOf t m (cache_down least greatest b)
  pub apart : ApartFrom t.rules (state_of t m) greatest (cache_down least greatest b) (places c m)

pub seen : (least greatest : ℕ) (c : Chain) (t : LayerModel) (m : Memory) (b : Block) → IsOutOf (free_list_model least greatest (Some c) t) m b → IsSeen least greatest c t m b
unfolding free_list_rules
seen least greatest c t m b o =
    let x = out-free_list least greatest t.rules b (state_of (free_list_model least greatest (Some c) t) m) m.cells o in record { some = x.some; below = x.below; apart = x.apart }

-- blocks of the list that are apart are so in the parent
pub apart-below : (least greatest : ℕ) (c : Chain) (t : LayerModel) (m : Memory) (b d : Block) → AreApartIn (free_list_model least greatest (Some c) t) m b d → AreApartIn t m (cache_down least greatest b) (cache_down least greatest d)
unfolding free_list_rules
apart-below least greatest c t m b d a = record { either = a.either }

-- ---- a call of the parent

-- where each of these blocks keeps its bytes, the chain keeps its words
words-of : (t : LayerModel) (m m' : Memory) (greatest : ℕ) → 8 ≤ greatest → length m'.bytes ≡ length m.bytes → (C : Block → Type 0) → ((b : Block) → IsOutOf t m b → C b → KeepsBytes m.bytes m'.bytes b.place (end_of b))
    → (ps : List ℕ) → AllOut t.rules (state_of t m) m.cells greatest ps → Each (λ p. C (block p greatest)) ps → WordsKept m.bytes m'.bytes ps
words-of t m m' greatest w z C k [] o a = tt
words-of t m m' greatest w z C k (p ∷ ps) o a =
    let u = k (block p greatest) o.0 a.0 in
    (record { length_same = z; at = λ i x y. u.at i x (omega arith) }, words-of t m m' greatest w z C k ps o.1 a.1)

-- and what is clean stays so
cleans-of : (t t' : LayerModel) (m m' : Memory) (greatest : ℕ) (C : Block → Type 0) → ((b : Block) → IsOutOf t m b → C b → IsCleanOf t m b → IsCleanOf t' m' b)
    → (ps : List ℕ) → AllOut t.rules (state_of t m) m.cells greatest ps → Each (λ p. C (block p greatest)) ps → AllClean t.rules (state_of t m) m.bytes greatest ps → AllClean t'.rules (state_of t' m') m'.bytes greatest ps
cleans-of t t' m m' greatest C k [] o a z = tt
cleans-of t t' m m' greatest C k (p ∷ ps) o a z = (k (block p greatest) o.0 a.0 z.0, cleans-of t t' m m' greatest C k ps o.1 a.1 z.1)

-- what a call of the parent leaves of the chain
pub record IsKept (greatest : ℕ) (c : Chain) (t' : LayerModel) (m m' : Memory) : Type 0 where
  pub words : WordsKept m.bytes m'.bytes (places c m)
  pub clean : AllClean t'.rules (state_of t' m') m'.bytes greatest (places c m)

-- A call that leaves each block with C, where each cached block has that.
pub kept-by : (greatest : ℕ) (c : Chain) (t t' : LayerModel) (m m' : Memory) (C : Block → Type 0) → IsList greatest c t m → length m'.bytes ≡ length m.bytes
    → ((b : Block) → IsOutOf t m b → C b → Stays t t' m m' b) → Each (λ p. C (block p greatest)) (places c m) → IsKept greatest c t' m m'
kept-by greatest c t t' m m' C l z k a =
    record {
      words = words-of t m m' greatest l.word z C (λ b o x. (k b o x).bytes) (places c m) l.out a;
      clean = cleans-of t t' m m' greatest C (λ b o x. (k b o x).clean) (places c m) l.out a l.clean;
    }

-- where a call leaves each block
pub any-each : (greatest : ℕ) (ps : List ℕ) → Each (λ p. Any (block p greatest)) ps
any-each greatest [] = tt
any-each greatest (p ∷ ps) = (tt, any-each greatest ps)

pub places-same : (c : Chain) (m m' : Memory) → length m'.bytes ≡ length m.bytes → WordsKept m.bytes m'.bytes (places c m) → places c m' ≡ places c m
places-same c m m' z k = read_chain-same c.count c.front m.bytes m'.bytes z k

-- the same chain stands over the parent as it is now
pub list-frames : (least greatest : ℕ) (c : Chain) (t t' : LayerModel) (m m' : Memory) → IsList greatest c t m → Frames t t' m m' → IsKept greatest c t' m m'
    → Frames (free_list_model least greatest (Some c) t) (free_list_model least greatest (Some c) t') m m'
unfolding free_list_rules
list-frames least greatest c t t' m m' l f k =
    let same = places-same c m m' f.size k.words in
    let u = free_list_model least greatest (Some c) t' in
    record {
      rules = ap (free_list_rules least greatest) f.rules;
      image = free_list-image least greatest t'.rules u.fields (state_of u m') m'.bytes (record {
        own = record { count = l.counted ∙ ap length (sym same); front = l.first ∙ ap first_of (sym same); chain = subst (IsChain m'.bytes) (sym same) (chain-same m.bytes m'.bytes (places c m) k.words l.chain) };
        clean = subst (λ (ps : List ℕ). AllClean t'.rules (state_of t' m') m'.bytes greatest ps) (sym same) k.clean;
        below = f.image;
      });
      memory = f.memory;
      size = f.size;
      leaves = f.leaves;
      foreign = record { at = f.foreign.at };
    }

-- a block of the list stays where the block of the parent does that it is in
pub stays-below : (least greatest : ℕ) (c c' : Chain) (t t' : LayerModel) (m m' : Memory) (b : Block) → Stays t t' m m' (cache_down least greatest b)
    → Stays (free_list_model least greatest (Some c) t) (free_list_model least greatest (Some c') t') m m' b
unfolding free_list_rules
stays-below least greatest c c' t t' m m' b s =
    let g = cache-enough least greatest b.len in
    record { bytes = record { at = λ i x y. s.bytes.at i x (omega (arith, g)) }; clean = s.clean; marked = s.clean }

-- nothing has changed
pub nothing-moved : (t : LayerModel) (m : Memory) → Stands t m → Frames t t m m
nothing-moved t m h = record { rules = refl; image = h.image; memory = h.memory; size = refl; leaves = refl; foreign = record { at = λ i a z. refl } }
