-- Changes of bytes, and what of a free list they leave.
use Rattle.std.proofs.Common.{◌≡◌, refl, ap, ℕ, ◌≤◌, ◌+◌, ◌⊎◌, inl, inr, true, arith, List, [], ◌∷◌}
use Rattle.std.proofs.lemmas.Bool.Decides.{nat_tests}
use Rattle.space_core.specs.Cells.{Cells}
use Rattle.layer_rules.specs.declared.Block.{Block}
use Rattle.layer_rules.specs.Blocks.{block, end_of, is_apart}
use Rattle.layer_rules.specs.Rows.{Each}
use Rattle.layer_rules.specs.Fields.{Fields, closed_fields, open_fields, kept_count, kept_front, nth_fields}
use Rattle.layer_rules.specs.State.{State}
use Rattle.layer_rules.specs.Rules.{Rules, IsSettled, AreApart}
use Rattle.layer_laws.specs.Lawful.{Covering, OwnKept, OwnFraming, Framing, Framed, ChangesInside, Any, IsSameOrApart, PlacingLaws, FramingLaws}
use Rattle.layer_laws.proofs.Steps.{inside-wider}
use Rattle.free_list_rules.specs.FreeListRules.{cache_down, read_chain, free_list_rules}
use Rattle.free_list_rules.specs.FreeListMeanings.{IsCacheSize, ApartFrom, AllOut, IsCacheImage, AllClean}
use Rattle.free_list_rules.proofs.CacheParts.{cache-parts, out-free_list, cache-enough}
use Rattle.layer_laws.proofs.KeptBytes.{KeptBytes}
use Rattle.free_list_rules.proofs.CacheChains.{WordsKept, chain-same, read_chain-same}
use Rattle.free_list_rules.proofs.CacheImage.{image-free_list, free_list-image}

-- ---- the words of the chain

own-words : (e : Rules) (s : State) (cells : Cells) (old new : List ℕ) (m : ℕ) → Covering e → IsSettled e s cells → 8 ≤ m → OwnKept e cells old new → (ps : List ℕ) → AllOut e s cells m ps → WordsKept old new ps
own-words e s cells old new m cover h l k [] a = tt
own-words e s cells old new m cover h l k (p ∷ ps) a =
    let c = cover (block p m) s cells h a.0 in
    (record { length_same = k.length_same; at = λ i x y. k.at i (c.leaf i (omega (arith, c.from)) (omega (arith, c.upto))) }, own-words e s cells old new m cover h l k ps a.1)

-- which of two extents comes first
apart-order : (e : Rules) (s : State) (b c : Block) → AreApart e s b c → (end_of (e.extent b s) ≤ (e.extent c s).place) ⊎ (end_of (e.extent c s) ≤ (e.extent b s).place)
apart-order e s b c a = order (e.extent b s) (e.extent c s) a.either where
  order : (x y : Block) → is_apart x y ≡ true → (end_of x ≤ y.place) ⊎ (end_of y ≤ x.place)
  order x y h = grind (arith, nat_tests)

kept-word : (b : Block) (old new : List ℕ) (p : ℕ) → ChangesInside b old new → (p + 8 ≤ b.place) ⊎ (end_of b ≤ p) → KeptBytes old new p (p + 8)
kept-word b old new p k (inl l) = record { length_same = k.length_same; at = λ i x y. k.below i (omega arith) }
kept-word b old new p k (inr l) = record { length_same = k.length_same; at = λ i x y. k.above i (omega arith) }

words-kept : (e : Rules) (s : State) (cells : Cells) (old new : List ℕ) (b : Block) (m : ℕ) → Covering e → IsSettled e s cells → e.is_out b s cells ≡ true → 8 ≤ m → ChangesInside b old new
    → (ps : List ℕ) → AllOut e s cells m ps → ApartFrom e s m b ps → WordsKept old new ps
words-kept e s cells old new b m cover h o l k [] a f = tt
words-kept e s cells old new b m cover h o l k (p ∷ ps) a f =
    let x = cover b s cells h o in
    let y = cover (block p m) s cells h a.0 in
    let q : (p + 8 ≤ b.place) ⊎ (end_of b ≤ p) = elim (apart-order e s b (block p m) f.0) [ inl z ↦ inr (omega (arith, x.upto, y.from)) | inr z ↦ inl (omega (arith, x.from, y.upto)) ] in
    (kept-word b old new p k q, words-kept e s cells old new b m cover h o l k ps a.1 f.1)

-- ---- the cached blocks

cleans-kept : (e : Rules) (fs : Fields) (old new : List ℕ) (cells : Cells) (Clean : Block → Type 0) (m : ℕ) → Framed e fs old new cells Clean → (ps : List ℕ) → AllOut e (e.read fs old) cells m ps → Each (λ p. Clean (block p m)) ps
    → AllClean e (e.read fs old) old m ps → AllClean e (e.read fs old) new m ps
cleans-kept e fs old new cells Clean m f [] a b c = c
cleans-kept e fs old new cells Clean m f (p ∷ ps) a b c = (f.clean (block p m) a.0 b.0 c.0, cleans-kept e fs old new cells Clean m f ps a.1 b.1 c.1)

any-all : (m : ℕ) (ps : List ℕ) → Each (λ p. Any (block p m)) ps
any-all m [] = tt
any-all m (p ∷ ps) = (tt, any-all m ps)

apart-places : (e : Rules) (s : State) (m : ℕ) (b : Block) (ps : List ℕ) → ApartFrom e s m b ps → Each (λ p. IsSameOrApart e s b (block p m)) ps
apart-places e s m b [] a = tt
apart-places e s m b (p ∷ ps) a = (inr a.0, apart-places e s m b ps a.1)

-- ---- changes of bytes

no-out : (least greatest : ℕ) (e : Rules) (b : Block) (bytes : List ℕ) (cells : Cells) → (free_list_rules least greatest e).is_out b ((free_list_rules least greatest e).read closed_fields bytes) cells ≡ true → ⊥
unfolding free_list_rules
no-out least greatest e b bytes cells o = let x = out-free_list least greatest e b ((free_list_rules least greatest e).read closed_fields bytes) cells o in let y = x.is_set in absurd (cc)

pub free_list-own : (least greatest : ℕ) (e : Rules) → IsCacheSize least greatest → Covering e → OwnFraming e → OwnFraming (free_list_rules least greatest e)
unfolding free_list_rules
free_list-own least greatest e z cover law closed_fields old new cells h i k =
    record { state = refl; image = refl; clean = λ c o y w. absurd (no-out least greatest e c old cells o); marked = λ c o y w. absurd (no-out least greatest e c old cells o) }
free_list-own least greatest e z cover law (open_fields kept fss) old new cells h i k =
    let s = (free_list_rules least greatest e).read (open_fields kept fss) old in
    let t = e.read (nth_fields fss 0) old in
    let ps = read_chain (kept_count kept) (kept_front kept) old in
    let p = cache-parts greatest e s cells h in
    let m = image-free_list least greatest e (open_fields kept fss) s old refl i in
    let v : OwnKept e cells old new = record { length_same = k.length_same; at = k.at } in
    let f = law (nth_fields fss 0) old new cells p.below m.below v in
    let ws = own-words e t cells old new greatest cover p.below z.word v ps p.out in
    let own : IsCacheImage (open_fields kept fss) s new = record { count = m.own.count; front = m.own.front; chain = chain-same old new ps ws m.own.chain } in
    record {
      state = rw (read_chain-same (kept_count kept) (kept_front kept) old new k.length_same ws, f.state) refl;
      image = free_list-image least greatest e (open_fields kept fss) s new
          (record { own = own; clean = cleans-kept e (nth_fields fss 0) old new cells Any greatest f ps p.out (any-all greatest ps) m.clean; below = f.image });
      clean = λ c o y w. f.clean (cache_down least greatest c) (out-free_list least greatest e c s cells o).below tt w;
      marked = λ c o y w. f.clean (cache_down least greatest c) (out-free_list least greatest e c s cells o).below tt w;
    }

below-apart : (e f : Rules) (s t : State) (b c : Block) (down : Block → Block) → ((d : Block) → e.extent d s ≡ f.extent (down d) t) → IsSameOrApart e s b c → IsSameOrApart f t (down b) (down c)
below-apart e f s t b c down q (inl z) = inl (ap down z)
below-apart e f s t b c down q (inr z) = inr (record { either = rw (q b, q c) at z.either })

pub free_list-framed : (least greatest : ℕ) (e : Rules) → IsCacheSize least greatest → Covering e → Framing e → Framing (free_list_rules least greatest e)
unfolding free_list_rules
free_list-framed least greatest e z cover law closed_fields old new cells b h i o k = absurd (no-out least greatest e b old cells o)
free_list-framed least greatest e z cover law (open_fields kept fss) old new cells b h i o k =
    let s = (free_list_rules least greatest e).read (open_fields kept fss) old in
    let t = e.read (nth_fields fss 0) old in
    let x = out-free_list least greatest e b s cells o in
    let ps = read_chain (kept_count kept) (kept_front kept) old in
    let p = cache-parts greatest e s cells h in
    let m = image-free_list least greatest e (open_fields kept fss) s old refl i in
    let g = cache-enough least greatest b.len in
    let d = cache_down least greatest b in
    let wide = inside-wider b d old new (omega arith) (omega arith) k in
    let f = law (nth_fields fss 0) old new cells d p.below m.below x.below wide in
    let ws = words-kept e t cells old new d greatest cover p.below x.below z.word wide ps p.out x.apart in
    let own : IsCacheImage (open_fields kept fss) s new = record { count = m.own.count; front = m.own.front; chain = chain-same old new ps ws m.own.chain } in
    let far = λ (c : Block) (y : IsSameOrApart (free_list_rules least greatest e) s b c). below-apart (free_list_rules least greatest e) e s t b c (cache_down least greatest) (λ d. refl) y in
    record {
      state = rw (read_chain-same (kept_count kept) (kept_front kept) old new k.length_same ws, f.state) refl;
      image = free_list-image least greatest e (open_fields kept fss) s new
          (record { own = own; clean = cleans-kept e (nth_fields fss 0) old new cells (IsSameOrApart e t d) greatest f ps p.out (apart-places e t greatest d ps x.apart) m.clean; below = f.image });
      clean = λ c o y w. f.clean (cache_down least greatest c) (out-free_list least greatest e c s cells o).below (far c y) w;
      marked = λ c o y w. f.clean (cache_down least greatest c) (out-free_list least greatest e c s cells o).below (far c y) w;
    }

pub free_list-framing : (least greatest : ℕ) (e : Rules) → IsCacheSize least greatest → PlacingLaws e → FramingLaws e → FramingLaws (free_list_rules least greatest e)
unfolding free_list_rules
free_list-framing least greatest e w c p =
    record { own_framed = free_list-own least greatest e w c.covers p.own_framed; framed = free_list-framed least greatest e w c.covers p.framed; marked = λ b s bytes h. h }
