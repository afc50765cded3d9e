-- What changes of bytes leave of a kr: its holes stand in free units, so no write into a block touches them.
use Rattle.std.proofs.Common.{◌≡◌, refl, sym, ap, ap₂, subst, ◌∙◌, ℕ, zero, suc, ◌≤◌, ◌<◌, ◌+◌, ◌*◌, ◌/◌, ◌⊎◌, inl, inr, Bool, true, false, not, ◌&&◌, cond, arith, List, [], ◌∷◌, length, slice_get, take, Some, nat_eq, nat_le}
use Rattle.std.proofs.lemmas.Option.{slice_get_within}
use Rattle.size_round.proofs.UpLeast.{enough_times}
use Rattle.space_core.specs.Words.{has_bytes, word_at}
use Rattle.layer_rules.specs.declared.Block.{Block}
use Rattle.layer_rules.specs.Blocks.{block, end_of}
use Rattle.layer_rules.specs.Fields.{Kept, chain_end, kept_chunk, kept_first, kept_mode, kept_position, no_fields, open_fields}
use Rattle.layer_rules.specs.Rows.{Each}
use Rattle.layer_rules.specs.State.{Own, chunk_in, kr_own, mode_of, units_in, units_of}
use Rattle.layer_rules.specs.Units.{first_unit, unit_count}
use Rattle.layer_laws.proofs.KeptBytes.{KeptBytes, IsWordAt-same}
use Rattle.layer_laws.specs.Carves.{IsInOrder, IsOutIn, BesideKept, ReadsSame}
use Rattle.layer_laws.specs.Carving.{alone}
use Rattle.layer_laws.specs.UnitMeanings.{AreAll}
use Rattle.kr_rules.proofs.KrParts.{holes-parts, holes-whole, kr-of}
use Rattle.kr_rules.proofs.KrUnits.{at-unit, count-whole, out-own, units-of}
use Rattle.kr_rules.specs.KrMeanings.{IsHoleChain}
use Rattle.kr_rules.specs.KrRules.{first_hole, free_runs, hole_units, holes_of, is_kr_image, joined, kr_carving, read_holes, read_kr, serves_tail, units_around}

-- ---- each hole begins with a free unit

record IsFreeHole (p : ℕ) (us : List Bool) (h : Block) : Type 0 where
  pub unit : ℕ
  pub place : h.place ≡ p + 16 * unit
  pub free : slice_get us unit ≡ Some false

behind : (p : ℕ) (u : Bool) (us : List Bool) (hs : List Block) → Each (IsFreeHole (p + 16) us) hs → Each (IsFreeHole p (u ∷ us)) hs
behind p u us [] h = tt
behind p u us (x ∷ hs) h = (record { unit = suc h.0.unit; place = omega (arith, h.0.place); free = h.0.free }, behind p u us hs h.1)

joined-free : (p : ℕ) (us : List Bool) (hs : List Block) → Each (IsFreeHole p (false ∷ us)) hs → Each (IsFreeHole p (false ∷ us)) (joined p hs)
joined-free p us [] h = (record { unit = 0; place = omega arith; free = refl }, tt)
joined-free p us (x ∷ hs) h = by-case (nat_eq x.place (p + 16))
  where
    here : (len : ℕ) → IsFreeHole p (false ∷ us) (block p len)
    here len = record { unit = 0; place = omega arith; free = refl }

    by-case : (q : Bool) → Each (IsFreeHole p (false ∷ us)) (cond q (block p (x.len + 16) ∷ hs) (block p 16 ∷ x ∷ hs))
    by-case true = (here (x.len + 16), h.1)
    by-case false = (here 16, h)

holes-free : (p : ℕ) (us : List Bool) → Each (IsFreeHole p us) (free_runs p us)
unfolding free_runs
holes-free p [] = tt
holes-free p (true ∷ us) = behind p true us (free_runs (p + 16) us) (holes-free (p + 16) us)
holes-free p (false ∷ us) = joined-free p us (free_runs (p + 16) us) (behind p false us (free_runs (p + 16) us) (holes-free (p + 16) us))

take-get : (m : ℕ) (us : List Bool) (j : ℕ) (x : Bool) → slice_get (take m us) j ≡ Some x → slice_get us j ≡ Some x
take-get zero us j x h = absurd (cc)
take-get (suc m) [] j x h = h
take-get (suc m) (u ∷ us) zero x h = h
take-get (suc m) (u ∷ us) (suc j) x h = take-get m us j x h

if-taken : (q : Bool) (m : ℕ) (us : List Bool) (j : ℕ) → slice_get (cond q (take m us) us) j ≡ Some false → slice_get us j ≡ Some false
if-taken true m us j h = take-get m us j false h
if-taken false m us j h = h

-- ---- the chain, where the bytes of each hole's front stay

abbrev FrontsKept : (old new : List ℕ) → List Block → Type 0
FrontsKept old new hs = Each (λ h. KeptBytes old new h.place (h.place + 16)) hs

fronts-kept : (old new : List ℕ) (p : ℕ) (us : List Bool) (hs : List Block) → ((j : ℕ) → slice_get us j ≡ Some false → KeptBytes old new (p + 16 * j) (p + 16 * j + 16)) → Each (IsFreeHole p us) hs → FrontsKept old new hs
fronts-kept old new p us [] f h = tt
fronts-kept old new p us (x ∷ hs) f h = (subst (λ q. KeptBytes old new q (q + 16)) (sym h.0.place) (f h.0.unit h.0.free), fronts-kept old new p us hs f h.1)

first-word : (old new : List ℕ) (p : ℕ) → KeptBytes old new p (p + 16) → KeptBytes old new p (p + 8)
first-word old new p k = record { length_same = k.length_same; at = λ i x y. k.at i x (omega arith) }

second-word : (old new : List ℕ) (p : ℕ) → KeptBytes old new p (p + 16) → KeptBytes old new (p + 8) (p + 8 + 8)
second-word old new p k = record { length_same = k.length_same; at = λ i x y. k.at i (omega arith) (omega arith) }

chain-kept : (old new : List ℕ) (hs : List Block) → FrontsKept old new hs → IsHoleChain old hs → IsHoleChain new hs
chain-kept old new [] k h = tt
chain-kept old new (x ∷ hs) k h = (
  IsWordAt-same old new x.place x.len (first-word old new x.place k.0) h.0,
  IsWordAt-same old new (x.place + 8) (first_hole hs) (second-word old new x.place k.0) h.1,
  chain-kept old new hs k.1 h.2,
)

-- so the same holes are read
read-same : (old new : List ℕ) → length new ≡ length old → (n : ℕ) (hs : List Block) → IsHoleChain old hs → IsHoleChain new hs → read_holes n (first_hole hs) new ≡ read_holes n (first_hole hs) old
unfolding read_holes
read-same old new l zero hs h k = refl
read-same old new l (suc n) [] h k =
    stops (has_bytes new chain_end 16) (block chain_end (word_at new chain_end) ∷ read_holes n (word_at new (chain_end + 8)) new)
    ∙ sym (stops (has_bytes old chain_end 16) (block chain_end (word_at old chain_end) ∷ read_holes n (word_at old (chain_end + 8)) old))
  where
    stops : (q : Bool) (a : List Block) → elim (q && not (nat_eq chain_end chain_end)) as (λ _. List Block) [ true ↦ a | false ↦ [] ] ≡ []
    stops true a = refl
    stops false a = refl
read-same old new l (suc n) (x ∷ hs) h k =
    by-test (has_bytes new x.place 16 && not (nat_eq x.place chain_end)) (has_bytes old x.place 16 && not (nat_eq x.place chain_end)) (ap (λ m. nat_le (x.place + 16) m && not (nat_eq x.place chain_end)) l)
    (block x.place (word_at new x.place) ∷ read_holes n (word_at new (x.place + 8)) new) (block x.place (word_at old x.place) ∷ read_holes n (word_at old (x.place + 8)) old)
    (ap₂ (λ w r. block x.place w ∷ r) (k.0.value ∙ sym h.0.value)
    (ap (λ p. read_holes n p new) k.1.value ∙ (read-same old new l n hs h.2 k.2 ∙ sym (ap (λ p. read_holes n p old) h.1.value))))
  where
    by-test : (q r : Bool) → q ≡ r → (a b : List Block) → a ≡ b → elim q as (λ _. List Block) [ true ↦ a | false ↦ [] ] ≡ elim r as (λ _. List Block) [ true ↦ b | false ↦ [] ]
    by-test true true e a b z = z
    by-test false false e a b z = refl
    by-test true false e a b z = absurd (cc)
    by-test false true e a b z = absurd (cc)

-- ---- a kr, where the bytes of its holes' fronts stay

-- a free unit's bytes stay
abbrev FreeKept : (chunk : Block) (units : List Bool) (old new : List ℕ) → Type 0
FreeKept chunk units old new = (j : ℕ) → slice_get units j ≡ Some false → KeptBytes old new (chunk.place + 16 * j) (chunk.place + 16 * j + 16)

-- no byte of a free unit is of a block that is out
free-beside : (size : ℕ) (own : Own) (j k : ℕ) (b : Block) → slice_get (units_in own) j ≡ Some false → (chunk_in own).place + 16 * j ≤ k → k < (chunk_in own).place + 16 * j + 16 → IsOutIn (kr_carving size) b own → (k < b.place) ⊎ (end_of b ≤ k)
free-beside size own j k b q from upto o =
    let x = out-own size b (alone own) refl o in
    let u = units-of b (alone own) x in
    let place = (chunk_in own).place in
    let g = enough_times b.len 16 (omega arith) in
    elim (not-taken (units_in own) (first_unit 16 place b) (unit_count 16 place b) j u.taken q) [
      | inl l ↦ inl (omega (arith, x.from, x.aligned))
      | inr l ↦ inr (omega (arith, count-whole place b (at-unit b (alone own) x), x.from, x.aligned))
    ]
  where
    not-taken : (units : List Bool) (first count j : ℕ) → AreAll true units first count → slice_get units j ≡ Some false → (j < first) ⊎ (first + count ≤ j)
    not-taken units first count j t q = elim (three j first count) [
      | inl d ↦ inl d
      | inr d ↦ elim d [ inl c ↦ inr c | inr c ↦ absurd (let z : Some true ≡ Some false = sym (t j c.0 c.1) ∙ q in cc) ]
    ]
      where
        three : (j first count : ℕ) → (j < first) ⊎ ((first + count ≤ j) ⊎ ((first ≤ j) × (j < first + count)))
        three j first count = grind arith

pub kr-beside : (size : ℕ) (k : Kept) (old new : List ℕ) → (let own = read_kr (kept_chunk k) (kept_mode k) (kept_position k) (kept_first k) old in IsInOrder (kr_carving size) own → is_kr_image k (alone own) old ≡ true
    → BesideKept (kr_carving size) own old new → ReadsSame (kr_carving size) k old new)
kr-beside size k old new o i h =
    let chunk = kept_chunk k in
    let own = read_kr chunk (kept_mode k) (kept_position k) (kept_first k) old in
    let s = alone own in
    let fs = open_fields k no_fields in
    let m = kr-of size chunk (kept_mode k) (kept_position k) (units_in own) o.passes in
    let image = holes-parts fs s old i in
    let hs = holes_of s in
    let free : FreeKept chunk (units_in own) old new = λ j q.
    let l = slice_get_within (units_in own) j false q in
    record { length_same = h.length_same; at = λ p x y. h.at p (omega arith) (omega (arith, m.count)) (λ b out. free-beside size own j p b q x y out) } in
    let fronts = fronts-kept old new chunk.place (hole_units s) hs (λ j q. free j (if-taken (serves_tail (mode_of s)) _ (units_of s) j q)) (holes-free chunk.place (hole_units s)) in
    let chain = chain-kept old new hs fronts image.chain in
    let read : read_holes (chunk.len / 16) (kept_first k) new ≡ read_holes (chunk.len / 16) (kept_first k) old =
    subst (λ p. read_holes (chunk.len / 16) p new ≡ read_holes (chunk.len / 16) p old) (sym image.first) (read-same old new h.length_same (chunk.len / 16) hs image.chain chain) in
    record {
      read = ap (λ holes. kr_own chunk (kept_mode k) (kept_position k) (units_around holes (serves_tail (kept_mode k)) (kept_position k) chunk.place (chunk.len / 16))) read;
      image = holes-whole fs s new (record { first = image.first; chain = chain });
    }
