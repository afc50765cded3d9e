-- What the tests of a kr say, as named parts; and what it says of a block that it is out.
use Rattle.std.proofs.Common.{◌≡◌, refl, sym, subst, ◌∙◌, ap, ℕ, ◌+◌, ◌-◌, ◌/◌, ◌%◌, Bool, true, ◌&&◌, arith, List, [], ◌∷◌, length, nat_eq, nat_le}
use Rattle.std.proofs.lemmas.Bool.{and_from}
use Rattle.std.proofs.lemmas.Bool.Decides.{nat_tests}
use Rattle.space_core.specs.Cells.{Cells}
use Rattle.space_core.specs.Runs.{is_free_run}
use Rattle.layer_rules.specs.Blocks.{end_of}
use Rattle.layer_rules.specs.Fields.{Fields, kept_first, kept_of}
use Rattle.layer_rules.specs.Rules.{Rules, IsSettled}
use Rattle.layer_rules.specs.State.{Mode, Own, State, child, chunk_in, chunk_of, is_open, kr_own, list_mode, mode_in, mode_of, one_child, open_with, own_of, position_in, position_of, region_mode, units_in, units_of}
use Rattle.layer_rules.specs.Testing.{is_word}
use Rattle.layer_rules.specs.declared.Block.{Block}
use Rattle.layer_laws.proofs.Basics.{and-fst, and-snd}
use Rattle.layer_laws.proofs.CarvingParts.{CarvingImage, is_carving, is_carving-parts, carving-whole, image-parts, image-whole}
use Rattle.layer_laws.proofs.Tests.{opened}
use Rattle.layer_laws.proofs.KeptBytes.{word-parts, word-test}
use Rattle.kr_rules.specs.KrMeanings.{HasFreeTail, IsHoleChain, IsKr, IsKrImage, IsOutKr, KrImage, KrParts, OpenKrHasImage, OpenKrIsSound, OutOfKr}
use Rattle.kr_rules.specs.KrRules.{first_hole, has_free_tail, has_free_tail_if, holes_of, is_hole_chain, is_kr, is_kr_image, is_kr_own, kr_carving, kr_chunk, kr_rules, serves_tail}

-- ---- its numbers

pub tail-parts : (chunk : Block) (position : ℕ) (units : List Bool) → has_free_tail chunk position units ≡ true → HasFreeTail chunk position units
tail-parts chunk position units h =
    let a = nat_le chunk.place position in
    let b = nat_le position (end_of chunk) in
    let c = nat_eq ((position - chunk.place) % 16) 0 in
    let d = is_free_run units ((position - chunk.place) / 16) ((end_of chunk - position) / 16) in
    let k = and-snd a (b && (c && d)) h in
    let l = and-snd b (c && d) k in
    let start : nat_le chunk.place position ≡ true = and-fst a (b && (c && d)) h in
    let stop : nat_le position (end_of chunk) ≡ true = and-fst b (c && d) k in
    let aligned : nat_eq ((position - chunk.place) % 16) 0 ≡ true = and-fst c d l in
    record { start = grind (arith, nat_tests); stop = grind (arith, nat_tests); aligned = grind (arith, nat_tests); free = and-snd c d l }

pub tail-whole : (chunk : Block) (position : ℕ) (units : List Bool) → HasFreeTail chunk position units → has_free_tail chunk position units ≡ true
tail-whole chunk position units h =
    let x = h.start in
    let y = h.stop in
    let z = h.aligned in
    let start : nat_le chunk.place position ≡ true = grind (arith, nat_tests) in
    let stop : nat_le position (end_of chunk) ≡ true = grind (arith, nat_tests) in
    let aligned : nat_eq ((position - chunk.place) % 16) 0 ≡ true = grind (arith, nat_tests) in
    and_from _ _ start (and_from _ _ stop (and_from _ _ aligned h.free))

-- as long as the tail is served from
pub tail_if-parts : (mode : Mode) (chunk : Block) (position : ℕ) (units : List Bool) → has_free_tail_if mode chunk position units ≡ true → serves_tail mode ≡ true → HasFreeTail chunk position units
tail_if-parts region_mode chunk position units h e = tail-parts chunk position units h
tail_if-parts list_mode chunk position units h e = absurd (cc)

pub tail_if-whole : (mode : Mode) (chunk : Block) (position : ℕ) (units : List Bool) → (serves_tail mode ≡ true → HasFreeTail chunk position units) → has_free_tail_if mode chunk position units ≡ true
tail_if-whole region_mode chunk position units h = tail-whole chunk position units (h refl)
tail_if-whole list_mode chunk position units h = refl

pub kr-of : (size : ℕ) (chunk : Block) (mode : Mode) (position : ℕ) (units : List Bool) → is_kr size chunk mode position units ≡ true → IsKr size chunk mode position units
kr-of size chunk mode position units h =
    let a = nat_eq chunk.len (kr_chunk size chunk.len) in
    let b = nat_eq (length units) (chunk.len / 16) in
    let c = has_free_tail_if mode chunk position units in
    let k = and-snd a (b && c) h in
    let len : nat_eq chunk.len (kr_chunk size chunk.len) ≡ true = and-fst a (b && c) h in
    let count : nat_eq (length units) (chunk.len / 16) ≡ true = and-fst b c k in
    record { len = grind (arith, nat_tests); count = grind (arith, nat_tests); tail = tail_if-parts mode chunk position units (and-snd b c k) }

pub of-kr : (size : ℕ) (chunk : Block) (mode : Mode) (position : ℕ) (units : List Bool) → IsKr size chunk mode position units → is_kr size chunk mode position units ≡ true
of-kr size chunk mode position units h =
    let x = h.len in
    let y = h.count in
    let len : nat_eq chunk.len (kr_chunk size chunk.len) ≡ true = grind (arith, nat_tests) in
    let count : nat_eq (length units) (chunk.len / 16) ≡ true = grind (arith, nat_tests) in
    and_from _ _ len (and_from _ _ count (tail_if-whole mode chunk position units h.tail))

own-form : (own : Own) → is_kr_own own ≡ true → own ≡ kr_own (chunk_in own) (mode_in own) (position_in own) (units_in own)
own-form (kr_own chunk mode position units) h = refl
own-form _ h = absurd (cc)

pub kr-parts : (size : ℕ) (e : Rules) (s : State) (cells : Cells) → is_carving (kr_carving size) e s cells ≡ true → KrParts size e s cells
kr-parts size e s cells h =
    let x = is_carving-parts (kr_carving size) e s cells h in
    record {
      form = x.form ∙ ap (λ own. open_with own (one_child (child s 0))) (own-form (own_of s) x.kind);
      parent = x.parent;
      kr = kr-of size (chunk_of s) (mode_of s) (position_of s) (units_of s) x.passes;
      chunk = x.chunk;
      below = x.below;
    }

kr-open_parts : (size : ℕ) (e : Rules) (s : State) (cells : Cells) → is_open s ≡ true → IsSettled (kr_rules size e) s cells → KrParts size e s cells
unfolding kr_rules
kr-open_parts size e s cells o h = kr-parts size e s cells (opened s e.leaf_tags cells (is_carving (kr_carving size) e s cells) o h)

-- so from the parts
kr-from_parts : (size : ℕ) (e : Rules) (s : State) (cells : Cells) → KrParts size e s cells → IsSettled (kr_rules size e) s cells
unfolding kr_rules
kr-from_parts size e s cells p =
    subst (λ u. IsSettled (kr_rules size e) u cells) (sym p.form)
    (carving-whole (kr_carving size) e (kr_own (chunk_of s) (mode_of s) (position_of s) (units_of s)) (child s 0) cells refl (of-kr size (chunk_of s) (mode_of s) (position_of s) (units_of s) p.kr) p.parent p.chunk p.below)

pub open_kr_is_sound : OpenKrIsSound
open_kr_is_sound size e s cells o = (kr-open_parts size e s cells o, kr-from_parts size e s cells)

-- ---- its holes

pub holes-each : (bytes : List ℕ) (hs : List Block) → is_hole_chain bytes hs ≡ true → IsHoleChain bytes hs
holes-each bytes [] h = tt
holes-each bytes (x ∷ hs) h =
    let a = is_word bytes x.place x.len in
    let b = is_word bytes (x.place + 8) (first_hole hs) in
    let c = is_hole_chain bytes hs in
    let k = and-snd a (b && c) h in
    (word-parts bytes x.place x.len (and-fst a (b && c) h), word-parts bytes (x.place + 8) (first_hole hs) (and-fst b c k), holes-each bytes hs (and-snd b c k))

pub each-holes : (bytes : List ℕ) (hs : List Block) → IsHoleChain bytes hs → is_hole_chain bytes hs ≡ true
each-holes bytes [] h = refl
each-holes bytes (x ∷ hs) h =
    and_from _ _ (word-test bytes x.place x.len h.0) (and_from _ _ (word-test bytes (x.place + 8) (first_hole hs) h.1) (each-holes bytes hs h.2))

pub holes-parts : (fs : Fields) (s : State) (bytes : List ℕ) → is_kr_image (kept_of fs) s bytes ≡ true → IsKrImage fs s bytes
holes-parts fs s bytes h =
    let a = nat_eq (kept_first (kept_of fs)) (first_hole (holes_of s)) in
    let c = is_hole_chain bytes (holes_of s) in
    let first : nat_eq (kept_first (kept_of fs)) (first_hole (holes_of s)) ≡ true = and-fst a c h in
    record { first = grind (arith, nat_tests); chain = holes-each bytes (holes_of s) (and-snd a c h) }

pub holes-whole : (fs : Fields) (s : State) (bytes : List ℕ) → IsKrImage fs s bytes → is_kr_image (kept_of fs) s bytes ≡ true
holes-whole fs s bytes h =
    let e = h.first in
    let first : nat_eq (kept_first (kept_of fs)) (first_hole (holes_of s)) ≡ true = grind (arith, nat_tests) in
    and_from _ _ first (each-holes bytes (holes_of s) h.chain)

image-of : (size : ℕ) (e : Rules) (fs : Fields) (s : State) (bytes : List ℕ) → CarvingImage (kr_carving size) e fs s bytes → KrImage e fs s bytes
image-of size e fs s bytes h = record { holes = holes-parts fs s bytes h.own; clean = h.clean; below = h.below }

of-image : (size : ℕ) (e : Rules) (fs : Fields) (s : State) (bytes : List ℕ) → KrImage e fs s bytes → CarvingImage (kr_carving size) e fs s bytes
of-image size e fs s bytes h = record { own = holes-whole fs s bytes h.holes; clean = h.clean; below = h.below }

pub open_kr_has_image : OpenKrHasImage
unfolding kr_rules
open_kr_has_image size e fs s bytes o = (
  λ h. image-of size e fs s bytes (image-parts (kr_carving size) e fs s bytes o h),
  λ h. image-whole (kr_carving size) e fs s bytes o (of-image size e fs s bytes h),
)

-- ---- a block that is out

pub out-kr : (size : ℕ) (e : Rules) (b : Block) (s : State) (cells : Cells) → (kr_rules size e).is_out b s cells ≡ true → IsOutKr b s
unfolding kr_rules
out-kr size e b s cells o = record { is_set = grind (arith, nat_tests); some = grind (arith, nat_tests); from = grind (arith, nat_tests); aligned = grind (arith, nat_tests); taken = grind (arith, nat_tests) }

pub kr-out : (size : ℕ) (e : Rules) (b : Block) (s : State) (cells : Cells) → IsOutKr b s → (kr_rules size e).is_out b s cells ≡ true
unfolding kr_rules
kr-out size e b s cells o = grind (arith, nat_tests, o.is_set, o.some, o.from, o.aligned, o.taken)

pub out_of_kr : OutOfKr
out_of_kr size e b s cells = (out-kr size e b s cells, kr-out size e b s cells)
