-- The bytes of a free list between calls: what the test of its image says, and what makes it pass.
use Rattle.std.proofs.Common.{◌≡◌, refl, ℕ, Bool, true, ◌&&◌, arith, List, [], ◌∷◌, length, nat_eq}
use Rattle.std.proofs.lemmas.Bool.{and_from}
use Rattle.std.proofs.lemmas.Bool.Decides.{nat_tests}
use Rattle.layer_rules.specs.Blocks.{block}
use Rattle.layer_rules.specs.State.{State, closed, open_with, is_open, child, cached_of}
use Rattle.layer_rules.specs.Fields.{Fields, kept_of, child_fields, kept_count, kept_front}
use Rattle.layer_rules.specs.Rules.{Rules}
use Rattle.layer_rules.specs.Testing.{on_open}
use Rattle.layer_laws.proofs.Basics.{and-fst, and-snd}
use Rattle.free_list_rules.specs.FreeListRules.{first_of, is_chain, is_cache_image, are_cached_clean, free_list_rules}
use Rattle.free_list_rules.specs.FreeListMeanings.{IsChain, IsCacheImage, AllClean, IsFreeListImage}
use Rattle.free_list_rules.proofs.CacheChains.{chain-of, chain-test}

image-parts : (n p : ℕ) (ps bytes : List ℕ) → (nat_eq n (length ps) && (nat_eq p (first_of ps) && is_chain bytes ps)) ≡ true → (n ≡ length ps) × (p ≡ first_of ps) × IsChain bytes ps
image-parts n p ps bytes h =
    let a = nat_eq n (length ps) in let b = nat_eq p (first_of ps) in let c = is_chain bytes ps in
    let x = and-fst a (b && c) h in
    let y = and-fst b c (and-snd a (b && c) h) in
    (grind (arith, nat_tests, x), grind (arith, nat_tests, y), chain-of bytes ps (and-snd b c (and-snd a (b && c) h)))

parts-image : (n p : ℕ) (ps bytes : List ℕ) → n ≡ length ps → p ≡ first_of ps → IsChain bytes ps → (nat_eq n (length ps) && (nat_eq p (first_of ps) && is_chain bytes ps)) ≡ true
parts-image n p ps bytes a b c =
    let x : nat_eq n (length ps) ≡ true = grind (arith, nat_tests, a) in
    let y : nat_eq p (first_of ps) ≡ true = grind (arith, nat_tests, b) in
    and_from _ _ x (and_from _ _ y (chain-test bytes ps c))

pub image-cache : (fs : Fields) (s : State) (bytes : List ℕ) → is_cache_image fs s bytes ≡ true → IsCacheImage fs s bytes
image-cache fs s bytes h =
    let x = image-parts (kept_count (kept_of fs)) (kept_front (kept_of fs)) (cached_of s) bytes h in
    record { count = x.0; front = x.1; chain = x.2 }

pub cache-image : (fs : Fields) (s : State) (bytes : List ℕ) → IsCacheImage fs s bytes → is_cache_image fs s bytes ≡ true
cache-image fs s bytes h = parts-image (kept_count (kept_of fs)) (kept_front (kept_of fs)) (cached_of s) bytes h.count h.front h.chain

pub clean-each : (e : Rules) (t : State) (bytes : List ℕ) (m : ℕ) (ps : List ℕ) → are_cached_clean e m ps t bytes ≡ true → AllClean e t bytes m ps
clean-each e t bytes m [] h = tt
clean-each e t bytes m (p ∷ ps) h =
    let x = e.is_clean (block p m) t bytes in let y = are_cached_clean e m ps t bytes in (and-fst x y h, clean-each e t bytes m ps (and-snd x y h))

pub clean-all : (e : Rules) (t : State) (bytes : List ℕ) (m : ℕ) (ps : List ℕ) → AllClean e t bytes m ps → are_cached_clean e m ps t bytes ≡ true
clean-all e t bytes m [] h = refl
clean-all e t bytes m (p ∷ ps) h = and_from _ _ h.0 (clean-all e t bytes m ps h.1)

on-open : (s : State) (x : Bool) → is_open s ≡ true → on_open s x ≡ true → x ≡ true
on-open closed x o h = absurd (cc)
on-open (open_with own ss) x o h = h

open-on : (s : State) (x : Bool) → x ≡ true → on_open s x ≡ true
open-on closed x h = refl
open-on (open_with own ss) x h = h

pub image-free_list : (least greatest : ℕ) (e : Rules) (fs : Fields) (s : State) (bytes : List ℕ) → is_open s ≡ true → (free_list_rules least greatest e).is_image fs s bytes ≡ true → IsFreeListImage greatest e fs s bytes
unfolding free_list_rules
image-free_list least greatest e fs s bytes o h =
    let a = is_cache_image fs s bytes in let b = are_cached_clean e greatest (cached_of s) (child s 0) bytes in let c = e.is_image (child_fields fs 0) (child s 0) bytes in
    let x = on-open s (a && (b && c)) o h in
    let y = and-snd a (b && c) x in
    record { own = image-cache fs s bytes (and-fst a (b && c) x); clean = clean-each e (child s 0) bytes greatest (cached_of s) (and-fst b c y); below = and-snd b c y }

pub free_list-image : (least greatest : ℕ) (e : Rules) (fs : Fields) (s : State) (bytes : List ℕ) → IsFreeListImage greatest e fs s bytes → (free_list_rules least greatest e).is_image fs s bytes ≡ true
unfolding free_list_rules
free_list-image least greatest e fs s bytes h =
    open-on s _ (and_from _ _ (cache-image fs s bytes h.own) (and_from _ _ (clean-all e (child s 0) bytes greatest (cached_of s) h.clean) h.below))
