-- The chain of the cached blocks: what it says, and what it stays as bytes change.
use Rattle.std.proofs.Common.{◌≡◌, refl, ap, ◌∙◌, ℕ, zero, suc, ◌+◌, Bool, true, false, ◌&&◌, arith, List, [], ◌∷◌, length, nat_eq, nat_le}
use Rattle.std.proofs.lemmas.Bool.{and_from}
use Rattle.std.proofs.lemmas.Bool.Decides.{nat_tests}
use Rattle.space_core.specs.Words.{word_at, has_bytes}
use Rattle.layer_laws.proofs.Basics.{and-fst, and-snd}
use Rattle.free_list_rules.specs.FreeListRules.{first_of, is_chain, read_chain}
use Rattle.free_list_rules.specs.FreeListMeanings.{ChainIsRead, IsChain}
use Rattle.layer_laws.proofs.KeptBytes.{KeptBytes, word_at-same, IsWordAt-same}

-- ---- the chain

pub chain-of : (bytes ps : List ℕ) → is_chain bytes ps ≡ true → IsChain bytes ps
chain-of bytes [] h = tt
chain-of bytes (p ∷ ps) h =
    let a = has_bytes bytes p 8 in let b = nat_eq (word_at bytes p) (first_of ps) in let c = is_chain bytes ps in
    let k = and-fst (a && b) c h in
    let x = and-fst a b k in
    let y = and-snd a b k in
    (record { inside = grind (arith, nat_tests, x); value = grind (arith, nat_tests, y) }, chain-of bytes ps (and-snd (a && b) c h))

pub chain-test : (bytes ps : List ℕ) → IsChain bytes ps → is_chain bytes ps ≡ true
chain-test bytes [] h = refl
chain-test bytes (p ∷ ps) h =
    let x : has_bytes bytes p 8 ≡ true = (let i = h.0.inside in grind (arith, nat_tests)) in
    let y : nat_eq (word_at bytes p) (first_of ps) ≡ true = (let i = h.0.value in grind (arith, nat_tests)) in
    and_from _ _ (and_from _ _ x y) (chain-test bytes ps h.1)

-- what is read of the bytes is the chain that stands there
pub chain-read : (bytes ps : List ℕ) → IsChain bytes ps → read_chain (length ps) (first_of ps) bytes ≡ ps
unfolding read_chain
chain-read bytes [] h = refl
chain-read bytes (p ∷ ps) h =
    let there : has_bytes bytes p 8 ≡ true = (let i = h.0.inside in grind (arith, nat_tests)) in
    let rest : read_chain (length ps) (word_at bytes p) bytes ≡ ps = ap (λ q. read_chain (length ps) q bytes) h.0.value ∙ chain-read bytes ps h.1 in
    step (has_bytes bytes p 8) p (read_chain (length ps) (word_at bytes p) bytes) there ∙ ap (λ qs. p ∷ qs) rest
  where
    step : (b : Bool) (p : ℕ) (qs : List ℕ) → b ≡ true → elim b as (λ _. List ℕ) [ true ↦ p ∷ qs | false ↦ [] ] ≡ p ∷ qs
    step true p qs h = refl
    step false p qs h = absurd (cc)

pub chain_is_read : ChainIsRead
chain_is_read bytes ps h = chain-read bytes ps (chain-of bytes ps h)

-- ---- bytes that stay

-- the first word of each of these blocks is kept
abbrev pub WordsKept : List ℕ → List ℕ → List ℕ → Type 0
WordsKept old new [] = Unit {0}
WordsKept old new (q ∷ qs) = KeptBytes old new q (q + 8) × WordsKept old new qs

pub chain-same : (old new ps : List ℕ) → WordsKept old new ps → IsChain old ps → IsChain new ps
chain-same old new [] k c = c
chain-same old new (p ∷ ps) k c = (IsWordAt-same old new p (first_of ps) k.0 c.0, chain-same old new ps k.1 c.1)

read-case : (p : ℕ) (old new : List ℕ) (x y : List ℕ) (b c : Bool) → c ≡ b → (KeptBytes old new p (p + 8) → WordsKept old new x → y ≡ x)
    → WordsKept old new (elim b [ true ↦ p ∷ x | false ↦ [] ]) → elim c as (λ _. List ℕ) [ true ↦ p ∷ y | false ↦ [] ] ≡ elim b as (λ _. List ℕ) [ true ↦ p ∷ x | false ↦ [] ]
read-case p old new x y true true e h k = ap (λ qs. p ∷ qs) (h k.0 k.1)
read-case p old new x y false false e h k = refl
read-case p old new x y true false e h k = cc
read-case p old new x y false true e h k = cc

pub read_chain-same : (n p : ℕ) (old new : List ℕ) → length new ≡ length old → WordsKept old new (read_chain n p old) → read_chain n p new ≡ read_chain n p old
unfolding read_chain
read_chain-same zero p old new l k = refl
read_chain-same (suc n) p old new l k =
    read-case p old new (read_chain n (word_at old p) old) (read_chain n (word_at new p) new) (has_bytes old p 8) (has_bytes new p 8) (ap (λ m. nat_le (p + 8) m) l)
    (λ z y. let e : word_at new p ≡ word_at old p = word_at-same old new p z in ap (λ q. read_chain n q new) e ∙ read_chain-same n (word_at old p) old new l y) k
