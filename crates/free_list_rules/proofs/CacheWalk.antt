-- Following the words of the chain from its front.
use Rattle.std.proofs.Common.{◌≡◌, refl, sym, ap, subst, ◌∙◌, ℕ, zero, suc, ◌+◌, ◌≤◌, ◌<◌, ◌≢◌, true, arith, List, [], ◌∷◌, length}
use Rattle.std.specs.Prelude.{slice_index}
use Rattle.std.proofs.lemmas.Bool.Decides.{nat_tests}
use Rattle.space_core.specs.Cells.{Cells}
use Rattle.layer_rules.specs.declared.Block.{Block}
use Rattle.layer_rules.specs.Blocks.{block, end_of, is_apart}
use Rattle.layer_rules.specs.Fields.{chain_end}
use Rattle.layer_rules.specs.State.{State, child, cached_of}
use Rattle.layer_rules.specs.Rules.{Rules, IsSettled, AreApart}
use Rattle.layer_laws.specs.Lawful.{Covering}
use Rattle.free_list_rules.specs.FreeListRules.{first_of}
use Rattle.free_list_rules.specs.FreeListMeanings.{ApartFrom, AllOut, AllApart, IsChain, followed, ChainIsWalked}
use Rattle.free_list_rules.proofs.CacheParts.{cache-opened}
use Rattle.free_list_rules.proofs.CacheImage.{image-free_list}

visits-at : (bytes ps : List ℕ) → IsChain bytes ps → (k : ℕ) → k < length ps → followed k (first_of ps) bytes ≡ slice_index ps k
unfolding followed
visits-at bytes [] h k l = absurd (omega arith)
visits-at bytes (p ∷ ps) h zero l = refl
visits-at bytes (p ∷ ps) h (suc k) l = ap (λ q. followed k q bytes) h.0.value ∙ visits-at bytes ps h.1 k (omega arith)

there-at : (bytes ps : List ℕ) → IsChain bytes ps → (k : ℕ) → k < length ps → slice_index ps k + 8 ≤ length bytes
there-at bytes [] h k l = absurd (omega arith)
there-at bytes (p ∷ ps) h zero l = h.0.inside
there-at bytes (p ∷ ps) h (suc k) l = there-at bytes ps h.1 k (omega arith)

ends-at : (bytes ps : List ℕ) → IsChain bytes ps → followed (length ps) (first_of ps) bytes ≡ chain_end
unfolding followed
ends-at bytes [] h = refl
ends-at bytes (p ∷ ps) h = ap (λ q. followed (length ps) q bytes) h.0.value ∙ ends-at bytes ps h.1

-- ---- each once

apart-at : (e : Rules) (t : State) (m : ℕ) (b : Block) (ps : List ℕ) → ApartFrom e t m b ps → (k : ℕ) → k < length ps → AreApart e t b (block (slice_index ps k) m)
apart-at e t m b [] a k l = absurd (omega arith)
apart-at e t m b (p ∷ ps) a zero l = a.0
apart-at e t m b (p ∷ ps) a (suc k) l = apart-at e t m b ps a.1 k (omega arith)

not-itself : (b : Block) → b.place < end_of b → is_apart b b ≡ true → ⊥
not-itself b l h = grind (arith, nat_tests)

once-at : (e : Rules) (t : State) (cells : Cells) (m : ℕ) → Covering e → IsSettled e t cells → (ps : List ℕ) → AllOut e t cells m ps → AllApart e t m ps → (j k : ℕ) → j < k → k < length ps → slice_index ps j ≢ slice_index ps k
once-at e t cells m cover h [] o a j k l n = absurd (omega arith)
once-at e t cells m cover h (p ∷ ps) o a j zero l n = absurd (omega arith)
once-at e t cells m cover h (p ∷ ps) o a zero (suc k) l n = λ q.
    let x = apart-at e t m (block p m) ps a.0 k (omega arith) in
    let y = subst (λ i. AreApart e t (block p m) (block i m)) (sym q) x in
    not-itself (e.extent (block p m) t) (cover (block p m) t cells h o.0).some y.either
once-at e t cells m cover h (p ∷ ps) o a (suc j) (suc k) l n = once-at e t cells m cover h ps o.1 a.1 j k (omega arith) (omega arith)

pub chain_is_walked : ChainIsWalked
chain_is_walked least greatest e fs s bytes cells cover o h i =
    let x = cache-opened least greatest e s cells o h in
    let m = (image-free_list least greatest e fs s bytes o i).own in
    record {
      visits = λ k l. ap (λ q. followed k q bytes) m.front ∙ visits-at bytes (cached_of s) m.chain k l;
      there = there-at bytes (cached_of s) m.chain;
      once = once-at e (child s 0) cells greatest cover x.below (cached_of s) x.out x.apart;
      ends = ap (λ q. followed (length (cached_of s)) q bytes) m.front ∙ ends-at bytes (cached_of s) m.chain;
    }
