-- The cached places are pairwise different and lie in the Space, so they are few.
use Rattle.std.proofs.Common.{ℕ, ◌≡◌, ◌≢◌, ◌≤◌, ◌<◌, List, [], ◌∷◌, length, true, false, eqb, arith}
use Rattle.std.specs.List.{IsDistinct, AllByRecursion, list_any}
use Rattle.std.proofs.lemmas.Bool.Decides.{nat_tests}
use Rattle.std.proofs.lemmas.Map.Steps.{length-le_from_distinct_below}
use Rattle.space_core.specs.Memory.{Memory}
use Rattle.layer_rules.specs.Blocks.{block, is_apart}
use Rattle.layer_rules.specs.Layering.{LayerModel, state_of, Stands, IsOutOf}
use Rattle.layer_laws.specs.Lawful.{IsMade}
use Rattle.layer_laws.proofs.Placement.{apart-share_no_byte}
use Rattle.layer_laws.proofs.StandingLaws.{out-in_space}
use Rattle.free_list_rules.specs.FreeListMeanings.{ApartFrom, AllOut, AllApart}
use Rattle.free_list.specs.declared.caching.Chain.{Chain}
use Rattle.free_list.proofs.Standing.{IsList, places}

other-place : (p q n : ℕ) → 8 ≤ n → is_apart (block p n) (block q n) ≡ true → p ≢ q
other-place p q n w a = grind (arith, nat_tests)

not-among : (t : LayerModel) (m : Memory) (greatest p : ℕ) → IsMade t.rules → Stands t m → 8 ≤ greatest → IsOutOf t m (block p greatest) → (ps : List ℕ) → AllOut t.rules (state_of t m) m.cells greatest ps → ApartFrom t.rules (state_of t m) greatest (block p greatest) ps
    → AllByRecursion (λ q. eqb p q ≡ false) ps
not-among t m greatest p l h w o [] a f = tt
not-among t m greatest p l h w o (q ∷ ps) a f =
    let ne = other-place p q greatest w (apart-share_no_byte t m (block p greatest) (block q greatest) l h o a.0 f.0) in
    (grind (arith, nat_tests), not-among t m greatest p l h w o ps a.1 f.1)

distinct : (t : LayerModel) (m : Memory) (greatest : ℕ) → IsMade t.rules → Stands t m → 8 ≤ greatest → (ps : List ℕ) → AllOut t.rules (state_of t m) m.cells greatest ps → AllApart t.rules (state_of t m) greatest ps → IsDistinct eqb ps
unfolding IsDistinct
distinct t m greatest l h w [] a f = tt
distinct t m greatest l h w (p ∷ ps) a f = (not-among t m greatest p l h w a.0 ps a.1 f.0, distinct t m greatest l h w ps a.1 f.1)

below : (t : LayerModel) (m : Memory) (greatest q : ℕ) → IsMade t.rules → Stands t m → 8 ≤ greatest → (ps : List ℕ) → AllOut t.rules (state_of t m) m.cells greatest ps → list_any (eqb q) ps ≡ true → q < length m.bytes
below t m greatest q l h w [] a e = absurd (cc)
below t m greatest q l h w (p ∷ ps) a e =
    let i = out-in_space t m (block p greatest) l h a.0 in
    let rec = λ (x : list_any (eqb q) ps ≡ true). below t m greatest q l h w ps a.1 x in
    grind (arith, nat_tests)

pub few-cached : (greatest : ℕ) (c : Chain) (t : LayerModel) (m : Memory) → IsList greatest c t m → c.count ≤ 16777216
few-cached greatest c t m l =
    let ps = places c m in
    let n = length-le_from_distinct_below ps (length m.bytes) (distinct t m greatest l.made l.parent l.word ps l.out l.apart) (λ q e. below t m greatest q l.made l.parent l.word ps l.out e) in
    omega (arith, n, l.counted, l.parent.memory.sizes, l.parent.memory.cells)
