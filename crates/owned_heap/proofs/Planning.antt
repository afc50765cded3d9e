-- Planning: layers of which each has one more than the one below, and the heap that is made of them.
use Rattle.std.proofs.Common.{◌≡◌, ◌≢◌, refl, sym, ap, subst, ◌∙◌, ℕ, zero, suc, ◌+◌, ◌≤◌, Bool, true, false, ◌||◌, Ok, Err, nat_eq, ◌⊎◌, inl, inr, List, [], ◌∷◌, length, replicate, arith}
use Rattle.std.proofs.lemmas.Bool.Decides.{nat_tests}
use Rattle.std.specs.List.{count_by}
use Rattle.size_round.specs.Sizes.{size_bound, rounded, power_from, is_power_of_two}
use Rattle.space_core.specs.Cells.{used_by}
use Rattle.space_core.specs.Leaf.{Leaf}
use Rattle.space_core.specs.Memory.{Memory, IsMemory, no_memory, fresh_memory}
use Rattle.std.proofs.lemmas.List.{length-replicate}
use Rattle.layer_rules.specs.Rules.{Rules, IsIn}
use Rattle.layer_rules.specs.Rows.{EachPair}
use Rattle.layer_rules.specs.After.{Opening, opened}
use Rattle.layer_rules.specs.Layering.{LayerModel, Stands, IsShut, OpensAs, state_of}
use Rattle.layer_laws.specs.Lawful.{IsMade}
use Rattle.layer_laws.proofs.StandingLaws.{shut-stands_again}
use Rattle.region_block.specs.RegionProper.{IsProper}
use Rattle.owned_heap.specs.Plans.{IsFresh, IsPlan, HasRoom, IsOneMore, is_alignment, opening_in}

pub over-same : (t t' : LayerModel) (m : Memory) → IsPlan t m → IsShut t' → t'.rules.leaf_tags ≡ t.rules.leaf_tags → IsPlan t' m
over-same t t' m p u e = record { fresh = p.fresh; shut = u; tags = e ∙ p.tags }

pub one-more : (nodes' nodes depth' depth cells : ℕ) → nodes' ≡ suc nodes → depth' ≡ suc depth → IsOneMore cells nodes depth cells nodes' depth'
one-more nodes' nodes depth' depth cells n d = record { same_cells = refl; more_nodes = omega arith; more_depth = omega arith }

-- ---- alignments

either-of : (x y : Bool) → (x || y) ≡ true → (x ≡ true) ⊎ (y ≡ true)
either-of true y h = inl refl
either-of false y h = inr h

-- an alignment is one of these
by-cases : (P : ℕ → Type 0) (a k : ℕ) (rest : Bool) → P k → (rest ≡ true → P a) → (nat_eq a k || rest) ≡ true → P a
by-cases P a k rest p q h =
    elim (either-of (nat_eq a k) rest h) [
      | inl e ↦ (let same : k ≡ a = grind (arith, nat_tests) in subst P same p)
      | inr e ↦ q e
    ]

last-case : (P : ℕ → Type 0) (a k : ℕ) → P k → nat_eq a k ≡ true → P a
last-case P a k p h = let same : k ≡ a = grind (arith, nat_tests) in subst P same p

pub record IsGood (a : ℕ) : Type 0 where
  pub power : is_power_of_two a ≡ true
  pub most : a ≤ 4096
  pub some : 1 ≤ a

pub good-alignment : (a : ℕ) → is_alignment a ≡ true → IsGood a
unfolding rounded power_from
good-alignment a =
    let good : (k : ℕ) → is_power_of_two k ≡ true → k ≤ 4096 → 1 ≤ k → IsGood k = λ k p m s. record { power = p; most = m; some = s } in
    by-cases IsGood a 1 _ (good 1 refl (omega arith) (omega arith)) (by-cases IsGood a 2 _ (good 2 refl (omega arith) (omega arith)) (by-cases IsGood a 4 _ (good 4 refl (omega arith) (omega arith))
    (by-cases IsGood a 8 _ (good 8 refl (omega arith) (omega arith)) (by-cases IsGood a 16 _ (good 16 refl (omega arith) (omega arith)) (by-cases IsGood a 32 _ (good 32 refl (omega arith) (omega arith))
    (by-cases IsGood a 64 _ (good 64 refl (omega arith) (omega arith)) (by-cases IsGood a 128 _ (good 128 refl (omega arith) (omega arith)) (by-cases IsGood a 256 _ (good 256 refl (omega arith) (omega arith))
    (by-cases IsGood a 512 _ (good 512 refl (omega arith) (omega arith)) (by-cases IsGood a 1024 _ (good 1024 refl (omega arith) (omega arith)) (by-cases IsGood a 2048 _ (good 2048 refl (omega arith) (omega arith))
    (last-case IsGood a 4096 (good 4096 refl (omega arith) (omega arith))))))))))))))

pub region-proper : (size align : ℕ) (e : Rules) → 1 ≤ size → size ≤ size_bound → is_alignment align ≡ true → align ≤ e.alignment → HasRoom e.nodes e.depth → IsProper size align e
region-proper size align e s m a u r =
    let g = good-alignment align a in
    record { size_some = s; size_most = m; align_some = g.some; align_most = g.most; power = g.power; aligned = u; depth = omega (arith, r.depth_most); few = omega (arith, r.nodes_most) }

-- ---- a root that is to be opened

none-used : (n : ℕ) → count_by (λ t. nat_eq t 1) (replicate n 0) ≡ 0
none-used zero = refl
none-used (suc n) = none-used n

pub plan-stands : (t : LayerModel) (m : Memory) → IsMade t.rules → IsPlan t m → Stands t m
plan-stands t m l p =
    let leaf : (n : ℕ) → IsIn t.rules.leaf_tags n → n ≡ 1 = λ n i. one n (subst (λ (tags : List ℕ). IsIn tags n) p.tags i) in
    let w : Memory = fresh_memory (length m.cells.tags) 1 in
    let count : m.leaves ≡ 1 = ap (λ (u : Memory). u.leaves) p.fresh.same in
    let none : used_by 1 m.cells ≡ 0 = ap (λ (u : Memory). used_by 1 u.cells) p.fresh.same ∙ none-used (length m.cells.tags) in
    shut-stands_again t m l p.fresh.memory (subst (λ (tags : List ℕ). EachPair ◌≢◌ tags) (sym p.tags) (tt, tt))
    (record { least = λ n i. omega (arith, leaf n i); most = λ n i. omega (arith, leaf n i, count) })
    p.shut (record { none = λ n i. subst (λ (k : ℕ). used_by k m.cells ≡ 0) (sym (leaf n i)) none })
  where
    one : (n : ℕ) → IsIn (1 ∷ []) n → n ≡ 1
    one n (inl e) = e
    one n (inr k) = absurd k

pub opened-well : (o : Opening) (t' : LayerModel) (m m' : Memory) (done : Unit {0}) → OpensAs o t' m m' (Ok done) → o ≡ Ok (opened (state_of t' m') m'.cells)
opened-well (Ok o) t' m m' done h = ap (λ s. Ok (opened s o.cells)) (sym h.0) ∙ ap (λ z. Ok (opened (state_of t' m') z)) (sym h.1)
opened-well (Err node) t' m m' done h = absurd h

-- in a fresh Space all cells are free
pub plan-opens : {L : Type 0} (model : L → LayerModel) (root : L) (m : Memory) (a n d : ℕ) → IsFresh m
    → opening_in model (record { root = root; cells = length m.cells.tags; alignment = a; nodes = n; depth = d }) ≡ (model root).rules.set_up 0 m.cells
unfolding opening_in
plan-opens model root m a n d f = ap (λ (u : Memory). (model root).rules.set_up 0 u.cells) (sym f.same)

-- ---- a fresh Space with one leaf

one-leaf : (cells : ℕ) (m₀ m₁ : Memory) → m₀ ≡ no_memory 0 → m₁ ≡ fresh_memory cells m₀.leaves → m₁ ≡ fresh_memory cells 0
one-leaf cells m₀ m₁ e₀ e₁ = e₁ ∙ ap (λ (m : Memory). fresh_memory cells m.leaves) e₀

pub first-fresh : (cells : ℕ) (m₀ m₁ m₂ : Memory) → m₀ ≡ no_memory 0 → m₁ ≡ fresh_memory cells m₀.leaves → m₂ ≡ record m₁ { leaves = m₁.leaves + 1 } → IsMemory m₂ → IsFresh m₂
first-fresh cells m₀ m₁ m₂ e₀ e₁ e₂ i =
    let more : Memory → Memory = λ m. record m { leaves = m.leaves + 1 } in
    let q : m₂ ≡ fresh_memory cells 1 = e₂ ∙ ap more (one-leaf cells m₀ m₁ e₀ e₁) in
    let size : length m₂.cells.tags ≡ cells = ap (λ (m : Memory). length m.cells.tags) q ∙ length-replicate cells 0 in
    record { memory = i; same = q ∙ ap (λ n. fresh_memory n 1) (sym size) }

pub first-leaf : (cells : ℕ) (m₀ m₁ : Memory) (leaf : Leaf) → m₀ ≡ no_memory 0 → m₁ ≡ fresh_memory cells m₀.leaves → leaf ≡ record { tag = m₁.leaves + 1; is_set = false } → leaf ≡ record { tag = 1; is_set = false }
first-leaf cells m₀ m₁ leaf e₀ e₁ e =
    let made : Memory → Leaf = λ m. record { tag = m.leaves + 1; is_set = false } in
    e ∙ ap made (one-leaf cells m₀ m₁ e₀ e₁)
