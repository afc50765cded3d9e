-- What `expand` of a free list does.
use Rattle.std.proofs.Common.{ℕ, ◌≡◌, ◌≤◌, ◌+◌, ◌-◌, List, [], ◌∷◌, get_or, Option, Some, None, Bool, true, false, refl, ap, ap₂, sym, ◌∙◌, subst, nat_eq, nat_lt, arith}
use Rattle.std.proofs.lemmas.Bool.Decides.{nat_tests}
use Rattle.size_round.specs.Sizes.{limit}
use Rattle.space_core.specs.Cells.{Cells}
use Rattle.space_core.specs.Memory.{Memory}
use Rattle.layer_rules.specs.declared.Block.{Block}
use Rattle.layer_rules.specs.Blocks.{block}
use Rattle.layer_rules.specs.After.{After, Change}
use Rattle.layer_rules.specs.Expanding.{expanded_unless, expand_lack, expand_by_lack}
use Rattle.layer_rules.specs.Layering.{LayerModel, state_of, IsSetUp, IsOutOf, IsCleanOf, AreApartIn, Carries, Expands}
use Rattle.layer_rules.specs.Rows.{Each}
use Rattle.layer_rules.specs.Rules.{Rules, longer_if}
use Rattle.layer_rules.specs.State.{State, open_with, cache_own, one_child}
use Rattle.free_list_rules.specs.FreeListRules.{cache_size, cache_down, free_list_rules}
use Rattle.free_list_rules.specs.FreeListMeanings.{ApartFrom}
use Rattle.free_list_rules.proofs.FreeListChanges.{cache-size-rises, cache-lacks}
use Rattle.free_list_rules.proofs.CacheParts.{cache-enough}
use Rattle.free_list.specs.declared.caching.Chain.{Chain}
use Rattle.free_list.specs.FreeListModel.{free_list_model}
use Rattle.free_list.proofs.Standing.{IsHere, list-of, seen, apart-below, places, places-same, kept-by, list-frames, stays-below}

-- ---- the rule

expanded_unless-false : (x y : Bool) (change : Change) (b : Block) (s : State) (cells : Cells) → x ≡ false → y ≡ false → expanded_unless x y change b s cells ≡ change b s cells
expanded_unless-false false false change b s cells h k = refl
expanded_unless-false true y change b s cells h k = absurd (cc)
expanded_unless-false false true change b s cells h k = absurd (cc)

-- by how many bytes the parent's length of the block is to grow
abbrev lack_of : (least greatest delta : ℕ) → Block → ℕ
lack_of least greatest delta b = cache_size least greatest (b.len + delta) - cache_size least greatest b.len

-- what it goes on with once it is known whether the parent's length is enough
grow-step : (least greatest delta : ℕ) (q : Bool) (e : Rules) (b : Block) (s : State) (cells : Cells) → 1 ≤ delta → b.len + delta ≤ limit → nat_eq (cache_size least greatest b.len) (cache_size least greatest (b.len + delta)) ≡ q
    → (free_list_rules least greatest e).expand delta b s cells ≡ expand_lack q (e.expand (lack_of least greatest delta b)) (cache_down least greatest b) s cells
unfolding free_list_rules
grow-step least greatest delta q e b s cells some most i =
    expanded_unless-false (nat_eq delta 0) (nat_lt limit (b.len + delta)) (λ b. expand_by_lack (cache_size least greatest b.len) (cache_size least greatest (b.len + delta)) e.expand (cache_down least greatest b)) b s cells (grind (arith, nat_tests)) (grind (arith, nat_tests))
    ∙ ap (λ z. expand_lack z (e.expand (lack_of least greatest delta b)) (cache_down least greatest b) s cells) i

-- ---- the parent grows it

longer-place : (q : Bool) (n : ℕ) (b : Block) → (longer_if q n b).place ≡ b.place
longer-place true n b = refl
longer-place false n b = refl

apart-if : (t : LayerModel) (m : Memory) (greatest : ℕ) (b : Block) (r : Bool) (ps : List ℕ) → ApartFrom t.rules (state_of t m) greatest b ps → Each (λ p. r ≡ true → AreApartIn t m b (block p greatest)) ps
apart-if t m greatest b r [] a = tt
apart-if t m greatest b r (p ∷ ps) a = (λ z. a.0, apart-if t m greatest b r ps a.1)

-- the block is carried as the one is that was handed down for it
carried-over : (least greatest delta : ℕ) (c : Chain) (t t' : LayerModel) (m m' : Memory) (b g : Block) (r : Bool) → cache_down least greatest (longer_if r delta b) ≡ g → g.place ≡ b.place → Carries t t' m m' (cache_down least greatest b) g (cache_size least greatest b.len)
    → Carries (free_list_model least greatest (Some c) t) (free_list_model least greatest (Some c) t') m m' b (longer_if r delta b) b.len
unfolding free_list_rules
carried-over least greatest delta c t t' m m' b g r down place k =
    let w = cache-enough least greatest b.len in
    let same : g.place ≡ (longer_if r delta b).place = place ∙ sym (longer-place r delta b) in
    let back = λ (z : IsCleanOf t' m' g). let y : IsCleanOf t' m' (cache_down least greatest (longer_if r delta b)) = subst (λ (x : Block). IsCleanOf t' m' x) (sym down) z in y in
    record {
      bytes = λ i z. subst (λ (p : ℕ). get_or m'.bytes (p + i) 0 ≡ get_or m.bytes (b.place + i) 0) same (k.bytes i (omega (arith, w, z)));
      clean = λ z. back (k.clean z);
      marked = λ z. back (k.clean z);
    }

grows-main : (least greatest delta : ℕ) (c : Chain) (t t' : LayerModel) (m m' : Memory) (b g : Block) (r : Bool) → IsHere least greatest (Some c) t m → IsOutOf (free_list_model least greatest (Some c) t) m b → 1 ≤ delta → b.len + delta ≤ limit → 1 ≤ lack_of least greatest delta b
    → Expands t t' m m' (cache_down least greatest b) g (lack_of least greatest delta b) r → Expands (free_list_model least greatest (Some c) t) (free_list_model least greatest (Some c) t') m m' b (longer_if r delta b) delta r
unfolding free_list_rules
grows-main least greatest delta c t t' m m' b g r h o some most lacks a =
    let l = list-of least greatest c t m h in
    let y = seen least greatest c t m b o in
    let d = cache_down least greatest b in
    let kept = kept-by greatest c t t' m m' (λ q. r ≡ true → AreApartIn t m d q) l a.frame.size a.others (apart-if t m greatest d r (places c m) y.apart) in
    let no : nat_eq (cache_size least greatest b.len) (cache_size least greatest (b.len + delta)) ≡ false = grind (arith, nat_tests) in
    let e = grow-step least greatest delta false t.rules b (state_of (free_list_model least greatest (Some c) t) m) m.cells some most no in
    let down : cache_down least greatest (longer_if r delta b) ≡ g = cache-lacks least greatest r delta b (cache-size-rises least greatest b.len (b.len + delta) (omega arith)) ∙ sym a.block in
    let place : g.place ≡ b.place = ap (λ (x : Block). x.place) a.block ∙ longer-place r (lack_of least greatest delta b) d in
    record {
      frame = list-frames least greatest c t t' m m' l a.frame kept;
      opened = refl;
      answer = a.answer ∙ sym (ap (λ (r : After Bool). r.answer) e);
      block = refl;
      state = ap₂ (λ ps s. open_with (cache_own ps) (one_child s)) (places-same c m m' a.frame.size kept.words) a.state ∙ sym (ap (λ (r : After Bool). r.state) e);
      cells = a.cells ∙ sym (ap (λ (r : After Bool). r.cells) e);
      carried = carried-over least greatest delta c t t' m m' b g r down place a.carried;
      others = λ q p z. stays-below least greatest c c t t' m m' q (a.others (cache_down least greatest q) (seen least greatest c t m q p).below (λ x. apart-below least greatest c t m b q (z x)));
    }

-- the same for the block and the length that the code computed
pub grows : (least greatest delta : ℕ) (o : Option Chain) (t t' : LayerModel) (m m' : Memory) (b d g : Block) (n : ℕ) (r : Bool) → IsHere least greatest o t m → IsSetUp (free_list_model least greatest o t) → IsOutOf (free_list_model least greatest o t) m b
    → 1 ≤ delta → b.len + delta ≤ limit → d ≡ cache_down least greatest b → n ≡ cache_size least greatest (b.len + delta) → 1 ≤ n - d.len → Expands t t' m m' d g (n - d.len) r
    → Expands (free_list_model least greatest o t) (free_list_model least greatest o t') m m' b (longer_if r delta b) delta r
grows least greatest delta None t t' m m' b d g n r h u o some most ed en lacks a = absurd (cc)
grows least greatest delta (Some c) t t' m m' b d g n r h u o some most ed en lacks a =
    let k : n - d.len ≡ lack_of least greatest delta b = ap₂ (λ (x : ℕ) (y : Block). x - y.len) en ed in
    grows-main least greatest delta c t t' m m' b g r h o some most (subst (λ (x : ℕ). 1 ≤ x) k lacks)
    (subst (λ (x : Block). Expands t t' m m' x g (lack_of least greatest delta b) r) ed (subst (λ (x : ℕ). Expands t t' m m' d g x r) k a))
