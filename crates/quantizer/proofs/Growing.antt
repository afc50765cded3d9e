-- What `expand` of a quantizer does.
use Rattle.std.proofs.Common.{◌≡◌, refl, sym, ap, subst, ◌∙◌, ℕ, ◌≤◌, ◌+◌, ◌-◌, Bool, true, false, ◌&&◌, arith, not, nat_eq, nat_le}
use Rattle.std.proofs.lemmas.Bool.{and_from}
use Rattle.std.proofs.lemmas.Bool.Decides.{nat_tests}
use Rattle.size_round.specs.Sizes.{RoundingKind, limit, rounded, is_proper_kind}
use Rattle.space_core.specs.Memory.{Memory}
use Rattle.layer_rules.specs.declared.Block.{Block}
use Rattle.layer_rules.specs.After.{After, after}
use Rattle.layer_rules.specs.Blocks.{block, with_len}
use Rattle.layer_rules.specs.Expanding.{change_if}
use Rattle.layer_rules.specs.Handing.{hand_expansion, handing_rules}
use Rattle.layer_rules.specs.Layering.{LayerModel, state_of, Stands, IsSetUp, IsOutOf, IsCleanOf, Frames, Expands, expanded}
use Rattle.layer_rules.specs.Rules.{longer_if}
use Rattle.layer_laws.proofs.HandingChanges.{hand-expanded}
use Rattle.layer_laws.specs.Lawful.{IsMade}
use Rattle.quantize_rules.specs.QuantizeRules.{quantize_down, quantize_handing}
use Rattle.size_round.proofs.KindLaws.{rounded_is_monotone}
use Rattle.layer_laws.specs.HandingModel.{keeps_nothing}
use Rattle.quantizer.specs.QuantizerModel.{quantizer_model}
use Rattle.quantizer.proofs.Opened.{opened_model, parent-open, as-opened, over-opened, hands}

pub said-yes : (b : Bool) → not b ≡ false → b ≡ true
said-yes true h = refl
said-yes false h = absurd (cc)

-- nothing has changed
pub still : (T : LayerModel) (m : Memory) → Stands T m → Frames T T m m
still T m h = record { rules = refl; image = h.image; memory = h.memory; size = refl; leaves = refl; foreign = record { at = λ i a z. refl } }

-- ---- the parent's block is long enough

enough-form : (kind : RoundingKind) (t : LayerModel) (m : Memory) (b : Block) (delta : ℕ) → 1 ≤ delta → b.len + delta ≤ limit → rounded kind (b.len + delta) ≡ rounded kind b.len
    → expanded (opened_model kind t) m b delta ≡ after true (state_of (opened_model kind t) m) m.cells
unfolding handing_rules
enough-form kind t m b delta l k q =
    let h = quantize_handing kind t.rules in
    let s = state_of (opened_model kind t) m in
    let less = rounded kind b.len in
    let more = rounded kind (b.len + delta) in
    let some : nat_eq delta 0 ≡ false = grind (arith, nat_tests) in
    let most : nat_le (b.len + delta) limit ≡ true = grind (arith, nat_tests) in
    let goes : (nat_le (b.len + delta) limit && true) ≡ true = and_from _ _ most refl in
    let same : nat_eq less more ≡ true = grind (arith, nat_tests, q) in
    let change = change_if h.expands (t.rules.expand (more - less)) in
    ap (λ x. hand_expansion h x (nat_le (b.len + delta) limit && true) (nat_eq less more) delta change b (h.down b) s m.cells) some
    ∙ (ap (λ x. hand_expansion h false x (nat_eq less more) delta change b (h.down b) s m.cells) goes
    ∙ ap (λ x. hand_expansion h false true x delta change b (h.down b) s m.cells) same)

grows_at_once-form : (kind : RoundingKind) (t : LayerModel) (m : Memory) (b : Block) (delta : ℕ) → Stands (opened_model kind t) m → 1 ≤ delta → b.len + delta ≤ limit → rounded kind (b.len + delta) ≡ rounded kind b.len
    → Expands (opened_model kind t) (opened_model kind t) m m b (with_len b (b.len + delta)) delta true
unfolding handing_rules
grows_at_once-form kind t m b delta h l k q =
    let same = enough-form kind t m b delta l k q in
    let down : quantize_down kind b ≡ quantize_down kind (with_len b (b.len + delta)) = ap (block b.place) (sym q) in
    let kept = λ (z : IsCleanOf t m (quantize_down kind b)). let y : IsCleanOf t m (quantize_down kind (with_len b (b.len + delta))) = subst (λ d. IsCleanOf t m d) down z in y in
    record {
      frame = still (opened_model kind t) m h;
      opened = refl;
      answer = ap (λ (x : After Bool). x.answer) (sym same);
      block = refl;
      state = ap (λ (x : After Bool). x.state) (sym same);
      cells = ap (λ (x : After Bool). x.cells) (sym same);
      carried = record { bytes = λ i z. refl; clean = kept; marked = kept };
      others = λ c p z. record { bytes = record { at = λ i x y. refl }; clean = λ x. x; marked = λ x. x };
    }

-- where the length that the code computed is the block's own below
pub grows_at_once : (kind : RoundingKind) (t : LayerModel) (m : Memory) (b d : Block) (delta k : ℕ) → is_proper_kind kind ≡ true → IsSetUp (quantizer_model kind t) → Stands (quantizer_model kind t) m → 1 ≤ delta → b.len + delta ≤ limit
    → d ≡ quantize_down kind b → k ≡ rounded kind (b.len + delta) → k - d.len ≡ 0 → Expands (quantizer_model kind t) (quantizer_model kind t) m m b (with_len b (b.len + delta)) delta true
grows_at_once kind t m b d delta k proper u st some most e q none =
    let set = parent-open kind t u in
    let len : d.len ≡ rounded kind b.len = ap (λ (x : Block). x.len) e in
    let rises = rounded_is_monotone kind b.len (b.len + delta) proper (omega arith) in
    let same : rounded kind (b.len + delta) ≡ rounded kind b.len = omega (arith, q, len, none, rises) in
    over-opened (λ T T'. Expands T T' m m b (with_len b (b.len + delta)) delta true) kind t t set set
    (grows_at_once-form kind t m b delta (subst (λ T. Stands T m) (as-opened kind t set) st) some most same)

-- ---- the parent is asked for what its block lacks

pub grows_below : (kind : RoundingKind) (t t' : LayerModel) (m m' : Memory) (b d c : Block) (delta k : ℕ) (r : Bool) → is_proper_kind kind ≡ true → IsMade t.rules → IsSetUp (quantizer_model kind t) → IsOutOf (quantizer_model kind t) m b → 1 ≤ delta → b.len + delta ≤ limit
    → d ≡ quantize_down kind b → k ≡ rounded kind (b.len + delta) → 1 ≤ k - d.len → t.rules.offers.expand ≡ true → Expands t t' m m' d c (k - d.len) r → Expands (quantizer_model kind t) (quantizer_model kind t') m m' b (longer_if r delta b) delta r
grows_below kind t t' m m' b d c delta k r proper l u o some most e q lacks offered a =
    let set = parent-open kind t u in
    let len : d.len ≡ rounded kind b.len = ap (λ (x : Block). x.len) e in
    let lack : rounded kind (b.len + delta) ≡ rounded kind b.len + (k - d.len) = omega (arith, q, len, lacks) in
    over-opened (λ T T'. Expands T T' m m' b (longer_if r delta b) delta r) kind t t' set (a.opened ∙ set)
    (hand-expanded (quantize_handing kind) keeps_nothing tt tt t t' m m' b c delta (k - d.len) r (hands kind t proper l) (subst (λ T. IsOutOf T m b) (as-opened kind t set) o)
    (record { expands = offered; some = some; most = most; admits = refl; lacks = lack; lacks_some = lacks }) refl (λ done. record { clean = λ x. x; marked = λ x. x }) (subst (λ x. Expands t t' m m' x c (k - d.len) r) e a))
