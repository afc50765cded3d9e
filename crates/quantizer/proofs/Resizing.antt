-- What `reallocate` of a quantizer does where the parent is asked.
use Rattle.std.proofs.Common.{◌≡◌, ◌≢◌, refl, sym, ap, subst, ◌∙◌, ℕ, ◌≤◌, ◌+◌, min, get_or, Bool, true, false, ◌||◌, arith, nat_eq, nat_lt, Some}
use Rattle.std.proofs.lemmas.Bool.Decides.{nat_tests}
use Rattle.size_round.specs.Sizes.{RoundingKind, limit, rounded, is_proper_kind}
use Rattle.space_core.specs.Memory.{Memory}
use Rattle.layer_rules.specs.declared.Block.{Block}
use Rattle.layer_rules.specs.After.{After, after, Reallocate, Reallocated, moved_to, emptied, unmoved}
use Rattle.layer_rules.specs.Blocks.{block, with_len}
use Rattle.layer_rules.specs.Allocating.{truncated}
use Rattle.layer_rules.specs.Handing.{shown_by, count_reallocation, hand_reallocation, hand_deallocate, hand_move, handing_rules}
use Rattle.layer_rules.specs.Layering.{LayerModel, state_of, Stands, IsSetUp, IsOutOf, IsCleanOf, Carries, Reallocates, reallocated, is_done, block_after}
use Rattle.layer_rules.specs.Reallocating.{in_place, reallocated_unless, either_reallocate}
use Rattle.layer_rules.specs.State.{nothing, open_with, one_child}
use Rattle.layer_laws.proofs.HandingCalls.{frame-open, hand-stays}
use Rattle.layer_laws.proofs.HandingParts.{out-hand, apart-hand}
use Rattle.layer_laws.proofs.HandingStands.{parent-stands}
use Rattle.layer_laws.specs.Lawful.{IsMade}
use Rattle.layer_laws.proofs.Reallocated.{shown-done}
use Rattle.layer_laws.proofs.StandingReallocated.{reallocated-keeps}
use Rattle.quantize_rules.specs.QuantizeRules.{quantize_down, quantize_handing}
use Rattle.size_round.proofs.KindLaws.{rounded_is_enough}
use Rattle.layer_laws.specs.HandingModel.{keeps_nothing}
use Rattle.quantizer.specs.QuantizerModel.{quantizer_model}
use Rattle.quantizer.proofs.Opened.{opened_model, parent-open, as-opened, over-opened, hands}

-- what is asked of the parent for a block that is to have another length
pub record AsksForAnother (kind : RoundingKind) (b : Block) (n : ℕ) : Type 0 where
  pub other : n ≢ b.len
  pub some : 1 ≤ n
  pub most : n ≤ limit
  pub apart : rounded kind n ≢ rounded kind b.len

asks-form : (kind : RoundingKind) (t : LayerModel) (m : Memory) (b : Block) (n : ℕ) → AsksForAnother kind b n
    → reallocated (opened_model kind t) m b n ≡ (let r = reallocated t m (quantize_down kind b) (rounded kind n) in after (shown_by (truncated n) r.answer) (open_with nothing (one_child r.state)) r.cells)
unfolding handing_rules
asks-form kind t m b n a =
    let h = quantize_handing kind t.rules in
    let s = state_of (opened_model kind t) m in
    let give = hand_deallocate h t.rules.deallocate in
    let move : Bool → Reallocate = λ x. either_reallocate x (in_place n) (hand_move h t.rules n) in
    let same : nat_eq n b.len ≡ false = grind (arith, nat_tests, a.other) in
    let empty : nat_eq n 0 ≡ false = grind (arith, nat_tests, a.some) in
    let long : nat_lt limit n ≡ false = grind (arith, nat_tests, a.most) in
    let place : nat_eq (rounded kind n) (rounded kind b.len) ≡ false = grind (arith, nat_tests, a.apart) in
    let by : Reallocate = λ c. move (h.in_place c.len n) c in
    ap (λ x. hand_reallocation h (x || nat_eq n 0) n give by b s m.cells) same
    ∙ (ap (λ x. hand_reallocation h x n give by b s m.cells) empty
    ∙ ap (count_reallocation h n b)
    (ap (λ x. reallocated_unless x (nat_eq n 0) (nat_lt limit n) give by b s m.cells) same
    ∙ (ap (λ x. reallocated_unless false x (nat_lt limit n) give by b s m.cells) empty
    ∙ (ap (λ x. reallocated_unless false false x give by b s m.cells) long
    ∙ ap (λ x. move x b s m.cells) place))))

-- ---- the block

-- what the parent's block is shown as
abbrev pub shown_if : (done : Bool) → (n : ℕ) → (c b : Block) → Block
shown_if true n c b = with_len c n
shown_if false n c b = b

shown-block : (n : ℕ) (a : Reallocated) (r : Bool) (b c d : Block) → r ≡ is_done a → c ≡ block_after d a → (r ≡ true → 1 ≤ c.len) → shown_if r n c b ≡ block_after b (shown_by (truncated n) a)
shown-block n (moved_to e) r b c d p q l = rw (p, q) refl
shown-block n emptied r b c d p q l = let some = l p in absurd (omega (arith, ap (λ (x : Block). x.len) q))
shown-block n unmoved r b c d p q l = rw p refl

-- a refused block stays
not-done : (a : Reallocated) (c d : Block) → false ≡ is_done a → c ≡ block_after d a → c ≡ d
not-done (moved_to e) c d p q = absurd (cc)
not-done emptied c d p q = absurd (cc)
not-done unmoved c d p q = q

-- the parent's block carries the bytes of the one that it is shown as
carried-shown : (kind : RoundingKind) (t t' : LayerModel) (m m' : Memory) (b c : Block) (n : ℕ) (r : Bool) → is_proper_kind kind ≡ true → 1 ≤ b.len → 1 ≤ n → (r ≡ true → c.len ≡ rounded kind n) → (r ≡ false → c ≡ quantize_down kind b)
    → (1 ≤ c.len → Carries t t' m m' (quantize_down kind b) c (min (rounded kind b.len) c.len)) → Carries (opened_model kind t) (opened_model kind t') m m' b (shown_if r n c b) (min b.len (shown_if r n c b).len)
unfolding handing_rules
carried-shown kind t t' m m' b c n true k old some len same carries =
    let z : c.len ≡ rounded kind n = len refl in
    let less = rounded_is_enough kind b.len k in
    let more = rounded_is_enough kind n k in
    let g = carries (omega (arith, z, more)) in
    let down : quantize_down kind (with_len c n) ≡ c = ap (block c.place) (sym z) in
    let kept = λ (x : IsCleanOf t m (quantize_down kind b)). let y : IsCleanOf t' m' (quantize_down kind (with_len c n)) = subst (λ d. IsCleanOf t' m' d) (sym down) (g.clean x) in y in
    record { bytes = λ i x. g.bytes i (omega (arith, z, less, more)); clean = kept; marked = kept }
carried-shown kind t t' m m' b c n false k old some len same carries =
    let z : c ≡ quantize_down kind b = same refl in
    let less = rounded_is_enough kind b.len k in
    let size : c.len ≡ rounded kind b.len = ap (λ (x : Block). x.len) z in
    let g = carries (omega (arith, size, less)) in
    let kept = λ (x : IsCleanOf t m (quantize_down kind b)). let y : IsCleanOf t' m' (quantize_down kind b) = subst (λ d. IsCleanOf t' m' d) z (g.clean x) in y in
    record {
      bytes = λ i x. let at : get_or m'.bytes (c.place + i) 0 ≡ get_or m.bytes (b.place + i) 0 = g.bytes i (omega (arith, size, less)) in subst (λ (d : Block). get_or m'.bytes (d.place + i) 0 ≡ get_or m.bytes (b.place + i) 0) z at;
      clean = kept;
      marked = kept;
    }

-- ---- the whole

resizes-form : (kind : RoundingKind) (t t' : LayerModel) (m m' : Memory) (b c : Block) (n : ℕ) (r : Bool) → is_proper_kind kind ≡ true → IsMade t.rules → IsSetUp t → Stands (opened_model kind t) m → IsOutOf (opened_model kind t) m b → AsksForAnother kind b n
    → Reallocates t t' m m' (quantize_down kind b) c (rounded kind n) r → Reallocates (opened_model kind t) (opened_model kind t') m m' b (shown_if r n c b) n r
unfolding handing_rules
resizes-form kind t t' m m' b c n r k l u st o asks a =
    let h = quantize_handing kind t.rules in
    let w = hands kind t k l in
    let T = opened_model kind t in
    let y = out-hand h t.rules b (state_of T m) m.cells o in
    let keeps = reallocated-keeps t t' m m' (quantize_down kind b) c (rounded kind n) r l (parent-stands (quantize_handing kind) keeps_nothing (Some tt) t m l u st) y.below a in
    let same = asks-form kind t m b n asks in
    let below = reallocated t m (quantize_down kind b) (rounded kind n) in
    let more = rounded_is_enough kind n k in
    record {
      frame = frame-open (quantize_handing kind) keeps_nothing (Some tt) tt t t' m m' a.frame;
      opened = refl;
      answer = a.answer ∙ (sym (shown-done (truncated n) below.answer) ∙ ap (λ (x : After Reallocated). is_done x.answer) (sym same));
      block = shown-block n below.answer r b c (quantize_down kind b) a.answer a.block (λ done. omega (arith, keeps.len done, more, asks.some)) ∙ ap (λ (x : After Reallocated). block_after b x.answer) (sym same);
      state = ap (λ s. open_with nothing (one_child s)) a.state ∙ ap (λ (x : After Reallocated). x.state) (sym same);
      cells = a.cells ∙ ap (λ (x : After Reallocated). x.cells) (sym same);
      carried = λ some. carried-shown kind t t' m m' b c n r k y.some asks.some keeps.len (λ no. not-done below.answer c (quantize_down kind b) (sym no ∙ a.answer) a.block) a.carried;
      others = λ d p z.
          let v = out-hand h t.rules d (state_of T m) m.cells p in
          hand-stays (quantize_handing kind) keeps_nothing tt tt t t' m m' d w v.fits a.frame
          (a.others (quantize_down kind d) v.below (λ done. let far = z done in let e = apart-hand h t.rules (state_of T m) b d y.fits v.fits (record { either = far.either }) in record { either = e.either }));
    }

-- for the block and the length that the code computed
pub resizes : (kind : RoundingKind) (t t' : LayerModel) (m m' : Memory) (b d c : Block) (n k : ℕ) (r : Bool) → is_proper_kind kind ≡ true → IsMade t.rules → IsSetUp (quantizer_model kind t) → Stands (quantizer_model kind t) m → IsOutOf (quantizer_model kind t) m b
    → n ≢ b.len → 1 ≤ n → n ≤ limit → d ≡ quantize_down kind b → k ≡ rounded kind n → k ≢ d.len → Reallocates t t' m m' d c k r → Reallocates (quantizer_model kind t) (quantizer_model kind t') m m' b (shown_if r n c b) n r
resizes kind t t' m m' b d c n k r proper l u st o other some most e q apart a =
    let set = parent-open kind t u in
    let len : d.len ≡ rounded kind b.len = ap (λ (x : Block). x.len) e in
    over-opened (λ T T'. Reallocates T T' m m' b (shown_if r n c b) n r) kind t t' set (a.opened ∙ set)
    (resizes-form kind t t' m m' b c n r proper l set (subst (λ T. Stands T m) (as-opened kind t set) st) (subst (λ T. IsOutOf T m b) (as-opened kind t set) o)
    (record { other = other; some = some; most = most; apart = λ z. apart (q ∙ (z ∙ sym len)) }) (subst (λ x. Reallocates t t' m m' x c (rounded kind n) r) e (subst (λ x. Reallocates t t' m m' d c x r) q a)))
