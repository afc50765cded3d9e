-- What a quantizer serves, and takes back.
use Rattle.std.proofs.Common.{◌≡◌, refl, sym, ap, subst, ◌∙◌, ℕ, ◌≤◌, Bool, true, false, ◌&&◌, arith, Option, Some, None, option_map, nat_eq, nat_le}
use Rattle.std.proofs.lemmas.Bool.{and_from}
use Rattle.std.proofs.lemmas.Bool.Decides.{nat_tests}
use Rattle.size_round.specs.Sizes.{RoundingKind, limit, rounded, is_proper_kind, is_power_of_two}
use Rattle.space_core.specs.Memory.{Memory}
use Rattle.layer_rules.specs.declared.Block.{Block}
use Rattle.layer_rules.specs.Blocks.{block}
use Rattle.layer_rules.specs.State.{nothing, open_with, one_child}
use Rattle.layer_rules.specs.After.{After, Placed, from_child}
use Rattle.layer_rules.specs.Allocating.{truncated}
use Rattle.layer_rules.specs.Handing.{hand_request, handing_rules}
use Rattle.layer_rules.specs.Layering.{LayerModel, state_of, Stands, IsSetUp, IsOutOf, IsCleanOf, Allocates, AlignedAllocates, Deallocates, block_in, aligned_allocated}
use Rattle.layer_laws.proofs.FurtherLaws.{aligned_allocated-keeps}
use Rattle.layer_laws.proofs.HandingCalls.{frame-open, hand-stays, hand-allocated, hand-deallocated}
use Rattle.layer_laws.proofs.HandingParts.{out-hand}
use Rattle.layer_laws.proofs.HandingStands.{parent-stands}
use Rattle.layer_laws.specs.Lawful.{IsMade}
use Rattle.quantize_rules.specs.QuantizeRules.{quantize_down, quantize_handing}
use Rattle.layer_laws.specs.HandingModel.{keeps_nothing}
use Rattle.quantizer.specs.QuantizerModel.{quantizer_model}
use Rattle.quantizer.proofs.Opened.{opened_model, parent-open, as-opened, over-opened, hands}

pub given_back : (kind : RoundingKind) (t t' : LayerModel) (m m' : Memory) (b d : Block) (r : Bool) → is_proper_kind kind ≡ true → IsMade t.rules → IsSetUp (quantizer_model kind t) → IsOutOf (quantizer_model kind t) m b
    → d ≡ quantize_down kind b → Deallocates t t' m m' d r → Deallocates (quantizer_model kind t) (quantizer_model kind t') m m' b r
given_back kind t t' m m' b d r k l u o q a =
    let set = parent-open kind t u in
    over-opened (λ T T'. Deallocates T T' m m' b r) kind t t' set (a.opened ∙ set)
    (hand-deallocated (quantize_handing kind) keeps_nothing tt tt t t' m m' b r (hands kind t k l) (subst (λ T. IsOutOf T m b) (as-opened kind t set) o) refl (subst (λ d. Deallocates t t' m m' d r) q a))

-- ---- a request

pub serves : (kind : RoundingKind) (t t' : LayerModel) (m m' : Memory) (n k : ℕ) (r : Option Block) → is_proper_kind kind ≡ true → IsMade t.rules → IsSetUp (quantizer_model kind t) → Stands (quantizer_model kind t) m → 1 ≤ n → n ≤ limit
    → k ≡ rounded kind n → Allocates t t' m m' k r → Allocates (quantizer_model kind t) (quantizer_model kind t') m m' n (option_map (truncated n) r)
serves kind t t' m m' n k r proper l u st some most q a =
    let set = parent-open kind t u in
    over-opened (λ T T'. Allocates T T' m m' n (option_map (truncated n) r)) kind t t' set (a.opened ∙ set)
    (hand-allocated (quantize_handing kind) keeps_nothing tt tt t t' m m' n r (hands kind t proper l) l set (subst (λ T. Stands T m) (as-opened kind t set) st) some most refl refl (λ b e. refl) (subst (λ k. Allocates t t' m m' k r) q a))

-- ---- a request at an alignment

shown-block : (n : ℕ) (o : Option Placed) → block_in (option_map (from_child (truncated n) 0) o) ≡ option_map (truncated n) (block_in o)
shown-block n None = refl
shown-block n (Some p) = refl

-- a request goes down where some layer serves its length
goes_down : (n : ℕ) → 1 ≤ n → n ≤ limit → (nat_eq n 0 ≡ false) × ((nat_le n limit && true) ≡ true)
goes_down n l m = let k : nat_le n limit ≡ true = grind (arith, nat_tests) in (grind (arith, nat_tests), and_from _ _ k refl)

aligned-form : (kind : RoundingKind) (t : LayerModel) (m : Memory) (n a : ℕ) → 1 ≤ n → n ≤ limit
    → aligned_allocated (opened_model kind t) m n a ≡ (let h = quantize_handing kind t.rules in hand_request h false true n (t.rules.aligned_allocate (rounded kind n) a) (state_of (opened_model kind t) m) m.cells)
unfolding handing_rules
aligned-form kind t m n a l k =
    let h = quantize_handing kind t.rules in
    let go = goes_down n l k in
    let s = state_of (opened_model kind t) m in
    let serve = t.rules.aligned_allocate (rounded kind n) a in
    ap (λ z. hand_request h z (nat_le n limit && true) n serve s m.cells) go.0 ∙ ap (λ z. hand_request h false z n serve s m.cells) go.1

-- what the parent served is as the parent wrote it
shown-clean : (kind : RoundingKind) (t' : LayerModel) (m' : Memory) (n : ℕ) (o : Option Block) (b : Block) → option_map (truncated n) o ≡ Some b → ((c : Block) → o ≡ Some c → (c.len ≡ rounded kind n) × IsCleanOf t' m' c) → IsCleanOf t' m' (quantize_down kind b)
shown-clean kind t' m' n None b e f = absurd (cc)
shown-clean kind t' m' n (Some c) b e f =
    let x = f c refl in
    let z : truncated n c ≡ b = cc in
    let y : quantize_down kind (truncated n c) ≡ c = ap (block c.place) (sym x.0) in
    subst (λ d. IsCleanOf t' m' d) (sym y ∙ ap (quantize_down kind) z) x.1

serves_aligned-form : (kind : RoundingKind) (t t' : LayerModel) (m m' : Memory) (n a : ℕ) (r : Option Block) → is_proper_kind kind ≡ true → IsMade t.rules → IsSetUp t → Stands (opened_model kind t) m → 1 ≤ n → n ≤ limit → is_power_of_two a ≡ true → a ≤ 4096
    → AlignedAllocates t t' m m' (rounded kind n) a r → AlignedAllocates (opened_model kind t) (opened_model kind t') m m' n a (option_map (truncated n) r)
unfolding handing_rules
serves_aligned-form kind t t' m m' n a r k l u st some most power small z =
    let h = quantize_handing kind t.rules in
    let w = hands kind t k l in
    let T = opened_model kind t in
    let s = aligned_allocated t m (rounded kind n) a in
    let same = aligned-form kind t m n a some most in
    let stands = parent-stands (quantize_handing kind) keeps_nothing (Some tt) t m l u st in
    record {
      frame = frame-open (quantize_handing kind) keeps_nothing (Some tt) tt t t' m m' z.frame;
      opened = refl;
      answer = ap (option_map (truncated n)) z.answer ∙ sym (shown-block n s.answer) ∙ ap (λ (x : After (Option Placed)). block_in x.answer) (sym same);
      state = ap (λ u. open_with nothing (one_child u)) z.state ∙ ap (λ (x : After (Option Placed)). x.state) (sym same);
      cells = z.cells ∙ ap (λ (x : After (Option Placed)). x.cells) (sym same);
      others = λ c p. let v = out-hand h t.rules c (state_of T m) m.cells p in hand-stays (quantize_handing kind) keeps_nothing tt tt t t' m m' c w v.fits z.frame (z.others (quantize_down kind c) v.below);
      made = λ b e. shown-clean kind t' m' n r b e (λ c q. (((aligned_allocated-keeps t t' m m' (rounded kind n) a r l stands u power small z).gives c q).0.len, z.made c q));
    }

pub serves_aligned : (kind : RoundingKind) (t t' : LayerModel) (m m' : Memory) (n a k : ℕ) (r : Option Block) → is_proper_kind kind ≡ true → IsMade t.rules → IsSetUp (quantizer_model kind t) → Stands (quantizer_model kind t) m → 1 ≤ n → n ≤ limit → is_power_of_two a ≡ true → a ≤ 4096
    → k ≡ rounded kind n → AlignedAllocates t t' m m' k a r → AlignedAllocates (quantizer_model kind t) (quantizer_model kind t') m m' n a (option_map (truncated n) r)
serves_aligned kind t t' m m' n a k r proper l u st some most power small q z =
    let set = parent-open kind t u in
    over-opened (λ T T'. AlignedAllocates T T' m m' n a (option_map (truncated n) r)) kind t t' set (z.opened ∙ set)
    (serves_aligned-form kind t t' m m' n a r proper l set (subst (λ T. Stands T m) (as-opened kind t set) st) some most power small (subst (λ k. AlignedAllocates t t' m m' k a r) q z))
