-- What `expand` of an affix does: the parent's block grows, the suffix goes along, and the length is mended.
use Rattle.std.proofs.Common.{◌≡◌, refl, sym, ap, subst, ◌∙◌, inl, ℕ, ◌+◌, ◌-◌, ◌≤◌, ◌&&◌, Bool, true, false, Some, arith, length, get_or, nat_eq, nat_le}
use Rattle.std.proofs.lemmas.Bool.{and_from}
use Rattle.std.proofs.lemmas.Bool.Decides.{nat_tests}
use Rattle.size_round.specs.Sizes.{limit}
use Rattle.space_core.specs.Cells.{Cells}
use Rattle.space_core.specs.Memory.{Memory}
use Rattle.space_core.specs.Words.{IsCopied}
use Rattle.layer_rules.specs.declared.Block.{Block}
use Rattle.layer_rules.specs.Blocks.{block, end_of, with_len}
use Rattle.layer_rules.specs.After.{After, change_child}
use Rattle.layer_rules.specs.Handing.{count_expansion, hand_expansion, handing_rules}
use Rattle.layer_rules.specs.Layering.{LayerModel, state_of, Stands, IsSetUp, IsOutOf, IsCleanOf, AreApartIn, KeepsBytes, Frames, Stays, Expands}
use Rattle.layer_rules.specs.Rules.{Rules, longer_if}
use Rattle.layer_rules.specs.State.{State, nothing, open_with, one_child}
use Rattle.layer_laws.proofs.Basics.{and-fst, and-snd}
use Rattle.layer_laws.proofs.HandingCalls.{frame-open, hand-stays}
use Rattle.layer_laws.proofs.HandingChanges.{hand-expanded}
use Rattle.layer_laws.specs.Lawful.{IsMade, ChangesInside}
use Rattle.layer_laws.proofs.Moving.{same-made}
use Rattle.layer_laws.proofs.Placement.{write-keeps, write-changes_own}
use Rattle.layer_laws.specs.Standing.{Writes, ChangesOwn}
use Rattle.layer_laws.proofs.StandingLaws.{expanded-keeps, changes-in_turn, out-in_space}
use Rattle.layer_laws.proofs.Writing.{write-stays}
use Rattle.affix_rules.specs.AffixRules.{affix_down, has_length, has_affixes, affix_handing, affix_rules}
use Rattle.affix_rules.proofs.AffixLawful.{affix-hands}
use Rattle.layer_laws.specs.HandingModel.{keeps_nothing}
use Rattle.affix_layer.specs.AffixModel.{affix_model}
use Rattle.affix_layer.specs.AffixBytes.{length_word, CarriesAffixes, KeepsOtherAffixes}
use Rattle.affix_layer.proofs.Bytes.{clean-carried, IsMended, mended}
use Rattle.affix_layer.proofs.Standing.{IsHere, parent-stands, place-fits, affixed-of, apart-below, carried-still, then-stays}

-- ---- the parent's block grew, and was written into

pub record IsGrownWritten (t t' : LayerModel) (m k w : Memory) (b c : Block) : Type 0 where
  pub frame : Frames t t' m w
  pub state : state_of t' w ≡ state_of t' k
  pub clean : IsCleanOf t m b → IsCleanOf t' w c
  pub others : (d : Block) → IsOutOf t m d → AreApartIn t m b d → Stays t t' m w d

pub expanded-written : (t t' : LayerModel) (m k w : Memory) (b c : Block) (delta : ℕ) → IsMade t.rules → Stands t m → IsOutOf t m b → Expands t t' m k b c delta true → Writes c k w → IsGrownWritten t t' m k w b c
expanded-written t t' m k w b c delta l h o a x =
    let l' = same-made t t' a.frame.rules l in
    let g = expanded-keeps t t' m k b c delta true l h o a in
    let wrote = write-keeps t' k w c l' g.stands g.gives x in
    let two = subst (λ e. ChangesOwn e k w) a.frame.rules (write-changes_own t' k w c l' g.stands g.gives x) in
    let both = changes-in_turn t.rules m k w g.changes_own two in
    record {
      frame = record { rules = a.frame.rules; image = wrote.stands.image; memory = both.memory; size = both.size; leaves = both.leaves; foreign = both.foreign };
      state = wrote.state;
      clean = λ z. wrote.clean c g.gives (inl refl) (a.carried.clean z);
      others = λ d p z. then-stays t t' t' m k w d (a.others d p (λ q. z)) (write-stays t' k w c l' g.stands g.gives x d (g.out d p (λ q. z)) (g.apart d p z));
    }

-- ---- the rule

-- what is asked of the parent: as many bytes more as the block lacks
asks-parent : (prefix suffix delta : ℕ) (e : Rules) (b : Block) (s : State) (cells : Cells) → 1 ≤ delta → b.len + delta ≤ limit
    → (affix_rules prefix suffix e).expand delta b s cells ≡ count_expansion (affix_handing prefix suffix e) delta b (change_child 0 (e.expand delta) (affix_down prefix suffix b) s cells)
unfolding affix_rules handing_rules
asks-parent prefix suffix delta e b s cells some most =
    let h = affix_handing prefix suffix e in
    let less = b.len + prefix + suffix in
    let more = b.len + delta + prefix + suffix in
    let p : nat_eq delta 0 ≡ false = grind (arith, nat_tests) in
    let q : (nat_le (b.len + delta) limit && true) ≡ true = let y : nat_le (b.len + delta) limit ≡ true = grind (arith, nat_tests) in and_from _ _ y refl in
    let r : nat_eq less more ≡ false = grind (arith, nat_tests) in
    let by : more - less ≡ delta = omega arith in
    let d = affix_down prefix suffix b in
    ap (λ x. hand_expansion h x (nat_le (b.len + delta) limit && true) (nat_eq less more) delta (e.expand (more - less)) b d s cells) p
    ∙ (ap (λ x. hand_expansion h false x (nat_eq less more) delta (e.expand (more - less)) b d s cells) q
    ∙ (ap (λ x. hand_expansion h false true x delta (e.expand (more - less)) b d s cells) r
    ∙ ap (λ n. hand_expansion h false true false delta (e.expand n) b d s cells) by))

-- ---- the affix

-- the block as it is then, and how the parent sees that
abbrev pub grown_of : (delta : ℕ) → Block → Block
grown_of delta b = with_len b (b.len + delta)

grown-down : (prefix suffix delta : ℕ) (b c : Block) → c ≡ longer_if true delta (affix_down prefix suffix b) → affix_down prefix suffix (grown_of delta b) ≡ c
grown-down prefix suffix delta b c q =
    let n : b.len + delta + prefix + suffix ≡ b.len + prefix + suffix + delta = omega arith in
    ap (block (b.place - prefix)) n ∙ sym q

-- what its parent's call leaves of the block's surroundings
pub record IsGrownBelow (prefix suffix delta : ℕ) (m k : Memory) (b : Block) : Type 0 where
  pub kept : KeepsBytes m.bytes k.bytes (b.place - prefix) (end_of b + suffix)
  pub room : end_of (grown_of delta b) + suffix ≤ length k.bytes
  pub few : length k.bytes ≤ 16777216

pub grown-below : (prefix suffix delta : ℕ) (u : Bool) (t t' : LayerModel) (m k : Memory) (b c : Block) → IsHere prefix suffix u t m → IsOutOf (affix_model prefix suffix u t) m b → Expands t t' m k (affix_down prefix suffix b) c delta true → IsGrownBelow prefix suffix delta m k b
grown-below prefix suffix delta u t t' m k b c h o a =
    let x = affixed-of prefix suffix u t m b h o in
    let s = parent-stands prefix suffix u t m h in
    let l' = same-made t t' a.frame.rules h.made in
    let g = expanded-keeps t t' m k (affix_down prefix suffix b) c delta true h.made s x.below a in
    let r = out-in_space t' k c l' g.stands g.gives in
    let place : c.place ≡ b.place - prefix = ap (λ (y : Block). y.place) a.block in
    let len : c.len ≡ b.len + prefix + suffix + delta = ap (λ (y : Block). y.len) a.block in
    record {
      kept = record {
        at = λ i p q.
            let e : b.place - prefix + (i - (b.place - prefix)) ≡ i = omega arith in
            let z = a.carried.bytes (i - (b.place - prefix)) (omega (arith, x.fits)) in
            subst (λ j. get_or k.bytes j 0 ≡ get_or m.bytes j 0) e (subst (λ y. get_or k.bytes (y + (i - (b.place - prefix))) 0 ≡ get_or m.bytes (b.place - prefix + (i - (b.place - prefix))) 0) place z);
      };
      room = omega (arith, r, place, len, x.fits);
      few = omega (arith, g.stands.memory.sizes, g.stands.memory.cells);
    }

-- what the code did after its parent's call
pub record Mends (prefix suffix delta : ℕ) (k then w : Memory) (b : Block) : Type 0 where
  pub copied : IsCopied k.bytes then.bytes (end_of b) (end_of b + delta) suffix
  pub same : then ≡ record k { bytes = then.bytes }
  pub length : has_length prefix (grown_of delta b) w.bytes ≡ true
  pub inside : Writes (length_word prefix (grown_of delta b)) then w

mended-of : (prefix suffix delta : ℕ) (u : Bool) (t t' : LayerModel) (m k then w : Memory) (b c : Block) → IsHere prefix suffix u t m → IsOutOf (affix_model prefix suffix u t) m b → Expands t t' m k (affix_down prefix suffix b) c delta true → Mends prefix suffix delta k then w b
    → IsMended prefix suffix b (grown_of delta b) m.bytes k.bytes w.bytes
mended-of prefix suffix delta u t t' m k then w b c h o a x =
    let y = affixed-of prefix suffix u t m b h o in
    let z = grown-below prefix suffix delta u t t' m k b c h o a in
    let e : end_of b + delta ≡ end_of (grown_of delta b) = omega arith in
    mended prefix suffix b (grown_of delta b) m.bytes k.bytes then.bytes w.bytes y.fits refl (omega arith) (omega (arith, z.room)) z.room y.room z.kept (subst (λ p. IsCopied k.bytes then.bytes (end_of b) p suffix) e x.copied) x.inside.bytes

mended-inside : (prefix suffix delta : ℕ) (m k then w : Memory) (b c : Block) → c ≡ longer_if true delta (affix_down prefix suffix b) → Mends prefix suffix delta k then w b → IsMended prefix suffix b (grown_of delta b) m.bytes k.bytes w.bytes → Writes c k w
mended-inside prefix suffix delta m k then w b c q x y =
    record {
      cells = x.inside.cells ∙ ap (λ (z : Memory). z.cells) x.same;
      leaves = x.inside.leaves ∙ ap (λ (z : Memory). z.leaves) x.same;
      bytes = subst (λ (d : Block). ChangesInside d k.bytes w.bytes) (grown-down prefix suffix delta b c q) y.inside;
    }

grows-main : (prefix suffix delta : ℕ) (t t' : LayerModel) (m k then w : Memory) (b c : Block) → IsHere prefix suffix true t m → IsOutOf (affix_model prefix suffix true t) m b → 1 ≤ delta → b.len + delta ≤ limit → Expands t t' m k (affix_down prefix suffix b) c delta true → Mends prefix suffix delta k then w b
    → Expands (affix_model prefix suffix true t) (affix_model prefix suffix true t') m w b (grown_of delta b) delta true
unfolding affix_rules handing_rules
grows-main prefix suffix delta t t' m k then w b c h o some most a x =
    let f = λ (e : Rules). affix_handing prefix suffix e in
    let T = affix_model prefix suffix true t in
    let hands = affix-hands prefix suffix t.rules h.made.regular.telling in
    let y = affixed-of prefix suffix true t m b h o in
    let s = parent-stands prefix suffix true t m h in
    let z = mended-of prefix suffix delta true t t' m k then w b c h o a x in
    let inside = mended-inside prefix suffix delta m k then w b c a.block x z in
    let below = expanded-written t t' m k w (affix_down prefix suffix b) c delta h.made s y.below a inside in
    let same = asks-parent prefix suffix delta t.rules b (state_of T m) m.cells some most in
    let parent = t.rules.is_clean (affix_down prefix suffix b) (state_of t m) m.bytes in
    let back = λ (p : IsCleanOf t m (affix_down prefix suffix b)). let v : IsCleanOf t' w (affix_down prefix suffix (grown_of delta b)) = subst (λ (d : Block). IsCleanOf t' w d) (sym (grown-down prefix suffix delta b c a.block)) (below.clean p) in v in
    record {
      frame = frame-open f keeps_nothing (Some tt) tt t t' m w below.frame;
      opened = refl;
      answer = a.answer ∙ ap (λ (r : After Bool). r.answer) (sym same);
      block = refl;
      state = ap (λ u. open_with nothing (one_child u)) (below.state ∙ a.state) ∙ ap (λ (r : After Bool). r.state) (sym same);
      cells = inside.cells ∙ a.cells ∙ ap (λ (r : After Bool). r.cells) (sym same);
      carried = record {
        bytes = λ i p. z.bytes (b.place + i) (omega arith) (omega arith);
        clean = λ p. and_from _ _ (clean-carried prefix suffix b (grown_of delta b) m.bytes w.bytes y.fits y.fits z.carries x.length (and-fst (has_affixes prefix suffix b m.bytes) parent p)) (back (and-snd (has_affixes prefix suffix b m.bytes) parent p));
        marked = λ p. and_from _ _ x.length (back (and-snd (has_length prefix b m.bytes) parent p));
      };
      others = λ d p far.
          let v = affixed-of prefix suffix true t m d h p in
          let e = apart-below prefix suffix t m b d y.fits v.fits (far refl) in
          hand-stays f keeps_nothing tt tt t t' m w d hands (place-fits prefix d v.fits) below.frame (below.others (affix_down prefix suffix d) v.below e);
    }

pub grows : (prefix suffix delta : ℕ) (u : Bool) (t t' : LayerModel) (m k then w : Memory) (b c : Block) → IsHere prefix suffix u t m → IsSetUp (affix_model prefix suffix u t) → IsOutOf (affix_model prefix suffix u t) m b → 1 ≤ delta → b.len + delta ≤ limit
    → Expands t t' m k (affix_down prefix suffix b) c delta true → Mends prefix suffix delta k then w b → Expands (affix_model prefix suffix u t) (affix_model prefix suffix u t') m w b (grown_of delta b) delta true
grows prefix suffix delta false t t' m k then w b c h p o some most a x = absurd (cc)
grows prefix suffix delta true t t' m k then w b c h p o some most a x = grows-main prefix suffix delta t t' m k then w b c h o some most a x

pub grows-carried : (prefix suffix delta : ℕ) (u : Bool) (t t' : LayerModel) (m k then w : Memory) (b c : Block) → IsHere prefix suffix u t m → IsOutOf (affix_model prefix suffix u t) m b → Expands t t' m k (affix_down prefix suffix b) c delta true → Mends prefix suffix delta k then w b
    → CarriesAffixes prefix suffix m.bytes w.bytes b (grown_of delta b)
grows-carried prefix suffix delta u t t' m k then w b c h o a x = (mended-of prefix suffix delta u t t' m k then w b c h o a x).carries

pub grows-round : (prefix suffix delta : ℕ) (u : Bool) (t t' : LayerModel) (m k then w : Memory) (b c : Block) → IsHere prefix suffix u t m → IsSetUp (affix_model prefix suffix u t) → IsOutOf (affix_model prefix suffix u t) m b → Expands t t' m k (affix_down prefix suffix b) c delta true → Mends prefix suffix delta k then w b
    → KeepsOtherAffixes prefix suffix (affix_model prefix suffix u t) m w b true
grows-round prefix suffix delta false t t' m k then w b c h p o a x d q far = absurd (cc)
grows-round prefix suffix delta true t t' m k then w b c h p o a x d q far =
    let y = affixed-of prefix suffix true t m b h o in
    let v = affixed-of prefix suffix true t m d h q in
    let s = parent-stands prefix suffix true t m h in
    let z = mended-of prefix suffix delta true t t' m k then w b c h o a x in
    let below = expanded-written t t' m k w (affix_down prefix suffix b) c delta h.made s y.below a (mended-inside prefix suffix delta m k then w b c a.block x z) in
    carried-still prefix suffix d m.bytes w.bytes v.fits v.room below.frame.size (below.others (affix_down prefix suffix d) v.below (apart-below prefix suffix t m b d y.fits v.fits (far refl))).bytes

-- ---- the parent's block did not grow

pub stays-short : (prefix suffix delta : ℕ) (u : Bool) (t t' : LayerModel) (m k : Memory) (b c : Block) → IsHere prefix suffix u t m → IsSetUp (affix_model prefix suffix u t) → IsOutOf (affix_model prefix suffix u t) m b → 1 ≤ delta → b.len + delta ≤ limit
    → Expands t t' m k (affix_down prefix suffix b) c delta false → Expands (affix_model prefix suffix u t) (affix_model prefix suffix u t') m k b b delta false
unfolding affix_rules
stays-short prefix suffix delta false t t' m k b c h p o some most a = absurd (cc)
stays-short prefix suffix delta true t t' m k b c h p o some most a =
    let lacks : b.len + delta + prefix + suffix ≡ b.len + prefix + suffix + delta = omega arith in
    hand-expanded (affix_handing prefix suffix) keeps_nothing tt tt t t' m k b c delta delta false (affix-hands prefix suffix t.rules h.made.regular.telling) o
    (record { expands = refl; some = some; most = most; admits = refl; lacks = lacks; lacks_some = some }) refl (λ done. absurd (cc)) a

pub stays-round : (prefix suffix delta : ℕ) (u : Bool) (t t' : LayerModel) (m k : Memory) (b c : Block) → IsHere prefix suffix u t m → Expands t t' m k (affix_down prefix suffix b) c delta false → (d : Block) → IsOutOf (affix_model prefix suffix u t) m d → CarriesAffixes prefix suffix m.bytes k.bytes d d
stays-round prefix suffix delta u t t' m k b c h a d q =
    let v = affixed-of prefix suffix u t m d h q in
    carried-still prefix suffix d m.bytes k.bytes v.fits v.room a.frame.size (a.others (affix_down prefix suffix d) v.below (λ z. absurd (cc))).bytes
