-- What `allocate` of an affix does: the parent's block is handed out with the bytes round it written.
use Rattle.std.proofs.Common.{◌≡◌, refl, sym, ap, subst, ◌∙◌, inl, ℕ, ◌+◌, ◌-◌, ◌≤◌, Bool, true, false, arith, Some, None, length}
use Rattle.size_round.specs.Sizes.{limit}
use Rattle.space_core.specs.Memory.{Memory}
use Rattle.layer_rules.specs.declared.Block.{Block}
use Rattle.layer_rules.specs.Blocks.{block}
use Rattle.layer_rules.specs.Layering.{LayerModel, Stands, IsSetUp, IsCleanOf, AreApartIn, Allocates}
use Rattle.layer_laws.proofs.HandingCalls.{hand-allocated}
use Rattle.layer_laws.specs.Lawful.{IsMade}
use Rattle.layer_laws.proofs.Moving.{same-made}
use Rattle.layer_laws.proofs.Placement.{write-keeps, write-changes_own}
use Rattle.layer_laws.specs.Standing.{Writes, ChangesOwn}
use Rattle.layer_laws.proofs.StandingLaws.{allocated-stands, allocated-gives, allocated-keeps_out, allocated-changes_own, changes-in_turn, out-in_space}
use Rattle.layer_laws.proofs.Writing.{write-stays}
use Rattle.affix_rules.specs.AffixRules.{affix_down, affix_shown, has_affixes, affix_handing, affix_rules}
use Rattle.affix_rules.proofs.AffixLawful.{affix-hands}
use Rattle.layer_laws.specs.HandingModel.{keeps_nothing}
use Rattle.affix_layer.specs.AffixModel.{affix_model}
use Rattle.affix_layer.specs.AffixBytes.{KeepsAffixes}
use Rattle.affix_layer.proofs.Standing.{IsHere, parent-stands, open-set, affixed-of, carried-still, then-stays}

-- ---- a block that was just served is written into

pub allocated-written : (t t' : LayerModel) (m k w : Memory) (n : ℕ) (b : Block) → IsMade t.rules → Stands t m → IsSetUp t → Allocates t t' m k n (Some b) → Writes b k w → Allocates t t' m w n (Some b)
allocated-written t t' m k w n b l h u a x =
    let l' = same-made t t' a.frame.rules l in
    let g = allocated-gives t t' m k n b l h u a in
    let s = allocated-stands t t' m k n (Some b) l h u a in
    let wrote = write-keeps t' k w b l' s g.out x in
    let one = allocated-changes_own t t' m k n (Some b) l h u a in
    let two = subst (λ e. ChangesOwn e k w) a.frame.rules (write-changes_own t' k w b l' s g.out x) in
    let both = changes-in_turn t.rules m k w one two in
    record {
      frame = record { rules = a.frame.rules; image = wrote.stands.image; memory = both.memory; size = both.size; leaves = both.leaves; foreign = both.foreign };
      opened = a.opened;
      answer = a.answer;
      state = wrote.state ∙ a.state;
      cells = x.cells ∙ a.cells;
      others = λ c o. then-stays t t' t' m k w c (a.others c o) (write-stays t' k w b l' s g.out x c (allocated-keeps_out t t' m k n (Some b) l h u a c o) (g.fresh c o));
      made = λ c e. let q : b ≡ c = cc in subst (λ (d : Block). IsCleanOf t' w d) q (wrote.clean b g.out (inl refl) (a.made b refl));
    }

-- ---- the affix

-- the parent's block, which has room for all that was asked
pub record IsWhole (n : ℕ) (k : Memory) (whole : Block) : Type 0 where
  pub len : whole.len ≡ n
  pub room : whole.place + n ≤ length k.bytes
  pub few : length k.bytes ≤ 16777216

pub whole-of : (prefix suffix n : ℕ) (u : Bool) (t t' : LayerModel) (m k : Memory) (whole : Block) → IsHere prefix suffix u t m → IsSetUp (affix_model prefix suffix u t) → Allocates t t' m k n (Some whole) → IsWhole n k whole
whole-of prefix suffix n u t t' m k whole h p a =
    let s = parent-stands prefix suffix u t m h in
    let o = h.together ∙ open-set prefix suffix u t p in
    let g = allocated-gives t t' m k n whole h.made s o a in
    let s' = allocated-stands t t' m k n (Some whole) h.made s o a in
    let r = out-in_space t' k whole (same-made t t' a.frame.rules h.made) s' g.out in
    record { len = g.len; room = omega (arith, r, g.len); few = omega (arith, s'.memory.sizes, s'.memory.cells) }

whole-back : (prefix suffix n : ℕ) (whole : Block) → whole.len ≡ n + prefix + suffix → affix_down prefix suffix (affix_shown prefix n whole) ≡ whole
whole-back prefix suffix n whole q = let p : whole.place + prefix - prefix ≡ whole.place = omega arith in rw p (ap (block whole.place) (sym q))

written-whole : (prefix suffix n : ℕ) (u : Bool) (t t' : LayerModel) (m k w : Memory) (whole : Block) → IsHere prefix suffix u t m → IsSetUp (affix_model prefix suffix u t) → Allocates t t' m k (n + prefix + suffix) (Some whole) → Writes (affix_down prefix suffix (affix_shown prefix n whole)) k w
    → Allocates t t' m w (n + prefix + suffix) (Some whole)
written-whole prefix suffix n u t t' m k w whole h p a x =
    let q = whole-back prefix suffix n whole (whole-of prefix suffix (n + prefix + suffix) u t t' m k whole h p a).len in
    allocated-written t t' m k w (n + prefix + suffix) whole h.made (parent-stands prefix suffix u t m h) (h.together ∙ open-set prefix suffix u t p) a (subst (λ (b : Block). Writes b k w) q x)

pub serves : (prefix suffix n : ℕ) (u : Bool) (t t' : LayerModel) (m k w : Memory) (whole : Block) → IsHere prefix suffix u t m → IsSetUp (affix_model prefix suffix u t) → 1 ≤ n → n ≤ limit → Allocates t t' m k (n + prefix + suffix) (Some whole)
    → has_affixes prefix suffix (affix_shown prefix n whole) w.bytes ≡ true → Writes (affix_down prefix suffix (affix_shown prefix n whole)) k w → Allocates (affix_model prefix suffix u t) (affix_model prefix suffix u t') m w n (Some (affix_shown prefix n whole))
unfolding affix_rules
serves prefix suffix n false t t' m k w whole h p l most a written x = absurd (cc)
serves prefix suffix n true t t' m k w whole h p l most a written x =
    let clean = λ (b : Block) (e : Some whole ≡ Some b). let q : whole ≡ b = cc in let y : has_affixes prefix suffix (affix_shown prefix n b) w.bytes ≡ true = subst (λ (c : Block). has_affixes prefix suffix (affix_shown prefix n c) w.bytes ≡ true) q written in y in
    hand-allocated (affix_handing prefix suffix) keeps_nothing tt tt t t' m w n (Some whole) (affix-hands prefix suffix t.rules h.made.regular.telling) h.made h.together h.stands l most refl refl clean (written-whole prefix suffix n true t t' m k w whole h p a x)

pub serves-round : (prefix suffix n : ℕ) (u : Bool) (t t' : LayerModel) (m k w : Memory) (whole : Block) → IsHere prefix suffix u t m → IsSetUp (affix_model prefix suffix u t) → Allocates t t' m k (n + prefix + suffix) (Some whole)
    → Writes (affix_down prefix suffix (affix_shown prefix n whole)) k w → KeepsAffixes prefix suffix (affix_model prefix suffix u t) m w
serves-round prefix suffix n u t t' m k w whole h p a x c o =
    let y = affixed-of prefix suffix u t m c h o in
    let b = written-whole prefix suffix n u t t' m k w whole h p a x in
    carried-still prefix suffix c m.bytes w.bytes y.fits y.room b.frame.size (b.others (affix_down prefix suffix c) y.below).bytes

pub refuses : (prefix suffix n : ℕ) (u : Bool) (t t' : LayerModel) (m k : Memory) → IsHere prefix suffix u t m → IsSetUp (affix_model prefix suffix u t) → 1 ≤ n → n ≤ limit → Allocates t t' m k (n + prefix + suffix) None
    → Allocates (affix_model prefix suffix u t) (affix_model prefix suffix u t') m k n None
unfolding affix_rules
refuses prefix suffix n false t t' m k h p l most a = absurd (cc)
refuses prefix suffix n true t t' m k h p l most a =
    hand-allocated (affix_handing prefix suffix) keeps_nothing tt tt t t' m k n None (affix-hands prefix suffix t.rules h.made.regular.telling) h.made h.together h.stands l most refl refl (λ b e. absurd (cc)) a

pub refuses-round : (prefix suffix n : ℕ) (u : Bool) (t t' : LayerModel) (m k : Memory) → IsHere prefix suffix u t m → Allocates t t' m k n None → KeepsAffixes prefix suffix (affix_model prefix suffix u t) m k
refuses-round prefix suffix n u t t' m k h a c o =
    let y = affixed-of prefix suffix u t m c h o in
    carried-still prefix suffix c m.bytes k.bytes y.fits y.room a.frame.size (a.others (affix_down prefix suffix c) y.below).bytes
