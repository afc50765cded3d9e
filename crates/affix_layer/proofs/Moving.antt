-- What a move does that carries along what a caller wrote round a block.
use Rattle.std.proofs.Common.{◌≡◌, refl, sym, ap, subst, ◌∙◌, inl, inr, ◌⊎◌, ℕ, ◌+◌, ◌≤◌, ◌<◌, Bool, true, false, Some, None, arith, length, get_or, min}
use Rattle.std.proofs.lemmas.Bool.{and_from}
use Rattle.space_core.specs.Memory.{Memory}
use Rattle.space_core.specs.Words.{IsCopied}
use Rattle.layer_rules.specs.declared.Block.{Block}
use Rattle.layer_rules.specs.Blocks.{end_of, is_apart}
use Rattle.layer_rules.specs.After.{After, after, answering, Reallocated, moved_to, unmoved}
use Rattle.layer_rules.specs.Handing.{handing_rules}
use Rattle.layer_rules.specs.Rules.{Rules}
use Rattle.layer_rules.specs.State.{child}
use Rattle.layer_rules.specs.Layering.{LayerModel, state_of, Stands, IsSetUp, IsOutOf, IsCleanOf, IsMarkedOf, AreApartIn, Stays, Allocates, Deallocates, Expands, ReallocatesBy, MovesBlock, allocated, deallocated, moved}
use Rattle.layer_laws.proofs.Apart.{apart-flip}
use Rattle.layer_laws.proofs.Basics.{and-fst, and-snd}
use Rattle.layer_laws.specs.Lawful.{IsMade}
use Rattle.layer_laws.proofs.Moving.{same-made}
use Rattle.layer_laws.proofs.Placement.{apart-share_no_byte, write-keeps, write-changes_own}
use Rattle.layer_laws.specs.Standing.{Writes, ChangesOwn}
use Rattle.layer_laws.proofs.StandingLaws.{framing, allocated-stands, allocated-gives, allocated-keeps_out, allocated-keeps_extents, allocated-changes_own, answered, deallocated-changes_own, expanded-keeps, changes-in_turn}
use Rattle.layer_laws.proofs.Writing.{write-stays}
use Rattle.affix_rules.specs.AffixRules.{affix_down, has_length, has_affixes, affix_rules}
use Rattle.layer_core.specs.declared.Layer.{Ghosts}
use Rattle.affix_layer.specs.declared.affixing.Affix.{Affix}
use Rattle.affix_layer.specs.AffixMade.{affix_made}
use Rattle.affix_layer.specs.AffixModel.{KeepsLengths, affix_model, affix_of}
use Rattle.affix_layer.specs.AffixBytes.{CarriesAffixes, KeepsAffixes, KeepsOtherAffixes}
use Rattle.affix_layer.specs.AffixWrites.{WritesAffixes}
use Rattle.affix_layer.proofs.Bytes.{one-before, clean-carried}
use Rattle.affix_layer.proofs.Round.{round-written}
use Rattle.affix_layer.proofs.Standing.{IsHere, here, IsAffixed, parent-stands, affixed-of, apart-below, shut-none, carried-still, then-stays, then-carries}

-- ---- a new block is made ready, whatever the layer

-- what stands once bytes of the block, and round it, were written
pub record IsReadied (t : LayerModel) (k w : Memory) (c : Block) : Type 0 where
  pub stands : Stands t w
  pub state : state_of t w ≡ state_of t k
  pub cells : w.cells ≡ k.cells
  pub changes_own : ChangesOwn t.rules k w
  pub out : (d : Block) → IsOutOf t k d → IsOutOf t w d
  pub marked : IsMarkedOf t k c → IsMarkedOf t w c
  pub others : (d : Block) → IsOutOf t k d → AreApartIn t k c d → Stays t t k w d

apart-same : (t : LayerModel) (k w : Memory) (b c : Block) → state_of t w ≡ state_of t k → AreApartIn t k b c → AreApartIn t w b c
apart-same t k w b c q a = record { either = rw q a.either }

then-readied : (t : LayerModel) (k v w : Memory) (c : Block) → IsReadied t k v c → IsReadied t v w c → IsReadied t k w c
then-readied t k v w c x y = record {
  stands = y.stands;
  state = y.state ∙ x.state;
  cells = y.cells ∙ x.cells;
  changes_own = changes-in_turn t.rules k v w x.changes_own y.changes_own;
  out = λ d o. y.out d (x.out d o);
  marked = λ z. y.marked (x.marked z);
  others = λ d o a. then-stays t t t k v w d (x.others d o a) (y.others d (x.out d o) (apart-same t k v c d x.state a));
}

written-readied : (t : LayerModel) (k v : Memory) (c : Block) → IsMade t.rules → Stands t k → IsOutOf t k c → Writes c k v → IsReadied t k v c
written-readied t k v c l h o x =
    let w = write-keeps t k v c l h o x in
    record {
      stands = w.stands;
      state = w.state;
      cells = x.cells;
      changes_own = write-changes_own t k v c l h o x;
      out = w.out;
      marked = λ z. w.marked c o (inl refl) z;
      others = λ d p a. write-stays t k v c l h o x d p a;
    }

-- the old block is given back then
done-ready : (t t' t'' : LayerModel) (m k w z : Memory) (b c : Block) (n : ℕ) (r : Bool) → IsMade t.rules → Stands t m → IsSetUp t → IsOutOf t m b → Allocates t t' m k n (Some c) → IsReadied t' k w c → ((i : ℕ) → i < min n b.len → get_or w.bytes (c.place + i) 0 ≡ get_or k.bytes (b.place + i) 0)
    → (IsCleanOf t m b → IsCleanOf t' w c) → Deallocates t' t'' w z b r → MovesBlock t t'' m z b c n true
done-ready t t' t'' m k w z b c n r l h u o a x there clean f =
    let g = allocated-gives t t' m k n c l h u a in
    let l' = same-made t t' a.frame.rules l in
    let s = allocated-stands t t' m k n (Some c) l h u a in
    let y = answered c (allocated t m n).answer a.answer in
    let gone = t.rules.deallocate b (allocated t m n).state (allocated t m n).cells in
    let e : moved t m b n ≡ answering (λ given. moved_to y.0.block) gone = ap (λ x. elim x as (λ _. After Reallocated) [ None ↦ after unmoved (allocated t m n).state (allocated t m n).cells | Some p ↦ answering (λ given. moved_to p.block) (t.rules.deallocate b (allocated t m n).state (allocated t m n).cells) ]) y.1 in
    let same : deallocated t' w b ≡ gone = ap (λ (e : Rules). e.deallocate b (state_of t' w) w.cells) a.frame.rules ∙ (ap (λ s. t.rules.deallocate b s w.cells) (x.state ∙ a.state) ∙ ap (λ q. t.rules.deallocate b (allocated t m n).state q) (x.cells ∙ a.cells)) in
    let still = λ (d : Block) (d_out : IsOutOf t m d) (p : AreApartIn t m b d). let q : AreApartIn t' k b d = record { either = rw (allocated-keeps_extents t t' m k n (Some c) l h u a b o, allocated-keeps_extents t t' m k n (Some c) l h u a d d_out) p.either } in q in
    let b_out = allocated-keeps_out t t' m k n (Some c) l h u a b o in
    let three = subst (λ e. ChangesOwn e w z) a.frame.rules (deallocated-changes_own t' t'' w z b r l' x.stands (x.out b b_out) f) in
    let two = subst (λ e. ChangesOwn e k w) a.frame.rules x.changes_own in
    let ch = changes-in_turn t.rules m k z (allocated-changes_own t t' m k n (Some c) l h u a) (changes-in_turn t.rules k w z two three) in
    let near = apart-flip t'.rules (state_of t' k) c b (g.fresh b o) in
    let kept = f.others c (x.out c g.out) (apart-same t' k w b c x.state near) in
    let first = a.others b o in
    subst (λ rule. ReallocatesBy rule t t'' m z b c true) (sym e)
    (record {
      frame = record { rules = f.frame.rules ∙ a.frame.rules; image = f.frame.image; memory = f.frame.memory; size = ch.size; leaves = ch.leaves; foreign = ch.foreign };
      opened = f.opened ∙ a.opened;
      answer = refl;
      block = sym y.2;
      state = f.state ∙ ap (λ (z : After Bool). z.state) same;
      cells = f.cells ∙ ap (λ (z : After Bool). z.cells) same;
      carried = λ some. record {
        bytes = λ i p. kept.bytes.at (c.place + i) (omega arith) (omega (arith, g.len)) ∙ (there i (omega (arith, g.len)) ∙ first.bytes.at (b.place + i) (omega arith) (omega arith));
        clean = λ p. kept.clean (clean p);
        marked = λ p. kept.marked (x.marked ((framing t' k l' s).marked c (state_of t' k) k.bytes (a.made c refl)));
      };
      others = λ d d_out far.
          let p = allocated-keeps_out t t' m k n (Some c) l h u a d d_out in
          let one = then-stays t t' t' m k w d (a.others d d_out) (x.others d p (g.fresh d d_out)) in
          then-stays t t' t'' m w z d one (f.others d (x.out d p) (apart-same t' k w b d x.state (still d d_out (far refl))));
    })

-- ---- an affix whose new block was just served

-- The old block and the new one, each with its affixes: they have no byte in common.
pub record IsServedBeside (prefix suffix : ℕ) (u : Bool) (t : LayerModel) (k : Memory) (b c : Block) : Type 0 where
  pub here : IsHere prefix suffix u t k
  pub old_out : IsOutOf (affix_model prefix suffix u t) k b
  pub new_out : IsOutOf (affix_model prefix suffix u t) k c
  pub old_marked : IsMarkedOf (affix_model prefix suffix u t) k b
  pub apart : AreApartIn (affix_model prefix suffix u t) k c b
  pub old : IsAffixed prefix suffix t k b
  pub new : IsAffixed prefix suffix t k c
  pub none_shared : is_apart (affix_down prefix suffix b) (affix_down prefix suffix c) ≡ true
  pub few : length k.bytes ≤ 16777216

below-apart : (prefix suffix : ℕ) (u : Bool) (t : LayerModel) (k : Memory) (b c : Block) → IsHere prefix suffix u t k → IsOutOf (affix_model prefix suffix u t) k b → IsOutOf (affix_model prefix suffix u t) k c → AreApartIn (affix_model prefix suffix u t) k b c
    → is_apart (affix_down prefix suffix b) (affix_down prefix suffix c) ≡ true
below-apart prefix suffix false t k b c h o p a = absurd (shut-none prefix suffix t k b o)
below-apart prefix suffix true t k b c h o p a =
    let x = affixed-of prefix suffix true t k b h o in
    let y = affixed-of prefix suffix true t k c h p in
    apart-share_no_byte t k (affix_down prefix suffix b) (affix_down prefix suffix c) h.made (parent-stands prefix suffix true t k h) x.below y.below (apart-below prefix suffix t k b c x.fits y.fits a)

pub served-beside : (prefix suffix n : ℕ) (u : Bool) (s t : LayerModel) (m k : Memory) (b c : Block) → IsMade s.rules → Stands s m → IsSetUp s → IsOutOf s m b → IsMarkedOf s m b → Allocates s (affix_model prefix suffix u t) m k n (Some c)
    → (Stands (affix_model prefix suffix u t) k → IsHere prefix suffix u t k) → IsServedBeside prefix suffix u t k b c
served-beside prefix suffix n u s t m k b c l h p o z a here_of =
    let T = affix_model prefix suffix u t in
    let g = allocated-gives s T m k n c l h p a in
    let stands = allocated-stands s T m k n (Some c) l h p a in
    let here = here_of stands in
    let b_out = allocated-keeps_out s T m k n (Some c) l h p a b o in
    let near = g.fresh b o in
    let flip = apart-flip T.rules (state_of T k) c b near in
    record {
      here = here;
      old_out = b_out;
      new_out = g.out;
      old_marked = (a.others b o).marked z;
      apart = near;
      old = affixed-of prefix suffix u t k b here b_out;
      new = affixed-of prefix suffix u t k c here g.out;
      none_shared = below-apart prefix suffix u t k b c here b_out g.out (record { either = flip.either });
      few = omega (arith, stands.memory.sizes, stands.memory.cells);
    }

-- what the code does then: the bytes that both lengths have are copied, and what a caller wrote round the old block
pub record IsCarriedOver (prefix suffix n : ℕ) (k v w : Memory) (b c : Block) : Type 0 where
  pub copied : IsCopied k.bytes v.bytes b.place c.place (min n b.len)
  pub same : v ≡ record k { bytes = v.bytes }
  pub carried : CarriesAffixes prefix suffix v.bytes w.bytes b c
  pub inside : WritesAffixes prefix suffix c v w

-- the bytes are copied into the new block
copied-inside : (n : ℕ) (k v : Memory) (b c : Block) → c.len ≡ n → IsCopied k.bytes v.bytes b.place c.place (min n b.len) → v ≡ record k { bytes = v.bytes } → Writes c k v
copied-inside n k v b c q x e = record {
  cells = ap (λ (z : Memory). z.cells) e;
  leaves = ap (λ (z : Memory). z.leaves) e;
  bytes = record { length_same = x.size; below = λ i p. x.below i p; above = λ i p. x.above i (omega (arith, q, p)) };
}

-- what stands round a block that is apart from it is none of these
copied-round : (prefix suffix j source : ℕ) (t : LayerModel) (k v : Memory) (d c : Block) → IsAffixed prefix suffix t k d → prefix ≤ c.place → is_apart (affix_down prefix suffix d) (affix_down prefix suffix c) ≡ true → j ≤ c.len → IsCopied k.bytes v.bytes source c.place j → CarriesAffixes prefix suffix k.bytes v.bytes d d
copied-round prefix suffix j source t k v d c x f a l y =
    carried-still prefix suffix d k.bytes v.bytes x.fits x.room y.size (record { at = λ i p r. untouched i (one-before (affix_down prefix suffix d) (affix_down prefix suffix c) a) p r })
  where
    untouched : (i : ℕ) → (end_of (affix_down prefix suffix d) ≤ (affix_down prefix suffix c).place) ⊎ (end_of (affix_down prefix suffix c) ≤ (affix_down prefix suffix d).place) → (affix_down prefix suffix d).place ≤ i → i < end_of (affix_down prefix suffix d) → get_or v.bytes i 0 ≡ get_or k.bytes i 0
    untouched i (inl h) p r = y.below i (omega (arith, f, x.fits))
    untouched i (inr h) p r = y.above i (omega (arith, f, x.fits, l))

copied-ready : (prefix suffix n : ℕ) (u : Bool) (t : LayerModel) (k v : Memory) (b c : Block) → IsMade (affix_model prefix suffix u t).rules → IsServedBeside prefix suffix u t k b c → c.len ≡ n → IsCopied k.bytes v.bytes b.place c.place (min n b.len) → v ≡ record k { bytes = v.bytes }
    → IsReadied (affix_model prefix suffix u t) k v c
copied-ready prefix suffix n u t k v b c l x q y e = written-readied (affix_model prefix suffix u t) k v c l x.here.stands x.new_out (copied-inside n k v b c q y e)

still-here : (prefix suffix : ℕ) (u : Bool) (t : LayerModel) (k v : Memory) → IsHere prefix suffix u t k → Stands (affix_model prefix suffix u t) v → IsHere prefix suffix u t v
still-here prefix suffix u t k v h s = record { made = h.made; together = h.together; stands = s }

-- all that was written to and round the new block
pub over-ready : (prefix suffix n : ℕ) (u : Bool) (t : LayerModel) (k v w : Memory) (b c : Block) → IsMade (affix_model prefix suffix u t).rules → IsServedBeside prefix suffix u t k b c → c.len ≡ n → IsCarriedOver prefix suffix n k v w b c → IsReadied (affix_model prefix suffix u t) k w c
over-ready prefix suffix n u t k v w b c l x q y =
    let T = affix_model prefix suffix u t in
    let one = copied-ready prefix suffix n u t k v b c l x q y.copied y.same in
    let two = round-written prefix suffix u t v w c (still-here prefix suffix u t k v x.here one.stands) (one.out c x.new_out) y.inside in
    then-readied T k v w c one (record { stands = two.stands; state = two.state; cells = y.inside.cells; changes_own = two.changes_own; out = two.out; marked = two.marked; others = two.others })

-- the old block may be given back
pub record MayGive (t : LayerModel) (w : Memory) (b : Block) : Type 0 where
  pub stands : Stands t w
  pub out : IsOutOf t w b
  pub marked : IsMarkedOf t w b

pub may-give : (prefix suffix n : ℕ) (u : Bool) (t : LayerModel) (k v w : Memory) (b c : Block) → IsMade (affix_model prefix suffix u t).rules → IsServedBeside prefix suffix u t k b c → c.len ≡ n → IsCarriedOver prefix suffix n k v w b c → MayGive (affix_model prefix suffix u t) w b
may-give prefix suffix n u t k v w b c l x q y =
    let r = over-ready prefix suffix n u t k v w b c l x q y in
    record { stands = r.stands; out = r.out b x.old_out; marked = (r.others b x.old_out x.apart).marked x.old_marked }

-- ---- the whole move

-- the calls of the affix before and after
pub record MovesOver (prefix suffix n : ℕ) (u : Bool) (s t t'' : LayerModel) (m k v w z : Memory) (b c : Block) (r : Bool) : Type 0 where
  pub serves : Allocates s (affix_model prefix suffix u t) m k n (Some c)
  pub beside : IsServedBeside prefix suffix u t k b c
  pub over : IsCarriedOver prefix suffix n k v w b c
  pub gives : Deallocates (affix_model prefix suffix u t) t'' w z b r
  pub served_around : KeepsAffixes prefix suffix s m k
  pub given_around : KeepsOtherAffixes prefix suffix (affix_model prefix suffix u t) w z b true

flip-in : (t : LayerModel) (m : Memory) (b c : Block) → AreApartIn t m b c → AreApartIn t m c b
flip-in t m b c a = let x = apart-flip t.rules (state_of t m) b c (record { either = a.either }) in record { either = x.either }

-- what a caller wrote round the old block stands round the new one
round-carried : (prefix suffix n : ℕ) (u : Bool) (s t t'' : LayerModel) (m k v w z : Memory) (b c : Block) (r : Bool) → IsOutOf s m b → c.len ≡ n → MovesOver prefix suffix n u s t t'' m k v w z b c r → CarriesAffixes prefix suffix m.bytes w.bytes b c
round-carried prefix suffix n u s t t'' m k v w z b c r o q x =
    then-carries prefix suffix m.bytes k.bytes w.bytes b b c (x.served_around b o)
    (then-carries prefix suffix k.bytes v.bytes w.bytes b b c (copied-round prefix suffix (min n b.len) b.place t k v b c x.beside.old x.beside.new.fits x.beside.none_shared (omega (arith, q)) x.over.copied) x.over.carried)

pub moved-carried : (prefix suffix n : ℕ) (u : Bool) (s t t'' : LayerModel) (m k v w z : Memory) (b c : Block) (r : Bool) → IsMade s.rules → Stands s m → IsSetUp s → IsOutOf s m b → MovesOver prefix suffix n u s t t'' m k v w z b c r → CarriesAffixes prefix suffix m.bytes z.bytes b c
moved-carried prefix suffix n u s t t'' m k v w z b c r l h p o x =
    let T = affix_model prefix suffix u t in
    let l' = same-made s T x.serves.frame.rules l in
    let q = (allocated-gives s T m k n c l h p x.serves).len in
    let y = over-ready prefix suffix n u t k v w b c l' x.beside q x.over in
    then-carries prefix suffix m.bytes w.bytes z.bytes b c c (round-carried prefix suffix n u s t t'' m k v w z b c r o q x)
    (x.given_around c (y.out c x.beside.new_out) (λ d. flip-in T w c b (apart-same T k w c b y.state x.beside.apart)))

pub moved-round : (prefix suffix n : ℕ) (u : Bool) (s t t'' : LayerModel) (m k v w z : Memory) (b c : Block) (r : Bool) → IsMade s.rules → Stands s m → IsSetUp s → IsOutOf s m b → MovesOver prefix suffix n u s t t'' m k v w z b c r → KeepsOtherAffixes prefix suffix s m z b true
moved-round prefix suffix n u s t t'' m k v w z b c r l h p o x d d_out far =
    let T = affix_model prefix suffix u t in
    let l' = same-made s T x.serves.frame.rules l in
    let g = allocated-gives s T m k n c l h p x.serves in
    let y = over-ready prefix suffix n u t k v w b c l' x.beside g.len x.over in
    let d_here = allocated-keeps_out s T m k n (Some c) l h p x.serves d d_out in
    let still = λ (a : AreApartIn s m b d). let w : AreApartIn T k b d = record { either = rw (allocated-keeps_extents s T m k n (Some c) l h p x.serves b o, allocated-keeps_extents s T m k n (Some c) l h p x.serves d d_out) a.either } in w in
    let new_far = g.fresh d d_out in
    let one = copied-ready prefix suffix n u t k v b c l' x.beside g.len x.over.copied x.over.same in
    let here = still-here prefix suffix u t k v x.beside.here one.stands in
    let two = round-written prefix suffix u t v w c here (one.out c x.beside.new_out) x.over.inside in
    let f = affixed-of prefix suffix u t k d x.beside.here d_here in
    then-carries prefix suffix m.bytes k.bytes z.bytes d d d (x.served_around d d_out)
    (then-carries prefix suffix k.bytes v.bytes z.bytes d d d (copied-round prefix suffix (min n b.len) b.place t k v d c f x.beside.new.fits (below-apart prefix suffix u t k d c x.beside.here d_here x.beside.new_out (flip-in T k c d new_far)) (omega (arith, g.len)) x.over.copied)
    (then-carries prefix suffix v.bytes w.bytes z.bytes d d d (two.around d (one.out d d_here) (λ q. apart-same T k v c d one.state new_far))
    (x.given_around d (y.out d d_here) (λ q. apart-same T k w b d y.state (still (far refl))))))

-- the new block is clean where the old one was
clean-moved : (prefix suffix : ℕ) (u : Bool) (t : LayerModel) (m w : Memory) (b c : Block) → prefix ≤ b.place → prefix ≤ c.place → CarriesAffixes prefix suffix m.bytes w.bytes b c → IsMarkedOf (affix_model prefix suffix u t) w c → has_affixes prefix suffix b m.bytes ≡ true → IsCleanOf (affix_model prefix suffix u t) w c
unfolding affix_rules handing_rules
clean-moved prefix suffix u t m w b c f g k z y =
    let T = affix_model prefix suffix u t in
    let parent = t.rules.is_clean (affix_down prefix suffix c) (child (state_of T w) 0) w.bytes in
    and_from _ _ (clean-carried prefix suffix b c m.bytes w.bytes f g k (and-fst (has_length prefix c w.bytes) parent z) y) (and-snd (has_length prefix c w.bytes) parent z)

pub moved-over : (prefix suffix n : ℕ) (u : Bool) (s t t'' : LayerModel) (m k v w z : Memory) (b c : Block) (r : Bool) → IsMade s.rules → Stands s m → IsSetUp s → IsOutOf s m b → (IsCleanOf s m b → has_affixes prefix suffix b m.bytes ≡ true) → MovesOver prefix suffix n u s t t'' m k v w z b c r → MovesBlock s t'' m z b c n true
moved-over prefix suffix n u s t t'' m k v w z b c r l h p o clean x =
    let T = affix_model prefix suffix u t in
    let l' = same-made s T x.serves.frame.rules l in
    let g = allocated-gives s T m k n c l h p x.serves in
    let y = over-ready prefix suffix n u t k v w b c l' x.beside g.len x.over in
    let carried = round-carried prefix suffix n u s t t'' m k v w z b c r o g.len x in
    let first : IsMarkedOf T k c = (framing T k l' x.beside.here.stands).marked c (state_of T k) k.bytes (x.serves.made c refl) in
    done-ready s T t'' m k w z b c n r l h p o x.serves y
    (λ i q. x.over.inside.inside (c.place + i) (omega arith) (omega (arith, g.len)) ∙ x.over.copied.there i q)
    (λ q. clean-moved prefix suffix u t m w b c x.beside.old.fits x.beside.new.fits carried (y.marked first) (clean q)) x.gives

-- ---- the same for the affix that the code works on

clean-affixes : (prefix suffix : ℕ) (u : Bool) (t : LayerModel) (m : Memory) (b : Block) → IsCleanOf (affix_model prefix suffix u t) m b → has_affixes prefix suffix b m.bytes ≡ true
unfolding affix_rules handing_rules
clean-affixes prefix suffix u t m b z = and-fst (has_affixes prefix suffix b m.bytes) (t.rules.is_clean (affix_down prefix suffix b) (child (state_of (affix_model prefix suffix u t) m) 0) m.bytes) z

-- what holds of lengths that stayed
at-lengths : (F : (prefix suffix : ℕ) → Type 0) (p s p' s' : ℕ) → p' ≡ p → s' ≡ s → F p' s' → F p s
at-lengths F p s p' s' e d x = subst (λ y. F p y) d (subst (λ y. F y s') e x)

-- what the move knows as it begins
pub record MayMove {P : Type 0} {G : Ghosts P} (l : Affix P G) (m : Memory) (b : Block) : Type 0 where
  pub made : (p : P) → IsMade (G.model p).rules
  pub stands : Stands (affix_of G.model l) m
  pub opened : IsSetUp (affix_of G.model l)
  pub out : IsOutOf (affix_of G.model l) m b
  pub marked : IsMarkedOf (affix_of G.model l) m b

pub beside-at : {P : Type 0} {G : Ghosts P} → (l l' : Affix P G) (m k : Memory) (b c : Block) (n : ℕ) → MayMove l m b → Allocates (affix_of G.model l) (affix_of G.model l') m k n (Some c) → IsServedBeside l'.prefix l'.suffix l'.is_set (G.model l'.parent) k b c
beside-at {P} {G} l l' m k b c n h a =
    served-beside l'.prefix l'.suffix n l'.is_set (affix_of G.model l) (G.model l'.parent) m k b c (affix_made h.made l) h.stands h.opened h.out h.marked a (λ s. here h.made l' k s)

pub len-at : {P : Type 0} {G : Ghosts P} → (l l' : Affix P G) (m k : Memory) (b c : Block) (n : ℕ) → MayMove l m b → Allocates (affix_of G.model l) (affix_of G.model l') m k n (Some c) → c.len ≡ n
len-at {P} {G} l l' m k b c n h a = (allocated-gives (affix_of G.model l) (affix_of G.model l') m k n c (affix_made h.made l) h.stands h.opened a).len

pub may-give-at : {P : Type 0} {G : Ghosts P} → (l l' : Affix P G) (m k v w : Memory) (b c : Block) (n : ℕ) → MayMove l m b → Allocates (affix_of G.model l) (affix_of G.model l') m k n (Some c) → IsCarriedOver l'.prefix l'.suffix n k v w b c → MayGive (affix_of G.model l') w b
may-give-at {P} {G} l l' m k v w b c n h a y =
    may-give l'.prefix l'.suffix n l'.is_set (G.model l'.parent) k v w b c (affix_made h.made l') (beside-at l l' m k b c n h a) (len-at l l' m k b c n h a) y

-- the calls as the code made them
pub record Moved {P : Type 0} {G : Ghosts P} (l l' l'' : Affix P G) (n : ℕ) (m k v w z : Memory) (b c : Block) (r : Bool) : Type 0 where
  pub lengths : KeepsLengths l l'
  pub serves : Allocates (affix_of G.model l) (affix_of G.model l') m k n (Some c)
  pub over : IsCarriedOver l'.prefix l'.suffix n k v w b c
  pub gives : Deallocates (affix_of G.model l') (affix_of G.model l'') w z b r
  pub served_around : KeepsAffixes l.prefix l.suffix (affix_of G.model l) m k
  pub given_around : KeepsOtherAffixes l'.prefix l'.suffix (affix_of G.model l') w z b true

moves-at : {P : Type 0} {G : Ghosts P} → (l l' l'' : Affix P G) (n : ℕ) (m k v w z : Memory) (b c : Block) (r : Bool) → MayMove l m b → Moved l l' l'' n m k v w z b c r → MovesOver l'.prefix l'.suffix n l'.is_set (affix_of G.model l) (G.model l'.parent) (affix_of G.model l'') m k v w z b c r
moves-at {P} {G} l l' l'' n m k v w z b c r h x = record {
  serves = x.serves;
  beside = beside-at l l' m k b c n h x.serves;
  over = x.over;
  gives = x.gives;
  served_around = at-lengths (λ p s. KeepsAffixes p s (affix_of G.model l) m k) l'.prefix l'.suffix l.prefix l.suffix (sym x.lengths.prefix) (sym x.lengths.suffix) x.served_around;
  given_around = x.given_around;
}

pub moved-block : {P : Type 0} {G : Ghosts P} → (l l' l'' : Affix P G) (n : ℕ) (m k v w z : Memory) (b c : Block) (r : Bool) → MayMove l m b → Moved l l' l'' n m k v w z b c r → MovesBlock (affix_of G.model l) (affix_of G.model l'') m z b c n true
moved-block {P} {G} l l' l'' n m k v w z b c r h x =
    moved-over l'.prefix l'.suffix n l'.is_set (affix_of G.model l) (G.model l'.parent) (affix_of G.model l'') m k v w z b c r (affix_made h.made l) h.stands h.opened h.out
    (λ q. at-lengths (λ p s. has_affixes p s b m.bytes ≡ true) l'.prefix l'.suffix l.prefix l.suffix (sym x.lengths.prefix) (sym x.lengths.suffix) (clean-affixes l.prefix l.suffix l.is_set (G.model l.parent) m b q))
    (moves-at l l' l'' n m k v w z b c r h x)

pub moved-affixes : {P : Type 0} {G : Ghosts P} → (l l' l'' : Affix P G) (n : ℕ) (m k v w z : Memory) (b c : Block) (r : Bool) → MayMove l m b → Moved l l' l'' n m k v w z b c r → CarriesAffixes l.prefix l.suffix m.bytes z.bytes b c
moved-affixes {P} {G} l l' l'' n m k v w z b c r h x =
    at-lengths (λ p s. CarriesAffixes p s m.bytes z.bytes b c) l.prefix l.suffix l'.prefix l'.suffix x.lengths.prefix x.lengths.suffix
    (moved-carried l'.prefix l'.suffix n l'.is_set (affix_of G.model l) (G.model l'.parent) (affix_of G.model l'') m k v w z b c r (affix_made h.made l) h.stands h.opened h.out (moves-at l l' l'' n m k v w z b c r h x))

pub moved-others : {P : Type 0} {G : Ghosts P} → (l l' l'' : Affix P G) (n : ℕ) (m k v w z : Memory) (b c : Block) (r : Bool) → MayMove l m b → Moved l l' l'' n m k v w z b c r → KeepsOtherAffixes l.prefix l.suffix (affix_of G.model l) m z b true
moved-others {P} {G} l l' l'' n m k v w z b c r h x =
    at-lengths (λ p s. KeepsOtherAffixes p s (affix_of G.model l) m z b true) l.prefix l.suffix l'.prefix l'.suffix x.lengths.prefix x.lengths.suffix
    (moved-round l'.prefix l'.suffix n l'.is_set (affix_of G.model l) (G.model l'.parent) (affix_of G.model l'') m k v w z b c r (affix_made h.made l) h.stands h.opened h.out (moves-at l l' l'' n m k v w z b c r h x))

-- a block that could not grow was moved then: what a caller wrote round other blocks stays
pub tried-others : {P : Type 0} {G : Ghosts P} → (l l' : Affix P G) (m k z : Memory) (b c : Block) (delta : ℕ) (r : Bool) → MayMove l m b → KeepsLengths l l' → Expands (affix_of G.model l) (affix_of G.model l') m k b c delta false → KeepsOtherAffixes l.prefix l.suffix (affix_of G.model l) m k b false
    → KeepsOtherAffixes l'.prefix l'.suffix (affix_of G.model l') k z c r → KeepsOtherAffixes l.prefix l.suffix (affix_of G.model l) m z b r
tried-others {P} {G} l l' m k z b c delta r h e a x y d o far =
    let s = affix_made h.made l in
    let g = expanded-keeps (affix_of G.model l) (affix_of G.model l') m k b c delta false s h.stands h.out a in
    let still = λ (q : AreApartIn (affix_of G.model l) m b d). g.apart d o q in
    let moved = at-lengths (λ p s. KeepsOtherAffixes p s (affix_of G.model l') k z c r) l.prefix l.suffix l'.prefix l'.suffix e.prefix e.suffix y in
    then-carries l.prefix l.suffix m.bytes k.bytes z.bytes d d d (x d o (λ q. absurd (cc))) (moved d (g.out d o (λ q. absurd (cc))) (λ q. still (far q)))
