-- Two open layers side by side: which of them a block of the fallback is out of, and what the fallback keeps by what each of them keeps.
use Rattle.std.proofs.Common.{◌≡◌, refl, sym, ap₂, subst, ◌∙◌, ◌⊎◌, inl, inr, Bool, true, false, arith, []}
use Rattle.std.proofs.lemmas.Bool.{and_from}
use Rattle.space_core.specs.Memory.{Memory}
use Rattle.layer_rules.specs.declared.Block.{Block}
use Rattle.layer_rules.specs.Fields.{are_open}
use Rattle.layer_rules.specs.Layering.{LayerModel, state_of, kept_state, Stands, IsSetUp, IsOutOf, IsMarkedOf, AreApartIn, Frames, Stays}
use Rattle.layer_rules.specs.Rules.{Rules, IsBeside, HasSomeTags}
use Rattle.layer_laws.proofs.Basics.{and-fst, and-snd}
use Rattle.layer_laws.specs.Lawful.{IsMade}
use Rattle.layer_laws.specs.Standing.{ChangesOwn}
use Rattle.layer_laws.proofs.Placement.{member-changes_own}
use Rattle.layer_laws.proofs.ReadingNoBytes.{holds-reads_no_bytes}
use Rattle.layer_laws.proofs.Seats.{held-by_no_other}
use Rattle.layer_laws.proofs.StandingLaws.{lawful, keeping, framing, covers-of, out-is_held}
use Rattle.fallback_rules.specs.FallbackRules.{fallback_rules}
use Rattle.fallback_rules.proofs.FallbackLawful.{tags-first, tags-second}
use Rattle.fallback.proofs.Holders.{IsOutOfFirst, IsOutOfSecond, of-holder, cond-true, cond-false, fallback-opened}
use Rattle.layer_laws.proofs.MembersLawful.{in-left, in-right}
use Rattle.layer_core.specs.declared.Layer.{Ghosts}
use Rattle.fallback.specs.declared.two_layers.Fallback.{Fallback}
use Rattle.fallback.specs.FallbackModel.{fallback_if, fallback_model, fallback_of}
use Rattle.fallback.specs.FallbackProper.{IsProper}
use Rattle.fallback.specs.MovingAcross.{Remains}

-- the fallback over two layers, open
abbrev pub open_pair : (primary second : LayerModel) → LayerModel
open_pair p f = fallback_if true p f

-- two open layers that stand in one Space
pub record ArePaired (p f : LayerModel) (m : Memory) : Type 0 where
  pub made_first : IsMade p.rules
  pub made_second : IsMade f.rules
  pub owns : p.rules.offers.owns ≡ true
  pub apart : IsBeside p.rules f.rules
  pub first_open : IsSetUp p
  pub second_open : IsSetUp f
  pub first : Stands p m
  pub second : Stands f m

-- the other way round
pub flip-beside : (e f : Rules) → IsBeside e f → IsBeside f e
flip-beside e f b = record { apart = λ t x y. b.apart t y x }

-- ---- whose a block is

pub holder : (p f : LayerModel) (m : Memory) (c : Block) → IsOutOf (open_pair p f) m c
    → IsOutOfFirst p.rules c (state_of (open_pair p f) m) m.cells ⊎ IsOutOfSecond p.rules f.rules c (state_of (open_pair p f) m) m.cells
holder p f m c o =
    let s = state_of (open_pair p f) m in
    of-holder p.rules f.rules c s m.cells (λ q. IsOutOfFirst p.rules c s m.cells ⊎ IsOutOfSecond p.rules f.rules c s m.cells) o (λ x. inl x) (λ x. inr x)

-- the primary holds what is out of it, and nothing that is out of the second
pub held-first : (p f : LayerModel) (m : Memory) (c : Block) → ArePaired p f m → IsOutOf p m c → p.rules.holds c (state_of p m) ≡ true
held-first p f m c h o = out-is_held p m c h.made_first h.first h.owns o

pub held-not : (p f : LayerModel) (m : Memory) (c : Block) → ArePaired p f m → IsOutOf f m c → p.rules.holds c (state_of p m) ≡ false
held-not p f m c h o =
    let some = (keeping f m h.made_second h.second).out_some c (state_of f m) m.cells o in
    held-by_no_other p.rules f.rules (state_of p m) (state_of f m) m.cells c (p.rules.holds c (state_of p m)) refl (lawful p m h.made_first h.first).holding.own h.first.sound.settled
    (covers-of f m c h.made_second h.second o) some h.apart.apart

pub out-first : (p f : LayerModel) (m : Memory) (c : Block) → p.rules.holds c (state_of p m) ≡ true → IsOutOf (open_pair p f) m c → IsOutOf p m c
unfolding fallback_rules
out-first p f m c q o = elim (holder p f m c o) [ inl x ↦ x.below | inr x ↦ let z : p.rules.holds c (state_of p m) ≡ false = x.not_held in absurd (cc) ]

pub out-second : (p f : LayerModel) (m : Memory) (c : Block) → p.rules.holds c (state_of p m) ≡ false → IsOutOf (open_pair p f) m c → IsOutOf f m c
unfolding fallback_rules
out-second p f m c q o = elim (holder p f m c o) [ inl x ↦ let z : p.rules.holds c (state_of p m) ≡ true = x.held in absurd (cc) | inr x ↦ x.below ]

-- what is round a block of the fallback is as its holder wrote it
pub clean-first : (p f : LayerModel) (m : Memory) (c : Block) → p.rules.holds c (state_of p m) ≡ true → (open_pair p f).rules.is_clean c (state_of (open_pair p f) m) m.bytes ≡ p.rules.is_clean c (state_of p m) m.bytes
unfolding fallback_rules
clean-first p f m c q = cond-true _ _ (p.rules.holds c (state_of p m)) q

pub clean-second : (p f : LayerModel) (m : Memory) (c : Block) → p.rules.holds c (state_of p m) ≡ false → (open_pair p f).rules.is_clean c (state_of (open_pair p f) m) m.bytes ≡ f.rules.is_clean c (state_of f m) m.bytes
unfolding fallback_rules
clean-second p f m c q = cond-false _ _ (p.rules.holds c (state_of p m)) q

-- and marked is clean there
pub marked-clean : (p f : LayerModel) (m : Memory) (c : Block) → (open_pair p f).rules.is_marked c (state_of (open_pair p f) m) m.bytes ≡ (open_pair p f).rules.is_clean c (state_of (open_pair p f) m) m.bytes
unfolding fallback_rules
marked-clean p f m c = refl

pub apart-first : (p f : LayerModel) (m : Memory) (b c : Block) → p.rules.holds b (state_of p m) ≡ true → p.rules.holds c (state_of p m) ≡ true → AreApartIn (open_pair p f) m b c → AreApartIn p m b c
unfolding fallback_rules
apart-first p f m b c x y a =
    record { either = rw (cond-true (p.rules.extent b (state_of p m)) (f.rules.extent b (state_of f m)) (p.rules.holds b (state_of p m)) x, cond-true (p.rules.extent c (state_of p m)) (f.rules.extent c (state_of f m)) (p.rules.holds c (state_of p m)) y) at a.either }

pub apart-second : (p f : LayerModel) (m : Memory) (b c : Block) → p.rules.holds b (state_of p m) ≡ false → p.rules.holds c (state_of p m) ≡ false → AreApartIn (open_pair p f) m b c → AreApartIn f m b c
unfolding fallback_rules
apart-second p f m b c x y a =
    record { either = rw (cond-false (p.rules.extent b (state_of p m)) (f.rules.extent b (state_of f m)) (p.rules.holds b (state_of p m)) x, cond-false (p.rules.extent c (state_of p m)) (f.rules.extent c (state_of f m)) (p.rules.holds c (state_of p m)) y) at a.either }

-- so the holder of a marked block finds it marked
pub marked-first : (p f : LayerModel) (m : Memory) (b : Block) → ArePaired p f m → p.rules.holds b (state_of p m) ≡ true → IsMarkedOf (open_pair p f) m b → IsMarkedOf p m b
marked-first p f m b h q k = (framing p m h.made_first h.first).marked b (state_of p m) m.bytes (sym (clean-first p f m b q) ∙ sym (marked-clean p f m b) ∙ k)

pub marked-second : (p f : LayerModel) (m : Memory) (b : Block) → ArePaired p f m → p.rules.holds b (state_of p m) ≡ false → IsMarkedOf (open_pair p f) m b → IsMarkedOf f m b
marked-second p f m b h q k = (framing f m h.made_second h.second).marked b (state_of f m) m.bytes (sym (clean-second p f m b q) ∙ sym (marked-clean p f m b) ∙ k)

-- ---- what each of them keeps, the fallback keeps

pub paired-again : (p p' f f' : LayerModel) (m m' : Memory) (K L : Block → Type 0) → ArePaired p f m → Remains p p' m m' K → Remains f f' m m' L → ArePaired p' f' m'
paired-again p p' f f' m m' K L h x y = record {
  made_first = subst IsMade (sym x.rules) h.made_first;
  made_second = subst IsMade (sym y.rules) h.made_second;
  owns = subst (λ (e : Rules). e.offers.owns ≡ true) (sym x.rules) h.owns;
  apart = subst (λ e. IsBeside e f'.rules) (sym x.rules) (subst (λ e. IsBeside p.rules e) (sym y.rules) h.apart);
  first_open = x.opened ∙ h.first_open;
  second_open = y.opened ∙ h.second_open;
  first = x.stands;
  second = y.stands;
}

pub pair-stays : (p p' f f' : LayerModel) (m m' : Memory) (K L : Block → Type 0) (c : Block) → ArePaired p f m → Remains p p' m m' K → Remains f f' m m' L → IsOutOf (open_pair p f) m c → (IsOutOf p m c → K c) → (IsOutOf f m c → L c)
    → Stays (open_pair p f) (open_pair p' f') m m' c
unfolding fallback_rules
pair-stays p p' f f' m m' K L c h x y o first second = elim (holder p f m c o) [ inl v ↦ by_first v.held v.below | inr v ↦ by_second v.not_held v.below ]
  where
    later : ArePaired p' f' m'
    later = paired-again p p' f f' m m' K L h x y

    by_first : p.rules.holds c (state_of p m) ≡ true → IsOutOf p m c → Stays (open_pair p f) (open_pair p' f') m m' c
    by_first q below =
        let k = x.stays c below (first below) in
        let old = clean-first p f m c q in
        let new = clean-first p' f' m' c (held-first p' f' m' c later (x.out c below (first below))) in
        record { bytes = k.bytes; clean = λ z. new ∙ k.clean (sym old ∙ z); marked = λ z. marked-clean p' f' m' c ∙ new ∙ k.clean (sym old ∙ sym (marked-clean p f m c) ∙ z) }

    by_second : p.rules.holds c (state_of p m) ≡ false → IsOutOf f m c → Stays (open_pair p f) (open_pair p' f') m m' c
    by_second q below =
        let k = y.stays c below (second below) in
        let old = clean-second p f m c q in
        let new = clean-second p' f' m' c (held-not p' f' m' c later (y.out c below (second below))) in
        record { bytes = k.bytes; clean = λ z. new ∙ k.clean (sym old ∙ z); marked = λ z. marked-clean p' f' m' c ∙ new ∙ k.clean (sym old ∙ sym (marked-clean p f m c) ∙ z) }

pub changes-first : (p f : Rules) (m m' : Memory) → ChangesOwn p m m' → ChangesOwn (fallback_rules p f) m m'
unfolding fallback_rules
changes-first p f m m' k = member-changes_own p (fallback_rules p f) m m' (λ t x. in-left p.leaf_tags f.leaf_tags t x) k

pub changes-second : (p f : Rules) (m m' : Memory) → ChangesOwn f m m' → ChangesOwn (fallback_rules p f) m m'
unfolding fallback_rules
changes-second p f m m' k = member-changes_own f (fallback_rules p f) m m' (λ t x. in-right p.leaf_tags f.leaf_tags t x) k

pub pair-frames : (p p' f f' : LayerModel) (m m' : Memory) (K L : Block → Type 0) → Remains p p' m m' K → Remains f f' m m' L → ChangesOwn (fallback_rules p.rules f.rules) m m' → Frames (open_pair p f) (open_pair p' f') m m'
unfolding fallback_rules
pair-frames p p' f f' m m' K L x y k = record {
  rules = ap₂ fallback_rules x.rules y.rules;
  image = and_from _ _ x.stands.image y.stands.image;
  memory = k.memory;
  size = k.size;
  leaves = k.leaves;
  foreign = k.foreign;
}

-- ---- both stand where the fallback does

-- what holds of two open fallbacks holds of them as contracts see them
pub as-open : (P : LayerModel → LayerModel → Type 0) (p p' f f' : LayerModel) → IsSetUp p → IsSetUp p' → P (open_pair p f) (open_pair p' f') → P (fallback_model p f) (fallback_model p' f')
as-open P p p' f f' u u' x = subst (λ q. P (fallback_if q p f) (fallback_model p' f')) (sym u) (subst (λ q. P (open_pair p f) (fallback_if q p' f')) (sym u') x)

pub out-open : (p f : LayerModel) (m : Memory) (b : Block) → IsSetUp p → IsOutOf (fallback_model p f) m b → IsOutOf (open_pair p f) m b
out-open p f m b u o = subst (λ q. IsOutOf (fallback_if q p f) m b) u o

pub marked-open : (p f : LayerModel) (m : Memory) (b : Block) → IsSetUp p → IsMarkedOf (fallback_model p f) m b → IsMarkedOf (open_pair p f) m b
marked-open p f m b u o = subst (λ q. IsMarkedOf (fallback_if q p f) m b) u o

-- what `holds` of the primary answered
pub holds-now : (p : LayerModel) (m : Memory) (b : Block) (q : Bool) → IsMade p.rules → q ≡ p.rules.holds b (kept_state p) → p.rules.holds b (state_of p m) ≡ q
holds-now p m b q l e = holds-reads_no_bytes p.rules b p.fields m.bytes [] l.regular.reading ∙ sym e

pub open-only : (p f : LayerModel) → IsSetUp (fallback_model p f) → IsSetUp p
open-only p f u = go (are_open p.fields) u
  where
    go : (q : Bool) → IsSetUp (fallback_if q p f) → q ≡ true
    go true u = refl
    go false u = absurd (cc)

pub both-open : (p f : LayerModel) (m : Memory) → IsMade p.rules → IsMade f.rules → Stands (open_pair p f) m → Stands p m × Stands f m
unfolding fallback_rules
both-open p f m l k h =
    let w : HasSomeTags (fallback_rules p.rules f.rules) = record { least = h.sound.made.least } in
    let parts = fallback-opened p.rules f.rules (state_of (open_pair p f) m) m.cells refl h.sound.settled in
    let first = tags-first p.rules f.rules h.sound.distinct w in
    let second = tags-second p.rules f.rules h.sound.distinct w in (
      record {
        memory = h.memory;
        sound = record { distinct = first.0; made = record { least = first.1.least; most = λ t x. h.sound.made.most t (in-left p.rules.leaf_tags f.rules.leaf_tags t x) }; settled = parts.settled 0 (omega arith) };
        image = and-fst _ _ h.image;
      },
      record {
        memory = h.memory;
        sound = record { distinct = second.0; made = record { least = second.1.least; most = λ t x. h.sound.made.most t (in-right p.rules.leaf_tags f.rules.leaf_tags t x) }; settled = parts.settled 1 (omega arith) };
        image = and-snd (p.rules.is_image p.fields (state_of p m) m.bytes) _ h.image;
      },
    )

pub paired : (p f : LayerModel) (m : Memory) → IsProper p.rules f.rules → IsMade p.rules → IsMade f.rules → are_open f.fields ≡ are_open p.fields → Stands (fallback_model p f) m → IsSetUp (fallback_model p f) → ArePaired p f m
paired p f m proper l k together h u =
    let o = open-only p f u in
    let both = both-open p f m l k (subst (λ q. Stands (fallback_if q p f) m) o h) in
    record { made_first = l; made_second = k; owns = proper.owns; apart = proper.apart; first_open = o; second_open = together ∙ o; first = both.0; second = both.1 }

-- the same of the struct, for its calls
pub here : {P F : Type 0} {G : Ghosts P} {H : Ghosts F} → ((p : P) → IsMade (G.model p).rules) → ((f : F) → IsMade (H.model f).rules) → (l : Fallback P F G H) (m : Memory) → Stands (fallback_of G.model H.model l) m → IsSetUp (fallback_of G.model H.model l)
    → ArePaired (G.model l.primary) (H.model l.second) m
here made others l m h u = paired _ _ m l.proper (made l.primary) (others l.second) l.together h u

-- a marked block of the fallback is so for its holder, as the primary answered
pub marked-by_first : (p f : LayerModel) (m : Memory) (b : Block) → ArePaired p f m → true ≡ p.rules.holds b (kept_state p) → IsMarkedOf (fallback_model p f) m b → IsMarkedOf p m b
marked-by_first p f m b h e k = marked-first p f m b h (holds-now p m b true h.made_first e) (marked-open p f m b h.first_open k)

pub marked-by_second : (p f : LayerModel) (m : Memory) (b : Block) → ArePaired p f m → false ≡ p.rules.holds b (kept_state p) → IsMarkedOf (fallback_model p f) m b → IsMarkedOf f m b
marked-by_second p f m b h e k = marked-second p f m b h (holds-now p m b false h.made_first e) (marked-open p f m b h.first_open k)

pub out-by_first : (p f : LayerModel) (m : Memory) (b : Block) → ArePaired p f m → true ≡ p.rules.holds b (kept_state p) → IsOutOf (fallback_model p f) m b → IsOutOf p m b
out-by_first p f m b h e o = out-first p f m b (holds-now p m b true h.made_first e) (out-open p f m b h.first_open o)

pub out-by_second : (p f : LayerModel) (m : Memory) (b : Block) → ArePaired p f m → false ≡ p.rules.holds b (kept_state p) → IsOutOf (fallback_model p f) m b → IsOutOf f m b
out-by_second p f m b h e o = out-second p f m b (holds-now p m b false h.made_first e) (out-open p f m b h.first_open o)
