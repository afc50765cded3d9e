-- A fallback is opened and closed: the primary first, then the second.
use Rattle.std.proofs.Common.{◌≡◌, refl, sym, ap, ap₂, subst, ◌∙◌, ℕ, ◌+◌, ◌&&◌, Bool, true, false, arith, Result, Ok, Err, nat_eq}
use Rattle.std.proofs.lemmas.Bool.{and_from}
use Rattle.std.proofs.lemmas.List.Folds.{list_all-append}
use Rattle.std.proofs.lemmas.List.Sums.{fold-append}
use Rattle.space_core.specs.Cells.{Cells, free_tag, used_by}
use Rattle.space_core.specs.Memory.{Memory}
use Rattle.layer_rules.specs.declared.Refused.{Refused}
use Rattle.layer_rules.specs.After.{Opened, Opening, opened}
use Rattle.layer_rules.specs.Fields.{are_open}
use Rattle.layer_rules.specs.Layering.{LayerModel, state_of, Stands, IsShut, Frames, SetsUp, TearsDown, OpensAs}
use Rattle.layer_rules.specs.Rules.{Rules, IsBeside, HasSomeTags, without_leaves}
use Rattle.layer_rules.specs.Setting.{then_open}
use Rattle.layer_rules.specs.Testing.{has_no_cells}
use Rattle.layer_laws.proofs.Basics.{and-fst, and-snd}
use Rattle.layer_laws.specs.Lawful.{IsMade}
use Rattle.layer_laws.specs.Standing.{ChangesOwn}
use Rattle.layer_laws.proofs.Placement.{others-stand, others-keep_state}
use Rattle.layer_laws.proofs.StandingLaws.{changes-in_turn, set_up-stands, set_up-changes_own, torn-stands, torn-changes_own, shut-stands, shut-has_no_cells}
use Rattle.layer_laws.proofs.TornDown.{opened-torn_down}
use Rattle.fallback_rules.specs.FallbackRules.{fallback_rules}
use Rattle.fallback.proofs.Holders.{pair_of}
use Rattle.fallback_rules.proofs.FallbackLawful.{tags-first, tags-second}
use Rattle.layer_laws.proofs.MembersLawful.{in-left, in-right}
use Rattle.layer_core.specs.declared.Layer.{Ghosts}
use Rattle.fallback.specs.declared.two_layers.Fallback.{Fallback}
use Rattle.fallback.specs.FallbackModel.{fallback_if, fallback_model, fallback_of}
use Rattle.fallback.specs.FallbackProper.{IsProper}
use Rattle.fallback.proofs.Pairs.{flip-beside, both-open, changes-first, changes-second}

-- ---- two layers that stand in one Space, open or closed

pub record AreBeside (p f : LayerModel) (m : Memory) : Type 0 where
  pub made_first : IsMade p.rules
  pub made_second : IsMade f.rules
  pub apart : IsBeside p.rules f.rules
  pub first : Stands p m
  pub second : Stands f m

both-shut : (p f : LayerModel) (m : Memory) → IsMade p.rules → IsMade f.rules → IsShut p → IsShut f → Stands (fallback_if false p f) m → Stands p m × Stands f m
unfolding fallback_rules
both-shut p f m l k u v h =
    let w : HasSomeTags (fallback_rules p.rules f.rules) = record { least = h.sound.made.least } in
    let first = tags-first p.rules f.rules h.sound.distinct w in
    let second = tags-second p.rules f.rules h.sound.distinct w in
    let q : (has_no_cells p.rules.leaf_tags m.cells && has_no_cells f.rules.leaf_tags m.cells) ≡ true = sym (list_all-append (λ t. nat_eq (used_by t m.cells) 0) p.rules.leaf_tags f.rules.leaf_tags) ∙ h.sound.settled in (
      shut-stands p m h.memory first.0 (record { least = first.1.least; most = λ t x. h.sound.made.most t (in-left p.rules.leaf_tags f.rules.leaf_tags t x) }) l.regular.reading (l.lawful first.0 first.1).opening u
          (and-fst (has_no_cells p.rules.leaf_tags m.cells) (has_no_cells f.rules.leaf_tags m.cells) q),
      shut-stands f m h.memory second.0 (record { least = second.1.least; most = λ t x. h.sound.made.most t (in-right p.rules.leaf_tags f.rules.leaf_tags t x) }) k.regular.reading (k.lawful second.0 second.1).opening v
          (and-snd (has_no_cells p.rules.leaf_tags m.cells) (has_no_cells f.rules.leaf_tags m.cells) q),
    )

pub both-stand : (p f : LayerModel) (m : Memory) → IsProper p.rules f.rules → IsMade p.rules → IsMade f.rules → are_open f.fields ≡ are_open p.fields → Stands (fallback_model p f) m → AreBeside p f m
both-stand p f m proper l k together h =
    let both = go (are_open p.fields) refl in record { made_first = l; made_second = k; apart = proper.apart; first = both.0; second = both.1 }
  where
    go : (q : Bool) → are_open p.fields ≡ q → Stands p m × Stands f m
    go true e = both-open p f m l k (subst (λ q. Stands (fallback_if q p f) m) e h)
    go false e = both-shut p f m l k e (together ∙ e) (subst (λ q. Stands (fallback_if q p f) m) e h)

-- the primary changed
moves-on : (p p' f : LayerModel) (m m' : Memory) → AreBeside p f m → p'.rules ≡ p.rules → Stands p' m' → ChangesOwn p.rules m m' → AreBeside p' f m'
moves-on p p' f m m' h q s ch = record {
  made_first = subst IsMade (sym q) h.made_first;
  made_second = h.made_second;
  apart = subst (λ e. IsBeside e f.rules) (sym q) h.apart;
  first = s;
  second = others-stand p.rules f m m' h.made_second h.second h.apart ch;
}

-- the frame of calls after which both are closed, and after which both are open
shut-frames : (p p' f f' : LayerModel) (m m' : Memory) → p'.rules ≡ p.rules → f'.rules ≡ f.rules → IsShut p' → ChangesOwn (fallback_rules p.rules f.rules) m m' → Frames (fallback_model p f) (fallback_model p' f') m m'
unfolding fallback_rules
shut-frames p p' f f' m m' x y u k = subst (λ q. Frames (fallback_model p f) (fallback_if q p' f') m m') (sym u) (record {
  rules = ap₂ fallback_rules x y;
  image = refl;
  memory = k.memory;
  size = k.size;
  leaves = k.leaves;
  foreign = record { at = k.foreign.at };
})

-- ---- closing

shut-model : (p f : LayerModel) → IsShut p → IsShut (fallback_model p f)
shut-model p f u = subst (λ q. IsShut (fallback_if q p f)) (sym u) refl

-- what stands of both once the primary is closed
pub torn-first : (p p' f : LayerModel) (m m' : Memory) → AreBeside p f m → TearsDown p p' m m' → AreBeside p' f m'
torn-first p p' f m m' h a = moves-on p p' f m m' h a.frame.rules (torn-stands p p' m m' h.made_first h.first a) (torn-changes_own p p' m m' h.first a)

without-both : (e f : Rules) (cells : Cells) → without_leaves (fallback_rules e f) cells ≡ without_leaves f (without_leaves e cells)
unfolding fallback_rules
without-both e f cells = fold-append (λ t tag. free_tag tag t) cells e.leaf_tags f.leaf_tags

pub tears-both_down : (p p' f f' : LayerModel) (m m' w : Memory) → AreBeside p f m → TearsDown p p' m m' → TearsDown f f' m' w → TearsDown (fallback_model p f) (fallback_model p' f') m w
tears-both_down p p' f f' m m' w h a b =
    let k = torn-first p p' f m m' h a in
    let ch = changes-in_turn (fallback_rules p.rules f.rules) m m' w (changes-first p.rules f.rules m m' (torn-changes_own p p' m m' h.first a)) (changes-second p.rules f.rules m' w (torn-changes_own f f' m' w k.second b)) in
    record {
      frame = shut-frames p p' f f' m w a.frame.rules b.frame.rules a.shut ch;
      shut = shut-model p' f' a.shut;
      cells = b.cells ∙ ap (λ c. without_leaves f.rules c) a.cells ∙ sym (without-both p.rules f.rules m.cells);
    }

-- ---- opening

only-shut : (p f : LayerModel) → IsShut (fallback_model p f) → IsShut p
only-shut p f u = go (are_open p.fields) u
  where
    go : (q : Bool) → IsShut (fallback_if q p f) → q ≡ false
    go true u = absurd (cc)
    go false u = refl

-- what stands of both once the primary was opened, or refused to be
pub set-first : (p p' f : LayerModel) (m m' : Memory) (need : ℕ) (r : Result (Unit {0}) Refused) → AreBeside p f m → IsShut (fallback_model p f) → SetsUp p p' m m' need r → AreBeside p' f m'
set-first p p' f m m' need r h u a =
    let v = only-shut p f u in moves-on p p' f m m' h a.frame.rules (set_up-stands p p' m m' need r h.made_first h.first v a) (set_up-changes_own p p' m m' need r h.made_first h.first v a)

-- the answers, by what opening gives
refused-opening : (n : ℕ) (x : Opening) (next : Opened → Opening) (T' t' : LayerModel) (m m' : Memory) (r r' : Refused) → r'.node ≡ r.node + n → OpensAs x t' m m' (Err r) → OpensAs (then_open n x next) T' m m' (Err r')
refused-opening n (Err k) next T' t' m m' r r' q a = (let z = a.0 in omega arith, a.1)
refused-opening n (Ok o) next T' t' m m' r r' q a = absurd a

pub refuses-first : (p p' f : LayerModel) (m m' : Memory) (need : ℕ) (r r' : Refused) → AreBeside p f m → IsShut (fallback_model p f) → r'.node ≡ r.node + 1 → SetsUp p p' m m' need (Err r) → SetsUp (fallback_model p f) (fallback_model p' f) m m' need (Err r')
unfolding fallback_rules
refuses-first p p' f m m' need r r' h u q a =
    let v = only-shut p f u in
    record {
      frame = shut-frames p p' f f m m' a.frame.rules refl a.opened (changes-first p.rules f.rules m m' (set_up-changes_own p p' m m' need (Err r) h.made_first h.first v a));
      opened = shut-model p' f a.opened;
      answer = refused-opening 1 (p.rules.set_up need m.cells) _ (fallback_model p' f) p' m m' r r' q a.answer;
    }

-- what stands of both once the second was opened, or refused to be
pub set-second : (p p' f f' : LayerModel) (m m' w : Memory) (need : ℕ) (r q : Result (Unit {0}) Refused) → AreBeside p f m → IsShut (fallback_model p f) → IsShut f → SetsUp p p' m m' need r → SetsUp f f' m' w 0 q → Stands p' w
set-second p p' f f' m m' w need r q h u v a b =
    let k = set-first p p' f m m' need r h u a in
    others-stand f.rules p' m' w k.made_first k.first (flip-beside p'.rules f.rules k.apart) (set_up-changes_own f f' m' w 0 q k.made_second k.second v b)

-- the second is refused in what the primary left
second-refused : (n : ℕ) (x : Opening) (next : Cells → Opening) (T' p' f' : LayerModel) (m m' w z : Memory) (d : Unit {0}) (r r' : Refused) → r'.node ≡ r.node + n + 1 → OpensAs x p' m m' (Ok d) → OpensAs (next m'.cells) f' m' w (Err r) → z.cells ≡ m.cells
    → OpensAs (then_open 1 x (λ o. then_open (1 + n) (next o.cells) (λ q. Ok (opened (pair_of o.state q.state) q.cells)))) T' m z (Err r')
second-refused n (Err k) next T' p' f' m m' w z d r r' q a b e = absurd a
second-refused n (Ok o) next T' p' f' m m' w z d r r' q a b e = go (next o.cells) (subst (λ c. OpensAs (next c) f' m' w (Err r)) a.1 b)
  where
    go : (y : Opening) → OpensAs y f' m' w (Err r) → OpensAs (then_open (1 + n) y (λ q. Ok (opened (pair_of o.state q.state) q.cells))) T' m z (Err r')
    go (Err k) b = (let y = b.0 in omega arith, e)
    go (Ok q) b = absurd b

both-opened : (n : ℕ) (x : Opening) (next : Cells → Opening) (T' p' f' : LayerModel) (m m' w : Memory) (d : Unit {0}) → state_of T' w ≡ pair_of (state_of p' m') (state_of f' w) → OpensAs x p' m m' (Ok d) → OpensAs (next m'.cells) f' m' w (Ok d)
    → OpensAs (then_open 1 x (λ o. then_open (1 + n) (next o.cells) (λ q. Ok (opened (pair_of o.state q.state) q.cells)))) T' m w (Ok d)
both-opened n (Err k) next T' p' f' m m' w d e a b = absurd a
both-opened n (Ok o) next T' p' f' m m' w d e a b = go (next o.cells) (subst (λ c. OpensAs (next c) f' m' w (Ok d)) a.1 b)
  where
    go : (y : Opening) → OpensAs y f' m' w (Ok d) → OpensAs (then_open (1 + n) y (λ q. Ok (opened (pair_of o.state q.state) q.cells))) T' m w (Ok d)
    go (Err k) b = absurd b
    go (Ok q) b = (e ∙ ap₂ pair_of a.0 b.0, b.1)

-- what was taken for the primary is given back
back-again : (p p' f' : LayerModel) (m m' w : Memory) (need : ℕ) (x : Opening) (d : Unit {0}) → IsMade p.rules → Stands p m → IsShut p → p.rules.set_up need m.cells ≡ x → OpensAs x p' m m' (Ok d) → w.cells ≡ m'.cells → without_leaves p.rules w.cells ≡ m.cells
back-again p p' f' m m' w need (Err k) d l h u q a e = absurd a
back-again p p' f' m m' w need (Ok o) d l h u q a e = ap (λ c. without_leaves p.rules c) (e ∙ a.1) ∙ opened-torn_down p.rules need m.cells o l.regular.taking (shut-has_no_cells p m l h u) q

refused-cells : (x : Opening) (t' : LayerModel) (m m' : Memory) (r : Refused) → OpensAs x t' m m' (Err r) → m'.cells ≡ m.cells
refused-cells (Err k) t' m m' r a = a.1
refused-cells (Ok o) t' m m' r a = absurd a

pub refuses-second : (p p' p'' f f' : LayerModel) (m m' w z : Memory) (need : ℕ) (d : Unit {0}) (r r' : Refused) → AreBeside p f m → IsShut (fallback_model p f) → IsShut f → r'.node ≡ r.node + p''.rules.nodes + 1 → SetsUp p p' m m' need (Ok d) → SetsUp f f' m' w 0 (Err r) → TearsDown p' p'' w z
    → SetsUp (fallback_model p f) (fallback_model p'' f') m z need (Err r')
unfolding fallback_rules
refuses-second p p' p'' f f' m m' w z need d r r' h u v q a b t =
    let shut = only-shut p f u in
    let k = set-first p p' f m m' need (Ok d) h u a in
    let s = set-second p p' f f' m m' w need (Ok d) (Err r) h u v a b in
    let one = set_up-changes_own p p' m m' need (Ok d) h.made_first h.first shut a in
    let two = set_up-changes_own f f' m' w 0 (Err r) k.made_second k.second v b in
    let three = subst (λ e. ChangesOwn e w z) a.frame.rules (torn-changes_own p' p'' w z s t) in
    let g = fallback_rules p.rules f.rules in
    let ch = changes-in_turn g m w z (changes-in_turn g m m' w (changes-first p.rules f.rules m m' one) (changes-second p.rules f.rules m' w two)) (changes-first p.rules f.rules w z three) in
    let nodes : p''.rules.nodes ≡ p.rules.nodes = ap (λ (e : Rules). e.nodes) (t.frame.rules ∙ a.frame.rules) in
    let cells : z.cells ≡ m.cells = t.cells ∙ ap (λ (e : Rules). without_leaves e w.cells) a.frame.rules ∙ back-again p p' f' m m' w need (p.rules.set_up need m.cells) d h.made_first h.first shut refl a.answer (refused-cells (f.rules.set_up 0 m'.cells) f' m' w r b.answer) in
    record {
      frame = shut-frames p p'' f f' m z (t.frame.rules ∙ a.frame.rules) b.frame.rules t.shut ch;
      opened = shut-model p'' f' t.shut;
      answer = second-refused p.rules.nodes (p.rules.set_up need m.cells) (f.rules.set_up 0) (fallback_model p'' f') p' f' m m' w z d r r' (q ∙ ap (λ n. r.node + n + 1) nodes) a.answer b.answer cells;
    }

pub sets-both_up : (p p' f f' : LayerModel) (m m' w : Memory) (need : ℕ) (d : Unit {0}) → AreBeside p f m → IsShut (fallback_model p f) → IsShut f → SetsUp p p' m m' need (Ok d) → SetsUp f f' m' w 0 (Ok d) → SetsUp (fallback_model p f) (fallback_model p' f') m w need (Ok d)
unfolding fallback_rules
sets-both_up p p' f f' m m' w need d h u v a b =
    let shut = only-shut p f u in
    let k = set-first p p' f m m' need (Ok d) h u a in
    let back = flip-beside p'.rules f.rules k.apart in
    let s = set-second p p' f f' m m' w need (Ok d) (Ok d) h u v a b in
    let one = set_up-changes_own p p' m m' need (Ok d) h.made_first h.first shut a in
    let two = set_up-changes_own f f' m' w 0 (Ok d) k.made_second k.second v b in
    let kept = others-keep_state f.rules p' m' w k.made_first k.first back two in
    let ch = changes-in_turn (fallback_rules p.rules f.rules) m m' w (changes-first p.rules f.rules m m' one) (changes-second p.rules f.rules m' w two) in
    subst (λ q. SetsUp (fallback_model p f) (fallback_if q p' f') m w need (Ok d)) (sym a.opened)
    (record {
      frame = record {
        rules = ap₂ fallback_rules a.frame.rules b.frame.rules;
        image = and_from _ _ s.image b.frame.image;
        memory = ch.memory;
        size = ch.size;
        leaves = ch.leaves;
        foreign = record { at = ch.foreign.at };
      };
      opened = refl;
      answer = both-opened p.rules.nodes (p.rules.set_up need m.cells) (f.rules.set_up 0) (fallback_if true p' f') p' f' m m' w d (ap (λ s. pair_of s (state_of f' w)) kept) a.answer b.answer;
    })

-- ---- the same of the struct, for its calls

pub beside : {P F : Type 0} {G : Ghosts P} {H : Ghosts F} → ((p : P) → IsMade (G.model p).rules) → ((f : F) → IsMade (H.model f).rules) → (l : Fallback P F G H) (m : Memory) → Stands (fallback_of G.model H.model l) m → AreBeside (G.model l.primary) (H.model l.second) m
beside made others l m h = both-stand _ _ m l.proper (made l.primary) (others l.second) l.together h

pub second-shut : {P F : Type 0} {G : Ghosts P} {H : Ghosts F} → (l : Fallback P F G H) → IsShut (fallback_of G.model H.model l) → IsShut (H.model l.second)
second-shut {P} {F} {G} {H} l u = l.together ∙ only-shut (G.model l.primary) (H.model l.second) u
