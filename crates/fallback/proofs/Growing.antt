-- A block grows where its holder can make it longer.
use Rattle.std.proofs.Common.{◌≡◌, refl, sym, ap, ap₂, ◌∙◌, ℕ, ◌+◌, ◌≤◌, Bool, true, false, arith, nat_eq, nat_lt}
use Rattle.std.proofs.lemmas.Bool.Decides.{nat_tests}
use Rattle.size_round.specs.Sizes.{limit}
use Rattle.space_core.specs.Memory.{Memory}
use Rattle.layer_rules.specs.declared.Block.{Block}
use Rattle.layer_rules.specs.After.{After, Change, change_child}
use Rattle.layer_rules.specs.Expanding.{expanded_unless, asked_to_expand}
use Rattle.layer_rules.specs.Layering.{LayerModel, state_of, kept_state, IsOutOf, Expands, expanded}
use Rattle.layer_rules.specs.State.{State, child}
use Rattle.space_core.specs.Cells.{Cells}
use Rattle.layer_laws.proofs.Placement.{others-keep_state}
use Rattle.layer_laws.proofs.StandingLaws.{expanded-changes_own, expanded-gives}
use Rattle.fallback_rules.specs.FallbackRules.{either_change, fallback_rules}
use Rattle.fallback.proofs.Holders.{pair_of}
use Rattle.fallback.specs.FallbackModel.{fallback_model}
use Rattle.fallback.proofs.Pairs.{ArePaired, open_pair, flip-beside, held-first, held-not, apart-first, apart-second, clean-first, clean-second, marked-clean, paired-again, pair-stays, pair-frames, changes-first, changes-second, as-open, holds-now, out-by_first, out-by_second}
use Rattle.fallback.proofs.Remaining.{remains-beside, remains-expanded}

-- growth by some bytes, up to the limit, goes to the form itself
some-growth : (delta : ℕ) (change : Change) (b : Block) (s : State) (cells : Cells) → 1 ≤ delta → b.len + delta ≤ limit → asked_to_expand delta change b s cells ≡ change b s cells
some-growth delta change b s cells l k =
    let x : nat_eq delta 0 ≡ false = grind (arith, nat_tests) in
    let y : nat_lt limit (b.len + delta) ≡ false = grind (arith, nat_tests) in
    ap (λ q. expanded_unless q (nat_lt limit (b.len + delta)) change b s cells) x ∙ ap (λ q. expanded_unless false q change b s cells) y

either : LayerModel → LayerModel → (delta : ℕ) → Bool → Change
either p f delta q = either_change q (change_child 0 (p.rules.expand delta)) (change_child 1 (f.rules.expand delta))

grown-row : (p f : LayerModel) (m : Memory) (b : Block) (delta : ℕ) (q : Bool) → 1 ≤ delta → b.len + delta ≤ limit → p.rules.holds b (state_of p m) ≡ q → expanded (open_pair p f) m b delta ≡ either p f delta q b (state_of (open_pair p f) m) m.cells
unfolding fallback_rules either
grown-row p f m b delta q l k e =
    let s = state_of (open_pair p f) m in
    some-growth delta (λ b s. either p f delta (p.rules.holds b (child s 0)) b s) b s m.cells l k ∙ ap (λ q. either p f delta q b s m.cells) e

first-grows : (p p' f : LayerModel) (m m' : Memory) (b b' : Block) (delta : ℕ) (r : Bool) → ArePaired p f m → p.rules.holds b (state_of p m) ≡ true → IsOutOf p m b → 1 ≤ delta → b.len + delta ≤ limit → Expands p p' m m' b b' delta r
    → Expands (open_pair p f) (open_pair p' f) m m' b b' delta r
unfolding fallback_rules either
first-grows p p' f m m' b b' delta r h q o l k a =
    let ch = expanded-changes_own p p' m m' b b' delta r h.made_first h.first o a in
    let x = remains-expanded p p' m m' b b' delta r h.made_first h.first o a in
    let y = remains-beside p.rules f m m' h.made_second h.second h.apart ch in
    let later = paired-again p p' f f m m' _ _ h x y in
    let e = grown-row p f m b delta true l k q in
    let old = clean-first p f m b q in
    let new = clean-first p' f m' b' (held-first p' f m' b' later (expanded-gives p p' m m' b b' delta r h.made_first h.first o a)) in
    record {
      frame = pair-frames p p' f f m m' _ _ x y (changes-first p.rules f.rules m m' ch);
      opened = refl;
      answer = a.answer ∙ sym (ap (λ (r : After Bool). r.answer) e);
      block = a.block;
      state = ap₂ pair_of a.state (others-keep_state p.rules f m m' h.made_second h.second h.apart ch) ∙ sym (ap (λ (r : After Bool). r.state) e);
      cells = a.cells ∙ sym (ap (λ (r : After Bool). r.cells) e);
      carried = record {
        bytes = a.carried.bytes;
        clean = λ z. new ∙ a.carried.clean (sym old ∙ z);
        marked = λ z. marked-clean p' f m' b' ∙ new ∙ a.carried.clean (sym old ∙ sym (marked-clean p f m b) ∙ z);
      };
      others = λ c out z. pair-stays p p' f f m m' _ _ c h x y out (λ below done. apart-first p f m b c q (held-first p f m c h below) (z done)) (λ below. tt);
    }

second-grows : (p f f' : LayerModel) (m m' : Memory) (b b' : Block) (delta : ℕ) (r : Bool) → ArePaired p f m → p.rules.holds b (state_of p m) ≡ false → IsOutOf f m b → 1 ≤ delta → b.len + delta ≤ limit → Expands f f' m m' b b' delta r
    → Expands (open_pair p f) (open_pair p f') m m' b b' delta r
unfolding fallback_rules either
second-grows p f f' m m' b b' delta r h q o l k a =
    let back = flip-beside p.rules f.rules h.apart in
    let ch = expanded-changes_own f f' m m' b b' delta r h.made_second h.second o a in
    let x = remains-beside f.rules p m m' h.made_first h.first back ch in
    let y = remains-expanded f f' m m' b b' delta r h.made_second h.second o a in
    let later = paired-again p p f f' m m' _ _ h x y in
    let e = grown-row p f m b delta false l k q in
    let old = clean-second p f m b q in
    let new = clean-second p f' m' b' (held-not p f' m' b' later (expanded-gives f f' m m' b b' delta r h.made_second h.second o a)) in
    record {
      frame = pair-frames p p f f' m m' _ _ x y (changes-second p.rules f.rules m m' ch);
      opened = refl;
      answer = a.answer ∙ sym (ap (λ (r : After Bool). r.answer) e);
      block = a.block;
      state = ap₂ pair_of (others-keep_state f.rules p m m' h.made_first h.first back ch) a.state ∙ sym (ap (λ (r : After Bool). r.state) e);
      cells = a.cells ∙ sym (ap (λ (r : After Bool). r.cells) e);
      carried = record {
        bytes = a.carried.bytes;
        clean = λ z. new ∙ a.carried.clean (sym old ∙ z);
        marked = λ z. marked-clean p f' m' b' ∙ new ∙ a.carried.clean (sym old ∙ sym (marked-clean p f m b) ∙ z);
      };
      others = λ c out z. pair-stays p p f f' m m' _ _ c h x y out (λ below. tt) (λ below done. apart-second p f m b c q (held-not p f m c h below) (z done));
    }

pub expands-first : (p p' f : LayerModel) (m m' : Memory) (b b' : Block) (delta : ℕ) (r : Bool) → ArePaired p f m → true ≡ p.rules.holds b (kept_state p) → IsOutOf (fallback_model p f) m b → 1 ≤ delta → b.len + delta ≤ limit → Expands p p' m m' b b' delta r
    → Expands (fallback_model p f) (fallback_model p' f) m m' b b' delta r
expands-first p p' f m m' b b' delta r h e o l k a =
    as-open (λ t t'. Expands t t' m m' b b' delta r) p p' f f h.first_open (a.opened ∙ h.first_open) (first-grows p p' f m m' b b' delta r h (holds-now p m b true h.made_first e) (out-by_first p f m b h e o) l k a)

pub expands-second : (p f f' : LayerModel) (m m' : Memory) (b b' : Block) (delta : ℕ) (r : Bool) → ArePaired p f m → false ≡ p.rules.holds b (kept_state p) → IsOutOf (fallback_model p f) m b → 1 ≤ delta → b.len + delta ≤ limit → Expands f f' m m' b b' delta r
    → Expands (fallback_model p f) (fallback_model p f') m m' b b' delta r
expands-second p f f' m m' b b' delta r h e o l k a =
    as-open (λ t t'. Expands t t' m m' b b' delta r) p p f f' h.first_open h.first_open (second-grows p f f' m m' b b' delta r h (holds-now p m b false h.made_first e) (out-by_second p f m b h e o) l k a)
