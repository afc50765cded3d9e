-- A block is given back to its holder, and all blocks to both.
use Rattle.std.proofs.Common.{◌≡◌, refl, sym, ap, ap₂, ◌∙◌, Bool, true, false}
use Rattle.space_core.specs.Memory.{Memory}
use Rattle.layer_rules.specs.declared.Block.{Block}
use Rattle.layer_rules.specs.After.{After, Opened, change_child}
use Rattle.layer_rules.specs.Layering.{LayerModel, state_of, kept_state, IsOutOf, Deallocates, DeallocatesAll, deallocated, all_deallocated}
use Rattle.layer_laws.specs.Lawful.{Any}
use Rattle.layer_laws.proofs.Placement.{others-keep_state}
use Rattle.layer_laws.proofs.StandingLaws.{deallocated-changes_own, all_deallocated-changes_own, changes-in_turn}
use Rattle.fallback_rules.specs.FallbackRules.{either_change, fallback_rules}
use Rattle.fallback.proofs.Holders.{pair_of}
use Rattle.fallback.specs.FallbackModel.{fallback_model}
use Rattle.fallback.proofs.Pairs.{ArePaired, open_pair, flip-beside, held-first, held-not, out-first, out-second, apart-first, apart-second, paired-again, pair-stays, pair-frames, changes-first, changes-second, as-open, out-open, holds-now}
use Rattle.fallback.proofs.Remaining.{remains-beside, remains-deallocated, remains-emptied, remains-then, remains-fewer}

-- ---- one block

first-takes_back : (p p' f : LayerModel) (m m' : Memory) (b : Block) (r : Bool) → ArePaired p f m → p.rules.holds b (state_of p m) ≡ true → IsOutOf p m b → Deallocates p p' m m' b r → Deallocates (open_pair p f) (open_pair p' f) m m' b r
unfolding fallback_rules
first-takes_back p p' f m m' b r h q o a =
    let ch = deallocated-changes_own p p' m m' b r h.made_first h.first o a in
    let x = remains-deallocated p p' m m' b r h.made_first h.first o a in
    let y = remains-beside p.rules f m m' h.made_second h.second h.apart ch in
    let s = state_of (open_pair p f) m in
    let e : deallocated (open_pair p f) m b ≡ change_child 0 p.rules.deallocate b s m.cells = ap (λ q. either_change q (change_child 0 p.rules.deallocate) (change_child 1 f.rules.deallocate) b s m.cells) q in
    record {
      frame = pair-frames p p' f f m m' _ _ x y (changes-first p.rules f.rules m m' ch);
      opened = refl;
      answer = a.answer ∙ sym (ap (λ (r : After Bool). r.answer) e);
      state = ap₂ pair_of a.state (others-keep_state p.rules f m m' h.made_second h.second h.apart ch) ∙ sym (ap (λ (r : After Bool). r.state) e);
      cells = a.cells ∙ sym (ap (λ (r : After Bool). r.cells) e);
      others = λ c out z. pair-stays p p' f f m m' _ _ c h x y out (λ below. apart-first p f m b c q (held-first p f m c h below) z) (λ below. tt);
    }

second-takes_back : (p f f' : LayerModel) (m m' : Memory) (b : Block) (r : Bool) → ArePaired p f m → p.rules.holds b (state_of p m) ≡ false → IsOutOf f m b → Deallocates f f' m m' b r → Deallocates (open_pair p f) (open_pair p f') m m' b r
unfolding fallback_rules
second-takes_back p f f' m m' b r h q o a =
    let back = flip-beside p.rules f.rules h.apart in
    let ch = deallocated-changes_own f f' m m' b r h.made_second h.second o a in
    let x = remains-beside f.rules p m m' h.made_first h.first back ch in
    let y = remains-deallocated f f' m m' b r h.made_second h.second o a in
    let s = state_of (open_pair p f) m in
    let e : deallocated (open_pair p f) m b ≡ change_child 1 f.rules.deallocate b s m.cells = ap (λ q. either_change q (change_child 0 p.rules.deallocate) (change_child 1 f.rules.deallocate) b s m.cells) q in
    record {
      frame = pair-frames p p f f' m m' _ _ x y (changes-second p.rules f.rules m m' ch);
      opened = refl;
      answer = a.answer ∙ sym (ap (λ (r : After Bool). r.answer) e);
      state = ap₂ pair_of (others-keep_state f.rules p m m' h.made_first h.first back ch) a.state ∙ sym (ap (λ (r : After Bool). r.state) e);
      cells = a.cells ∙ sym (ap (λ (r : After Bool). r.cells) e);
      others = λ c out z. pair-stays p p f f' m m' _ _ c h x y out (λ below. tt) (λ below. apart-second p f m b c q (held-not p f m c h below) z);
    }

pub deallocates-first : (p p' f : LayerModel) (m m' : Memory) (b : Block) (r : Bool) → ArePaired p f m → true ≡ p.rules.holds b (kept_state p) → IsOutOf (fallback_model p f) m b → Deallocates p p' m m' b r → Deallocates (fallback_model p f) (fallback_model p' f) m m' b r
deallocates-first p p' f m m' b r h e o a =
    let q = holds-now p m b true h.made_first e in
    as-open (λ t t'. Deallocates t t' m m' b r) p p' f f h.first_open (a.opened ∙ h.first_open) (first-takes_back p p' f m m' b r h q (out-first p f m b q (out-open p f m b h.first_open o)) a)

pub deallocates-second : (p f f' : LayerModel) (m m' : Memory) (b : Block) (r : Bool) → ArePaired p f m → false ≡ p.rules.holds b (kept_state p) → IsOutOf (fallback_model p f) m b → Deallocates f f' m m' b r → Deallocates (fallback_model p f) (fallback_model p f') m m' b r
deallocates-second p f f' m m' b r h e o a =
    let q = holds-now p m b false h.made_first e in
    as-open (λ t t'. Deallocates t t' m m' b r) p p f f' h.first_open h.first_open (second-takes_back p f f' m m' b r h q (out-second p f m b q (out-open p f m b h.first_open o)) a)

-- ---- all blocks

-- what stands of both once the primary took its blocks back
pub emptied-first : (p p' f : LayerModel) (m m' : Memory) → ArePaired p f m → DeallocatesAll p p' m m' → ArePaired p' f m'
emptied-first p p' f m m' h a =
    let ch = all_deallocated-changes_own p p' m m' h.made_first h.first h.first_open a in
    paired-again p p' f f m m' _ _ h (remains-emptied p p' m m' h.made_first h.first h.first_open a) (remains-beside p.rules f m m' h.made_second h.second h.apart ch)

both-emptied : (p p' f f' : LayerModel) (m m' w : Memory) → ArePaired p f m → DeallocatesAll p p' m m' → DeallocatesAll f f' m' w → DeallocatesAll (open_pair p f) (open_pair p' f') m w
unfolding fallback_rules
both-emptied p p' f f' m m' w h a b =
    let k = emptied-first p p' f m m' h a in
    let back = flip-beside p'.rules f.rules k.apart in
    let one = all_deallocated-changes_own p p' m m' h.made_first h.first h.first_open a in
    let two = all_deallocated-changes_own f f' m' w k.made_second k.second k.second_open b in
    let ch = changes-in_turn (fallback_rules p.rules f.rules) m m' w (changes-first p.rules f.rules m m' one) (changes-second p.rules f.rules m' w two) in
    let x = remains-then p p' p' m m' w _ _ (remains-emptied p p' m m' h.made_first h.first h.first_open a) (remains-beside f.rules p' m' w k.made_first k.first back two) (λ c o z. tt) in
    let y = remains-then f f f' m m' w (λ c. ⊥) _ (remains-fewer f f m m' Any (λ c. ⊥) (remains-beside p.rules f m m' h.made_second h.second h.apart one) (λ c z. tt)) (remains-emptied f f' m' w k.made_second k.second k.second_open b) (λ c o z. z) in
    let kept = others-keep_state p.rules f m m' h.made_second h.second h.apart one in
    let later = others-keep_state f.rules p' m' w k.made_first k.first back two in
    let same : all_deallocated f m' ≡ f.rules.deallocate_all (state_of f m) (all_deallocated p m).cells =
    ap (λ s. f.rules.deallocate_all s m'.cells) kept ∙ ap (λ c. f.rules.deallocate_all (state_of f m) c) a.cells in
    record {
      frame = pair-frames p p' f f' m w _ _ x y ch;
      opened = refl;
      state = ap₂ pair_of (later ∙ a.state) (b.state ∙ ap (λ (o : Opened). o.state) same);
      cells = b.cells ∙ ap (λ (o : Opened). o.cells) same;
    }

pub deallocates-both : (p p' f f' : LayerModel) (m m' w : Memory) → ArePaired p f m → DeallocatesAll p p' m m' → DeallocatesAll f f' m' w → DeallocatesAll (fallback_model p f) (fallback_model p' f') m w
deallocates-both p p' f f' m m' w h a b = as-open (λ t t'. DeallocatesAll t t' m w) p p' f f' h.first_open (a.opened ∙ h.first_open) (both-emptied p p' f f' m m' w h a b)
