-- Where the blocks of a free list lie, and what changes of the table elsewhere leave.
use Rattle.std.proofs.Common.{◌≡◌, sym, subst, ℕ, ◌≤◌, ◌*◌, true, arith, List, [], ◌∷◌, length}
use Rattle.std.proofs.lemmas.Bool.{and_from}
use Rattle.std.proofs.lemmas.Bool.Decides.{nat_tests}
use Rattle.space_core.specs.Cells.{Cells}
use Rattle.space_core.specs.Memory.{most_cells}
use Rattle.layer_rules.specs.declared.Block.{Block}
use Rattle.layer_rules.specs.Blocks.{block, end_of}
use Rattle.layer_rules.specs.Owning.{is_plausible}
use Rattle.layer_rules.specs.State.{State, child, cached_of}
use Rattle.layer_rules.specs.Rules.{Rules, IsSettled, HasSomeTags}
use Rattle.layer_laws.specs.Lawful.{Covering, Routing, Aligning, OutTags, SettledTags, TagsKept, PlacingLaws}
use Rattle.layer_laws.proofs.Tests.{settled-moved}
use Rattle.free_list_rules.specs.FreeListRules.{cache_down, cache_settled, free_list_rules}
use Rattle.free_list_rules.specs.FreeListMeanings.{AllOut}
use Rattle.free_list_rules.proofs.CacheParts.{cache-parts, cache-settles, cache-opened, out-free_list, free_list-out, cache-enough}
use Rattle.layer_laws.proofs.StandingLaws.{out-in_range}

-- ---- where a block lies, and changes of the table

pub free_list-covers : (least greatest : ℕ) (e : Rules) → Covering e → Covering (free_list_rules least greatest e)
unfolding free_list_rules
free_list-covers least greatest e law b s cells h o =
    let x = out-free_list least greatest e b s cells o in
    let r = cache-opened least greatest e s cells x.is_set h in
    let c = law (cache_down least greatest b) (child s 0) cells r.below x.below in
    let g = cache-enough least greatest b.len in
    record { some = c.some; from = c.from; upto = omega (arith, c.upto); leaf = λ i p q. c.leaf i p q }

kept-below : (least greatest : ℕ) (e : Rules) (old new : Cells) → TagsKept (free_list_rules least greatest e) old new → TagsKept e old new
unfolding free_list_rules
kept-below least greatest e old new k = record { at = k.at; back = k.back }

pub free_list-out_tags : (least greatest : ℕ) (e : Rules) → OutTags e → OutTags (free_list_rules least greatest e)
free_list-out_tags least greatest e law b s old new k o =
    let x = out-free_list least greatest e b s old o in
    free_list-out least greatest e b s new (record { is_set = x.is_set; some = x.some; below = law (cache_down least greatest b) (child s 0) old new (kept-below least greatest e old new k) x.below; apart = x.apart })

all-tagged : (e : Rules) (s : State) (old new : Cells) (m : ℕ) → OutTags e → TagsKept e old new → (ps : List ℕ) → AllOut e s old m ps → AllOut e s new m ps
all-tagged e s old new m out k [] a = tt
all-tagged e s old new m out k (p ∷ ps) a = (out (block p m) s old new k a.0, all-tagged e s old new m out k ps a.1)

pub free_list-settled_tags : (least greatest : ℕ) (e : Rules) → HasSomeTags e → OutTags e → SettledTags e → SettledTags (free_list_rules least greatest e)
unfolding free_list_rules
free_list-settled_tags least greatest e w out law s old new k h =
    let v = kept-below least greatest e old new k in
    settled-moved e s old new (cache_settled greatest e s old) (cache_settled greatest e s new) w v
    (λ o z. let x = cache-parts greatest e s old z in
    subst (λ u. cache_settled greatest e u new ≡ true) (sym x.form)
    (cache-settles greatest e (cached_of s) (child s 0) new x.parent (all-tagged e (child s 0) old new greatest out v (cached_of s) x.out) x.apart (law (child s 0) old new v x.below))) h

-- ---- routes and alignment

plausible : (b : Block) → 1 ≤ b.len → end_of b ≤ 64 * most_cells → is_plausible b ≡ true
plausible b h k = grind (arith, nat_tests)

out-plausible : (e : Rules) → HasSomeTags e → Covering e → (b : Block) (s : State) (cells : Cells) → length cells.tags ≤ most_cells → IsSettled e s cells → e.is_out b s cells ≡ true → 1 ≤ b.len → is_plausible b ≡ true
out-plausible e w cover b s cells m h o l = let r = out-in_range e w cover b s cells h o in plausible b l (omega arith)

pub free_list-routed : (least greatest : ℕ) (e : Rules) → HasSomeTags e → Covering e → Routing e → Routing (free_list_rules least greatest e)
unfolding free_list_rules
free_list-routed least greatest e w cover law b s cells m h o =
    let f = free_list_rules least greatest e in
    let x = out-free_list least greatest e b s cells o in
    let r = cache-opened least greatest e s cells x.is_set h in
    let tags : HasSomeTags f = record { least = w.least } in
    and_from _ _ (out-plausible f tags (free_list-covers least greatest e cover) b s cells m h o x.some) (law (cache_down least greatest b) (child s 0) cells m r.below x.below)

pub free_list-aligned : (least greatest : ℕ) (e : Rules) → Aligning e → Aligning (free_list_rules least greatest e)
unfolding free_list_rules
free_list-aligned least greatest e law b s cells h o =
    let x = out-free_list least greatest e b s cells o in
    let r = cache-opened least greatest e s cells x.is_set h in
    law (cache_down least greatest b) (child s 0) cells r.below x.below

pub free_list-placing : (least greatest : ℕ) (e : Rules) → HasSomeTags e → PlacingLaws e → PlacingLaws (free_list_rules least greatest e)
free_list-placing least greatest e w p =
    record {
      covers = free_list-covers least greatest e p.covers;
      routed = free_list-routed least greatest e w p.covers p.routed;
      aligned = free_list-aligned least greatest e p.aligned;
      out_tags = free_list-out_tags least greatest e p.out_tags;
      settled_tags = free_list-settled_tags least greatest e w p.out_tags p.settled_tags;
    }
