-- A free list is lawful over a parent that is regular and lawful.
use Rattle.std.proofs.Common.{◌≡◌, refl, subst, ℕ, ◌≤◌, true, [], arith}
use Rattle.std.proofs.lemmas.Bool.{and_from}
use Rattle.space_core.specs.Cells.{Cells}
use Rattle.layer_rules.specs.declared.Block.{Block}
use Rattle.layer_rules.specs.Blocks.{end_of}
use Rattle.layer_rules.specs.State.{State, is_open, child, cache_own}
use Rattle.layer_rules.specs.Rules.{Rules, IsSettled, HasSomeTags}
use Rattle.layer_laws.specs.Lawful.{TakingLaws, KeepingLaws, Opens, OpeningLaws, HoldingLaws, OwningLaws, OpennessLaws, IsRegular, IsLawful}
use Rattle.layer_laws.proofs.Owners.{may-hold, shorter-served}
use Rattle.layer_laws.proofs.Reallocated.{asked-same, generally-reallocated}
use Rattle.layer_laws.proofs.Steps.{parent-ok, refuse-aligned}
use Rattle.layer_laws.proofs.Tests.{some-open}
use Rattle.free_list_rules.specs.FreeListRules.{cache_down, cache_need, free_list_offers, free_list_rules}
use Rattle.free_list_rules.specs.FreeListMeanings.{IsCacheSize}
use Rattle.free_list_rules.proofs.CacheParts.{cache-enough, cache-settles, cache-opened, out-free_list}
use Rattle.free_list_rules.proofs.FreeListGood.{free_list-good}
use Rattle.free_list_rules.proofs.FreeListChanges.{free_list-freed, free_list-grown, free_list-emptied}
use Rattle.free_list_rules.proofs.FreeListOwning.{free_list-owned}
use Rattle.free_list_rules.proofs.FreeListRegular.{free_list-taking}
use Rattle.free_list_rules.proofs.FreeListPaths.{free_list-paths}
use Rattle.free_list_rules.proofs.FreeListPlacing.{free_list-placing}
use Rattle.free_list_rules.proofs.FreeListFraming.{free_list-framing}

pub free_list-keeping : (least greatest : ℕ) (e : Rules) → OpennessLaws e → TakingLaws e → KeepingLaws e → KeepingLaws (free_list_rules least greatest e)
unfolding free_list_rules
free_list-keeping least greatest e r t p =
    let f = free_list_rules least greatest e in
    let some = λ (b : Block) (s : State) (cells : Cells) (o : f.is_out b s cells ≡ true). (out-free_list least greatest e b s cells o).some in
    let taking = free_list-taking least greatest e t in
    record {
      out_some = some;
      out_open = λ b s cells o. some-open (is_open s) _ _ o;
      good = free_list-good least greatest e p.good;
      freed = free_list-freed least greatest e p.freed;
      grown = free_list-grown least greatest e p.grown;
      emptied = free_list-emptied least greatest e p.emptied;
      reallocated = generally-reallocated f (free_list_offers e.offers)
          (record { some = some; takes = taking.allocate; gives = taking.deallocate_count; good = free_list-good least greatest e p.good; freed = free_list-freed least greatest e p.freed; grown = free_list-grown least greatest e p.grown });
      same_length = λ b s cells. asked-same _ _ b s cells;
      aligned = λ n a s cells q l o h. refuse-aligned (free_list_rules least greatest e) n a s cells o h;
      owned = free_list-owned least greatest e r p.owned;
    }

free_list-opens : (least greatest : ℕ) (e : Rules) → OpennessLaws e → Opens e → Opens (free_list_rules least greatest e)
unfolding free_list_rules
free_list-opens least greatest e open_laws law need cells o n q =
    let size = cache_need least greatest need in
    let y = parent-ok (cache_own []) (e.set_up size cells) o q in
    subst (λ o. IsSettled (free_list_rules least greatest e) o.state o.cells) y.2
    (cache-settles greatest e [] y.0.state y.0.cells (open_laws.set_up size cells y.0 y.1) tt tt (law size cells y.0 n y.1))

pub free_list-opening : (least greatest : ℕ) (e : Rules) → OpennessLaws e → OpeningLaws e → OpeningLaws (free_list_rules least greatest e)
unfolding free_list_rules
free_list-opening least greatest e o p = record { closed_settled = λ cells. refl; closed_image = λ bytes. refl; opens = free_list-opens least greatest e o p.opens }

-- what it holds its parent holds, at least as long
pub free_list-holding : (least greatest : ℕ) (e : Rules) → OwningLaws e → HoldingLaws e → HoldingLaws (free_list_rules least greatest e)
unfolding free_list_rules
free_list-holding least greatest e g p =
    let longer = λ (b : Block). let l : end_of b ≤ end_of (cache_down least greatest b) = let n = cache-enough least greatest b.len in omega arith in l in
    record {
      out_held = λ offered b s cells z o.
          let d = cache_down least greatest b in
          let x = out-free_list least greatest e b s cells o in
          let y = cache-opened least greatest e s cells x.is_set z in
          let held = p.out_held offered d (child s 0) cells y.below x.below in
          let from : d.place ≤ b.place = omega arith in
          and_from _ _ (and_from _ _ x.is_set (shorter-served b d x.some from (longer b) (g.held_size d (child s 0) held))) held;
      own = λ b s cells z o.
          let d = cache_down least greatest b in
          let m = may-hold b s (e.holds d (child s 0)) o in
          let y = cache-opened least greatest e s cells m.is_set z in
          let k = p.own d (child s 0) cells y.below m.rest in
          let l = longer b in
          record { at = λ i u v. k.at i (omega arith) (omega arith) };
    }

pub free_list-lawful : (least greatest : ℕ) (e : Rules) → IsCacheSize least greatest → HasSomeTags e → IsRegular e → IsLawful e → IsLawful (free_list_rules least greatest e)
free_list-lawful least greatest e w t r p =
    record {
      keeping = free_list-keeping least greatest e r.openness r.taking p.keeping;
      placing = free_list-placing least greatest e t p.placing;
      framing = free_list-framing least greatest e w p.placing p.framing;
      opening = free_list-opening least greatest e r.openness p.opening;
      holding = free_list-holding least greatest e r.owning p.holding;
      paths = free_list-paths least greatest e r p (free_list-holding least greatest e r.owning p.holding) (free_list-opening least greatest e r.openness p.opening);
    }
