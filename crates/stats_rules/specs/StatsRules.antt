-- Statistics: the parent's blocks as they are, and fifteen numbers that count the calls. A slack is what the parent's good size leaves over.
use Rattle.std.specs.Prelude.{ℕ, ◌+◌, ◌-◌, Bool, true, false, nat_eq}
use Rattle.layer_rules.specs.declared.Block.{Block}
use Rattle.layer_rules.specs.declared.Fact.TheVariants as Said
use Rattle.layer_rules.specs.declared.Stats.{Stats}
use Rattle.layer_rules.specs.After.{Reallocated, moved_to, emptied, unmoved}
use Rattle.layer_rules.specs.Fields.{kept_counters}
use Rattle.layer_rules.specs.State.{Own, stats_own, stats_in, zero_stats}
use Rattle.layer_rules.specs.Rules.{Rules}
use Rattle.layer_rules.specs.Handing.{Handing, as_it_is, handing_rules}
use Rattle.stats_rules.specs.Counting.{count_owns, count_allocate, count_expand, count_reallocate, count_failed_reallocate, count_deallocate, count_deallocate_all}

abbrev pub is_stats_own : Own → Bool
is_stats_own (stats_own counts) = true
is_stats_own own = false

-- a statistics layer's numbers, changed
abbrev pub recounted : (Stats → Stats) → Own → Own
recounted f (stats_own counts) = stats_own (f counts)
recounted f own = own

abbrev pub count_reallocated : (n : ℕ) (slack : ℕ → ℕ) → Block → Reallocated → Stats → Stats
count_reallocated n slack b (moved_to c) = count_reallocate (nat_eq b.place c.place) b.len n (slack b.len) (slack n)
count_reallocated n slack b emptied = count_failed_reallocate
count_reallocated n slack b unmoved = count_failed_reallocate

abbrev pub slack_of : Rules → ℕ → ℕ
slack_of e n = e.good_alloc_size n - n

abbrev pub stats_handing : Rules → Handing
stats_handing e = record (as_it_is e) {
  passes = is_stats_own;
  kept = λ k. stats_own (kept_counters k);
  first = stats_own zero_stats;
  allocated = λ ok n. recounted (count_allocate ok n (slack_of e n));
  expanded = λ ok delta b. recounted (count_expand ok delta (slack_of e b.len) (slack_of e (b.len + delta)));
  reallocated = λ n b r. recounted (count_reallocated n (slack_of e) b r);
  deallocated = λ ok b. recounted (count_deallocate b.len (slack_of e b.len));
  all_deallocated = recounted count_deallocate_all;
  owned = recounted count_owns;
  fact = λ own. Said.Counters (stats_in own);
}

unfoldable pub stats_rules : Rules → Rules
stats_rules e = handing_rules (stats_handing e) e
