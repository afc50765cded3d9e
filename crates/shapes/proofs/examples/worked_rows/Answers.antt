-- Each by computation.
use Rattle.std.proofs.Common.{refl}
use Rattle.size_round.specs.Sizes.{rounded}
use Rattle.layer_rules.specs.Choosing.{choosing_rules}
use Rattle.layer_rules.specs.Handing.{handing_rules}
use Rattle.layer_rules.specs.NullRules.{null_rules}
use Rattle.leaf_rules.specs.MemRules.{mem_rules}
use Rattle.region_rules.specs.RegionRules.{region_rules}
use Rattle.bitmap_rules.specs.BitmapRules.{bitmap_rules}
use Rattle.kr_rules.specs.KrRules.{kr_rules}
use Rattle.free_list_rules.specs.FreeListRules.{free_list_rules}
use Rattle.quantize_rules.specs.QuantizeRules.{quantize_rules}
use Rattle.stats_rules.specs.StatsRules.{stats_rules}
use Rattle.affix_rules.specs.AffixRules.{affix_rules}
use Rattle.size_dispatch_rules.specs.SegregateRules.{member_for, segregate_rules}
use Rattle.size_dispatch_rules.specs.BucketsRules.{buckets_rules}
use Rattle.fallback_rules.specs.FallbackRules.{fallback_rules}
use Rattle.list_rules.specs.ListRules.{list_rules}
use Rattle.shapes.specs.RulesOf.{rules_of}
use Rattle.shapes.specs.Replay.{replay}
use Rattle.shapes.proofs.examples.worked_rows.Goals as goal

pub returns-clause-region_keeps_the_last : goal.returns-clause-region_keeps_the_last
unfolding replay rules_of region_rules mem_rules
returns-clause-region_keeps_the_last c = refl

pub returns-clause-region_untouched : goal.returns-clause-region_untouched
unfolding replay rules_of region_rules mem_rules
returns-clause-region_untouched c = refl

pub returns-clause-region_full : goal.returns-clause-region_full
unfolding replay rules_of region_rules mem_rules
returns-clause-region_full c = refl

pub returns-clause-region_expand : goal.returns-clause-region_expand
unfolding replay rules_of region_rules mem_rules
returns-clause-region_expand c = refl

pub returns-clause-bitmap_first_fit : goal.returns-clause-bitmap_first_fit
unfolding replay rules_of bitmap_rules mem_rules
returns-clause-bitmap_first_fit c = refl

pub returns-clause-freelist_front : goal.returns-clause-freelist_front
unfolding replay rules_of free_list_rules region_rules mem_rules
returns-clause-freelist_front c = refl

pub returns-clause-freelist_grows_past : goal.returns-clause-freelist_grows_past
unfolding replay rules_of free_list_rules region_rules mem_rules
returns-clause-freelist_grows_past c = refl

pub returns-clause-quantize_powers : goal.returns-clause-quantize_powers
unfolding replay rules_of quantize_rules mem_rules handing_rules rounded
returns-clause-quantize_powers c = refl

pub returns-clause-segregate_moves : goal.returns-clause-segregate_moves
unfolding replay rules_of segregate_rules region_rules mem_rules member_for null_rules choosing_rules
returns-clause-segregate_moves c = refl

pub returns-clause-buckets_by_size : goal.returns-clause-buckets_by_size
unfolding replay rules_of buckets_rules free_list_rules mem_rules null_rules choosing_rules
returns-clause-buckets_by_size c = refl

pub returns-clause-fallback_routes : goal.returns-clause-fallback_routes
unfolding replay rules_of fallback_rules region_rules bitmap_rules mem_rules
returns-clause-fallback_routes c = refl

pub returns-clause-affix_places : goal.returns-clause-affix_places
unfolding replay rules_of affix_rules region_rules mem_rules handing_rules
returns-clause-affix_places c = refl

pub returns-clause-kr_holes : goal.returns-clause-kr_holes
unfolding replay rules_of kr_rules mem_rules
returns-clause-kr_holes c = refl

pub returns-clause-list_opens_members : goal.returns-clause-list_opens_members
unfolding replay rules_of list_rules region_rules mem_rules null_rules
returns-clause-list_opens_members c = refl

pub returns-clause-stats_of_a_failed_move : goal.returns-clause-stats_of_a_failed_move
unfolding replay rules_of stats_rules bitmap_rules mem_rules handing_rules
returns-clause-stats_of_a_failed_move c = refl

pub returns-clause-bitmap_aligned : goal.returns-clause-bitmap_aligned
unfolding replay rules_of bitmap_rules mem_rules
returns-clause-bitmap_aligned c = refl

pub returns-clause-list_closes_what_refused : goal.returns-clause-list_closes_what_refused
unfolding replay rules_of list_rules region_rules mem_rules null_rules
returns-clause-list_closes_what_refused c = refl

pub returns-clause-list_fresh_refuses : goal.returns-clause-list_fresh_refuses
unfolding replay rules_of list_rules fallback_rules null_rules region_rules mem_rules
returns-clause-list_fresh_refuses c = refl

pub returns-clause-opening_refused_at_the_root : goal.returns-clause-opening_refused_at_the_root
unfolding rules_of region_rules mem_rules
returns-clause-opening_refused_at_the_root c = refl

pub returns-clause-opening_refused_at_the_second : goal.returns-clause-opening_refused_at_the_second
unfolding rules_of fallback_rules region_rules mem_rules
returns-clause-opening_refused_at_the_second c = refl
