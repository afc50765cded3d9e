-- Each by computation.
use Rattle.std.proofs.Common.{refl}
use Rattle.layer_rules.specs.Choosing.{choosing_rules}
use Rattle.layer_rules.specs.NullRules.{null_rules}
use Rattle.leaf_rules.specs.MemRules.{mem_rules}
use Rattle.bitmap_rules.specs.BitmapRules.{bitmap_rules}
use Rattle.free_list_rules.specs.FreeListRules.{free_list_rules}
use Rattle.size_dispatch_rules.specs.SegregateRules.{member_for, segregate_rules}
use Rattle.size_dispatch_rules.specs.BucketsRules.{buckets_rules}
use Rattle.list_rules.specs.ListRules.{list_rules}
use Rattle.shapes.specs.RulesOf.{rules_of}
use Rattle.shapes.specs.Replay.{replay}
use Rattle.shapes.proofs.examples.large_example.Goals as goal

pub returns-clause-large_nodes : goal.returns-clause-large_nodes
unfolding rules_of segregate_rules member_for buckets_rules free_list_rules list_rules bitmap_rules mem_rules null_rules choosing_rules
returns-clause-large_nodes c = refl

pub returns-clause-large_replay : goal.returns-clause-large_replay
unfolding replay rules_of segregate_rules member_for buckets_rules free_list_rules list_rules bitmap_rules mem_rules null_rules choosing_rules
returns-clause-large_replay c = refl
