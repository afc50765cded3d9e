-- The rules of a shape: those of its form, over the rules of its parents or members.
use Rattle.std.specs.Prelude.{List, [], ◌∷◌}
use Rattle.layer_rules.specs.NullRules.{null_rules}
use Rattle.layer_rules.specs.Rules.{Rules}
use Rattle.leaf_rules.specs.MemRules.{mem_rules}
use Rattle.region_rules.specs.RegionRules.{region_rules}
use Rattle.bitmap_rules.specs.BitmapRules.{bitmap_rules}
use Rattle.kr_rules.specs.KrRules.{kr_rules}
use Rattle.free_list_rules.specs.FreeListRules.{free_list_rules}
use Rattle.quantize_rules.specs.QuantizeRules.{quantize_rules}
use Rattle.stats_rules.specs.StatsRules.{stats_rules}
use Rattle.affix_rules.specs.AffixRules.{affix_rules}
use Rattle.size_dispatch_rules.specs.SegregateRules.{segregate_rules}
use Rattle.size_dispatch_rules.specs.BucketsRules.{buckets_rules}
use Rattle.fallback_rules.specs.FallbackRules.{fallback_rules}
use Rattle.list_rules.specs.ListRules.{list_rules}
use Rattle.shapes.specs.Shape.{Shape, null, mem, region, bitmap, kr, freelist, quantize, stats, affix, segregate, buckets, fallback, list, Shapes, no_members, member}

unfoldable mutual
  pub rules_of : Shape → Rules
  rules_of null = null_rules
  rules_of (mem tag) = mem_rules tag
  rules_of (region size align e) = region_rules size align (rules_of e)
  rules_of (bitmap unit count e) = bitmap_rules unit count (rules_of e)
  rules_of (kr size e) = kr_rules size (rules_of e)
  rules_of (freelist least greatest e) = free_list_rules least greatest (rules_of e)
  rules_of (quantize kind e) = quantize_rules kind (rules_of e)
  rules_of (stats e) = stats_rules (rules_of e)
  rules_of (affix prefix suffix e) = affix_rules prefix suffix (rules_of e)
  rules_of (segregate thresholds es) = segregate_rules thresholds (rules_of_each es)
  rules_of (buckets least greatest step es) = buckets_rules least greatest step (rules_of_each es)
  rules_of (fallback p f) = fallback_rules (rules_of p) (rules_of f)
  rules_of (list es) = list_rules (rules_of_each es)

  pub rules_of_each : Shapes → List Rules
  rules_of_each no_members = []
  rules_of_each (member e es) = rules_of e ∷ rules_of_each es
