-- Proper shapes: those whose numbers meet what their forms ask, and whose parents and members have and offer what is needed of them.
use Rattle.std.specs.Prelude.{◌+◌, ◌-◌, ◌/◌, ◌^◌, Bool, true, ◌&&◌, ◌||◌, length, nat_le, nat_eq}
use Rattle.size_round.specs.Sizes.{is_between, is_multiple, is_power_of_two, size_bound, is_proper_kind}
use Rattle.layer_laws.specs.Lawful.{most_nodes, most_layers}
use Rattle.size_dispatch_rules.specs.SegregateRules.{are_thresholds}
use Rattle.shapes.specs.RulesOf.{rules_of}
use Rattle.shapes.specs.Shape.{Shape, null, mem, region, bitmap, kr, freelist, quantize, stats, affix, segregate, buckets, fallback, list, Shapes, no_members, member, member_count}

-- each member offers owns
abbrev pub all_own : Shapes → Bool
all_own no_members = true
all_own (member e es) = (rules_of e).offers.owns && all_own es

unfoldable mutual
  pub is_proper : Shape → Bool
  is_proper null = true
  is_proper (mem tag) = true
  is_proper (region size align e) =
      is_between 1 size_bound size && (is_between 1 4096 align && (is_power_of_two align && (nat_le align (rules_of e).alignment && is_proper e)))
  is_proper (bitmap unit count e) =
      is_between 16 (2 ^ 20) unit && (is_multiple unit 16 && (is_between 1 (2 ^ 20) count && (nat_le 16 (rules_of e).alignment && is_proper e)))
  is_proper (kr size e) = is_between 16 size_bound size && (nat_le 16 (rules_of e).alignment && is_proper e)
  is_proper (freelist least greatest e) = is_between 8 size_bound greatest && (nat_le least greatest && is_proper e)
  is_proper (quantize kind e) = is_proper_kind kind && is_proper e
  is_proper (stats e) = is_proper e
  is_proper (affix prefix suffix e) =
      is_multiple prefix 8 && (is_multiple suffix 8 && (nat_le prefix 256 && (nat_le suffix 256
      && ((nat_eq prefix 0 || nat_le 8 (rules_of e).alignment) && is_proper e))))
  is_proper (segregate thresholds es) =
      nat_le 1 (length thresholds) && (nat_eq (member_count es) (length thresholds + 1) && (are_thresholds 0 thresholds && are_proper es))
  is_proper (buckets least greatest step es) =
      is_between 1 size_bound least && (is_between least size_bound greatest && (nat_le 1 step
      && (is_multiple (greatest + 1 - least) step && (nat_eq (member_count es) ((greatest + 1 - least) / step) && are_proper es))))
  is_proper (fallback p f) = (rules_of p).offers.owns && (is_proper p && is_proper f)
  is_proper (list es) = is_between 1 4096 (member_count es) && (all_own es && are_proper es)

  pub are_proper : Shapes → Bool
  are_proper no_members = true
  are_proper (member e es) = is_proper e && are_proper es

-- a composition that code may make: proper, at most so many layers deep, and of at most so many nodes
abbrev pub is_composition : Shape → Bool
is_composition e = is_proper e && (nat_le (rules_of e).depth most_layers && nat_le (rules_of e).nodes most_nodes)
