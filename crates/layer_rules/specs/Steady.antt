-- What of a state is neither an order of use nor a number of statistics.
use Rattle.std.specs.Prelude.{[]}
use Rattle.layer_rules.specs.State.{State, closed, open_with, Own, nothing, region_own, bitmap_own, kr_own, cache_own, stats_own, order_own, row_own, States, no_children, child_and, zero_stats}

-- what a layer holds of its own, without its order of use or its numbers
abbrev pub own_steady : Own → Own
own_steady (stats_own counts) = stats_own zero_stats
own_steady (order_own order) = order_own []
own_steady nothing = nothing
own_steady (region_own chunk position) = region_own chunk position
own_steady (bitmap_own chunk base units) = bitmap_own chunk base units
own_steady (kr_own chunk mode position units) = kr_own chunk mode position units
own_steady (cache_own places) = cache_own places
own_steady (row_own numbers) = row_own numbers

-- the state with each order of use emptied, and each number of each statistics layer replaced by 0
unfoldable mutual
  pub steady : State → State
  steady closed = closed
  steady (open_with own ss) = open_with (own_steady own) (steady_each ss)

  pub steady_each : States → States
  steady_each no_children = no_children
  steady_each (child_and s ss) = child_and (steady s) (steady_each ss)
