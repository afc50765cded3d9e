-- What of a state is not read from the Space's bytes.
use Rattle.std.specs.Prelude.{[]}
use Rattle.layer_rules.specs.State.{State, closed, open_with, Own, nothing, region_own, bitmap_own, kr_own, cache_own, stats_own, order_own, row_own, States, no_children, child_and}

-- what a layer holds of its own, without its row of units or its cached places
abbrev pub own_unread : Own → Own
own_unread (bitmap_own chunk base units) = bitmap_own chunk base []
own_unread (kr_own chunk mode position units) = kr_own chunk mode position []
own_unread (cache_own places) = cache_own []
own_unread nothing = nothing
own_unread (region_own chunk position) = region_own chunk position
own_unread (stats_own counts) = stats_own counts
own_unread (order_own order) = order_own order
own_unread (row_own numbers) = row_own numbers

-- the state with each row of units and each row of cached places left out
unfoldable mutual
  pub unread : State → State
  unread closed = closed
  unread (open_with own ss) = open_with (own_unread own) (unread_each ss)

  pub unread_each : States → States
  unread_each no_children = no_children
  unread_each (child_and s ss) = child_and (unread s) (unread_each ss)
