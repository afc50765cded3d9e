-- Expanding: what the forms share of how a block is made longer in place.
use Rattle.layer_rules.specs.After.{Change, after, change_child, say}
use Rattle.size_round.specs.Sizes.{limit}
use Rattle.std.specs.Prelude.{Bool, false, nat_eq, nat_lt, true, ℕ, ◌+◌, ◌-◌}

-- Growing by 0 bytes is done at once, and none grows past the limit.
abbrev pub expanded_unless : (by_none too_long : Bool) → Change → Change
expanded_unless true too_long change b s cells = after true s cells
expanded_unless false true change b s cells = after false s cells
expanded_unless false false change b s cells = change b s cells

abbrev pub asked_to_expand : (delta : ℕ) → Change → Change
asked_to_expand delta change b = expanded_unless (nat_eq delta 0) (nat_lt limit (b.len + delta)) change b

-- The parent is asked for what its own length of the block lacks. It is not asked where that is enough.
abbrev pub expand_lack : (enough : Bool) → Change → Change
expand_lack true parent shown s cells = after true s cells
expand_lack false parent shown s cells = change_child 0 parent shown s cells

abbrev pub expand_by_lack : (size more : ℕ) (parent : ℕ → Change) → Change
expand_by_lack size more parent = expand_lack (nat_eq size more) (parent (more - size))

-- a call that is made only where it is offered
abbrev pub change_if : Bool → Change → Change
change_if true change = change
change_if false change = say false
