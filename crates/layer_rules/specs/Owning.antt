-- Owning: which blocks may be held at all, what the forms share of how owns is answered, and what a walk along a path answers.
use Rattle.layer_rules.specs.After.{Owning, reply}
use Rattle.layer_rules.specs.Offering.{is_served_size}
use Rattle.layer_rules.specs.State.{State, child, is_open, with_child}
use Rattle.layer_rules.specs.declared.Asked.TheVariants.{No, NoSuchLayer, NotOffered, NotServing, Yes}
use Rattle.layer_rules.specs.declared.Asked.{Asked}
use Rattle.layer_rules.specs.declared.Block.{Block}
use Rattle.size_round.specs.Sizes.{limit}
use Rattle.std.specs.Prelude.{Bool, cond, false, nat_le, nat_lt, suc, true, zero, ℕ, ◌&&◌}

-- what may be held at all: a block with a length that is served, in an open layer
abbrev pub may_hold : Block → State → Bool
may_hold b s = is_open s && is_served_size b.len

-- a place and a length that each layer on a route may see
abbrev pub is_plausible : Block → Bool
is_plausible b = nat_lt b.place limit && is_served_size b.len

-- a block of at least one byte in an open layer
abbrev pub is_some_block : Block → State → Bool
is_some_block b s = is_open s && nat_le 1 b.len

-- where something is in order the child i is asked, and else the answer is no
abbrev pub owns_child_if : Bool → ℕ → Owning → Owning
owns_child_if true i owns b s = let r = owns b (child s i) in reply r.owned (with_child s i r.state)
owns_child_if false i owns b s = reply false s

abbrev pub owns_if : Bool → Owning → Owning
owns_if true owns b s = owns b s
owns_if false owns b s = reply false s

-- What stands at a path's end: the layer's own answer, or no where a layer on the way cannot have the block.
abbrev pub at_end : (offered possible held : Bool) → Asked
at_end false possible held = NotOffered
at_end true possible held = cond (possible && held) Yes No

-- a step into the one child, which has the number 0
abbrev pub into_parent : ℕ → Asked → Asked
into_parent zero answer = answer
into_parent (suc i) answer = NoSuchLayer

-- a chunk holder's parent serves no block
abbrev pub at_chunk_holder : ℕ → Asked
at_chunk_holder i = into_parent i NotServing
