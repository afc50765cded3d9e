-- Allocating: what the forms share of how a request is served, and when it is refused.
use Rattle.layer_rules.specs.After.{Serve, refuse, serve_below}
use Rattle.layer_rules.specs.Blocks.{with_len}
use Rattle.layer_rules.specs.State.{child}
use Rattle.layer_rules.specs.declared.Block.{Block}
use Rattle.size_round.specs.Sizes.{limit}
use Rattle.std.specs.Prelude.{Bool, false, nat_eq, nat_lt, true, ℕ, ◌||◌}

-- A request of 0 bytes, or of more than the limit, is served by no layer.
abbrev pub served_unless : (empty too_long : Bool) → Serve → Serve
served_unless true too_long serve s cells = refuse s cells
served_unless false true serve s cells = refuse s cells
served_unless false false serve s cells = serve s cells

abbrev pub asked_for : ℕ → Serve → Serve
asked_for n serve = served_unless (nat_eq n 0) (nat_lt limit n) serve

-- a served block, shown with n bytes
abbrev pub truncated : ℕ → Block → Block
truncated n b = with_len b n

abbrev pub serve_parent : (shown : Block → Block) → Serve → Serve
serve_parent shown serve s cells = serve_below shown 0 serve s (child s 0) cells

abbrev pub serve_member : (shown : Block → Block) → ℕ → Serve → Serve
serve_member shown i serve s cells = serve_below shown i serve s (child s i) cells

-- More than the limit is always refused.
abbrev pub over_limit_or : ℕ → Bool → Bool
over_limit_or n refused = nat_lt limit n || refused
