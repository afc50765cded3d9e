-- Blocks that are apart: in either order, and as long as their extents stay.
use Rattle.std.proofs.Common.{◌≡◌, true, arith}
use Rattle.std.proofs.lemmas.Bool.Decides.{nat_tests}
use Rattle.layer_rules.specs.declared.Block.{Block}
use Rattle.layer_rules.specs.Blocks.{is_apart}
use Rattle.layer_rules.specs.State.{State}
use Rattle.layer_rules.specs.Rules.{Rules, AreApart}

-- two blocks that have the same extents in both states
pub apart-moved : (e : Rules) (s t : State) (b c : Block) → e.extent b t ≡ e.extent b s → e.extent c t ≡ e.extent c s → AreApart e s b c → AreApart e t b c
apart-moved e s t b c p q a = record { either = rw (p, q) a.either }

pub apart-flip : (e : Rules) (s : State) (b c : Block) → AreApart e s b c → AreApart e s c b
apart-flip e s b c a = record { either = flip (e.extent b s) (e.extent c s) a.either } where
  flip : (x y : Block) → is_apart x y ≡ true → is_apart y x ≡ true
  flip x y h = grind (arith, nat_tests)
