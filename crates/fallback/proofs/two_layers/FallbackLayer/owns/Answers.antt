use Rattle.std.proofs.Common.{◌≡◌, true, arith}
use Rattle.std.proofs.lemmas.Bool.Decides.{nat_tests}
use Rattle.layer_rules.specs.Offering.{is_served_size}
use Rattle.fallback.proofs.Telling.{owned-by_first, owned-by_second}
use Rattle.fallback.proofs.two_layers.FallbackLayer.owns.Goals as goal

pub returns-then-owns : goal.returns-then-owns
returns-then-owns g c =
    let l = c.args.self.now in
    let p : is_served_size c.args.b.len ≡ true = grind (arith, nat_tests, c.if-b-le-LIMIT.true) in
    owned-by_first _ _ _ _ _ (g.met.P.Layer.made l.primary) (g.met.F.Layer.made l.second) c.requires.opened p c.if-owns.true c.owns.ensures

pub returns-else-owns : goal.returns-else-owns
returns-else-owns g c =
    let l = c.args.self.now in
    let p : is_served_size c.args.b.len ≡ true = grind (arith, nat_tests, c.if-b-le-LIMIT.true) in
    owned-by_second _ _ _ _ _ _ _ (g.met.P.Layer.made l.primary) (g.met.F.Layer.made l.second) c.requires.opened p c.if-owns.false c.owns.ensures c.owns-else-owns.ensures
