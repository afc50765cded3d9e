use Rattle.std.proofs.Common.{arith}
use Rattle.affix_layer.proofs.Standing.{here}
use Rattle.affix_layer.proofs.Serving.{whole-of, serves, serves-round, refuses, refuses-round}
use Rattle.affix_layer.proofs.affixing.AffixLayer.allocate.Goals as goal

pub overflow_add-b : goal.overflow_add-b
overflow_add-b g c =
    let l = c.args.self.now in
    let x = whole-of l.prefix l.suffix _ l.is_set (g.P.Layer.model l.parent) (g.P.Layer.model c.allocate.new.self) c.args.space.now c.allocate.new.space c.in-Some.whole (here g.met.P.Layer.made l c.args.space.now c.requires.stands) c.requires.opened c.in-Some.ensures in
    omega (arith, x.len, x.room, x.few)

pub write_affixes-requires-clause-room : goal.write_affixes-requires-clause-room
write_affixes-requires-clause-room g c =
    let l = c.args.self.now in
    let x = whole-of l.prefix l.suffix _ l.is_set (g.P.Layer.model l.parent) (g.P.Layer.model c.allocate.new.self) c.args.space.now c.allocate.new.space c.in-Some.whole (here g.met.P.Layer.made l c.args.space.now c.requires.stands) c.requires.opened c.in-Some.ensures in
    omega (arith, x.len, x.room, x.few)

pub returns-in-Some-clause-serves : goal.returns-in-Some-clause-serves
returns-in-Some-clause-serves g c =
    let l = c.args.self.now in
    serves l.prefix l.suffix c.args.n l.is_set (g.P.Layer.model l.parent) (g.P.Layer.model c.allocate.new.self) c.args.space.now c.allocate.new.space c.write_affixes.new.space c.in-Some.whole (here g.met.P.Layer.made l c.args.space.now c.requires.stands) c.requires.opened
    (omega (arith, c.if-n-eq0.false)) c.if-n-gt-LIMIT.false c.in-Some.ensures c.write_affixes.ensures.clean c.write_affixes.ensures.inside

pub returns-in-None-clause-serves : goal.returns-in-None-clause-serves
returns-in-None-clause-serves g c =
    let l = c.args.self.now in
    refuses l.prefix l.suffix c.args.n l.is_set (g.P.Layer.model l.parent) (g.P.Layer.model c.allocate.new.self) c.args.space.now c.allocate.new.space (here g.met.P.Layer.made l c.args.space.now c.requires.stands) c.requires.opened
    (omega (arith, c.if-n-eq0.false)) c.if-n-gt-LIMIT.false c.in-None.ensures

pub returns-in-Some-clause-around : goal.returns-in-Some-clause-around
returns-in-Some-clause-around g c =
    let l = c.args.self.now in
    serves-round l.prefix l.suffix c.args.n l.is_set (g.P.Layer.model l.parent) (g.P.Layer.model c.allocate.new.self) c.args.space.now c.allocate.new.space c.write_affixes.new.space c.in-Some.whole (here g.met.P.Layer.made l c.args.space.now c.requires.stands) c.requires.opened
    c.in-Some.ensures c.write_affixes.ensures.inside

pub returns-in-None-clause-around : goal.returns-in-None-clause-around
returns-in-None-clause-around g c =
    let l = c.args.self.now in
    refuses-round l.prefix l.suffix _ l.is_set (g.P.Layer.model l.parent) (g.P.Layer.model c.allocate.new.self) c.args.space.now c.allocate.new.space (here g.met.P.Layer.made l c.args.space.now c.requires.stands) c.in-None.ensures
