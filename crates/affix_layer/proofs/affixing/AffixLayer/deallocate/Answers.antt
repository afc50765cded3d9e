use Rattle.affix_layer.proofs.Standing.{here, affixed-of}
use Rattle.affix_layer.proofs.Giving.{gives-back, gives-round}
use Rattle.affix_layer.proofs.affixing.AffixLayer.deallocate.Goals as goal

pub affixed-whole-requires-clause-most : goal.affixed-whole-requires-clause-most
affixed-whole-requires-clause-most g c =
    let l = c.args.self.now in
    (affixed-of l.prefix l.suffix l.is_set (g.P.Layer.model l.parent) c.args.space.now c.args.b (here g.met.P.Layer.made l c.args.space.now c.requires.stands) c.requires.out).most

pub returns-clause-takes : goal.returns-clause-takes
returns-clause-takes g c =
    let l = c.args.self.now in
    gives-back l.prefix l.suffix l.is_set (g.P.Layer.model l.parent) (g.P.Layer.model c.deallocate.new.self) c.args.space.now c.deallocate.new.space c.args.b c.deallocate.result
    (here g.met.P.Layer.made l c.args.space.now c.requires.stands) c.requires.opened c.requires.out (rw c.affixed-whole.ensures at c.deallocate.ensures)

pub returns-clause-around : goal.returns-clause-around
returns-clause-around g c =
    let l = c.args.self.now in
    gives-round l.prefix l.suffix l.is_set (g.P.Layer.model l.parent) (g.P.Layer.model c.deallocate.new.self) c.args.space.now c.deallocate.new.space c.args.b c.deallocate.result
    (here g.met.P.Layer.made l c.args.space.now c.requires.stands) c.requires.opened c.requires.out (rw c.affixed-whole.ensures at c.deallocate.ensures)
