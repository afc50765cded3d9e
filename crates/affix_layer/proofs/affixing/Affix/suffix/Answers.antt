use Rattle.std.proofs.Common.{arith}
use Rattle.affix_layer.proofs.Standing.{here, affixed-of}
use Rattle.affix_layer.proofs.affixing.Affix.suffix.Goals as goal

pub overflow_add-b : goal.overflow_add-b
overflow_add-b g c =
    let l = c.args.self.now in
    let x = affixed-of l.prefix l.suffix l.is_set (g.P.Layer.model l.parent) c.args.space.now c.args.b (here g.met.P.Layer.made l c.args.space.now c.requires.stands) c.requires.out in
    omega (arith, x.fits, x.room, c.requires.stands.memory.sizes, c.requires.stands.memory.cells)

pub lend-requires : goal.lend-requires
lend-requires g c =
    let l = c.args.self.now in
    let x = affixed-of l.prefix l.suffix l.is_set (g.P.Layer.model l.parent) c.args.space.now c.args.b (here g.met.P.Layer.made l c.args.space.now c.requires.stands) c.requires.out in
    omega (arith, x.fits, x.room)
