use Rattle.std.proofs.Common.{arith}
use Rattle.affix_layer.proofs.Standing.{here, affixed-of}
use Rattle.affix_layer.proofs.affixing.Affix.prefix_mut.Goals as goal

pub lend_mut-requires : goal.lend_mut-requires
lend_mut-requires g c =
    let l = c.args.layer.now in
    let x = affixed-of l.prefix l.suffix l.is_set (g.P.Layer.model l.parent) c.args.space.now c.args.b (here g.met.P.Layer.made l c.args.space.now c.requires.stands) c.requires.out in
    omega (arith, x.fits, x.room, c.open_len-open.ensures)
