use Rattle.affix_layer.proofs.Bytes.{affixes-written, affixes-inside}
use Rattle.std.proofs.Common.{arith}
use Rattle.affix_layer.proofs.affixing.Affix.write_affixes.Goals as goal

pub returns-clause-clean : goal.returns-clause-clean
returns-clause-clean g c =
    let n = c.write_length.ensures.inside.bytes.length_same in
    rw (c.fill-2.ensures.after, c.fill.ensures.after, c.open_len-open.ensures) (affixes-written c.args.self.now.prefix c.args.self.now.suffix c.args.b c.write_length.new.space.bytes c.requires.fits (omega (arith, n, c.requires.room)) c.write_length.ensures.length)

pub returns-clause-inside : goal.returns-clause-inside
returns-clause-inside g c =
    rw (c.fill-2.ensures.after, c.fill.ensures.after, c.open_len-open.ensures) (affixes-inside c.args.self.now.prefix c.args.self.now.suffix c.args.b c.args.space.now c.write_length.new.space c.requires.fits c.write_length.ensures.inside)
