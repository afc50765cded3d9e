use Rattle.std.proofs.Common.{arith}
use Rattle.affix_layer.proofs.Bytes.{length-written, length-inside}
use Rattle.affix_layer.proofs.affixing.Affix.write_length.Goals as goal

pub returns-then-self-ge8-clause-length : goal.returns-then-self-ge8-clause-length
returns-then-self-ge8-clause-length g c =
    rw c.set_word.ensures.after (length-written c.args.self.now.prefix c.args.b c.args.space.now.bytes c.requires.fits c.requires.room (omega arith))

pub returns-then-self-ge8-clause-inside : goal.returns-then-self-ge8-clause-inside
returns-then-self-ge8-clause-inside g c =
    rw c.set_word.ensures.after (length-inside c.args.self.now.prefix c.args.b c.args.space.now (omega (arith, c.if-self-ge8.true)))
