use Rattle.std.proofs.Common.{◌≡◌, ◌<◌, subst, sym, arith}
use Rattle.bitmapped_block.specs.WordBits.{AreSet}
use Rattle.bitmapped_block.proofs.Masks.{mask-sets, mask-clears}
use Rattle.bitmapped_block.proofs.words.with_bits.Goals as goal

pub returns-then-value : goal.returns-then-value
returns-then-value c = rw c.if-value.true (mask-sets c.args.word c.args.from c.args.upto c.requires.some c.requires.most)

pub returns-else-value : goal.returns-else-value
returns-else-value c = rw c.if-value.false (mask-clears c.args.word c.args.from c.args.upto c.ranges.word.fits c.requires.some c.requires.most)
