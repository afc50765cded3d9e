use Rattle.std.proofs.Common.{arith}
use Rattle.bitmapped_block.proofs.Scanning.{word-behind, next-found, next-none}
use Rattle.bitmapped_block.proofs.bits.next.Goals as goal

pub loop-at-preserved : goal.loop-at-preserved
loop-at-preserved c =
    word-behind c.args.taken c.args.space.now.bytes c.args.row c.args.from c.args.upto c.loop-at.at c.word-word.result c.lowest-bit.result c.loop-at.invariant c.word-word.ensures c.lowest-bit.ensures c.if-bit-lt-WORD_BITS.false

pub returns-then-bit-lt-WORD_BITS : goal.returns-then-bit-lt-WORD_BITS
returns-then-bit-lt-WORD_BITS c =
    next-found c.args.taken c.args.space.now.bytes c.args.row c.args.from c.args.upto c.loop-at.at c.word-word.result c.lowest-bit.result c.min.result c.requires.words.inside c.requires.order c.requires.within
    c.loop-at.invariant c.word-word.ensures c.lowest-bit.ensures c.if-bit-lt-WORD_BITS.true c.min.ensures

pub returns : goal.returns
returns c = next-none c.args.taken c.args.space.now.bytes c.args.row c.args.from c.args.upto c.loop-at.at c.requires.words.inside c.requires.order c.requires.within c.loop-at.invariant c.loop-at-test.false
