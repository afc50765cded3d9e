use Rattle.std.proofs.Common.{◌+◌, arith}
use Rattle.bitmapped_block.proofs.Putting.{put-none, put-more, put-done}
use Rattle.bitmapped_block.proofs.bits.put.Goals as goal

pub loop-at-init : goal.loop-at-init
loop-at-init c = record { put = put-none c.args.taken c.args.row c.args.first c.args.space.now c.requires.whole; within = omega arith }

pub loop-at-preserved : goal.loop-at-preserved
loop-at-preserved c =
    let m = c.loop-at in
    record {
      put = put-more c.args.taken c.args.row c.args.first m.at (c.args.first + c.args.n) c.min-upto.result c.word.result c.with_bits-word.result c.args.space.now m.space c.set_word.new.self m.invariant.put c.loop-at-test.true c.requires.within
          c.min-upto.ensures c.with_bits-word.type_inv c.word.ensures c.with_bits-word.ensures c.set_word.ensures.after c.set_word.ensures.memory;
      within = omega (arith, c.min-upto.ensures);
    }

pub returns : goal.returns
returns c = put-done c.args.taken c.args.row c.args.first c.args.n c.loop-at.at c.args.space.now c.loop-at.space c.requires.whole c.loop-at.invariant.put c.loop-at.invariant.within c.loop-at-test.false
