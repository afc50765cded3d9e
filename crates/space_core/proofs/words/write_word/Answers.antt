use Rattle.std.proofs.Common.{◌≡◌, arith}
use Rattle.space_core.specs.Words.{put_word}
use Rattle.space_core.proofs.words.write_word.Goals as goal

pub returns : goal.returns
unfolding put_word
returns c =
    let whole : c.loop-k.k ≡ 8 = omega arith in
    let written = rw whole at c.loop-k.invariant in
    rw c.to_le_bytes-low_first.ensures at written
