use Rattle.std.proofs.Common.{◌∙◌, ap, ◌+◌, ◌/◌, ◌^◌, min, ℕ}
use Rattle.std.specs.Int.{trailing_zeros, w64}
use Rattle.bitmapped_block.proofs.Masks.{lowest-set, lowest-clear}
use Rattle.bitmapped_block.proofs.words.lowest.Goals as goal
use Rattle.bitmapped_block.proofs.words.lowest.Goals.{then-value, else-value}

pub returns : goal.returns
returns c =
    let from = c.args.from in
    let e = c.min.ensures ∙ ap (λ (t : ℕ). min (from + t) 64) c.from.ensures in
    elim c.if-value.branch [
      | then-value w ↦ rw w.if-value.true (lowest-set c.args.word from c.min.result c.ranges.word.fits c.requires (e ∙ ap (λ (n : ℕ). min (from + trailing_zeros w64 (n / 2 ^ from)) 64) w.sought-is))
      | else-value w ↦ rw w.if-value.false (lowest-clear c.args.word from c.min.result c.ranges.word.fits c.requires (e ∙ ap (λ (n : ℕ). min (from + trailing_zeros w64 (n / 2 ^ from)) 64) w.sought-is))
    ]
