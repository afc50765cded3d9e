use Rattle.play_core.proofs.RunsAlong.{whole_runs}
use Rattle.play_core.proofs.laws.whole_runs.Goals as goal

pub returns : goal.returns
returns c =
    whole_runs
    (record {
      begins = c.runs_go_on.ensures.begins;
      goes_on = c.runs_go_on.ensures.goes_on;
      moves = c.calls_are_moves.ensures.moves;
      blocks = c.live_blocks_are_apart.ensures.blocks;
      found = c.live_blocks_are_apart.ensures.found;
      null = c.answers_are_exact.ensures.null;
      null_aligned = c.answers_are_exact.ensures.null_aligned;
      refused = c.answers_are_exact.ensures.refused;
      sayable = c.read_is_sayable.ensures;
      accepted = c.accepted_are_compositions.ensures;
    })
