use Rattle.std.proofs.Common.{inr, ◌∙◌}
use Rattle.play_core.specs.Devices.{reading, writing}
use Rattle.play_core.proofs.Whole.{left_by, opens_played}
use Rattle.play_core.proofs.playing.play_on.Goals as goal

pub returns-in-Ok-clause-plays : goal.returns-in-Ok-clause-plays
returns-in-Ok-clause-plays g c =
    let r = reading g.S.Source.left g.S.Source.faults g.S.Source.finished c.args.source.now in
    let r' = reading g.S.Source.left g.S.Source.faults g.S.Source.finished c.replay.new.source in
    let w = writing g.K.Sink.holds g.K.Sink.faults c.args.sink.now in
    let w' = writing g.K.Sink.holds g.K.Sink.faults c.replay.new.sink in
    inr (opens_played _ _ _ _ _ r r' w w' c.replay.new.space c.replay.result c.in-Ok.ensures.rules c.in-Ok.ensures.opened
    (left_by _ _ c.replay.new.space _ (c.replay.ensures.rules ∙ c.in-Ok.ensures.rules) c.replay.ensures.held) c.replay.ensures.ran)
