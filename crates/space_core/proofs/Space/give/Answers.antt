use Rattle.std.proofs.Common.{arith}
use Rattle.space_core.proofs.CellRuns.{tagged-inside}
use Rattle.space_core.proofs.Space.give.Goals as goal

pub put_tag-requires : goal.put_tag-requires
put_tag-requires c =
    omega (arith, tagged-inside c.args.tag c.args.place c.args.bytes c.args.self.now.cells c.requires.has c.requires.some)
