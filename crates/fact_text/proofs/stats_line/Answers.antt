use Rattle.std.proofs.Common.{arith, length, ap}
use Rattle.fact_text.proofs.StatsLines.{stats_told}
use Rattle.fact_text.proofs.stats_line.Goals as goal

pub returns : goal.returns
returns c =
    let numbers = c.in_order-number-items.ensures in
    stats_told c.args.node c.loop-number.number-index c.args.stats c.in_order-number-items.result c.loop-number.line.bytes c.push_str-2.new.self.bytes numbers
    (omega (arith, c.loop-number-test.false, ap length numbers)) c.loop-number.invariant.bytes c.push_str-2.ensures.bytes
