use Rattle.std.proofs.Common.{arith}
use Rattle.bitmapped_block.proofs.Serving.{run-inside, serves-run, no-run}
use Rattle.bitmapped_block.proofs.Standing.{here, open-at, whole-row}
use Rattle.bitmapped_block.proofs.bitmapped.BitmappedBlockLayer.allocate.Goals as goal

pub least_run-requires-clause-words : goal.least_run-requires-clause-words
least_run-requires-clause-words g c =
    let l = c.args.self.now in
    let t = g.P.Layer.model l.parent in
    let m = c.args.space.now in
    let b = c.in-Some.bitmap in
    (whole-row l.unit l.count b t m c.row-row.result (open-at l.unit l.count l.bitmap b t m c.in-Some.is (here g.met.P.Layer.made l m c.requires.stands)) c.row-row.ensures).there

pub put-requires-clause-whole : goal.put-requires-clause-whole
put-requires-clause-whole g c =
    let l = c.args.self.now in
    let t = g.P.Layer.model l.parent in
    let m = c.args.space.now in
    let b = c.in-Some.bitmap in
    whole-row l.unit l.count b t m c.row-row.result (open-at l.unit l.count l.bitmap b t m c.in-Some.is (here g.met.P.Layer.made l m c.requires.stands)) c.row-row.ensures

pub put-requires-clause-within : goal.put-requires-clause-within
put-requires-clause-within g c =
    let l = c.args.self.now in
    let m = c.args.space.now in
    let b = c.in-Some.bitmap in
    (run-inside l.unit l.count c.args.n c.in-Some-least_run.first l.bitmap b c.row-row.result (g.P.Layer.model l.parent) m c.in-Some.is c.row-row.ensures (here g.met.P.Layer.made l m c.requires.stands) (omega (arith, c.if-n-eq0.false)) c.in-Some-least_run.ensures).within

pub overflow_mul-result : goal.overflow_mul-result
overflow_mul-result g c =
    let l = c.args.self.now in
    let m = c.args.space.now in
    let b = c.in-Some.bitmap in
    let i = run-inside l.unit l.count c.args.n c.in-Some-least_run.first l.bitmap b c.row-row.result (g.P.Layer.model l.parent) m c.in-Some.is c.row-row.ensures (here g.met.P.Layer.made l m c.requires.stands) (omega (arith, c.if-n-eq0.false)) c.in-Some-least_run.ensures in
    omega (arith, i.product)

pub overflow_add-result : goal.overflow_add-result
overflow_add-result g c =
    let l = c.args.self.now in
    let m = c.args.space.now in
    let b = c.in-Some.bitmap in
    let i = run-inside l.unit l.count c.args.n c.in-Some-least_run.first l.bitmap b c.row-row.result (g.P.Layer.model l.parent) m c.in-Some.is c.row-row.ensures (here g.met.P.Layer.made l m c.requires.stands) (omega (arith, c.if-n-eq0.false)) c.in-Some-least_run.ensures in
    omega (arith, i.place)

pub returns-in-Some-least_run : goal.returns-in-Some-least_run
returns-in-Some-least_run g c =
    let l = c.args.self.now in
    let m = c.args.space.now in
    serves-run l.unit l.count c.args.n c.in-Some-least_run.first l.bitmap c.in-Some.bitmap c.row-row.result (g.P.Layer.model l.parent) m c.put.new.space c.in-Some.is c.row-row.ensures (here g.met.P.Layer.made l m c.requires.stands)
    (omega (arith, c.if-n-eq0.false)) c.if-n-gt-LIMIT.false c.in-Some-least_run.ensures c.put.ensures

pub returns-in-None-least_run : goal.returns-in-None-least_run
returns-in-None-least_run g c =
    let l = c.args.self.now in
    let m = c.args.space.now in
    no-run l.unit l.count c.args.n l.bitmap c.in-Some.bitmap c.row-row.result (g.P.Layer.model l.parent) m c.in-Some.is c.row-row.ensures (here g.met.P.Layer.made l m c.requires.stands)
    (omega (arith, c.if-n-eq0.false)) c.if-n-gt-LIMIT.false c.in-None-least_run.ensures
