use Rattle.std.proofs.Common.{◌≡◌, ◌++◌, length, take, drop, ap, arith}
use Rattle.space_core.proofs.CellRuns.{length-put_run}
use Rattle.space_core.specs.Runs.{put_run}
use Rattle.space_core.proofs.Rows.{whole}
use Rattle.space_core.proofs.TableRuns.{table-put}
use Rattle.space_core.proofs.table.CellTable.put_run.Goals as goal

pub invariant_of-self : goal.invariant_of-self
invariant_of-self c =
    let old = c.self.inside.tags in
    let new = c.put_run.new.items in
    let p : new ≡ put_run c.args.tag c.args.first c.args.cells old.items = cc (c.put_run.ensures, c.as_mut_slice.ensures.value) in
    let l : length new ≡ length old.items = rw p (length-put_run c.args.tag c.args.first c.args.cells old.items) in
    let a : take old.len (new ++ drop (length new) old.items) ≡ new = whole new old.items old.len l (omega (arith, ap length c.as_mut_slice.ensures.value, c.as_mut_slice.ensures.len)) in
    rw (a, p, c.set.ensures) (table-put c.args.tag c.args.first c.args.cells old.items c.self.inside.free c.self.invariant)
