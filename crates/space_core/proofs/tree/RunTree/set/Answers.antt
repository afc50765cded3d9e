use Rattle.std.proofs.Common.{◌≡◌, ◌++◌, length, not, take, drop, arith, ap, ◌∙◌}
use Rattle.space_core.proofs.CellRuns.{length-put_run}
use Rattle.space_core.specs.Runs.{put_run}
use Rattle.space_core.proofs.Nodes.{tells-put}
use Rattle.space_core.proofs.Reading.{tree-put}
use Rattle.space_core.proofs.Rows.{whole}
use Rattle.space_core.proofs.tree.RunTree.set.Goals as goal
use Rattle.space_core.proofs.tree.RunTree.set.Goals.{After-put_run}

row_is : (c : After-put_run) → take c.self.inside.taken.len (c.put_run.new.items ++ drop (length c.put_run.new.items) c.self.inside.taken.items) ≡ put_run (not c.args.free) c.args.from c.args.count c.self.inside.taken.items
row_is c =
    let i = c.self.inside in
    let p : c.put_run.new.items ≡ put_run (not c.args.free) c.args.from c.args.count i.taken.items = cc (c.put_run.ensures, c.deref_mut.ensures.value) in
    let l : length c.put_run.new.items ≡ length i.taken.items = rw p (length-put_run (not c.args.free) c.args.from c.args.count i.taken.items) in
    whole c.put_run.new.items i.taken.items i.taken.len l (omega (arith, ap length c.deref_mut.ensures.value, c.deref_mut.ensures.len)) ∙ p

pub refresh-requires-clause-beside : goal.refresh-requires-clause-beside
refresh-requires-clause-beside c =
    let i = c.self.inside in
    rw (c.deref.ensures.value, row_is (goal.at.refresh-requires-clause-beside c).After-put_run, c.deref_mut-2.ensures.value) (λ j p n h. tells-put i.taken.items i.nodes.items (not c.args.free) c.args.from c.args.count j p n h (c.self.invariant.tells j p n))

pub invariant_of-self : goal.invariant_of-self
invariant_of-self c =
    let i = c.self.inside in
    let row = row_is (goal.at.invariant_of-self c).After-put_run in
    let v : c.deref.result.now ≡ put_run (not c.args.free) c.args.from c.args.count i.taken.items = c.deref.ensures.value ∙ row in
    let l : length c.refresh.new.nodes ≡ length i.nodes.items = c.refresh.ensures.size ∙ ap length c.deref_mut-2.ensures.value in
    let b : take i.nodes.len (c.refresh.new.nodes ++ drop (length c.refresh.new.nodes) i.nodes.items) ≡ c.refresh.new.nodes = whole c.refresh.new.nodes i.nodes.items i.nodes.len l (omega (arith, ap length c.deref_mut-2.ensures.value, c.deref_mut-2.ensures.len)) in
    rw (row, b) (tree-put i.taken.items i.nodes.items c.refresh.new.nodes (not c.args.free) c.args.from c.args.count c.self.invariant l (rw v at c.refresh.ensures.tells))
