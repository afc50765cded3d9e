use Rattle.std.proofs.Common.{refl, ◌∙◌, ap, length}
use Rattle.owned_heap.proofs.Owning.{slice-size}
use Rattle.owned_heap.proofs.heap.alter.Goals as goal

-- a closure leaves a slice as long as it was
pub returns : goal.returns
returns g c = record {
  left = c.change.new.arg2;
  size = c.change.auto.arg2 ∙ (ap length c.lend_mut.ensures.value ∙ slice-size c.args.space.now.bytes c.args.b c.requires.inside);
  called = record { shown = c.lend_mut.result; shows = c.lend_mut.ensures.value; left = record c.lend_mut.result { now = c.change.new.arg2 }; met = c.change.ensures; leaves = refl };
  same = refl;
}
