use Rattle.std.proofs.Common.{◌≡◌, ◌++◌, length, take, drop, ap, arith, sym, ◌∙◌}
use Rattle.std.specs.Int.{IsNextPowerOfTwo}
use Rattle.space_core.proofs.Reading.{tree-new}
use Rattle.space_core.proofs.Rows.{whole}
use Rattle.space_core.proofs.tree.RunTree.new.Goals as goal

pub invariant_of-result : goal.invariant_of-result
invariant_of-result c =
    let us = c.in_ok-taken.taken.items in
    let old = c.in_ok-nodes.nodes in
    let new = c.refresh.new.nodes in
    let w = c.next_power_of_two-width in
    let m : length us ≡ c.args.n = sym (ap length c.deref.ensures.value) ∙ c.deref.ensures.len ∙ c.in_ok-taken.ensures.len in
    let l : length new ≡ length old.items = c.refresh.ensures.size ∙ ap length c.deref_mut.ensures.value in
    let e : length new ≡ w.result = c.refresh.ensures.size ∙ c.deref_mut.ensures.len ∙ c.in_ok-nodes.ensures.len in
    let a : take old.len (new ++ drop (length new) old.items) ≡ new = whole new old.items old.len l (omega (arith, ap length c.deref_mut.ensures.value, c.deref_mut.ensures.len)) in
    let p : IsNextPowerOfTwo c.args.n (length new) = rw e (w.ensures.power, w.ensures.lower_bound, w.ensures.upper_bound) in
    rw a (tree-new us new c.args.n c.requires.most m p (rw c.deref.ensures.value at c.refresh.ensures.tells))
