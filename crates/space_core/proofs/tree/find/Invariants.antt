use Rattle.space_core.proofs.Seeking.{IsPlace, IsSeeking, measure}
use Rattle.space_core.proofs.tree.find.Given as goal

abbrev pub invariant-loop-at : goal.invariant-loop-at
invariant-loop-at l = record {
  place : IsPlace l.width l.place.node l.place.len l.at;
  seeking : IsSeeking l.taken l.from l.k l.at l.run;
}

abbrev pub decreases-loop-at : goal.decreases-loop-at
decreases-loop-at l = measure l.width l.at l.place.len
