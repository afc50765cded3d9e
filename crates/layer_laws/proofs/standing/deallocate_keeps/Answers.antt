use Rattle.layer_laws.proofs.StandingLaws.{deallocated-stands, deallocated-keeps_out, deallocated-keeps_extents, deallocated-keeps_routes}
use Rattle.layer_laws.proofs.standing.deallocate_keeps.Goals as goal

pub returns-clause-stands : goal.returns-clause-stands
returns-clause-stands c = deallocated-stands

pub returns-clause-out : goal.returns-clause-out
returns-clause-out c = deallocated-keeps_out

pub returns-clause-extents : goal.returns-clause-extents
returns-clause-extents c = deallocated-keeps_extents

pub returns-clause-routes : goal.returns-clause-routes
returns-clause-routes c = deallocated-keeps_routes
