use Rattle.layer_laws.proofs.StandingLaws.{allocated-stands, allocated-gives, allocated-keeps_out, allocated-keeps_extents, allocated-keeps_routes, allocated-finds}
use Rattle.layer_laws.proofs.standing.allocate_keeps.Goals as goal

pub returns-clause-stands : goal.returns-clause-stands
returns-clause-stands c = allocated-stands

pub returns-clause-gives : goal.returns-clause-gives
returns-clause-gives c = allocated-gives

pub returns-clause-out : goal.returns-clause-out
returns-clause-out c = allocated-keeps_out

pub returns-clause-extents : goal.returns-clause-extents
returns-clause-extents c = allocated-keeps_extents

pub returns-clause-routes : goal.returns-clause-routes
returns-clause-routes c = allocated-keeps_routes

pub returns-clause-found : goal.returns-clause-found
returns-clause-found c = allocated-finds
