use Rattle.layer_laws.proofs.StandingLaws.{shut-has_no_cells, shut-stands_again}
use Rattle.layer_laws.proofs.standing.shut_has_no_cells.Goals as goal

pub returns-clause-none : goal.returns-clause-none
returns-clause-none c = shut-has_no_cells

pub returns-clause-stands : goal.returns-clause-stands
returns-clause-stands c = shut-stands_again
