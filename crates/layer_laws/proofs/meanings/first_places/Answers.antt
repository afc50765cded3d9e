use Rattle.layer_laws.proofs.FirstPlaces.{first_place_is_first, no_first_place}
use Rattle.layer_laws.proofs.meanings.first_places.Goals as goal

pub returns-clause-found : goal.returns-clause-found
returns-clause-found c = first_place_is_first

pub returns-clause-none : goal.returns-clause-none
returns-clause-none c = no_first_place
