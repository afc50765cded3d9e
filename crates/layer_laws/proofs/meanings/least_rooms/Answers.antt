use Rattle.layer_laws.proofs.CellBytes.{has_tag_by_bytes}
use Rattle.layer_laws.proofs.CellRooms.{least_cells_are_least, no_cells}
use Rattle.layer_laws.proofs.meanings.least_rooms.Goals as goal

pub returns-clause-found : goal.returns-clause-found
returns-clause-found c = least_cells_are_least

pub returns-clause-none : goal.returns-clause-none
returns-clause-none c = no_cells

pub returns-clause-tag_by_bytes : goal.returns-clause-tag_by_bytes
returns-clause-tag_by_bytes c = has_tag_by_bytes
