use Rattle.layer_laws.proofs.RunWrites.{units_are_put, numbers_are_put, free_count_counts}
use Rattle.layer_laws.proofs.FirstRuns.{free_runs_are_free, taken_runs_are_taken, free_cells_are_untagged, tagged_cells_have_the_tag, first_run_is_first, no_first_run}
use Rattle.layer_laws.proofs.meanings.runs_of_units.Goals as goal

pub returns-clause-free : goal.returns-clause-free
returns-clause-free c = free_runs_are_free

pub returns-clause-taken : goal.returns-clause-taken
returns-clause-taken c = taken_runs_are_taken

pub returns-clause-untagged : goal.returns-clause-untagged
returns-clause-untagged c = free_cells_are_untagged

pub returns-clause-tagged : goal.returns-clause-tagged
returns-clause-tagged c = tagged_cells_have_the_tag

pub returns-clause-first : goal.returns-clause-first
returns-clause-first c = first_run_is_first

pub returns-clause-no_first : goal.returns-clause-no_first
returns-clause-no_first c = no_first_run

pub returns-clause-units_put : goal.returns-clause-units_put
returns-clause-units_put c = units_are_put

pub returns-clause-numbers_put : goal.returns-clause-numbers_put
returns-clause-numbers_put c = numbers_are_put

pub returns-clause-free_count : goal.returns-clause-free_count
returns-clause-free_count c = free_count_counts
