-- Rows of units, as layers hold them: true where a unit is taken.
use Rattle.layer_rules.specs.State.{State, units_of}
use Rattle.space_core.specs.Runs.{first_run, free_count}
use Rattle.std.specs.Prelude.{Bool, List, [], false, get_or, is_none, max, nat_le, suc, true, ℕ, ◌&&◌, ◌*◌, ◌-◌, ◌/◌, ◌∷◌}

-- the unit with the byte k, where units of this size stand from the base on, is taken
abbrev pub is_taken_at : (size base : ℕ) → List Bool → ℕ → Bool
is_taken_at size base units k = nat_le base k && get_or units ((k - base) / size) false

-- no run of n free units
abbrev pub has_no_run : ℕ → List Bool → Bool
has_no_run n units = is_none (first_run (λ i. true) n 0 units)

-- the length of the longest run of free units, after a run of so many
unfoldable pub longest_run : ℕ → List Bool → ℕ
longest_run run [] = run
longest_run run (true ∷ us) = max run (longest_run 0 us)
longest_run run (false ∷ us) = longest_run (suc run) us

-- how many bytes the free units have, and those of the longest run of them
abbrev pub free_bytes : (unit : ℕ) → State → ℕ
free_bytes unit s = unit * free_count (units_of s)

abbrev pub longest_bytes : (unit : ℕ) → State → ℕ
longest_bytes unit s = unit * longest_run 0 (units_of s)
