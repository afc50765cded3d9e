-- A cell by its own tag.
use Rattle.std.proofs.Common.{ℕ, ◌≡◌, ◌+◌, ◌-◌, ◌*◌, ◌/◌, ◌≤◌, ◌<◌, true, nat_eq, List, length, get_or, map, arith}
use Rattle.std.proofs.Math.Seq.{drop-cons}
use Rattle.std.proofs.lemmas.Bool.Decides.{nat_tests}
use Rattle.std.proofs.lemmas.List.{drop-map}
use Rattle.space_core.specs.Cells.{Cells, has_tag}
use Rattle.space_core.specs.Runs.{starts_taken, is_taken_run}

one_cell : (tags : List ℕ) (cell tag : ℕ) → cell < length tags → tag ≡ get_or tags cell 0 → is_taken_run (map (λ t. nat_eq t tag) tags) cell 1 ≡ true
unfolding starts_taken
one_cell tags cell tag h e =
    let same : nat_eq (get_or tags cell 0) tag ≡ true = grind (arith, nat_tests) in
    rw (drop-map (λ (t : ℕ). nat_eq t tag) cell tags, drop-cons tags cell 0 h, same)

-- the bytes from the cell's begin on, up to its end, have the cell's own tag
pub tagged_cell : (cells : Cells) (cell tag n : ℕ) → cell < length cells.tags → tag ≡ get_or cells.tags cell 0 → 1 ≤ n → n ≤ 64 → has_tag tag (64 * cell) n cells ≡ true
tagged_cell cells cell tag n h e some most =
    let touched : (64 * cell + n + 63) / 64 - 64 * cell / 64 ≡ 1 = omega arith in
    let first : 64 * cell / 64 ≡ cell = omega arith in
    rw (touched, first) (one_cell cells.tags cell tag h e)
