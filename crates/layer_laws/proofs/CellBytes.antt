-- The cells that bytes lie in, byte by byte.
use Rattle.std.proofs.Common.{◌≡◌, sym, ◌∙◌, ap, ℕ, suc, ◌+◌, ◌*◌, ◌/◌, ◌<◌, ◌≤◌, ⊎_elim, slice_get, arith}
use Rattle.std.proofs.Math.Nat.{mul-le-mul_right, lt_of_mul-lt-mul_right}
use Rattle.std.proofs.lemmas.Nat.{div-add-mod', mod_below, div-mul-add, le-div}
use Rattle.std.proofs.lemmas.Bool.{cases_lt}
use Rattle.size_round.specs.Sizes.{ceil_div}
use Rattle.size_round.proofs.UpLeast.{enough_times, ceil_div-least}
use Rattle.space_core.specs.Cells.{cell_size, cell_at, cells_touched}
use Rattle.layer_laws.specs.UnitMeanings.{HasTagByBytes}
use Rattle.layer_laws.proofs.FirstRuns.{tagged_cells_have_the_tag}

-- the unit of a byte ends before the units that reach behind it
pub unit_below : (y e unit : ℕ) → 1 ≤ unit → y < e → y / unit < ceil_div e unit
unit_below y e unit h l = lt_of_mul-lt-mul_right unit (omega (arith, div-add-mod' y unit, enough_times e unit h))

pub units_in_order : (x y unit : ℕ) → 1 ≤ unit → x ≤ y → x / unit ≤ y / unit
units_in_order x y unit h l = le-div (x / unit) y unit (omega arith) (omega (arith, div-add-mod' x unit))

-- of the bytes from x up to e, one lies in each unit from that of x up to that of the last
pub byte_of_unit : (x e unit u : ℕ) → 1 ≤ unit → x < e → x / unit ≤ u → u < ceil_div e unit → (y : ℕ) × (x ≤ y) × (y < e) × (y / unit ≡ u)
byte_of_unit x e unit u h l m n = ⊎_elim
    (λ s.
    let next : suc (x / unit) * unit ≡ (x / unit) * unit + unit = grind arith in
    let reach : suc (x / unit) * unit ≤ u * unit = mul-le-mul_right unit s in
    let before : u * unit < e = ⊎_elim (λ b. b) (λ b. let w = ceil_div-least e unit u h b in absurd (omega arith)) (cases_lt (u * unit) e) in
    let same = div-mul-add u unit 0 (omega arith) in
    let whole : u * unit + 0 ≡ u * unit = omega arith in
    (u * unit, omega (arith, div-add-mod' x unit, mod_below x unit (omega arith)), before, rw whole at same))
    (λ s. (x, omega arith, l, omega arith))
    (cases_lt (x / unit) u)

pub has_tag_by_bytes : HasTagByBytes
has_tag_by_bytes tag place n cells h =
    let r = tagged_cells_have_the_tag tag cells (cell_at place) (cells_touched place n) in
    let below = unit_below place (place + n) cell_size (omega arith) (omega arith) in (
      λ f k low high.
          let from = units_in_order place k cell_size (omega arith) low in
          let to = unit_below k (place + n) cell_size (omega arith) high in
          r.0 f (cell_at k) from (omega arith),
      λ f. r.1 (λ u from to.
          let w = byte_of_unit place (place + n) cell_size u (omega arith) (omega arith) from (omega arith) in
          ap (λ q. slice_get cells.tags q) (sym w.3) ∙ f w.0 w.1 w.2),
    )
