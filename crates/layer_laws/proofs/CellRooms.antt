-- The least cells with room.
use Rattle.std.proofs.Common.{◌≡◌, refl, sym, ◌∙◌, ap, subst, ℕ, ◌+◌, ◌-◌, ◌*◌, ◌/◌, ◌%◌, ◌^◌, ◌≤◌, ⊎_elim, max, true, false, nat_eq, arith}
use Rattle.std.proofs.Math.Nat.{mul_assoc, mul-mod_left, mul_comm}
use Rattle.std.proofs.lemmas.Nat.{pow-add, pow_below, div-add-mod'}
use Rattle.std.proofs.lemmas.Bool.{cases_lt, false≢true, false_from_ne_true}
use Rattle.std.proofs.lemmas.Bool.Decides.{nat_tests}
use Rattle.size_round.specs.Sizes.{ceil_div}
use Rattle.space_core.specs.Cells.{cell_size, taken_cells, is_aligned_cell}
use Rattle.size_round.specs.SizeMeanings.{IsMultiple, IsPower}
use Rattle.layer_laws.specs.UnitMeanings.{has_room, LeastCellsAreLeast, NoCells}
use Rattle.size_round.proofs.UpLeast.{enough_times}
use Rattle.layer_laws.proofs.FirstRuns.{run_within, first_run_is_first, no_first_run}

pub multiple_of_multiple : (n b a : ℕ) → IsMultiple n b → IsMultiple b a → IsMultiple n a
multiple_of_multiple n b a (k, e) (j, f) = (k * j, e ∙ ap (λ x. k * x) f ∙ sym (mul_assoc k j a))

-- a power of two divides each greater one
pub power_in_power : (p q : ℕ) → IsPower p → IsPower q → p ≤ q → IsMultiple q p
power_in_power p q (i, e) (j, f) h =
    let above : i ≤ j = ⊎_elim (λ l. let w = pow_below j i l in absurd (omega arith)) (λ l. l) (cases_lt j i) in
    let sum : (j - i) + i ≡ j = omega arith in
    (2 ^ (j - i), f ∙ ap (λ x. 2 ^ x) (sym sum) ∙ pow-add 2 (j - i) i ∙ ap (λ x. 2 ^ (j - i) * x) (sym e))

pub multiple_from_rest : (n a : ℕ) → n % a ≡ 0 → IsMultiple n a
multiple_from_rest n a h = (n / a, omega (arith, div-add-mod' n a))

pub rest_of_multiple : (n a : ℕ) → IsMultiple n a → n % a ≡ 0
rest_of_multiple n a (k, e) = ap (λ x. x % a) e ∙ mul-mod_left k a

zero_passes : (n : ℕ) → n ≡ 0 → nat_eq n 0 ≡ true
zero_passes n h = grind (arith, nat_tests)

zero_from_pass : (n : ℕ) → nat_eq n 0 ≡ true → n ≡ 0
zero_from_pass n h = grind (arith, nat_tests)

-- the test of a cell, for an alignment that is a power of two
aligned_cell : (a i : ℕ) → IsPower a → is_aligned_cell a i ≡ true → IsMultiple (cell_size * i) a
aligned_cell a i p h =
    let rest = zero_from_pass ((cell_size * i) % max a cell_size) h in
    ⊎_elim
    (λ l. multiple_of_multiple (cell_size * i) cell_size a (i, mul_comm cell_size i) (power_in_power a cell_size p (6, refl) (omega arith)))
    (λ l. let m : max a cell_size ≡ a = omega arith in multiple_from_rest (cell_size * i) a (rw m at rest))
    (cases_lt a cell_size)

cell_aligned : (a i : ℕ) → IsMultiple (cell_size * i) a → is_aligned_cell a i ≡ true
cell_aligned a i h = ⊎_elim
    (λ l. let m : max a cell_size ≡ cell_size = omega arith in rw m (zero_passes _ (rest_of_multiple (cell_size * i) cell_size (i, mul_comm cell_size i))))
    (λ l. let m : max a cell_size ≡ a = omega arith in rw m (zero_passes _ (rest_of_multiple (cell_size * i) a h)))
    (cases_lt a cell_size)

some_cells : (n : ℕ) → 1 ≤ n → 1 ≤ ceil_div n cell_size
some_cells n h = omega (arith, enough_times n cell_size (omega arith))

less_zero : (i : ℕ) → i - 0 ≡ i
less_zero i = omega arith

pub least_cells_are_least : LeastCellsAreLeast
least_cells_are_least n a cells i p e =
    let r = first_run_is_first (λ k. is_aligned_cell a k) (ceil_div n cell_size) 0 (taken_cells cells) i e in
    record {
      room = subst (λ k. has_room n cells k ≡ true) (less_zero i) r.free;
      aligned = aligned_cell a i p r.passes;
      whole = (i, mul_comm cell_size i);
      least = λ j l m. subst (λ k. has_room n cells k ≡ false) (less_zero j) (r.first j (omega arith) l (cell_aligned a j m));
    }

pub no_cells : NoCells
no_cells n a cells h p e j m = false_from_ne_true (has_room n cells j) (λ t.
    let within = run_within (taken_cells cells) j (ceil_div n cell_size) (some_cells n h) t in
    let none = no_first_run (λ k. is_aligned_cell a k) (ceil_div n cell_size) 0 (taken_cells cells) e j (omega arith) (omega arith) (cell_aligned a j m) in
    let here = subst (λ k. has_room n cells k ≡ false) (less_zero j) none in
    false≢true (sym here ∙ t))
