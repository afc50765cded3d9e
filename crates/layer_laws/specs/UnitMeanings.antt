-- UnitMeanings: what the runs of units, the first run, the least run of cells and the least free place are, in words.
use Rattle.std.specs.Prelude.{◌≡◌, ℕ, ◌+◌, ◌-◌, ◌*◌, ◌<◌, ◌≤◌, ◌↔◌, Bool, true, false, List, length, Some, None, not, count_by, slice_get}
use Rattle.size_round.specs.Sizes.{ceil_div}
use Rattle.space_core.specs.Runs.{is_free_run, is_taken_run, first_run, put_run, free_count, first_place}
use Rattle.space_core.specs.Cells.{Cells, cell_size, taken_cells, cells_with, least_cells, cell_at, has_tag}
use Rattle.size_round.specs.SizeMeanings.{IsMultiple, IsPower}

-- ---- runs

-- the n elements from number i on are there, and each is x
abbrev pub AreAll : {A : Type 0} → A → List A → (i n : ℕ) → Type 0
AreAll x xs i n = (k : ℕ) → i ≤ k → k < i + n → slice_get xs k ≡ Some x

-- a free run has free units alone, and a taken run taken ones
abbrev pub FreeRunsAreFree : Type 0
FreeRunsAreFree = (us : List Bool) (i n : ℕ) → (is_free_run us i n ≡ true) ↔ AreAll false us i n

abbrev pub TakenRunsAreTaken : Type 0
TakenRunsAreTaken = (us : List Bool) (i n : ℕ) → (is_taken_run us i n ≡ true) ↔ AreAll true us i n

-- a free run of cells has cells with the tag 0 alone, and a run of a tag's cells has cells with that tag
abbrev pub FreeCellsAreUntagged : Type 0
FreeCellsAreUntagged = (cells : Cells) (i n : ℕ) → (is_free_run (taken_cells cells) i n ≡ true) ↔ AreAll 0 cells.tags i n

abbrev pub TaggedCellsHaveTheTag : Type 0
TaggedCellsHaveTheTag = (tag : ℕ) (cells : Cells) (i n : ℕ) → (is_taken_run (cells_with tag cells) i n ≡ true) ↔ AreAll tag cells.tags i n

-- Unit j passes the test and n units from it on are free, and no unit before it has both. Units are counted from i.
pub record IsFirstRun (allowed : ℕ → Bool) (n i : ℕ) (us : List Bool) (j : ℕ) : Type 0 where
  pub from : i ≤ j
  pub within : j < i + length us
  pub passes : allowed j ≡ true
  pub free : is_free_run us (j - i) n ≡ true
  pub first : (k : ℕ) → i ≤ k → k < j → allowed k ≡ true → is_free_run us (k - i) n ≡ false

-- what first_run finds is the first run, and where it finds none there is none
abbrev pub FirstRunIsFirst : Type 0
FirstRunIsFirst = (allowed : ℕ → Bool) (n i : ℕ) (us : List Bool) (j : ℕ) → first_run allowed n i us ≡ Some j → IsFirstRun allowed n i us j

abbrev pub NoFirstRun : Type 0
NoFirstRun = (allowed : ℕ → Bool) (n i : ℕ) (us : List Bool) → first_run allowed n i us ≡ None → (k : ℕ) → i ≤ k → k < i + length us → allowed k ≡ true → is_free_run us (k - i) n ≡ false

-- ys is xs with n elements from number i on made x, as far as they are there
pub record IsPut {A : Type 0} (x : A) (i n : ℕ) (xs ys : List A) : Type 0 where
  pub size : length ys ≡ length xs
  pub inside : (k : ℕ) → k < length xs → i ≤ k → k < i + n → slice_get ys k ≡ Some x
  pub below : (k : ℕ) → k < i → slice_get ys k ≡ slice_get xs k
  pub behind : (k : ℕ) → i + n ≤ k → slice_get ys k ≡ slice_get xs k

-- a run of units, and a run of tags or bytes, is put so
abbrev pub UnitsArePut : Type 0
UnitsArePut = (x : Bool) (i n : ℕ) (us : List Bool) → IsPut x i n us (put_run x i n us)

abbrev pub NumbersArePut : Type 0
NumbersArePut = (x i n : ℕ) (xs : List ℕ) → IsPut x i n xs (put_run x i n xs)

-- free_count counts the units that are free
abbrev pub FreeCountCounts : Type 0
FreeCountCounts = (us : List Bool) → free_count us ≡ count_by not us

-- ---- cells

-- cells enough for n bytes are there and free, from cell i on
abbrev pub has_room : (n : ℕ) → Cells → (i : ℕ) → Bool
has_room n cells i = is_free_run (taken_cells cells) i (ceil_div n cell_size)

-- From cell i on there is room for n bytes, at a multiple of a; no cell before it has both.
pub record IsLeastRoom (n a : ℕ) (cells : Cells) (i : ℕ) : Type 0 where
  pub room : has_room n cells i ≡ true
  pub aligned : IsMultiple (cell_size * i) a
  pub whole : IsMultiple (cell_size * i) cell_size
  pub least : (j : ℕ) → j < i → IsMultiple (cell_size * j) a → has_room n cells j ≡ false

-- what least_cells finds is the least such cell, and where it finds none there is none
abbrev pub LeastCellsAreLeast : Type 0
LeastCellsAreLeast = (n a : ℕ) (cells : Cells) (i : ℕ) → IsPower a → least_cells n a cells ≡ Some i → IsLeastRoom n a cells i

abbrev pub NoCells : Type 0
NoCells = (n a : ℕ) (cells : Cells) → 1 ≤ n → IsPower a → least_cells n a cells ≡ None → (j : ℕ) → IsMultiple (cell_size * j) a → has_room n cells j ≡ false

-- bytes have a tag exactly where each of them lies in a cell that is there and has it
abbrev pub HasTagByBytes : Type 0
HasTagByBytes = (tag place n : ℕ) (cells : Cells) → 1 ≤ n → (has_tag tag place n cells ≡ true) ↔ ((k : ℕ) → place ≤ k → k < place + n → slice_get cells.tags (cell_at k) ≡ Some tag)

-- ---- places

-- q passes the test and lies some steps above p, at most so many; no place fewer steps above p passes
pub record IsFirstPlace (test : ℕ → Bool) (step steps p q : ℕ) : Type 0 where
  pub times : ℕ
  pub few : times ≤ steps
  pub at : q ≡ p + times * step
  pub passes : test q ≡ true
  pub before : (j : ℕ) → j < times → test (p + j * step) ≡ false

-- what first_place finds is the first place, and where it finds none there is none
abbrev pub FirstPlaceIsFirst : Type 0
FirstPlaceIsFirst = (test : ℕ → Bool) (step steps p q : ℕ) → first_place test step steps p ≡ Some q → IsFirstPlace test step steps p q

abbrev pub NoFirstPlace : Type 0
NoFirstPlace = (test : ℕ → Bool) (step steps p : ℕ) → first_place test step steps p ≡ None → (j : ℕ) → j ≤ steps → test (p + j * step) ≡ false
