-- A table with its tree: a run of cells that is tagged in both, and the search for a run that begins at a multiple.
use Rattle.std.proofs.Common.{ℕ, zero, suc, [], ◌∷◌, not, nat_eq, refl, ◌≡◌, ◌+◌, ◌-◌, ◌≤◌, ◌<◌, Bool, true, false, nat_le, List, length, replicate, Some, None, ap, sym, ◌∙◌, ◌⊎◌, inl, inr, arith}
use Rattle.std.proofs.lemmas.Bool.{cases_lt}
use Rattle.std.proofs.lemmas.List.{length-replicate}
use Rattle.space_core.specs.Cells.{is_aligned_cell}
use Rattle.space_core.proofs.CellRuns.{row, length-put_run, length-row}
use Rattle.space_core.specs.Memory.{most_cells}
use Rattle.space_core.specs.Runs.{first_run, put_run}
use Rattle.space_core.specs.Summaries.{IsFree}
use Rattle.space_core.specs.Tables.{IsTable}
use Rattle.space_core.proofs.Seeking.{both, first-none, first-some, free-there, least-none, least-some}

row-put : (tag i n : ℕ) (T : List ℕ) → put_run (not (nat_eq tag 0)) i n (row T) ≡ row (put_run tag i n T)
unfolding put_run
row-put tag zero zero T = refl
row-put tag zero (suc n) [] = refl
row-put tag zero (suc n) (t ∷ T) = ap (λ us. not (nat_eq tag 0) ∷ us) (row-put tag zero n T)
row-put tag (suc i) n [] = refl
row-put tag (suc i) n (t ∷ T) = ap (λ us. not (nat_eq t 0) ∷ us) (row-put tag i n T)

pub table-put : (tag i n : ℕ) (T : List ℕ) (us : List Bool) → IsTable T us → IsTable (put_run tag i n T) (put_run (not (nat_eq tag 0)) i n us)
table-put tag i n T us h = record {
  most = rw (length-put_run tag i n T) h.most;
  taken = ap (λ vs. put_run (not (nat_eq tag 0)) i n vs) h.taken ∙ row-put tag i n T;
}

row-free : (n : ℕ) → replicate n false ≡ row (replicate n 0)
row-free zero = refl
row-free (suc n) = ap (λ us. false ∷ us) (row-free n)

pub table-free : (n : ℕ) (T : List ℕ) (us : List Bool) → n ≤ most_cells → T ≡ replicate n 0 → us ≡ replicate n false → IsTable T us
table-free n T us h t u = rw (t, u) (record { most = rw (length-replicate {A = ℕ} n 0) h; taken = row-free n })

-- the least run of n free cells from a number on
pub record IsLeastRun (T : List ℕ) (from n at : ℕ) : Type 0 where
  pub begins : from ≤ at
  pub inside : at + n ≤ length T
  pub free : IsFree (row T) at n
  pub none : (c : ℕ) → from ≤ c → c < at → IsFree (row T) c n → ⊥

same_row : (T U : List ℕ) (us : List Bool) → IsTable T us → T ≡ U → us ≡ row U
same_row T U us h e = h.taken ∙ ap (λ V. row V) e

pub told-some : (T U : List ℕ) (us : List Bool) (from n at : ℕ) → IsTable T us → T ≡ U → 1 ≤ n → Some at ≡ first_run (λ i. nat_le from i) n 0 us → IsLeastRun U from n at
told-some T U us from n at h e o r =
    let q : Some at ≡ first_run (λ i. nat_le from i) n 0 (row U) = rw (same_row T U us h e) at r in
    let s = least-some (row U) from n at o (sym q) in
    record {
      begins = s.begins;
      inside = omega (arith, free-there (row U) (at + n - 1) (s.free (at + n - 1) (omega arith) (omega arith)), length-row U);
      free = s.free;
      none = s.none;
    }

pub told-none : (T U : List ℕ) (us : List Bool) (from n : ℕ) → IsTable T us → T ≡ U → 1 ≤ n → None ≡ first_run (λ i. nat_le from i) n 0 us → (c : ℕ) → from ≤ c → IsFree (row U) c n → ⊥
told-none T U us from n h e o r =
    let q : None ≡ first_run (λ i. nat_le from i) n 0 (row U) = rw (same_row T U us h e) at r in
    least-none (row U) from n o (sym q)

-- no run that begins before a number begins at a multiple
abbrev pub NoneBefore : (align : ℕ) → List ℕ → (n from : ℕ) → Type 0
NoneBefore align T n from = (c : ℕ) → c < from → is_aligned_cell align c ≡ true → IsFree (row T) c n → ⊥

pub none-past : (T : List ℕ) (n c : ℕ) → 1 ≤ n → length T < c + n → IsFree (row T) c n → ⊥
none-past T n c o l f =
    let q = free-there (row T) (c + n - 1) (f (c + n - 1) (omega arith) (omega arith)) in
    omega (arith, q, length-row T)

pub search-none : (align : ℕ) (T : List ℕ) (n from : ℕ) → NoneBefore align T n from → ((c : ℕ) → from ≤ c → IsFree (row T) c n → ⊥) → None ≡ first_run (λ i. is_aligned_cell align i) n 0 (row T)
search-none align T n from h k = sym (first-none (λ i. is_aligned_cell align i) n 0 (row T) (λ c a f. no c a f (cases_lt c from)))
  where
    no : (c : ℕ) → is_aligned_cell align (0 + c) ≡ true → IsFree (row T) c n → (c < from) ⊎ (from ≤ c) → ⊥
    no c a f (inl l) = let z : 0 + c ≡ c = omega arith in h c l (rw z at a) f
    no c a f (inr l) = k c l f

pub search-some : (align : ℕ) (T : List ℕ) (n from at : ℕ) → 1 ≤ n → NoneBefore align T n from → IsLeastRun T from n at → is_aligned_cell align at ≡ true → Some at ≡ first_run (λ i. is_aligned_cell align i) n 0 (row T)
search-some align T n from at o h s a =
    let z : 0 + at ≡ at = omega arith in
    sym (rw z at (first-some (λ i. is_aligned_cell align i) n 0 at (row T) o (rw z a) s.free (λ c l b f. no c l b f (cases_lt c from))))
  where
    no : (c : ℕ) → c < at → is_aligned_cell align (0 + c) ≡ true → IsFree (row T) c n → (c < from) ⊎ (from ≤ c) → ⊥
    no c m b f (inl l) = let z : 0 + c ≡ c = omega arith in h c l (rw z at b) f
    no c m b f (inr l) = s.none c l m f

pub search-next : (align : ℕ) (T : List ℕ) (n from at next : ℕ) → NoneBefore align T n from → IsLeastRun T from n at → is_aligned_cell align at ≡ false → ((c : ℕ) → at < c → c < next → is_aligned_cell align c ≡ false) → NoneBefore align T n next
search-next align T n from at next h s a k = λ c l b f. no c l b f (cases_lt c from) (cases_lt c at) (cases_lt at c)
  where
    no : (c : ℕ) → c < next → is_aligned_cell align c ≡ true → IsFree (row T) c n → (c < from) ⊎ (from ≤ c) → (c < at) ⊎ (at ≤ c) → (at < c) ⊎ (c ≤ at) → ⊥
    no c m b f (inl l) t u = h c l b f
    no c m b f (inr l) (inl t) u = s.none c l t f
    no c m b f (inr l) (inr t) (inl u) = both (k c u m) b
    no c m b f (inr l) (inr t) (inr u) = let e : c ≡ at = omega arith in both a (rw e at b)
