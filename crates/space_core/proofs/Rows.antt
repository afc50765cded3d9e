-- Rows of which a run is put.
use Rattle.std.proofs.Common.{ℕ, zero, suc, ◌≡◌, ◌+◌, ◌≤◌, ◌<◌, List, [], ◌∷◌, length, get_or, refl, arith, take, drop, ◌++◌}
use Rattle.std.proofs.Math.Seq.{take-append_seam}
use Rattle.space_core.specs.Runs.{put_run}

pub whole : {A : Type 0} (new old : List A) (n : ℕ) → length new ≡ length old → length old ≡ n → take n (new ++ drop (length new) old) ≡ new
whole new old n a b = let e : n ≡ length new = omega arith in rw e (take-append_seam new (drop (length new) old))

pub put-inside : {A : Type 0} (x d : A) (c n j : ℕ) (ys : List A) → c ≤ j → j < c + n → c + n ≤ length ys → get_or (put_run x c n ys) j d ≡ x
unfolding put_run
put-inside x d zero zero j ys a b l = absurd (omega arith)
put-inside x d zero (suc n) j [] a b l = absurd (omega arith)
put-inside x d zero (suc n) zero (y ∷ ys) a b l = refl
put-inside x d zero (suc n) (suc j) (y ∷ ys) a b l = put-inside x d zero n j ys (omega arith) (omega arith) (omega arith)
put-inside x d (suc c) n j [] a b l = absurd (omega arith)
put-inside x d (suc c) n zero (y ∷ ys) a b l = absurd (omega arith)
put-inside x d (suc c) n (suc j) (y ∷ ys) a b l = put-inside x d c n j ys (omega arith) (omega arith) (omega arith)

pub put-outside : {A : Type 0} (x d : A) (c n j : ℕ) (ys : List A) → (c ≤ j → c + n ≤ j) → get_or (put_run x c n ys) j d ≡ get_or ys j d
unfolding put_run
put-outside x d zero zero j ys h = refl
put-outside x d zero (suc n) j [] h = refl
put-outside x d zero (suc n) zero (y ∷ ys) h = absurd (omega (arith, h (omega arith)))
put-outside x d zero (suc n) (suc j) (y ∷ ys) h = put-outside x d zero n j ys (λ q. omega (arith, h (omega arith)))
put-outside x d (suc c) n j [] h = refl
put-outside x d (suc c) n zero (y ∷ ys) h = refl
put-outside x d (suc c) n (suc j) (y ∷ ys) h = put-outside x d c n j ys (λ q. omega (arith, h (omega arith)))
