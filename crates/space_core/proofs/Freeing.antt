-- The cells that have a tag, made free run by run.
use Rattle.std.proofs.Common.{ℕ, ◌≡◌, ◌≢◌, ◌+◌, ◌-◌, ◌≤◌, ◌<◌, List, length, get_or, map, nat_eq, cond, refl, sym, ◌∙◌, ◌⊎◌, inl, inr, arith}
use Rattle.std.proofs.lemmas.Bool.{cases_lt}
use Rattle.std.proofs.lemmas.Bool.Decides.{nat_tests}
use Rattle.std.proofs.lemmas.List.{ext_get_or, get_or-map, get_or_past, length-map}
use Rattle.space_core.proofs.CellRuns.{length-put_run}
use Rattle.space_core.specs.Runs.{put_run}
use Rattle.space_core.proofs.Rows.{put-inside, put-outside}

abbrev pub freed : (tag t : ℕ) → ℕ
freed tag t = cond (nat_eq t tag) 0 t

-- the cells before a number are freed, and the others are as they were
pub record IsFreed (tag from : ℕ) (old new : List ℕ) : Type 0 where
  pub size : length new ≡ length old
  pub done : (p : ℕ) → p < from → get_or new p 0 ≡ freed tag (get_or old p 0)
  pub left : (p : ℕ) → from ≤ p → get_or new p 0 ≡ get_or old p 0

pub freed-none : (tag : ℕ) (old : List ℕ) → IsFreed tag 0 old old
freed-none tag old = record { size = refl; done = λ p l. absurd (omega arith); left = λ p l. refl }

freed_tag : (tag t : ℕ) → t ≡ tag → freed tag t ≡ 0
freed_tag tag t e = grind (arith, nat_tests)

freed_other : (tag t : ℕ) → t ≢ tag → freed tag t ≡ t
freed_other tag t e = grind (arith, nat_tests)

freed_zero : (tag t : ℕ) → t ≡ 0 → freed tag t ≡ t
freed_zero tag t e = grind (arith, nat_tests)

pub freed-more : (tag from end : ℕ) (old new : List ℕ) → IsFreed tag from old new → from ≤ end → end ≤ length new → ((p : ℕ) → from ≤ p → p < end → get_or new p 0 ≡ tag) → (end < length new → get_or new end 0 ≢ tag) → IsFreed tag (end + 1) old (put_run 0 from (end - from) new)
freed-more tag from end old new h a b has ends = record {
  size = length-put_run 0 from (end - from) new ∙ h.size;
  done = λ p l. done p l (cases_lt p from) (cases_lt p end);
  left = λ p l. out p (λ q. omega arith) ∙ h.left p (omega arith);
}
  where
    out : (p : ℕ) → (from ≤ p → from + (end - from) ≤ p) → get_or (put_run 0 from (end - from) new) p 0 ≡ get_or new p 0
    out p q = put-outside 0 0 from (end - from) p new q

    last : (p : ℕ) → p ≡ end → (end < length new) ⊎ (length new ≤ end) → freed tag (get_or old p 0) ≡ get_or old p 0
    last p e (inl s) =
        let q : get_or old p 0 ≡ get_or new end 0 = rw e (sym (h.left end a)) in
        freed_other tag (get_or old p 0) (rw q (ends s))
    last p e (inr s) = freed_zero tag (get_or old p 0) (get_or_past old p 0 (omega (arith, h.size)))

    done : (p : ℕ) → p < end + 1 → (p < from) ⊎ (from ≤ p) → (p < end) ⊎ (end ≤ p) → get_or (put_run 0 from (end - from) new) p 0 ≡ freed tag (get_or old p 0)
    done p l (inl s) t = out p (λ q. absurd (omega arith)) ∙ h.done p s
    done p l (inr s) (inl t) =
        let z : get_or old p 0 ≡ tag = sym (h.left p s) ∙ has p s t in
        put-inside 0 0 from (end - from) p new s (omega arith) (omega arith) ∙ sym (freed_tag tag (get_or old p 0) z)
    done p l (inr s) (inr t) =
        let e : p ≡ end = omega arith in
        out p (λ q. omega arith) ∙ (h.left p s ∙ sym (last p e (cases_lt end (length new))))

pub freed-all : (tag from : ℕ) (old new : List ℕ) → IsFreed tag from old new → length old ≤ from → new ≡ map (λ t. freed tag t) old
freed-all tag from old new h l =
    ext_get_or 0 new (map (λ t. freed tag t) old) (h.size ∙ sym (length-map old (λ t. freed tag t))) (λ i q. h.done i (omega (arith, h.size)) ∙ sym (get_or-map (λ t. freed tag t) old i 0 0 (omega (arith, h.size))))
