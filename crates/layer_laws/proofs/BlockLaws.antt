-- How two blocks lie, byte by byte.
use Rattle.std.proofs.Common.{◌≡◌, sym, ◌∙◌, ℕ, ◌-◌, ◌<◌, ◌≤◌, ◌⊎◌, ⊎_elim, true, false, max, arith}
use Rattle.std.proofs.lemmas.Bool.{cases_lt, false≢true}
use Rattle.std.proofs.lemmas.Bool.Decides.{nat_tests}
use Rattle.layer_rules.specs.declared.Block.{Block}
use Rattle.layer_rules.specs.Blocks.{end_of, has_place, lies_in, is_apart}
use Rattle.layer_laws.specs.BlockMeanings.{LiesInByBytes, ApartByBytes}

byte_in : (b : Block) (k : ℕ) → b.place ≤ k → k < end_of b → has_place b k ≡ true
byte_in b k h l = grind (arith, nat_tests)

byte_from : (b : Block) (k : ℕ) → has_place b k ≡ true → (b.place ≤ k) × (k < end_of b)
byte_from b k h = (grind (arith, nat_tests), grind (arith, nat_tests))

pub inside-of : (b outer : Block) → outer.place ≤ b.place → end_of b ≤ end_of outer → lies_in b outer ≡ true
inside-of b outer h l = grind (arith, nat_tests)

pub lies_from : (b outer : Block) → lies_in b outer ≡ true → (outer.place ≤ b.place) × (end_of b ≤ end_of outer)
lies_from b outer h = (grind (arith, nat_tests), grind (arith, nat_tests))

pub lies_in_by_bytes : LiesInByBytes
lies_in_by_bytes b outer h = (
  λ t k i. let w = lies_from b outer t in let p = byte_from b k i in byte_in outer k (omega arith) (omega arith),
  λ f.
      let low = byte_from outer b.place (f b.place (byte_in b b.place (omega arith) (omega arith))) in
      let high = byte_from outer (end_of b - 1) (f (end_of b - 1) (byte_in b (end_of b - 1) (omega arith) (omega arith))) in
      inside-of b outer (omega arith) (omega arith),
)

not_in : (c : Block) (k : ℕ) → (c.place ≤ k → k < end_of c → ⊥) → has_place c k ≡ false
not_in c k h = grind (arith, nat_tests)

apart_before : (b c : Block) → end_of b ≤ c.place → is_apart b c ≡ true
apart_before b c h = grind (arith, nat_tests)

apart_behind : (b c : Block) → end_of c ≤ b.place → is_apart b c ≡ true
apart_behind b c h = grind (arith, nat_tests)

pub apart_from : (b c : Block) → is_apart b c ≡ true → (end_of b ≤ c.place) ⊎ (end_of c ≤ b.place)
apart_from b c h = grind (arith, nat_tests)

pub apart_by_bytes : ApartByBytes
apart_by_bytes b c h l = (
  λ t k i. let p = byte_from b k i in let w = apart_from b c t in not_in c k (λ m n. ⊎_elim (λ o. absurd (omega arith)) (λ o. absurd (omega arith)) w),
  λ f. ⊎_elim
      (λ m. ⊎_elim
      (λ n.
      let k = max b.place c.place in
      let one = byte_in b k (omega arith) (omega arith) in
      let other = byte_in c k (omega arith) (omega arith) in
      absurd (false≢true (sym (f k one) ∙ other)))
      (λ n. apart_behind b c n)
      (cases_lt b.place (end_of c)))
      (λ m. apart_before b c m)
      (cases_lt c.place (end_of b)),
)
