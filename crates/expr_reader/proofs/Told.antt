-- The flaw that is told of several.
use Rattle.std.proofs.Common.{◌≡◌, ℕ, Bool, true, false, cond, List, [], ◌∷◌, ◌++◌, ◌+◌, drop, Option, Some, None, refl, sym, ◌∙◌, ap, arith}
use Rattle.std.specs.Prelude.{nat_lt, ◌==◌}
use Rattle.std.proofs.lemmas.Bool.Decides.{nat_tests}
use Rattle.expr_reader.specs.declared.fault.ExprFault.{ExprFault}
use Rattle.expr_reader.specs.declared.token.Name.{Name}
use Rattle.expr_reader.specs.Trees.{Tree, node, Args, layer}
use Rattle.expr_reader.specs.Flaws.{heads, gives, layer_flaws, flaws, flaws_in, size, fault_place, fault_rank, goes_before, with_first, first_told, first_of_two}

-- ---- flaws of parts, one after another

before : (p r q s : ℕ) → Bool
before p r q s = cond (p == q) (nat_lt r s) (nat_lt p q)

before-trans : (p r q s u v : ℕ) → before p r q s ≡ true → before q s u v ≡ true → before p r u v ≡ true
unfolding before
before-trans p r q s u v e h = grind (arith, nat_tests)

before-not : (p r q s u v : ℕ) → before p r q s ≡ false → before q s u v ≡ false → before p r u v ≡ false
unfolding before
before-not p r q s u v e h = grind (arith, nat_tests)

first_by : (f g h : ExprFault) (a b c : Bool) → goes_before h g ≡ a → goes_before g f ≡ b → goes_before h f ≡ c
    → first_of_two (Some f) (first_of_two (Some g) (Some h)) ≡ first_of_two (first_of_two (Some f) (Some g)) (Some h)
unfolding before
first_by f g h true true true ea eb ec = rw (ea, eb, ec, ea) refl
first_by f g h true true false ea eb ec =
    let e = before-trans (fault_place h) (fault_rank h) (fault_place g) (fault_rank g) (fault_place f) (fault_rank f) ea eb in absurd (differ (goes_before h f) e ec)
  where
    differ : (b : Bool) → b ≡ true → b ≡ false → ⊥
    differ b e h = absurd cc
first_by f g h true false c ea eb ec = rw (ea, eb) refl
first_by f g h false true c ea eb ec = rw (ea, eb, ea) refl
first_by f g h false false false ea eb ec = rw (ea, eb, ec) refl
first_by f g h false false true ea eb ec =
    let e = before-not (fault_place h) (fault_rank h) (fault_place g) (fault_rank g) (fault_place f) (fault_rank f) ea eb in absurd (differ (goes_before h f) ec e)
  where
    differ : (b : Bool) → b ≡ true → b ≡ false → ⊥
    differ b e h = absurd cc

one_or : (b : Bool) (f g : ExprFault) → (let o : Option ExprFault = cond b (Some g) (Some f) in o ≡ first_of_two o None)
one_or true f g = refl
one_or false f g = refl

first_assoc : (f : ExprFault) (o p : Option ExprFault) → first_of_two (Some f) (first_of_two o p) ≡ first_of_two (first_of_two (Some f) o) p
first_assoc f None p = refl
first_assoc f (Some g) None = one_or (goes_before g f) f g
first_assoc f (Some g) (Some h) = first_by f g h (goes_before h g) (goes_before g f) (goes_before h f) refl refl refl

pub first_told-append : (fs gs : List ExprFault) → first_told (fs ++ gs) ≡ first_of_two (first_told fs) (first_told gs)
first_told-append [] gs = refl
first_told-append (f ∷ fs) gs = ap (first_of_two (Some f)) (first_told-append fs gs) ∙ first_assoc f (first_told fs) (first_told gs)

pub first_told-with : (o : Option ExprFault) (fs : List ExprFault) → first_told (with_first o fs) ≡ first_of_two o (first_told fs)
first_told-with None fs = refl
first_told-with (Some f) fs = refl

pub ruleset told = (first_told-append, first_told-with)

-- the flaw of a layer is its own or one below it
pub layer_told : (given given' : Option ℕ) (at : ℕ) (k : Name) (args : Args) (ps rest : List ℕ) (own below : Option ExprFault) → rest ≡ drop 2 ps → given' ≡ gives k (heads args)
    → own ≡ first_told (layer_flaws given k args rest) → below ≡ first_told (flaws_in given' args rest) → first_of_two own below ≡ first_told (flaws given (node at k args) ps)
layer_told given given' at k args ps rest own below is gave h g =
    (λ i. first_of_two (h i) (g i)) ∙ (λ i. first_of_two (first_told (layer_flaws given k args (is i))) (first_told (flaws_in (gave i) args (is i))))
    ∙ sym (first_told-append (layer_flaws given k args (drop 2 ps)) (flaws_in (gives k (heads args)) args (drop 2 ps)))

-- the flaw of several layers is one of the first or of the others
pub layers_told : (given : Option ℕ) (e : Tree) (args : Args) (ps rest : List ℕ) (n : ℕ) (first others : Option ExprFault) → n ≡ size e → rest ≡ drop (n + 1) ps
    → first ≡ first_told (flaws given e ps) → others ≡ first_told (flaws_in given args rest) → first_of_two first others ≡ first_told (flaws_in given (layer e args) ps)
layers_told given e args ps rest n first others size-is is h g =
    (λ i. first_of_two (h i) (g i)) ∙ ap (λ r. first_of_two (first_told (flaws given e ps)) (first_told (flaws_in given args r))) (is ∙ ap (λ m. drop (m + 1) ps) size-is)
    ∙ sym (first_told-append (flaws given e ps) (flaws_in given args (drop (size e + 1) ps)))
