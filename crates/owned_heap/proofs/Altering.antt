-- Altering: what a call of a closure did, at the same bytes under other names.
use Rattle.std.proofs.Common.{◌≡◌, ℕ, List}
use Rattle.std.specs.Borrow.{MutBor}
use Rattle.std.specs.Fn.{Once, FnOnceReturnsAtMut}

pub called-at : {F : Type 0} (once : Once F (MutBor (List ℕ) × Unit {0}) (Unit {0} × (MutBor (List ℕ) × Unit {0}))) (change : F) (x x' y y' : List ℕ) → x ≡ x' → y ≡ y'
    → FnOnceReturnsAtMut once change x' tt y' → FnOnceReturnsAtMut once change x tt y
called-at once change x x' y y' e f called = rw (e, f) called
