-- Tests of two parts.
use Rattle.std.proofs.Common.{◌≡◌, refl, Bool, true, false, ◌&&◌}

pub and-fst : (a b : Bool) → (a && b) ≡ true → a ≡ true
and-fst true b h = refl
and-fst false b h = cc

pub and-snd : (a b : Bool) → (a && b) ≡ true → b ≡ true
and-snd true b h = h
and-snd false b h = absurd (cc)
