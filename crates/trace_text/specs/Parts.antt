-- Parts: what the fields of a call's line say, in order. Lines are printed by them, and which lines say a call is told by them.
use Rattle.std.specs.Prelude.{ℕ, List, [], ◌∷◌}
use Rattle.heap_core.specs.declared.Call.{Call}
use Rattle.heap_core.specs.declared.Call.TheVariants.{Allocate, Aligned, Expand, Reallocate, Free, FreeAll, Owns, OwnsAt, Good, Write, Read}

-- what one field says; a count is one of bytes that are read
pub data Part : Type 0 where
  letter : ℕ → Part
  name : ℕ → Part
  number : ℕ → Part
  alignment : ℕ → Part
  count : ℕ → Part
  path : List ℕ → Part
  octets : List ℕ → Part

-- the parts of a call; the letters are a, l, e, r, f, z, o, p, g, w and d
abbrev pub parts_of : Call → List Part
parts_of (Allocate n size) = letter 97 ∷ name n ∷ number size ∷ []
parts_of (Aligned n size align) = letter 108 ∷ name n ∷ number size ∷ alignment align ∷ []
parts_of (Expand n delta) = letter 101 ∷ name n ∷ number delta ∷ []
parts_of (Reallocate n size) = letter 114 ∷ name n ∷ number size ∷ []
parts_of (Free n) = letter 102 ∷ name n ∷ []
parts_of FreeAll = letter 122 ∷ []
parts_of (Owns n) = letter 111 ∷ name n ∷ []
parts_of (OwnsAt n steps) = letter 112 ∷ name n ∷ path steps ∷ []
parts_of (Good size) = letter 103 ∷ number size ∷ []
parts_of (Write n offset bytes) = letter 119 ∷ name n ∷ number offset ∷ octets bytes ∷ []
parts_of (Read n offset len) = letter 100 ∷ name n ∷ number offset ∷ count len ∷ []
