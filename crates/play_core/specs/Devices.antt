-- Devices: what is known of a source and of a sink at a moment, and what was taken and put between two moments.
use Rattle.std.specs.Prelude.{◌≡◌, ℕ, ◌≤◌, ◌<◌, Bool, true, false, List, ◌++◌, length, take, Option}
use Rattle.source_sink.specs.Counts.{Rose}
use Rattle.source_sink.specs.Sinks.{Appends}
use Rattle.source_sink.specs.Sources.{Takes, IsAtEnd}

-- what is known of a sink at a moment
pub record Writing : Type 0 where
  pub holds : Option (List ℕ)
  pub faults : ℕ

abbrev pub writing : {K : Type 0} → (holds : K → Option (List ℕ)) (faults : K → ℕ) → K → Writing
writing holds faults sink = record { holds = holds sink; faults = faults sink }

-- what is known of a source at a moment
pub record Reading : Type 0 where
  pub left : Option (List ℕ)
  pub faults : ℕ
  pub finished : Bool

abbrev pub reading : {S : Type 0} → (left : S → Option (List ℕ)) (faults : S → ℕ) (finished : S → Bool) → S → Reading
reading left faults finished source = record { left = left source; faults = faults source; finished = finished source }

-- all of the text was put
pub record PutsAll (old new : Writing) (text : List ℕ) : Type 0 where
  pub appended : Appends old.holds new.holds text
  pub counted : new.faults ≡ old.faults

-- the sink failed after this text
pub record Fails (old new : Writing) (text : List ℕ) : Type 0 where
  pub appended : Appends old.holds new.holds text
  pub later : old.faults ≤ new.faults
  pub rose : Rose old.faults new.faults

-- the sink failed within the text
abbrev pub PutsPart : (old new : Writing) (text : List ℕ) → Type 0
PutsPart old new text = (count : ℕ) × (count < length text) × Fails old new (take count text)

-- the sink failed within the text, or behind all of it
abbrev pub PutsUpTo : (old new : Writing) (text : List ℕ) → Type 0
PutsUpTo old new text = (count : ℕ) × (count ≤ length text) × Fails old new (take count text)

-- these bytes were taken, with no fault, and nothing is left if that was all
pub record Took (old new : Reading) (bytes : List ℕ) : Type 0 where
  pub taken : Takes old.left new.left bytes
  pub counted : new.faults ≡ old.faults
  pub at_end : new.finished ≡ true → IsAtEnd new.left

-- these bytes were taken, and then the source failed
pub record ReadFails (old new : Reading) (bytes : List ℕ) : Type 0 where
  pub taken : Takes old.left new.left bytes
  pub finished : new.finished ≡ true
  pub later : old.faults ≤ new.faults
  pub rose : Rose old.faults new.faults

-- what the whole input may be, by whether these bytes were all of it
abbrev pub MayBe : (ended : Bool) (bytes input : List ℕ) → Type 0
MayBe true bytes input = input ≡ bytes
MayBe false bytes input = (rest : List ℕ) × (input ≡ bytes ++ rest)
