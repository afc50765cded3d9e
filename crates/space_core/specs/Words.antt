-- Words: numbers of eight bytes in a Space's bytes, lowest byte first, and bytes that are written there.
use Rattle.std.specs.Prelude.{ℕ, ◌+◌, ◌≡◌, ◌≤◌, ◌<◌, Bool, List, [], ◌∷◌, length, get_or, slice_range, nat_le}
use Rattle.std.specs.Int.{from_le_bytes, to_le_bytes, w64}
use Rattle.std.proofs.Math.ListN.{set}
use Rattle.space_core.specs.Runs.{put_run}

-- the word at a place
abbrev pub word_at : List ℕ → ℕ → ℕ
word_at bytes p = from_le_bytes w64 (slice_range bytes p (p + 8))

-- the bytes with a list written from p on
abbrev pub write_from : List ℕ → ℕ → List ℕ → List ℕ
write_from bytes p [] = bytes
write_from bytes p (x ∷ xs) = write_from (set bytes p x) (p + 1) xs

-- the bytes with the word at p changed
unfoldable pub put_word : List ℕ → (place n : ℕ) → List ℕ
put_word bytes p n = write_from bytes p (to_le_bytes w64 n)

-- the bytes with n of them, from a place on, made the same value
abbrev pub filled : List ℕ → (place n value : ℕ) → List ℕ
filled bytes p n value = put_run value p n bytes

-- so many bytes stand at the place
abbrev pub has_bytes : List ℕ → (place n : ℕ) → Bool
has_bytes bytes p n = nat_le (p + n) (length bytes)

-- the word at a place is there, and is n
pub record IsWordAt (bytes : List ℕ) (place n : ℕ) : Type 0 where
  pub inside : place + 8 ≤ length bytes
  pub value : word_at bytes place ≡ n

-- the n bytes from a place on stand at another one, and no other byte changes
pub record IsCopied (old new : List ℕ) (source target n : ℕ) : Type 0 where
  pub size : length new ≡ length old
  pub there : (i : ℕ) → i < n → get_or new (target + i) 0 ≡ get_or old (source + i) 0
  pub below : (i : ℕ) → i < target → get_or new i 0 ≡ get_or old i 0
  pub above : (i : ℕ) → target + n ≤ i → get_or new i 0 ≡ get_or old i 0
