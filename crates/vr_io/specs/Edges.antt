-- What a source gives and a sink takes in one call, and the count of faults.
use Rattle.std.specs.Prelude.{◌≡◌, ◌⊎◌, ◌↔◌, ◌<◌, ◌≤◌, ◌^◌, ◌+◌, ◌-◌, ◌++◌, ℕ, List, [], Option, Some, min, length}
use Rattle.std.specs.Prelude.{take}
use Rattle.std.specs.Io.KnownBytes.{Appends}

-- the count of faults rose in a call, or is at the last value of its counter
abbrev pub Rose : ℕ → ℕ → Type 0
Rose old new = (old < new) ⊎ (new ≡ 2 ^ 64 - 1)

-- one more on a counter of 64 bits, which stays at its last value
abbrev pub risen : ℕ → ℕ
risen count = min (count + 1) (2 ^ 64 - 1)

-- if it is known what the source had left, these bytes were at its front, and the rest is left
pub record Gave (old new : Option (List ℕ)) (piece : List ℕ) : Type 0 where
  pub known : (bytes : List ℕ) → old ≡ Some bytes → (rest : List ℕ) × (bytes ≡ piece ++ rest) × (new ≡ Some rest)

-- if it is known what the source had left and there was room, it gave no byte exactly if none was left
pub record EndsAtEnd (old : Option (List ℕ)) (room given : ℕ) : Type 0 where
  pub known : (bytes : List ℕ) → old ≡ Some bytes → 0 < room → (given ≡ 0) ↔ (bytes ≡ [])

-- if it is known what the sink took, it was known before, and these bytes were taken since
pub record Took (old new : Option (List ℕ)) (piece : List ℕ) : Type 0 where
  pub known : (after : List ℕ) → new ≡ Some after → (before : List ℕ) × (old ≡ Some before) × (after ≡ before ++ piece)

-- the bytes that a writer is known to hold grew by a front of this piece, which may be empty
abbrev pub AppendsFront : Option (List ℕ) → Option (List ℕ) → List ℕ → Type 0
AppendsFront old new piece = (k : ℕ) × (k ≤ length piece) × Appends old new (take k piece)
