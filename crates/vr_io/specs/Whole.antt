-- What reading and writing of all bytes leaves.
use Rattle.std.specs.Prelude.{◌≡◌, ◌<◌, ◌≤◌, ℕ, List, [], Option, Some, Result, Ok, Err, ⊤, length, take}
use Rattle.vr_io.specs.Edges.{Gave, Took}
use Rattle.vr_io.specs.declared.whole.ReadError.{ReadError}
use Rattle.vr_io.specs.declared.whole.ReadError.TheVariants as error

-- if it is known what the source had left, these bytes are all of it, and nothing is left
pub record GaveAll (old new : Option (List ℕ)) (bytes : List ℕ) : Type 0 where
  pub known : (left : List ℕ) → old ≡ Some left → (left ≡ bytes) × (new ≡ Some [])

-- if it is known what the source had left, a front of it was taken, which may be empty
abbrev pub GaveFront : Option (List ℕ) → Option (List ℕ) → Type 0
GaveFront old new = (taken : List ℕ) × Gave old new taken

-- if it is known what the source had left, more than max bytes of its front were taken
abbrev pub GaveMore : Option (List ℕ) → Option (List ℕ) → ℕ → Type 0
GaveMore old new max = (taken : List ℕ) × (max < length taken) × Gave old new taken

-- if it is known what the sink took, it took a front of these bytes since
abbrev pub TookFront : Option (List ℕ) → Option (List ℕ) → List ℕ → Type 0
TookFront old new bytes = (k : ℕ) × (k ≤ length bytes) × Took old new (take k bytes)

-- what is said of a reading unless the source failed in it
abbrev pub UnlessFault : {A : Type 0} → Result A ReadError → Type 0 → Type 0
UnlessFault (Ok x) P = P
UnlessFault (Err error.ReadFault) P = ⊤
UnlessFault (Err error.TooLong) P = P
UnlessFault (Err error.NoMemory) P = P
