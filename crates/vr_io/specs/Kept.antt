-- What a sink in memory holds that never fails.
use Rattle.std.specs.Prelude.{ℕ, List, Bool, Option, Some, None, ◌++◌, ◌+◌, ◌||◌, nat_lt, length, take, if◌then◌else◌}

-- the bytes that had room, the room, and whether bytes had none
pub record Kept : Type 0 where
  pub bytes : List ℕ
  pub room : ℕ
  pub lost : Bool

-- all bytes taken, as long as all had room
abbrev pub known_bytes : Kept → Option (List ℕ)
known_bytes kept = if kept.lost then None else Some kept.bytes

-- after a piece was taken: it is kept as far as there is room
abbrev pub keeping : List ℕ → Kept → Kept
keeping piece kept = record {
  bytes = take kept.room (kept.bytes ++ piece);
  room = kept.room;
  lost = kept.lost || nat_lt kept.room (length kept.bytes + length piece);
}
