-- How calls of a source or a sink in memory go, if it fails at the calls that it names.
use Rattle.std.specs.Prelude.{ℕ, List, Bool, ◌++◌, ◌-◌, ◌&&◌, ◌||◌, nat_eq, nat_lt, length, take, min, if◌then◌else◌}
use Rattle.std.specs.List.{list_any}
use Rattle.vr_io.specs.Edges.{risen}

-- the most bytes of one call, the numbers of the calls that fail, how many calls there were, and how many failed
pub record Script : Type 0 where
  pub piece : ℕ
  pub fails : List ℕ
  pub calls : ℕ
  pub failed : ℕ

-- before the first call
abbrev pub unused : ℕ → List ℕ → Script
unused piece fails = record { piece = piece; fails = fails; calls = 0; failed = 0 }

-- whether the next call is one of those that fail
abbrev pub fails_next : Script → Bool
fails_next script = list_any (λ call. nat_eq call script.calls) script.fails

-- after one more call
abbrev pub after_call : Bool → Script → Script
after_call failed script = record {
  piece = script.piece;
  fails = script.fails;
  calls = risen script.calls;
  failed = if failed then risen script.failed else script.failed;
}

-- a source: the bytes still to come
pub record Giving : Type 0 where
  pub left : List ℕ
  pub script : Script

-- a sink: the bytes taken, and for how many there is room in all
pub record Taking : Type 0 where
  pub bytes : List ℕ
  pub room : ℕ
  pub script : Script

-- how many bytes the sink would take of a piece of this length
abbrev pub to_take : Taking → ℕ → ℕ
to_take sink len = min sink.script.piece len

-- Whether a write of a piece of this length fails. An empty piece never fails. Another fails if its call is to fail, or
-- if less room is left than for what the sink would take.
abbrev pub refuses : Taking → ℕ → Bool
refuses sink len = nat_lt 0 len && (fails_next sink.script || nat_lt (sink.room - length sink.bytes) (to_take sink len))

-- after a write of this piece
abbrev pub writing : List ℕ → Taking → Taking
writing piece sink = record {
  bytes = if refuses sink (length piece) then sink.bytes else sink.bytes ++ take (to_take sink (length piece)) piece;
  room = sink.room;
  script = after_call (refuses sink (length piece)) sink.script;
}
