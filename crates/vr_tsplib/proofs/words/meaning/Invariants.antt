use Rattle.std.proofs.Common.{◌≡◌, find, map, drop}
use Rattle.std.specs.Str.{bytes_eq}
use Rattle.vr_json.specs.Kinds.{named}
use Rattle.vr_tsplib.proofs.words.meaning.Given as goal

abbrev pub invariant-loop-name : goal.invariant-loop-name
invariant-loop-name g l = find (λ w. bytes_eq w.0 l.word) (map named (drop l.name-index l.table)) ≡ find (λ w. bytes_eq w.0 l.word) (map named l.table)
