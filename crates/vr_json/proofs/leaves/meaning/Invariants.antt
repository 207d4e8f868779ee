use Rattle.std.proofs.Common.{◌≡◌, find, map, drop}
use Rattle.std.specs.Str.{bytes_eq}
use Rattle.vr_json.specs.Kinds.{named}
use Rattle.vr_json.proofs.leaves.meaning.Given as goal

abbrev pub invariant-loop-word : goal.invariant-loop-word
invariant-loop-word g l = find (λ w. bytes_eq w.0 l.text) (map named (drop l.word-index l.words)) ≡ find (λ w. bytes_eq w.0 l.text) (map named l.words)
