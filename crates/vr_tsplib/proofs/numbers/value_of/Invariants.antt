use Rattle.std.proofs.Common.{◌≡◌, ◌^◌, ◌<◌, drop}
use Rattle.vr_tsplib.specs.Numbers.{digits_behind}
use Rattle.vr_tsplib.proofs.numbers.value_of.Given as goal

abbrev pub invariant-loop-b : goal.invariant-loop-b
invariant-loop-b l = record {
  so_far : digits_behind l.value (drop l.b-index l.text) ≡ digits_behind 0 l.text;
  small : l.value < 10 ^ l.b-index;
}
