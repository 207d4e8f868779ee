use Rattle.std.proofs.Common.{arith}
use Rattle.std.proofs.lemmas.Int.{ints}
use Rattle.vr_json.proofs.Readings.{answered, whole_ensures}
use Rattle.vr_given.proofs.wishes.NaturalReader.read.Goals as goal

pub overflow_cast-result : goal.overflow_cast-result
overflow_cast-result c = let range = answered (whole_ensures _ _ _ _) c.in_ok-number.ensures in omega (arith, ints, range.at_least, range.at_most)
