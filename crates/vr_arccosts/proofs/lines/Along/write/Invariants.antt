use Rattle.std.proofs.Common.{◌≡◌, ◌<◌, take}
use Rattle.vr_model.specs.tables.Tables.{vehicle_at}
use Rattle.vr_balance.specs.Sums.{last_of}
use Rattle.vr_arccosts.specs.Along.{IsAlongTo}
use Rattle.vr_arccosts.proofs.lines.Along.write.Given as goal

abbrev pub invariant-loop-k : goal.invariant-loop-k
invariant-loop-k l = record {
  sums : IsAlongTo l.model l.v l.list l.k l.self;
  at : l.at ≡ last_of (vehicle_at l.model l.v).start (take l.k l.list);
  known : l.at < l.model.nodes;
}
