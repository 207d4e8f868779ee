use Rattle.std.proofs.Common.{◌≡◌, take, true}
use Rattle.std.specs.List.{list_all}
use Rattle.vr_model.specs.routes.Rules.{serves_pair}
use Rattle.vr_lists.proofs.pairs.serves_all.Given as goal

abbrev pub invariant-loop-k : goal.invariant-loop-k
invariant-loop-k l = list_all (serves_pair l.list) (take l.k l.closed.model.now.pairs) ≡ true
