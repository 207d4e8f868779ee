use Rattle.std.proofs.Common.{◌<◌, ℕ}
use Rattle.std.specs.Prelude.{IsTrue}
use Rattle.vr_model.specs.routes.Routes.{route}
use Rattle.vr_pathfilters.specs.Counted.{AreCounted}
use Rattle.vr_pathfilters.specs.Pairs.{asks_turns_of}
use Rattle.vr_pathfilters.proofs.pairs.count_all.Given as goal

-- the lists of the vehicles so far are counted
abbrev pub invariant-loop-v : goal.invariant-loop-v
invariant-loop-v l = (w : ℕ) → w < l.v → IsTrue (asks_turns_of l.node_tables w) → AreCounted l.node_tables (route l.routes.lists w) l.turns.listed
