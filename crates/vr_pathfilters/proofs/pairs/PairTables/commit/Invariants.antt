use Rattle.vr_pathfilters.proofs.TurnLemmas.{IsCountedUpTo}
use Rattle.vr_pathfilters.proofs.pairs.PairTables.commit.Given as goal

-- the lists of the parts so far are counted
abbrev pub invariant-loop-k : goal.invariant-loop-k
invariant-loop-k l = IsCountedUpTo l.node_tables l.routes.lists l.change l.k l.self.turns.listed
