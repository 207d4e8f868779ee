use Rattle.std.proofs.Common.{sym, subst}
use Rattle.vr_routes.specs.Changes.{after}
use Rattle.vr_pathfilters.specs.Pairs.{KnowsPairs}
use Rattle.vr_pathfilters.proofs.pairs.PairRuleListRule.commit.Goals as goal

pub commit-requires-clause-knows : goal.commit-requires-clause-knows
commit-requires-clause-knows c = subst (λ m. KnowsPairs m c.args.self.now.tables.turns.listed c.args.routes.now) (sym c.nodes.ensures) c.requires.knows

pub returns-clause-knows : goal.returns-clause-knows
returns-clause-knows c = subst (λ m. KnowsPairs m c.commit.new.self.turns.listed (after c.args.routes.now c.args.change.now)) c.nodes.ensures c.commit.ensures
