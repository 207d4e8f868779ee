use Rattle.std.proofs.Common.{◌∙◌, ap, sym, subst}
use Rattle.std.specs.Prelude.{IsTrue}
use Rattle.vr_lists.specs.Pairs.{keeps_pairs}
use Rattle.vr_routes.specs.Pieces.{joined, part_at}
use Rattle.vr_pathfilters.specs.Lists.{holds_of_each}
use Rattle.vr_pathfilters.specs.Pairs.{KnowsPairs}
use Rattle.vr_pathfilters.proofs.pairs.PairRuleListRule.keeps.Goals as goal

pub keeps-requires-clause-knows : goal.keeps-requires-clause-knows
keeps-requires-clause-knows c = subst (λ m. KnowsPairs m c.args.self.now.tables.turns.listed c.args.routes.now) (sym c.nodes.ensures) c.requires.knows

pub keeps-requires-clause-before : goal.keeps-requires-clause-before
keeps-requires-clause-before c = subst (λ m. IsTrue (holds_of_each (keeps_pairs m) c.args.routes.now.lists)) (sym c.nodes.ensures) c.requires.before

pub returns-clause-answer : goal.returns-clause-answer
returns-clause-answer c =
    let part = part_at c.args.change.now c.args.k in
    c.keeps.ensures.answer ∙ ap (λ m. keeps_pairs m part.vehicle (joined c.args.routes.now.lists part.pieces)) c.nodes.ensures

pub returns-clause-knows : goal.returns-clause-knows
returns-clause-knows c = λ tours known. subst (λ listed. KnowsPairs c.args.self.now.lookups.closed.model.now listed tours) (sym c.keeps.ensures.listed) known
