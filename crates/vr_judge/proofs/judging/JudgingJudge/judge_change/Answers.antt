use Rattle.std.proofs.Common.{◌∙◌, refl, sym, ap}
use Rattle.std.proofs.lemmas.Result.{IfOk-weaker}
use Rattle.vr_model.specs.routes.Rules.{is_valid}
use Rattle.vr_model.specs.declared.records.Model.{Model}
use Rattle.vr_routes.specs.Pieces.{changed}
use Rattle.vr_judge.specs.Verdicts.{verdict_by}
use Rattle.vr_judge.proofs.CommittedLemmas.{holds_as_valid, stands_on}
use Rattle.vr_judge.proofs.VerdictLemmas.{as_move}
use Rattle.vr_judge.proofs.judging.JudgingJudge.judge_change.Goals as goal

pub judge_by-requires-clause-filter : goal.judge_by-requires-clause-filter
judge_by-requires-clause-filter g c = c.requires.holds.committed.filters

pub judge_by-requires-clause-costs : goal.judge_by-requires-clause-costs
judge_by-requires-clause-costs g c = c.requires.holds.committed.costs_stand

pub judge_by-requires-clause-rule : goal.judge_by-requires-clause-rule
judge_by-requires-clause-rule g c =
    let after = changed c.args.routes.now.lists c.args.change.now in
    holds_as_valid c.requires.holds.committed c.requires.holds.valid c.requires.well_formed c.args._mv c.requires.mv after c.requires.change.lists_are
    ∙ ap (λ m. is_valid m after) (sym c.requires.holds.committed.costs_model)

pub returns-clause-verdict : goal.returns-clause-verdict
returns-clause-verdict g c =
    let lists = c.args.routes.now.lists in
    let after = changed lists c.args.change.now in
    IfOk-weaker c.judge_by.result _ _ (λ verdict is. is ∙ (ap (λ (m : Model). verdict_by m lists after) c.requires.holds.committed.costs_model
    ∙ as_move c.args.self.now.model.now lists after c.args._mv c.requires.change.lists_are)) c.judge_by.ensures.verdict

pub returns-clause-committed : goal.returns-clause-committed
returns-clause-committed g c =
    stands_on c.requires.holds.committed refl refl c.judge_by.ensures.same_rule c.judge_by.ensures.same_weight
    c.judge_by.ensures.filter c.judge_by.ensures.model c.judge_by.ensures.costs
