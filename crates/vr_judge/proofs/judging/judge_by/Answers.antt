use Rattle.std.proofs.Common.{◌≡◌, ◌∙◌, true, sym, arith, w64, to_z, of_z}
use Rattle.std.specs.Prelude.{◌-ℤ◌}
use Rattle.std.proofs.lemmas.Int.{ints}
use Rattle.vr_model.specs.routes.Costs.{cost}
use Rattle.vr_model.specs.routes.Rules.{is_valid}
use Rattle.vr_model.specs.declared.records.Model.{Model}
use Rattle.vr_model.proofs.routes.CostFits.{costs_are_bounded}
use Rattle.vr_routes.specs.Pieces.{changed}
use Rattle.vr_judge.proofs.CommittedLemmas.{stand_at_valid}
use Rattle.vr_judge.proofs.VerdictLemmas.{differs_by, refused_by}
use Rattle.vr_judge.proofs.judging.judge_by.Goals as goal

pub difference-requires-clause-valid : goal.difference-requires-clause-valid
difference-requires-clause-valid g c = sym c.requires.rule ∙ (sym c.in_ok-passes.ensures.answer ∙ c.if-not-branch.false)

pub returns-then-not-branch-clause-verdict : goal.returns-then-not-branch-clause-verdict
returns-then-not-branch-clause-verdict g c =
    refused_by c.args.costs.now.model c.args.routes.now.lists (changed c.args.routes.now.lists c.args.change.now)
    (sym c.requires.rule ∙ (sym c.in_ok-passes.ensures.answer ∙ c.if-not-branch.true))

pub returns-clause-verdict : goal.returns-clause-verdict
returns-clause-verdict g c =
    let model : Model = c.args.costs.now.model in
    let lists = c.args.routes.now.lists in
    let after = changed lists c.args.change.now in
    let of = stand_at_valid c.requires.costs in
    let valid : is_valid model after ≡ true = sym c.requires.rule ∙ (sym c.in_ok-passes.ensures.answer ∙ c.if-not-branch.false) in
    let exact : c.in_ok-difference.difference ≡ cost model after -ℤ cost model lists = c.in_ok-difference.ensures.exact in
    let old = costs_are_bounded model of.0 lists of.1 in
    let new = costs_are_bounded model of.0 after valid in
    let read : to_z w64 (of_z w64 c.in_ok-difference.difference) ≡ cost model after -ℤ cost model lists =
    omega (arith, ints, exact, old.least, old.greatest, new.least, new.greatest) in
    differs_by model lists after valid (to_z w64 (of_z w64 c.in_ok-difference.difference)) read
