use Rattle.std.proofs.Common.{[], length, sym, ap, ◌∙◌, arith}
use Rattle.std.proofs.lemmas.List.{get_or_default}
use Rattle.vr_model.specs.routes.Rules.{keeps_policy}
use Rattle.vr_check.specs.Findings.{spot_of_vehicle}
use Rattle.vr_check.specs.Pairs.{policy_broken_in}
use Rattle.vr_check.proofs.Firsts.{finds, goes_on, right, not_right}
use Rattle.vr_check.proofs.pairs.wrong_policy.Goals as goal

pub keeps_policy-requires : goal.keeps_policy-requires
keeps_policy-requires c = omega (arith, c.loop-v-test.true, c.requires)

pub loop-v-preserved : goal.loop-v-preserved
loop-v-preserved c =
    let model = c.args.closed.model.now in
    let lists = c.args.lists.now in
    let list = c.as_slice.ensures ∙ (c.index-lists-v.is ∙ get_or_default lists c.loop-v.v c.index-lists-v.result [] c.loop-v-test.true) in
    goes_on (policy_broken_in model lists) (length lists) c.loop-v.v c.loop-v.invariant c.loop-v-test.true
    (right (spot_of_vehicle c.loop-v.v) (sym (c.in_ok-keeps_policy.ensures ∙ ap (keeps_policy model c.loop-v.v) list) ∙ c.if-not-branch.false))

pub returns-then-not-branch : goal.returns-then-not-branch
returns-then-not-branch c =
    let model = c.args.closed.model.now in
    let lists = c.args.lists.now in
    let list = c.as_slice.ensures ∙ (c.index-lists-v.is ∙ get_or_default lists c.loop-v.v c.index-lists-v.result [] c.loop-v-test.true) in
    finds (policy_broken_in model lists) (length lists) c.loop-v.v c.loop-v.invariant c.loop-v-test.true
    (not_right (sym (c.in_ok-keeps_policy.ensures ∙ ap (keeps_policy model c.loop-v.v) list) ∙ c.if-not-branch.true) c.of_vehicle.ensures)
