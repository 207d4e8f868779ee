use Rattle.std.proofs.Common.{◌≡◌, subst, arith, w64, to_z, of_z}
use Rattle.std.proofs.lemmas.Int.{ints}
use Rattle.vr_model.specs.declared.records.Model.{Model}
use Rattle.vr_routes.specs.Judging.{IsNoLess}
use Rattle.vr_routes.specs.Runs.{with_last}
use Rattle.vr_known.proofs.PassingLemmas.{told_of_each}
use Rattle.vr_judge.proofs.judging.JudgingJudge.first_below.Goals as goal

pub first_below-requires-clause-stands : goal.first_below-requires-clause-stands
first_below-requires-clause-stands g c = c.requires.holds.committed.costs_stand

pub returns-clause-no_less : goal.returns-clause-no_less
returns-clause-no_less g c =
    let self = c.args.self.now in
    let range = c.ranges.bound in
    let bound = to_z w64 (of_z w64 c.args.bound) in
    let read : bound ≡ c.args.bound = omega (arith, ints, range) in
    let lists = c.args.routes.now.lists in
    told_of_each (λ k. IsNoLess self.costs.model lists (with_last c.args.mv k) bound) (λ k. IsNoLess self.model.now lists (with_last c.args.mv k) c.args.bound)
    (λ k told. subst (λ b. IsNoLess self.model.now lists (with_last c.args.mv k) b) read
    (subst (λ (m : Model). IsNoLess m lists (with_last c.args.mv k) bound) c.requires.holds.committed.costs_model told))
    c.args.from c.first_below.result c.first_below.ensures.no_less
