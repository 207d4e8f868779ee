use Rattle.std.proofs.Common.{◌≡◌, ◌∙◌, subst, sym, arith, w64, to_z, of_z}
use Rattle.std.proofs.lemmas.Int.{ints}
use Rattle.vr_model.specs.declared.records.Model.{Model}
use Rattle.vr_model.specs.tables.WellFormed.{IsWellFormed}
use Rattle.vr_routes.specs.Judging.{HasCommitted, IsNoLess}
use Rattle.vr_routes.specs.Runs.{with_last}
use Rattle.vr_known.proofs.PassingLemmas.{told_of_each}
use Rattle.vr_tabu.specs.Rounds.{IsPassedInRound}
use Rattle.vr_tabu.proofs.CandidateLemmas.{no_less_passed}
use Rattle.vr_tabu.proofs.passing.NoBetterSieve.first.Goals as goal

pub returns-in-Some-clause-passed : goal.returns-in-Some-clause-passed
returns-in-Some-clause-passed g c =
    let model = c.args.self.now.model.now in
    let lists = c.args.self.now.routes.now.lists in
    let bound = to_z w64 (of_z w64 c.in-Some.bound) in
    let same : bound ≡ c.in-Some.bound = omega (arith, ints) in
    told_of_each (λ k. IsNoLess (g.J.Judge.model c.args.judge.now) lists (with_last c.args.mv k) bound)
    (λ k. IsPassedInRound model lists c.args.self.now.bound (with_last c.args.mv k))
    (λ k told. subst (λ b. IsPassedInRound model lists b (with_last c.args.mv k)) (sym c.in-Some.is)
    (no_less_passed model lists c.in-Some.bound (with_last c.args.mv k)
    (subst (λ d. IsNoLess model lists (with_last c.args.mv k) d) same
    (subst (λ (m : Model). IsNoLess m lists (with_last c.args.mv k) bound) c.requires.can_ask.judge_model told))))
    c.args.from c.first_below.result c.first_below.ensures.no_less

pub returns-in-Some-clause-can_ask : goal.returns-in-Some-clause-can_ask
returns-in-Some-clause-can_ask g c = record {
  well_formed = c.requires.can_ask.well_formed;
  judge_model = c.first_below.ensures.model ∙ c.requires.can_ask.judge_model;
  holds = let before = c.requires.can_ask.holds in record { committed = c.first_below.ensures.committed; of_model = before.of_model; valid = before.valid };
}

pub first_below-requires-clause-well_formed : goal.first_below-requires-clause-well_formed
first_below-requires-clause-well_formed g c = subst IsWellFormed (sym c.requires.can_ask.judge_model) c.requires.can_ask.well_formed

pub first_below-requires-clause-holds : goal.first_below-requires-clause-holds
first_below-requires-clause-holds g c =
    subst (λ (m : Model). HasCommitted m (g.J.Judge.committed c.args.judge.now) c.args.self.now.routes.now)
    (sym c.requires.can_ask.judge_model) c.requires.can_ask.holds
