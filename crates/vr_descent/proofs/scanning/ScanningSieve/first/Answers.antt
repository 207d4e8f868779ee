use Rattle.std.proofs.Common.{◌≡◌, ◌∙◌, rules, subst, sym, w64, to_z, of_z}
use Rattle.std.specs.Prelude.{IfSome}
use Rattle.vr_model.specs.declared.records.Model.{Model}
use Rattle.vr_model.specs.tables.WellFormed.{IsWellFormed}
use Rattle.vr_routes.specs.Judging.{HasCommitted, IsNoLess}
use Rattle.vr_routes.specs.Runs.{with_last}
use Rattle.vr_known.proofs.PassingLemmas.{told_of_each}
use Rattle.vr_descent.specs.Refused.{IsPassed}
use Rattle.vr_descent.specs.Scanned.{IsEnough}
use Rattle.vr_descent.proofs.TakenLemmas.{run_refused}
use Rattle.vr_descent.proofs.scanning.ScanningSieve.first.Goals as goal

pub returns-in-Some-clause-passed : goal.returns-in-Some-clause-passed
returns-in-Some-clause-passed g c =
    let self = c.args.self.now in
    let model = g.A.Accept.model self.accept.now in
    let takes = g.A.Accept.takes self.accept.now in
    let lists = self.routes.now.lists in
    let mv = c.args.mv in
    let bound = to_z w64 (of_z w64 c.in-Some.bound) in
    let same : bound ≡ c.in-Some.bound = search rules in
    let enough = subst (λ o. IfSome o (IsEnough model takes lists mv)) c.in-Some.is c.open_below.ensures.enough in
    told_of_each (λ k. IsNoLess (g.J.Judge.model c.args.judge.now) lists (with_last mv k) bound) (λ k. IsPassed model takes lists self.rest (with_last mv k))
    (λ k told. record {
      few = c.if-self-gt-FEW.false;
      refused = run_refused model takes lists mv c.in-Some.bound enough k
          (subst (IsNoLess model lists (with_last mv k)) same
          (subst (λ (m : Model). IsNoLess m lists (with_last mv k) bound) c.requires.can_ask.judge_model told));
    })
    c.args.from c.first_below.result c.first_below.ensures.no_less

pub returns-in-Some-clause-can_ask : goal.returns-in-Some-clause-can_ask
returns-in-Some-clause-can_ask g c = record {
  judge_model = c.first_below.ensures.model ∙ c.requires.can_ask.judge_model;
  holds = let before = c.requires.can_ask.holds in record { committed = c.first_below.ensures.committed; of_model = before.of_model; valid = before.valid };
}

pub first_below-requires-clause-well_formed : goal.first_below-requires-clause-well_formed
first_below-requires-clause-well_formed g c = subst IsWellFormed (sym c.requires.can_ask.judge_model) c.requires.ready.well_formed

pub first_below-requires-clause-holds : goal.first_below-requires-clause-holds
first_below-requires-clause-holds g c =
    subst (λ (m : Model). HasCommitted m (g.J.Judge.committed c.args.judge.now) c.args.self.now.routes.now)
    (sym c.requires.can_ask.judge_model) c.requires.can_ask.holds
