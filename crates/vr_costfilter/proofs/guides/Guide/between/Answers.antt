use Rattle.std.proofs.Common.{◌∙◌, ap, ap₂, sym, subst}
use Rattle.std.specs.Prelude.{pos}
use Rattle.vr_spans.specs.declared.runs.Run.{Run}
use Rattle.vr_model.specs.tables.Numbers.{horizon}
use Rattle.vr_model.specs.tables.WellFormed.{IsIn}
use Rattle.vr_plan.proofs.BoundLemmas.{read-cumul}
use Rattle.vr_costfilter.specs.Runs.{Runs, only}
use Rattle.vr_costfilter.proofs.guides.Guide.between.Goals as goal

pub invariant_of-result : goal.invariant_of-result
invariant_of-result c =
    let g = c.args.self.now in
    let h = c.args.self.now.sound in
    let slack = read-cumul g.slack h.slack_range in
    record {
      sound = record {
        well_formed = h.well_formed;
        dimension = h.dimension;
        vehicle = h.vehicle;
        places = h.places;
        hard = h.hard;
        evaluator_is = h.evaluator_is;
        slack_is = slack ∙ h.slack_is;
        slack_range = subst (IsIn (pos 0) horizon) (sym slack) h.slack_range;
        start = c.only-start.ensures.range;
        visits = h.visits;
        finish = c.only-last.ensures.range;
        end_is = h.end_is;
      };
    }

pub returns-clause-runs : goal.returns-clause-runs
returns-clause-runs c =
    let g = c.args.self.now in
    let start = c.only-start.ensures.value ∙ ap only (read-cumul c.args.ends.start c.requires.ends.start) in
    let last = c.only-last.ensures.value ∙ ap only (read-cumul c.args.ends.last c.requires.ends.last) in
    ap₂ (λ (a b : Run). (let runs : Runs = record { start = a; visits = g.visits.now; finish = b } in runs)) start last
