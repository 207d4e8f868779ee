use Rattle.std.proofs.Common.{◌∙◌, ◌<◌, length, Option, ap, ap₂, sym, subst, arith}
use Rattle.std.specs.Prelude.{All, ℤ, pos, slice_index_or}
use Rattle.std.proofs.lemmas.List.{get_or_default}
use Rattle.vr_spans.specs.declared.runs.Run.{Run}
use Rattle.vr_model.specs.declared.records.Dimension.{Dimension}
use Rattle.vr_model.specs.declared.records.StopRow.{StopRow}
use Rattle.vr_model.specs.tables.Numbers.{horizon}
use Rattle.vr_model.specs.tables.Tables.{dimension_at, no_dimension, row_of, transit}
use Rattle.vr_model.specs.tables.WellFormed.{IsIn, IsStopRow}
use Rattle.vr_model.proofs.routes.Lists.{visit_below}
use Rattle.vr_plan.proofs.BoundLemmas.{read-cumul}
use Rattle.vr_costfilter.specs.Runs.{no_run}
use Rattle.vr_costfilter.specs.Stages.{go_on}
use Rattle.vr_costfilter.specs.declared.guides.Guide.{Guide}
use Rattle.vr_costfilter.specs.declared.trails.Step.{Step}
use Rattle.vr_costfilter.specs.Floors.{IsVisitStep}
use Rattle.vr_costfilter.proofs.guides.Guide.to_visit.Goals as goal

abbrev first_run : Run
first_run = record { lo = pos 0; hi = pos 0 }

-- the run of a visit is there
known : (guide : Guide) (step : Step) → IsVisitStep guide.model.now step → step.node < length guide.visits.now
known guide step is = let low = visit_below guide.model.now step.node is.visit in omega (arith, low, guide.sound.visits.long)

-- its last cumul is one
last : (guide : Guide) (step : Step) → IsVisitStep guide.model.now step → IsIn (pos 0) horizon (slice_index_or guide.visits.now step.node first_run).hi
last guide step is = (guide.sound.visits.each step.node first_run (known guide step is) is.visit).ends.hi

pub go_on-requires-clause-stop : goal.go_on-requires-clause-stop
go_on-requires-clause-stop c =
    let floor = c.requires.step.floor in
    let hi = last c.args.self.now c.args.step c.requires.step in
    record {
      known = visit_below c.args.self.now.model.now c.args.step.node c.requires.step.visit;
      ends = record {
        lo = subst (IsIn (pos 0) horizon) (sym (read-cumul c.args.step.floor floor)) floor;
        hi = subst (IsIn (pos 0) horizon) (sym (read-cumul (slice_index_or c.args.self.now.visits.now c.args.step.node first_run).hi hi)) hi;
      };
    }

pub go_on-requires-clause-row : goal.go_on-requires-clause-row
go_on-requires-clause-row c =
    let g = c.args.self.now.sound in
    let is = g.well_formed.each_dimension c.args.self.now.d no_dimension g.dimension in
    c.row_of-row.ensures.valid (subst (λ (x : Dimension). All IsStopRow x.nodes) (c.get-dimension.ensures.value no_dimension) is.rows_of_visits.each_row)

pub returns-clause-value : goal.returns-clause-value
returns-clause-value c =
    let g = c.args.self.now in
    let step = c.args.step in
    let stage = c.args.stage in
    let hi = last g step c.requires.step in
    let t : ℤ = transit g.model.now g.d g.v stage.at step.node in
    let s : ℤ = (dimension_at g.model.now g.d).slack_max in
    let allowed = ap₂ (λ (x y : ℤ). (let r : Run = record { lo = x; hi = y } in r)) (read-cumul step.floor c.requires.step.floor)
    (read-cumul (slice_index_or g.visits.now step.node first_run).hi hi
    ∙ ap (λ (r : Run). r.hi) (get_or_default g.visits.now step.node first_run no_run (known g step c.requires.step))) in
    let row = c.row_of-row.ensures.value ∙ ap (λ (x : Dimension). row_of x.nodes step.node) (sym (c.get-dimension.ensures.value no_dimension)) in
    c.go_on.ensures.value ∙ ap₂ (λ (r : Run) (o : Option StopRow). go_on t s step.node r o stage) allowed row
