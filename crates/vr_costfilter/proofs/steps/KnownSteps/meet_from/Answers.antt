use Rattle.std.proofs.Common.{◌≡◌, ◌∙◌, List, refl, Some, None, take, ap, sym, subst}
use Rattle.std.specs.Prelude.{option_map, ℤ}
use Rattle.vr_spans.specs.declared.runs.Run.{Run}
use Rattle.vr_model.specs.tables.Tables.{vehicle_at}
use Rattle.vr_plan.proofs.BoundLemmas.{read-cumul}
use Rattle.vr_costfilter.specs.Floors.{stop_floor}
use Rattle.vr_costfilter.specs.GuideRuns.{runs_of}
use Rattle.vr_costfilter.specs.Runs.{only, starting}
use Rattle.vr_costfilter.specs.Stages.{along, setting_out, stage_at_start}
use Rattle.vr_costfilter.specs.Steps.{reached, steps_of, IsOutsetOf, LeadsTo}
use Rattle.vr_costfilter.specs.declared.guides.Guide.{Guide}
use Rattle.vr_costfilter.specs.declared.guides.Stage.{Stage}
use Rattle.vr_costfilter.specs.declared.trails.Step.{Step}
use Rattle.vr_costfilter.proofs.FloorLemmas.{some-map}
use Rattle.vr_costfilter.proofs.StuckLemmas.{along-none}
use Rattle.vr_costfilter.proofs.steps.KnownSteps.meet_from.Goals as goal

pub pace-requires-clause-out : goal.pace-requires-clause-out
pace-requires-clause-out c =
    let g = c.args.self.now.guide.now in
    record {
      stands = subst (λ (s : Stage). s ≡ stage_at_start g.model.now g.d g.v s.cumul) (sym c.standing-out.ensures.value) refl;
      range = c.standing-out.ensures.range;
    }

-- the stage from which it goes on
set-out : (g : Guide) (next : Step) (start : ℤ) {floor : ℤ} {allowed : Run} {stage : Stage} → allowed ≡ only start
    → stop_floor g.model.now g.d g.v (vehicle_at g.model.now g.v).start allowed next ≡ Some floor → stage ≡ stage_at_start g.model.now g.d g.v floor
    → setting_out g.model.now g.d g.v (starting (runs_of g) (only start)) next ≡ Some stage
set-out g next start {floor} {allowed} {stage} allowed_is floor_is stage_is =
    ap (option_map (stage_at_start g.model.now g.d g.v))
    (ap (λ (r : Run). stop_floor g.model.now g.d g.v (vehicle_at g.model.now g.v).start r next) (sym allowed_is) ∙ floor_is)
    ∙ ap (λ (s : Stage). Some s) (sym stage_is)

pub returns-clause-met : goal.returns-clause-met
returns-clause-met c =
    let g = c.args.self.now.guide.now in
    let out = set-out g c.args.lead.first c.args.start
    (c.only.ensures.value ∙ ap only (read-cumul c.args.start c.requires.start)) (sym c.in_ok-floor.ensures.value)
    (c.standing-out.ensures.value ∙ ap (stage_at_start g.model.now g.d g.v) (read-cumul c.in_ok-floor.floor c.in_ok-floor.ensures.range)) in
    some-map (LeadsTo g.model.now g.d g.v (runs_of g) (take c.args.lead.place (steps_of c.args.self.now.kept.now)) c.standing-out.result)
    (IsOutsetOf g.model.now g.d g.v (runs_of g) (only c.args.start) (steps_of c.args.self.now.kept.now) c.args.lead)
    c.pace.result (λ met paced. record { first = c.standing-out.result; out = out; paced = paced }) c.pace.ensures.paced

pub returns-clause-value : goal.returns-clause-value
returns-clause-value c =
    let g = c.args.self.now.guide.now in
    let out = set-out g c.args.lead.first c.args.start
    (c.only.ensures.value ∙ ap only (read-cumul c.args.start c.requires.start)) (sym c.in_ok-floor.ensures.value)
    (c.standing-out.ensures.value ∙ ap (stage_at_start g.model.now g.d g.v) (read-cumul c.in_ok-floor.floor c.in_ok-floor.ensures.range)) in
    c.pace.ensures.value ∙ ap (λ o. along g.model.now g.d g.v (runs_of g) o (take c.args.lead.place (steps_of c.args.self.now.kept.now))) (sym out)

pub returns-in_err-floor-clause-value : goal.returns-in_err-floor-clause-value
returns-in_err-floor-clause-value c =
    let g = c.args.self.now.guide.now in
    let start = (vehicle_at g.model.now g.v).start in
    let front : List Step = take c.args.lead.place (steps_of c.args.self.now.kept.now) in
    let allowed = c.only.ensures.value ∙ ap only (read-cumul c.args.start c.requires.start) in
    let none : stop_floor g.model.now g.d g.v start (only c.args.start) c.args.lead.first ≡ None =
    ap (λ (r : Run). stop_floor g.model.now g.d g.v start r c.args.lead.first) (sym allowed) ∙ sym c.in_err-floor.ensures.value in
    ap (option_map reached) c.from_residual.ensures
    ∙ sym (ap (λ o. along g.model.now g.d g.v (runs_of g) (option_map (stage_at_start g.model.now g.d g.v) o) front) none
    ∙ along-none g.model.now g.d g.v (runs_of g) front)
