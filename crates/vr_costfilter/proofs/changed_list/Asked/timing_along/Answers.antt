use Rattle.std.proofs.Common.{◌≡◌, ◌∙◌, ℕ, List, length, ap, sym, arith, to_z, of_z, w64}
use Rattle.std.specs.Prelude.{pos, ℤ}
use Rattle.std.specs.Option.{option_and_then}
use Rattle.vr_model.specs.schedules.Narrowed.{chosen_line}
use Rattle.vr_model.specs.tables.Numbers.{horizon}
use Rattle.vr_model.specs.tables.WellFormed.{IsIn}
use Rattle.vr_model.proofs.schedules.ChoiceLaws.{chosen_is_least}
use Rattle.vr_routes.specs.Pieces.{joined}
use Rattle.vr_plan.proofs.BoundLemmas.{read-cumul}
use Rattle.vr_costfilter.specs.Floors.{first_step}
use Rattle.vr_costfilter.specs.GuideRuns.{runs_of}
use Rattle.vr_costfilter.specs.Stages.{stage_at_start, to_end}
use Rattle.vr_costfilter.specs.declared.guides.Guide.{Guide}
use Rattle.vr_costfilter.specs.declared.guides.Stage.{Stage}
use Rattle.vr_costfilter.proofs.AfterLemmas.{back-anew}
use Rattle.vr_costfilter.proofs.AlongLemmas.{along-known, along-timed, floor-unmet, gone-unmet}
use Rattle.vr_costfilter.proofs.FeasibleLemmas.{begin-unfeasible}
use Rattle.vr_costfilter.proofs.KeptCumulLemmas.{all-visits}
use Rattle.vr_costfilter.proofs.StageLemmas.{stage-more}
use Rattle.vr_costfilter.proofs.StuckLemmas.{untold}
use Rattle.vr_costfilter.proofs.changed_list.Asked.timing_along.Goals as goal

pub invariant_of-on : goal.invariant_of-on
invariant_of-on c =
    let asked = c.args.self.now in
    let h = asked.sound in
    record {
      sound = record {
        within = h.within;
        nodes =
            record { few = h.few; visits = all-visits asked.guide.now.model.now (joined asked.routes.now.lists asked.pieces.now) h.used.tour.visits };
      };
    }

pub back_along-requires : goal.back_along-requires
back_along-requires c = record { step = c.end_step-next.ensures.range; room = omega (arith, ap length c.clear.ensures, c.args.self.now.sound.few) }

-- the vehicle stands at the floor that was found
standing-read : (guide : Guide) (floor : ℤ) {stage : Stage} → IsIn (pos 0) horizon floor
    → stage ≡ stage_at_start guide.model.now guide.d guide.v (to_z w64 (of_z w64 floor)) → stage ≡ stage_at_start guide.model.now guide.d guide.v floor
standing-read guide floor range is = is ∙ ap (stage_at_start guide.model.now guide.d guide.v) (read-cumul floor range)

pub along_trail-requires-clause-steps : goal.along_trail-requires-clause-steps
along_trail-requires-clause-steps c = along-known (back-anew c.clear.ensures c.in_ok-first.ensures.back) c.end_step-next.ensures.value

pub along_trail-requires-clause-stage : goal.along_trail-requires-clause-stage
along_trail-requires-clause-stage c = stage-more c.args.self.now.guide.now.model.now 1 1002 c.standing-stage.result (omega arith) c.standing-stage.ensures.range

pub to_end-requires : goal.to_end-requires
to_end-requires c = record { stage = stage-more c.args.self.now.guide.now.model.now 2002 4000 c.in_ok-gone.gone (omega arith) c.in_ok-gone.ensures.range }

pub returns : goal.returns
returns c =
    let h = c.args.self.now.guide.now.sound in
    let it = along-timed (back-anew c.clear.ensures c.in_ok-first.ensures.back) c.end_step-next.ensures.value
    c.in_ok-floor.floor (sym c.in_ok-floor.ensures.value) c.standing-stage.result c.in_ok-gone.gone c.in_ok-end.end
    (standing-read c.args.self.now.guide.now c.in_ok-floor.floor c.in_ok-floor.ensures.range c.standing-stage.ensures.value)
    (sym c.in_ok-gone.ensures.value) (sym c.in_ok-end.ensures.value) chosen_is_least h.well_formed h.dimension c.requires c.args.self.now.sound.few in
    record { known = sym it.feasible; timing = it.timed.is_timing; range = it.timed.range }

pub returns-in_err-first : goal.returns-in_err-first
returns-in_err-first c =
    let g = c.args.self.now.guide.now in
    let list : List ℕ = joined c.args.self.now.routes.now.lists c.args.self.now.pieces.now in
    untold c.from_residual.ensures (begin-unfeasible g.model.now g.d g.v (runs_of g) list (chosen_line g.model.now g.d g.v list) c.requires
    (ap (first_step g.model.now g.d g.v (runs_of g) list) (sym c.end_step-next.ensures.value) ∙ sym c.in_err-first.ensures.value))

pub returns-in_err-floor : goal.returns-in_err-floor
returns-in_err-floor c =
    untold c.from_residual-in_err-floor.ensures
    (floor-unmet (back-anew c.clear.ensures c.in_ok-first.ensures.back) c.end_step-next.ensures.value c.requires (sym c.in_err-floor.ensures.value))

pub returns-in_err-gone : goal.returns-in_err-gone
returns-in_err-gone c =
    let g = c.args.self.now.guide.now in
    untold c.from_residual-in_err-gone.ensures
    (gone-unmet (back-anew c.clear.ensures c.in_ok-first.ensures.back) c.end_step-next.ensures.value
    c.requires c.in_ok-floor.floor (sym c.in_ok-floor.ensures.value) c.standing-stage.result
    (standing-read c.args.self.now.guide.now c.in_ok-floor.floor c.in_ok-floor.ensures.range c.standing-stage.ensures.value)
    (ap (option_and_then (to_end g.model.now g.d g.v (runs_of g))) (sym c.in_err-gone.ensures.value)))

pub returns-in_err-end : goal.returns-in_err-end
returns-in_err-end c =
    let g = c.args.self.now.guide.now in
    untold c.from_residual-in_err-end.ensures
    (gone-unmet (back-anew c.clear.ensures c.in_ok-first.ensures.back) c.end_step-next.ensures.value
    c.requires c.in_ok-floor.floor (sym c.in_ok-floor.ensures.value) c.standing-stage.result
    (standing-read c.args.self.now.guide.now c.in_ok-floor.floor c.in_ok-floor.ensures.range c.standing-stage.ensures.value)
    (ap (option_and_then (to_end g.model.now g.d g.v (runs_of g))) (sym c.in_ok-gone.ensures.value) ∙ sym c.in_err-end.ensures.value))
