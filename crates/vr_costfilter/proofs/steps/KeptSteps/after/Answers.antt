use Rattle.std.proofs.Common.{◌∙◌, ◌++◌, List, [], ℕ, drop, length, length-append, take, ap, sym, subst, arith}
use Rattle.std.specs.Prelude.{All, IsTrue}
use Rattle.std.proofs.lemmas.List.{length-take-le}
use Rattle.vr_model.specs.tables.Tables.{is_visit}
use Rattle.vr_model.proofs.schedules.ChoiceLaws.{chosen_is_least}
use Rattle.vr_model.specs.routes.Routes.{route}
use Rattle.vr_routes.specs.Pieces.{joined}
use Rattle.vr_routes.proofs.JoinedPieces.{all_left, all_right}
use Rattle.vr_costfilter.specs.Asked.{new_list, old_list}
use Rattle.vr_costfilter.specs.Floors.{first_step}
use Rattle.vr_costfilter.specs.GuideRuns.{runs_of}
use Rattle.vr_costfilter.specs.Runs.{start_run}
use Rattle.vr_costfilter.specs.Steps.{steps_of, AreKnownSteps}
use Rattle.vr_costfilter.specs.Stages.{along_to_end}
use Rattle.vr_costfilter.specs.declared.changed_list.Asked.{Asked}
use Rattle.vr_costfilter.specs.declared.steps.KeptSteps.{KeptSteps}
use Rattle.vr_costfilter.specs.declared.trails.Step.{Step}
use Rattle.vr_costfilter.proofs.FloorLemmas.{back-many}
use Rattle.vr_costfilter.proofs.KeptCumulLemmas.{all-visits}
use Rattle.vr_costfilter.proofs.AfterLemmas.{back-anew, comes-to, front-unmet, led-along, middle-unmet, out-unmet, rest-unmet, trail-known, IsKeptAround}
use Rattle.vr_costfilter.proofs.StuckLemmas.{untold, whole-none}
use Rattle.vr_costfilter.proofs.steps.KeptSteps.after.Goals as goal

pub invariant_of-known : goal.invariant_of-known
invariant_of-known c =
    let g = c.args.asked.now.guide.now in
    record { sound = subst (λ list. AreKnownSteps g.model.now g.d g.v (runs_of g) list c.args.self.now) (sym c.list-list.ensures.value) c.requires.known }

pub invariant_of-on : goal.invariant_of-on
invariant_of-on c =
    let asked = c.args.asked.now in
    let lists : List (List ℕ) = asked.routes.now.lists in
    let ends = c.args.asked.now.splice in
    let list : List ℕ = route lists asked.guide.now.v in
    let middle : List ℕ = joined lists ends.middle.now in
    let P : ℕ → Type 0 = λ node. IsTrue (is_visit asked.guide.now.model.now node) in
    let all : All P (take ends.front list ++ (middle ++ drop ends.behind list)) = subst (All P) c.args.asked.now.sound.spliced.joins
    (all-visits asked.guide.now.model.now (joined lists asked.pieces.now) asked.sound.used.tour.visits) in
    let long = ap length c.args.asked.now.sound.spliced.joins in
    let two = length-append (take ends.front list) (middle ++ drop ends.behind list) in
    let more = length-append middle (drop ends.behind list) in
    record {
      sound = record {
        within = c.args.asked.now.sound.spliced.within;
        nodes = record {
          few = omega (arith, asked.sound.few, long, two, more);
          visits = all_left P middle (drop ends.behind list) (all_right P (take ends.front list) (middle ++ drop ends.behind list) all);
        };
      };
    }

pub back_along-requires : goal.back_along-requires
back_along-requires c =
    let middle : List ℕ = joined c.args.asked.now.routes.now.lists c.args.asked.now.splice.middle.now in
    let list : List ℕ = route c.args.asked.now.routes.now.lists c.args.asked.now.guide.now.v in
    let long = ap length c.args.asked.now.sound.spliced.joins in
    let two = length-append (take c.args.asked.now.splice.front list) (middle ++ drop c.args.asked.now.splice.behind list) in
    let more = length-append middle (drop c.args.asked.now.splice.behind list) in
    record { step = c.step_behind-next.ensures.range; room = omega (arith, ap length c.clear.ensures, c.args.asked.now.sound.few, long, two, more) }

-- what the change keeps of the list that the vehicle has, and the step behind what it puts in
abbrev Around : Asked → KeptSteps → Step → Type 0
Around asked kept next =
    let g = asked.guide.now in
    IsKeptAround g.model.now g.d g.v (runs_of g) (old_list asked) (steps_of kept) (new_list asked)
    asked.splice.front asked.splice.behind (joined asked.routes.now.lists asked.splice.middle.now) next

pub lead-requires-clause-room : goal.lead-requires-clause-room
lead-requires-clause-room c =
    let g = c.args.asked.now.guide.now in
    let lists : List (List ℕ) = c.args.asked.now.routes.now.lists in
    let list : List ℕ = route lists g.v in
    let ends = c.args.asked.now.splice in
    let middle : List ℕ = joined lists ends.middle.now in
    let between = c.back_along.new.trail.steps.items in
    let back = back-anew c.clear.ensures c.in_ok-first.ensures.back in
    let many = back-many g.model.now g.d g.v (runs_of g) middle c.step_behind-next.result c.in_ok-first.first [] between back in
    let all = ap length c.args.asked.now.sound.spliced.joins in
    let two = length-append (take ends.front list) (middle ++ drop ends.behind list) in
    let more = length-append middle (drop ends.behind list) in
    let front = length-take-le ends.front list (omega (arith, c.args.asked.now.sound.spliced.order, c.args.asked.now.sound.spliced.high)) in
    omega (arith, many, all, two, more, front, c.args.asked.now.sound.few)

pub set_out-requires-clause-lead : goal.set_out-requires-clause-lead
set_out-requires-clause-lead c =
    let list = c.list-list.result.now in
    let same = ap length c.list-list.ensures.value in
    let led = c.in_ok-lead.ensures.led in
    let long = length-take-le c.args.asked.now.splice.front list
    (omega (arith, c.args.asked.now.sound.spliced.order, c.args.asked.now.sound.spliced.high, same)) in
    record {
      place = omega (arith, c.args.asked.now.sound.spliced.order, c.args.asked.now.sound.spliced.high, same, led.place, long);
      first = led.range;
      kept = led.kept_first;
    }

pub along_trail-requires-clause-steps : goal.along_trail-requires-clause-steps
along_trail-requires-clause-steps c = trail-known (back-anew c.clear.ensures c.in_ok-first.ensures.back) c.in_ok-lead.ensures.led

pub overflow_add-result : goal.overflow_add-result
overflow_add-result c =
    let around : Around c.args.asked.now c.args.self.now c.step_behind-next.result =
    record { steps_are = c.requires.known.stages.steps_are; joins = c.args.asked.now.sound.spliced.joins; next_is = c.step_behind-next.ensures.value } in
    let led = led-along c.args.asked.now.splice.front c.list-list.ensures.value c.in_ok-lead.ensures.led in
    let h = c.args.asked.now.guide.now.sound in
    (comes-to around (start_run (runs_of c.args.asked.now.guide.now) c.args.start) (back-anew c.clear.ensures c.in_ok-first.ensures.back)
    led c.in_ok-met.ensures.met c.in_ok-gone.gone c.in_ok-end.end (sym c.in_ok-gone.ensures.value)
    (sym c.in_ok-end.ensures) chosen_is_least h.well_formed h.dimension c.requires.allows c.args.asked.now.sound.few).fits

pub returns : goal.returns
returns c =
    let around : Around c.args.asked.now c.args.self.now c.step_behind-next.result =
    record { steps_are = c.requires.known.stages.steps_are; joins = c.args.asked.now.sound.spliced.joins; next_is = c.step_behind-next.ensures.value } in
    let led = led-along c.args.asked.now.splice.front c.list-list.ensures.value c.in_ok-lead.ensures.led in
    let h = c.args.asked.now.guide.now.sound in
    let it = comes-to around (start_run (runs_of c.args.asked.now.guide.now) c.args.start) (back-anew c.clear.ensures c.in_ok-first.ensures.back)
    led c.in_ok-met.ensures.met c.in_ok-gone.gone c.in_ok-end.end (sym c.in_ok-gone.ensures.value)
    (sym c.in_ok-end.ensures) chosen_is_least h.well_formed h.dimension c.requires.allows c.args.asked.now.sound.few in
    record { known = sym it.has.feasible; timing = it.has.timed.is_timing; range = it.has.timed.range }

-- ---- where there is none

pub returns-in_err-first : goal.returns-in_err-first
returns-in_err-first c =
    let around : Around c.args.asked.now c.args.self.now c.step_behind-next.result =
    record { steps_are = c.requires.known.stages.steps_are; joins = c.args.asked.now.sound.spliced.joins; next_is = c.step_behind-next.ensures.value } in
    untold c.from_residual.ensures
    (middle-unmet around (start_run (runs_of c.args.asked.now.guide.now) c.args.start) c.requires.allows (sym c.in_err-first.ensures.value))

pub returns-in_err-lead : goal.returns-in_err-lead
returns-in_err-lead c =
    let g = c.args.asked.now.guide.now in
    let around : Around c.args.asked.now c.args.self.now c.step_behind-next.result =
    record { steps_are = c.requires.known.stages.steps_are; joins = c.args.asked.now.sound.spliced.joins; next_is = c.step_behind-next.ensures.value } in
    untold c.from_residual-in_err-lead.ensures
    (front-unmet around (start_run (runs_of c.args.asked.now.guide.now) c.args.start)
    c.requires.allows (back-anew c.clear.ensures c.in_ok-first.ensures.back)
    (ap (λ l. first_step g.model.now g.d g.v (runs_of g) (take c.args.asked.now.splice.front l) c.in_ok-first.first) (sym c.list-list.ensures.value)
    ∙ sym c.in_err-lead.ensures.first))

pub returns-in_err-met : goal.returns-in_err-met
returns-in_err-met c =
    let around : Around c.args.asked.now c.args.self.now c.step_behind-next.result =
    record { steps_are = c.requires.known.stages.steps_are; joins = c.args.asked.now.sound.spliced.joins; next_is = c.step_behind-next.ensures.value } in
    let led = led-along c.args.asked.now.splice.front c.list-list.ensures.value c.in_ok-lead.ensures.led in
    untold c.from_residual-in_err-met.ensures
    (out-unmet around (start_run (runs_of c.args.asked.now.guide.now) c.args.start)
    (back-anew c.clear.ensures c.in_ok-first.ensures.back) led c.requires.allows (sym c.in_err-met.ensures.value))

pub returns-in_err-gone : goal.returns-in_err-gone
returns-in_err-gone c =
    let g = c.args.asked.now.guide.now in
    let left : List Step = drop c.args.asked.now.splice.behind (steps_of c.args.self.now) in
    let around : Around c.args.asked.now c.args.self.now c.step_behind-next.result =
    record { steps_are = c.requires.known.stages.steps_are; joins = c.args.asked.now.sound.spliced.joins; next_is = c.step_behind-next.ensures.value } in
    let led = led-along c.args.asked.now.splice.front c.list-list.ensures.value c.in_ok-lead.ensures.led in
    untold c.from_residual-in_err-gone.ensures
    (rest-unmet around (start_run (runs_of c.args.asked.now.guide.now) c.args.start)
    (back-anew c.clear.ensures c.in_ok-first.ensures.back) led c.in_ok-met.ensures.met c.requires.allows
    (ap (λ o. along_to_end g.model.now g.d g.v (runs_of g) o left) (sym c.in_err-gone.ensures.value) ∙ whole-none g.model.now g.d g.v (runs_of g) left))

pub returns-in_err-end : goal.returns-in_err-end
returns-in_err-end c =
    let g = c.args.asked.now.guide.now in
    let around : Around c.args.asked.now c.args.self.now c.step_behind-next.result =
    record { steps_are = c.requires.known.stages.steps_are; joins = c.args.asked.now.sound.spliced.joins; next_is = c.step_behind-next.ensures.value } in
    let led = led-along c.args.asked.now.splice.front c.list-list.ensures.value c.in_ok-lead.ensures.led in
    untold c.from_residual-in_err-end.ensures
    (rest-unmet around (start_run (runs_of c.args.asked.now.guide.now) c.args.start)
    (back-anew c.clear.ensures c.in_ok-first.ensures.back) led c.in_ok-met.ensures.met c.requires.allows
    (ap (λ o. along_to_end g.model.now g.d g.v (runs_of g) o (drop c.args.asked.now.splice.behind (steps_of c.args.self.now)))
    (sym c.in_ok-gone.ensures.value) ∙ sym c.in_err-end.ensures))
