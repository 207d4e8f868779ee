use Rattle.std.proofs.Common.{◌≡◌, ◌∙◌, ◌+ℤ◌, ap, ap₂, ◌+◌, suc, subst, arith}
use Rattle.std.specs.Int.{int_max, int_min}
use Rattle.std.proofs.lemmas.Int.{ints}
use Rattle.vr_model.proofs.schedules.Crossing.{reached_by_crossing}
use Rattle.vr_model.proofs.schedules.LinesSound.{lines_are_sound}
use Rattle.vr_steps.proofs.LawLemmas.{arc_alone}
use Rattle.vr_reach.specs.VehicleStops.{line_of}
use Rattle.vr_reach.specs.VisitRuns.{IsAllowedRun}
use Rattle.vr_reach.proofs.AloneLemmas.{crossed}
use Rattle.vr_reach.proofs.LineParts.{way_of}
use Rattle.vr_reach.proofs.SingleLemmas.{as_is, run_next, cumuls_behind}
use Rattle.vr_reach.proofs.single.cross_by_run.Goals as goal

lo_is : (c : goal.After-run_behind-run)
    → c.run_behind-run.result.lo ≡ int_max (c.args.here.run.lo +ℤ c.transit-transit.result) c.stop_ahead-ahead.result.allowed.lo
lo_is c =
    let t = c.transit-transit.ensures in
    let low = t.least in
    let high = t.greatest in
    let transit_is = as_is c.transit-transit.result (omega (arith, ints, low)) (omega (arith, ints, high)) in
    c.run_behind-run.ensures.lo ∙ ap (λ n. int_max (c.args.here.run.lo +ℤ n) c.stop_ahead-ahead.result.allowed.lo) transit_is

hi_is : (c : goal.After-run_behind-run)
    → c.run_behind-run.result.hi ≡ int_min (c.args.here.run.hi +ℤ (c.transit-transit.result +ℤ c.args.line.now.slack)) c.stop_ahead-ahead.result.allowed.hi
hi_is c =
    let t = c.transit-transit.ensures in
    let low = t.least in
    let high = t.greatest in
    let transit_is = as_is c.transit-transit.result (omega (arith, ints, low)) (omega (arith, ints, high)) in
    let least = c.args.line.now.slack_range.at_least in
    let greatest = c.args.line.now.slack_range.at_most in
    let slack_is = as_is c.args.line.now.slack (omega (arith, ints, least)) (omega (arith, ints, greatest)) in
    c.run_behind-run.ensures.hi ∙ ap₂ (λ m n. int_min (c.args.here.run.hi +ℤ (m +ℤ n)) c.stop_ahead-ahead.result.allowed.hi) transit_is slack_is

pub returns-clause-reached : goal.returns-clause-reached
returns-clause-reached c = λ taken few reached.
    let line = c.args.line.now in
    let of = line.of in
    let ahead = c.stop_ahead-ahead.ensures in
    run_next lines_are_sound reached_by_crossing arc_alone of.closed.model.now of.closed.well_formed of.d of.v of.dimension of.vehicle of.list.now of.used
    c.args.k taken c.requires.arc few c.args.here.run c.stop_ahead-ahead.result.allowed c.run_behind-run.result c.requires.cumuls reached ahead.allowed
    c.args.here.node c.stop_ahead-ahead.result.node c.requires.node ahead.node c.transit-transit.result
    line.slack c.transit-transit.ensures.value line.slack_is line.slack_range.at_least (lo_is c) (hi_is c)

pub returns-clause-cumuls : goal.returns-clause-cumuls
returns-clause-cumuls c =
    cumuls_behind c.args.here.run c.stop_ahead-ahead.result.allowed c.run_behind-run.result
    c.transit-transit.result c.args.line.now.slack c.stop_ahead-ahead.ensures.allowed.ends (lo_is c) (hi_is c)

pub returns-clause-led : goal.returns-clause-led
returns-clause-led c =
    let line = c.args.line.now in
    let of = line.of in
    let ahead = c.stop_ahead-ahead.ensures in
    let next : c.args.k + 1 ≡ suc c.args.k = omega arith in
    let way = way_of of.closed.model.now of.d of.v of.list.now c.args.k c.args.here.node c.stop_ahead-ahead.result.node
    c.requires.arc c.requires.node ahead.node c.transit-transit.result c.transit-transit.ensures.value in
    crossed (line_of of) c.args.k c.args.here.run c.stop_ahead-ahead.result.allowed c.run_behind-run.result
    c.transit-transit.result line.slack c.requires.cumuls.in_order line.slack_range.at_least (lo_is c) (hi_is c)
    (subst (λ i. IsAllowedRun (line_of of) i c.stop_ahead-ahead.result.allowed) next ahead.allowed) way line.slack_is
