use Rattle.std.proofs.Common.{◌≡◌, ◌+◌, ◌≤◌, ◌≤ℤ◌, ◌<ℤ◌, ◌∷◌, [], ℕ, false, arith}
use Rattle.std.specs.Prelude.{◌↔◌}
use Rattle.std.proofs.lemmas.Int.{ints}
use Rattle.vr_model.specs.schedules.Schedules.{IsFeasible}
use Rattle.vr_model.proofs.schedules.ChoiceLaws.{chosen_where_feasible, end_reached_as_tested, reached_as_tested}
use Rattle.vr_model.proofs.schedules.Joining.{feasible_where_levels_meet}
use Rattle.vr_spans.specs.declared.runs.Run.{Run}
use Rattle.vr_spans.specs.Runs.{ShareANumber}
use Rattle.vr_steps.proofs.LawLemmas.{runs_are_counted}
use Rattle.vr_reach.specs.declared.run_walks.RunWalk.{RunWalk}
use Rattle.vr_reach.specs.declared.single.Between.{Between}
use Rattle.vr_reach.specs.Counts.{join_steps, steps_between}
use Rattle.vr_reach.specs.RunWalks.{line_along, AreRunsBetween}
use Rattle.vr_reach.specs.Singles.{IsReachedRun, IsReachingRun}
use Rattle.vr_reach.proofs.DrivenLemmas.{sound_of, walk_to, walk_within}
use Rattle.vr_reach.proofs.LineParts.{feasible_as_tested}
use Rattle.vr_reach.proofs.SingleLemmas.{feasible_by_runs, none_shared, run_reaching, two_steps}
use Rattle.vr_reach.proofs.single.walk_by_runs.Goals as goal

within_both : (start between join carried : ℕ) → carried ≤ start + between → carried ≤ start + (between + join)
within_both start between join carried le = omega (arith, le)

join_too : (start between join carried one two : ℕ) → carried ≤ start + between → one ≡ carried + 1 → two ≡ one + 1 → 2 ≤ join → two ≤ start + (between + join)
join_too start between join carried one two a b c d = omega (arith, a, b, c, d)

-- the run from which the end is reached
ending : (walk : RunWalk) (between : Between) → AreRunsBetween walk between → IsReachingRun (line_along walk) walk.last 0 between.to
ending walk between are = run_reaching (line_along walk) walk.last 0 walk.to.now between.to (omega arith) (walk_to walk) are.to

-- the line is feasible exactly where both share a cumul
feasible_where : (walk : RunWalk) (between : Between) → AreRunsBetween walk between → (run : Run)
    → IsReachedRun (line_along walk) walk.last 0 run → IsFeasible (line_along walk) ↔ ShareANumber (run ∷ []) (between.to ∷ [])
feasible_where walk between are run reached =
    feasible_by_runs feasible_where_levels_meet (line_along walk) (sound_of walk.line.of)
    walk.last (walk_within walk) are.no_breaks run between.to reached (ending walk between are)

pub carry_run-run-requires : goal.carry_run-run-requires
carry_run-run-requires g c = c.requires.from.cumuls

pub returns-then-run-clause-exact : goal.returns-then-run-clause-exact
returns-then-run-clause-exact g c =
    let less : c.carry_run-run.result.hi <ℤ c.carry_run-run.result.lo = (let test = c.if-run.true in omega (arith, ints, test)) in
    feasible_as_tested chosen_where_feasible (line_along c.args.walk.now) false (
      λ t. absurd (cc),
      λ feasible.
          absurd (none_shared c.carry_run-run.result c.args.between.to less
          ((feasible_where c.args.walk.now c.args.between c.requires c.carry_run-run.result
          (c.carry_run-run.ensures.reached 0 (omega arith) c.requires.from)).0 feasible)),
    )

pub returns-then-run-clause-count : goal.returns-then-run-clause-count
returns-then-run-clause-count g c =
    let walk = c.args.walk.now in
    within_both c.args.steps.now (steps_between (line_along walk) walk.begin walk.last)
    (join_steps (line_along walk) walk.last) c.carry_run-run.new.steps (c.carry_run-run.ensures.count c.requires.from)

pub runs_share-requires-clause-first : goal.runs_share-requires-clause-first
runs_share-requires-clause-first g c = let test = c.if-run.false in omega (arith, ints, test)

pub runs_share-requires-clause-second : goal.runs_share-requires-clause-second
runs_share-requires-clause-second g c = c.requires.to.cumuls.in_order

pub returns-clause-exact : goal.returns-clause-exact
returns-clause-exact g c =
    let is = feasible_where c.args.walk.now c.args.between c.requires c.carry_run-run.result
    (c.carry_run-run.ensures.reached 0 (omega arith) c.requires.from) in
    feasible_as_tested chosen_where_feasible (line_along c.args.walk.now) c.runs_share.result
    (λ t. is.1 (c.runs_share.ensures.0 t), λ feasible. c.runs_share.ensures.1 (is.0 feasible))

pub returns-clause-count : goal.returns-clause-count
returns-clause-count g c =
    let walk = c.args.walk.now in
    let L = line_along walk in
    let some : c.carry_run-run.result.lo ≤ℤ c.carry_run-run.result.hi = (let test = c.if-run.false in omega (arith, ints, test)) in
    join_too c.args.steps.now (steps_between L walk.begin walk.last) (join_steps L walk.last) c.carry_run-run.new.steps
    c.tick.new.self c.tick-2.new.self (c.carry_run-run.ensures.count c.requires.from) c.tick.ensures c.tick-2.ensures
    (two_steps runs_are_counted reached_as_tested end_reached_as_tested L walk.last
    c.carry_run-run.result c.args.between.to (c.carry_run-run.ensures.cumuls some)
    (c.carry_run-run.ensures.reached 0 (omega arith) c.requires.from) c.requires.to.cumuls (ending walk c.args.between c.requires))
