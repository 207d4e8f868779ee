use Rattle.std.proofs.Common.{◌≡◌, ◌∙◌, ◌-◌, ◌∷◌, [], true, false, length, ap, sym, subst, refl, arith, inl, inr}
use Rattle.std.proofs.lemmas.Bool.{cases_lt, false≢true}
use Rattle.vr_model.proofs.tables.Tests.{clash}
use Rattle.vr_spans.specs.Runs.{ShareANumber}
use Rattle.vr_steps.specs.Levels.{level_at}
use Rattle.vr_steps.proofs.LevelLemmas.{level_is}
use Rattle.vr_model.proofs.schedules.ChoiceLaws.{chosen_where_feasible}
use Rattle.vr_model.proofs.schedules.Joining.{feasible_where_levels_meet}
use Rattle.vr_reach.proofs.LineParts.{feasible_as_tested}
use Rattle.vr_reach.proofs.ProbeLemmas.{accepted, refused}
use Rattle.vr_reach.specs.Alone.{GoesAlone}
use Rattle.vr_reach.proofs.AloneLemmas.{alone_where}
use Rattle.vr_reach.proofs.SingleLemmas.{alone_in, in_alone}
use Rattle.vr_reach.proofs.TryLemmas.{first_try, all_tries}
use Rattle.vr_reach.specs.RunWalks.{line_along}
use Rattle.vr_reach.proofs.DrivenLemmas.{sound_of, walk_to, walk_within}
use Rattle.vr_reach.proofs.probing.told_without_breaks.Goals as goal

pub carry_run-run-requires : goal.carry_run-run-requires
carry_run-run-requires g c = c.in_ok-begun.ensures.run.cumuls

pub returns-then-not-shares_with-clause-told : goal.returns-then-not-shares_with-clause-told
returns-then-not-shares_with-clause-told g c =
    let L = line_along c.args.walk.now in
    let run = c.carry_run-run.result in
    let all : length L.breaks ≡ c.len-all.result - 1 = (let n = c.args.walk.now.met.form.one_more in let len = c.len-all.ensures in omega (arith, n, len)) in
    let there = ap (level_at c.args.walk.now.to.now) all ∙ level_is c.args.walk.now.to.now (c.len-all.result - 1) c.level.result.now c.level.ensures in
    feasible_as_tested chosen_where_feasible L false (
      λ t. absurd (cc),
      λ feasible. absurd (
          refused feasible_where_levels_meet L (sound_of c.args.walk.now.line.of)
          c.args.walk.now.last (walk_within c.args.walk.now) c.args.walk.now.to.now (walk_to c.args.walk.now)
          run (c.carry_run-run.ensures.reached 0 (omega arith) c.in_ok-begun.ensures.run)
          (λ shared. let served = c.shares_with.ensures.1 (subst (ShareANumber (run ∷ [])) there shared) in
          clash c.shares_with.result served c.if-not-shares_with.true) feasible),
    )

pub returns-then-shares_with-clause-told : goal.returns-then-shares_with-clause-told
returns-then-shares_with-clause-told g c =
    let L = line_along c.args.walk.now in
    let run = c.carry_run-run.result in
    let shared = subst (ShareANumber (run ∷ [])) (sym (level_is c.args.walk.now.to.now 0 c.level-2.result.now c.level-2.ensures))
    (c.shares_with-2.ensures.0 c.if-shares_with.true) in
    feasible_as_tested chosen_where_feasible L true (
      λ t.
          accepted feasible_where_levels_meet L (sound_of c.args.walk.now.line.of)
          c.args.walk.now.last (walk_within c.args.walk.now) c.args.walk.now.to.now (walk_to c.args.walk.now) 0
          (omega arith) run (c.carry_run-run.ensures.reached 0 (omega arith) c.in_ok-begun.ensures.run) shared,
      λ feasible. refl,
    )

pub returns-then-goes_with_some-clause-told : goal.returns-then-goes_with_some-clause-told
returns-then-goes_with_some-clause-told g c =
    feasible_as_tested chosen_where_feasible (line_along c.args.walk.now) true (λ t. c.goes_with_some.ensures.goes c.if-goes_with_some.true, λ feasible. refl)

pub returns-then-not-shares_with-clause-count : goal.returns-then-not-shares_with-clause-count
returns-then-not-shares_with-clause-count g c =
    first_try (length (line_along c.args.walk.now).breaks) (c.args.walk.now.last - c.args.walk.now.begin) c.args.tries.now c.carry_run-run.ensures.arcs

pub returns-then-shares_with-clause-count : goal.returns-then-shares_with-clause-count
returns-then-shares_with-clause-count g c =
    first_try (length (line_along c.args.walk.now).breaks) (c.args.walk.now.last - c.args.walk.now.begin) c.args.tries.now c.carry_run-run.ensures.arcs

pub returns-then-goes_with_some-clause-count : goal.returns-then-goes_with_some-clause-count
returns-then-goes_with_some-clause-count g c =
    all_tries (length (line_along c.args.walk.now).breaks) (c.args.walk.now.last - c.args.walk.now.begin)
    c.args.tries.now c.carry_run-run.ensures.arcs c.goes_with_some.ensures.count

pub returns-clause-count : goal.returns-clause-count
returns-clause-count g c =
    all_tries (length (line_along c.args.walk.now).breaks) (c.args.walk.now.last - c.args.walk.now.begin)
    c.args.tries.now c.carry_run-run.ensures.arcs c.goes_with_some.ensures.count

pub returns-clause-untold : goal.returns-clause-untold
returns-clause-untold g c = λ none tried.
    let L = line_along c.args.walk.now in
    let to = c.args.walk.now.to.now in
    let run = c.carry_run-run.result in
    let all : length L.breaks ≡ c.len-all.result - 1 = (let n = c.args.walk.now.met.form.one_more in let len = c.len-all.ensures in omega (arith, n, len)) in
    let there = ap (level_at to) all ∙ level_is to (c.len-all.result - 1) c.level.result.now c.level.ensures in
    let first = level_is to 0 c.level-2.result.now c.level-2.ensures in
    let shared = subst (ShareANumber (run ∷ [])) (sym there) (c.shares_with.ensures.0 c.if-not-shares_with.false) in
    let alone = alone_where L c.args.walk.now.from.now to c.args.walk.now.begin c.args.walk.now.last 0
    c.in_ok-begun.begun run (sym c.in_ok-begun.ensures.known) c.in_ok-begun.ensures.run c.carry_run-run.ensures.led in
    record {
      cumul = shared.0;
      reached = (c.carry_run-run.ensures.reached 0 (omega arith) c.in_ok-begun.ensures.run).reached shared.0 (alone_in run shared.0 shared.1);
      reaches = (walk_to c.args.walk.now (length L.breaks) (omega arith) shared.0).0 shared.2;
      none = λ b few goes. elim (cases_lt 0 b) [
        | inl some ↦ false≢true (sym c.if-goes_with_some.false ∙ c.goes_with_some.ensures.exact.1 (b, omega (arith, some), few, goes))
        | inr past ↦ (
            let here : b ≡ 0 = omega (arith, past) in
            let served = c.shares_with-2.ensures.1 (subst (ShareANumber (run ∷ [])) first
            (alone.1 (subst (GoesAlone L c.args.walk.now.from.now to c.args.walk.now.begin c.args.walk.now.last) here goes))) in
            false≢true (sym c.if-shares_with.false ∙ served)
            )
      ];
    }

pub returns-then-not-shares_with-clause-known : goal.returns-then-not-shares_with-clause-known
returns-then-not-shares_with-clause-known g c = λ _.
    let L = line_along c.args.walk.now in
    let to = c.args.walk.now.to.now in
    let run = c.carry_run-run.result in
    let all : length L.breaks ≡ c.len-all.result - 1 = (let n = c.args.walk.now.met.form.one_more in let len = c.len-all.ensures in omega (arith, n, len)) in
    let there = ap (level_at to) all ∙ level_is to (c.len-all.result - 1) c.level.result.now c.level.ensures in (
      sym c.in_ok-begun.ensures.known,
      λ untold.
          let reached = in_alone run untold.cumul
          ((c.carry_run-run.ensures.reached 0 (omega arith) c.in_ok-begun.ensures.run).all refl untold.cumul untold.reached) in
          let reaches = (walk_to c.args.walk.now (length L.breaks) (omega arith) untold.cumul).1 untold.reaches in
          let served = c.shares_with.ensures.1 (subst (ShareANumber (run ∷ [])) there (untold.cumul, reached, reaches)) in
          clash c.shares_with.result served c.if-not-shares_with.true,
    )

pub returns-then-shares_with-clause-known : goal.returns-then-shares_with-clause-known
returns-then-shares_with-clause-known g c = λ _.
    let L = line_along c.args.walk.now in
    let to = c.args.walk.now.to.now in
    let run = c.carry_run-run.result in
    let first = level_is to 0 c.level-2.result.now c.level-2.ensures in
    let alone = alone_where L c.args.walk.now.from.now to c.args.walk.now.begin c.args.walk.now.last 0
    c.in_ok-begun.begun run (sym c.in_ok-begun.ensures.known) c.in_ok-begun.ensures.run c.carry_run-run.ensures.led in (
      sym c.in_ok-begun.ensures.known,
      λ untold. untold.none 0 (omega arith) (alone.0 (subst (ShareANumber (run ∷ [])) (sym first) (c.shares_with-2.ensures.0 c.if-shares_with.true))),
    )

pub returns-then-goes_with_some-clause-known : goal.returns-then-goes_with_some-clause-known
returns-then-goes_with_some-clause-known g c = λ _.
    let m = c.goes_with_some.ensures.exact.0 c.if-goes_with_some.true in
    (sym c.in_ok-begun.ensures.known, λ untold. untold.none m.0 m.2 m.3)
