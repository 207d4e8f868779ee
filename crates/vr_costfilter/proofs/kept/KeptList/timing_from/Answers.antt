use Rattle.std.proofs.Common.{ℕ, List, subst, sym, arith, to_z, of_z, w64}
use Rattle.std.specs.Prelude.{ℤ}
use Rattle.vr_model.specs.routes.Routes.{route}
use Rattle.vr_model.specs.schedules.Narrowed.{chosen_line}
use Rattle.vr_plan.proofs.BoundLemmas.{read-cumul}
use Rattle.vr_costfilter.specs.Asked.{new_list, IsTimingFound}
use Rattle.vr_costfilter.specs.GuideRuns.{runs_of}
use Rattle.vr_costfilter.specs.Joined.{AreJoined}
use Rattle.vr_costfilter.specs.Runs.{between_runs, only, starting, AllowsRuns}
use Rattle.vr_costfilter.specs.Steps.{AreKnownSteps}
use Rattle.vr_costfilter.proofs.GuideLemmas.{by-guide, of-guide}
use Rattle.vr_costfilter.proofs.kept.KeptList.timing_from.Goals as goal

pub invariant_of-asked : goal.invariant_of-asked
invariant_of-asked c =
    let asked = c.args.asked.now in
    let e = c.between-kept.ensures in
    record {
      sound = of-guide c.between-kept.result e.model e.dimension e.vehicle e.runs
          (λ model d v runs. AreJoined model v asked.routes.now.lists asked.pieces.now asked.splice) asked.sound;
    }

pub after-requires-clause-allows : goal.after-requires-clause-allows
after-requires-clause-allows c =
    let g = c.args.asked.now.guide.now in
    let ends = c.args.self.now.between in
    let e = c.between-kept.ensures in
    let s = c.args.start in
    let list : List ℕ = new_list c.args.asked.now in
    of-guide c.between-kept.result e.model e.dimension e.vehicle e.runs
    (λ model d v runs. AllowsRuns model d v (starting runs (only (to_z w64 (of_z w64 s)))) list (chosen_line model d v list))
    (subst (λ (x : ℤ). AllowsRuns g.model.now g.d g.v (between_runs (runs_of g) x ends.last) list (chosen_line g.model.now g.d g.v list))
    (sym (read-cumul s c.requires.start)) c.requires.allows)

pub after-requires-clause-known : goal.after-requires-clause-known
after-requires-clause-known c =
    let asked = c.args.asked.now in
    let e = c.between-kept.ensures in
    let lists : List (List ℕ) = asked.routes.now.lists in
    let by = c.requires.kept.by in
    of-guide c.between-kept.result e.model e.dimension e.vehicle e.runs (λ model d v runs. AreKnownSteps model d v runs (route lists v) c.args.self.now.steps)
    (record {
      stages = (c.requires.kept.of_old.tight by.rule_is (runs_of asked.guide.now) by.runs).told (omega (arith, c.requires.many));
      many = c.requires.many;
      few = asked.sound.short;
    })

pub returns : goal.returns
returns c =
    let e = c.between-kept.ensures in
    by-guide c.between-kept.result e.model e.dimension e.vehicle e.runs
    (λ model d v runs. IsTimingFound model d v (new_list c.args.asked.now) c.after.result) c.after.ensures
