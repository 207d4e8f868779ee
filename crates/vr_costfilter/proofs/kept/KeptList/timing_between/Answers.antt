use Rattle.std.proofs.Common.{◌≡◌, ℕ, List, length, ap, subst, sym, arith}
use Rattle.std.specs.Prelude.{ℤ}
use Rattle.std.proofs.lemmas.Int.{ints}
use Rattle.vr_model.specs.schedules.Narrowed.{chosen_line}
use Rattle.vr_routes.specs.Pieces.{joined}
use Rattle.vr_plan.proofs.BoundLemmas.{read-cumul}
use Rattle.vr_costfilter.specs.GuideRuns.{runs_of}
use Rattle.vr_costfilter.specs.Runs.{between_runs, AllowsRuns}
use Rattle.vr_costfilter.proofs.kept.KeptList.timing_between.Goals as goal

pub timing_from-requires-clause-allows : goal.timing_from-requires-clause-allows
timing_from-requires-clause-allows c =
    let g = c.args.asked.now.guide.now in
    let new : List ℕ = joined c.args.asked.now.routes.now.lists c.args.asked.now.pieces.now in
    let a = c.requires.ends.last in
    let b = c.requires.kept.of_old.between.last in
    let same : c.args.ends.last ≡ c.args.self.now.between.last = omega (arith, ints, c.if-self-ends.true, a.at_least, a.at_most, b.at_least, b.at_most) in
    let x = subst (λ (e : ℤ). AllowsRuns g.model.now g.d g.v (between_runs (runs_of g) c.args.ends.start e) new (chosen_line g.model.now g.d g.v new))
    same c.requires.allows in
    subst (λ (s : ℤ). AllowsRuns g.model.now g.d g.v (between_runs (runs_of g) s c.args.self.now.between.last) new (chosen_line g.model.now g.d g.v new))
    (sym (read-cumul c.args.ends.start c.requires.ends.start)) x

pub timing_from-requires-clause-many : goal.timing_from-requires-clause-many
timing_from-requires-clause-many c =
    let many = c.are_of.ensures.0 c.if-are_of.true in
    let list = ap length c.list-list.ensures.value in
    omega (arith, many, list)
