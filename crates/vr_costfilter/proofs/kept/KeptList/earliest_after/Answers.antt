use Rattle.std.proofs.Common.{◌∙◌, List, ℕ, length, ap, sym, subst, arith}
use Rattle.std.proofs.lemmas.Bool.{false≢true}
use Rattle.vr_model.specs.schedules.Lines.{Line, line}
use Rattle.vr_model.specs.schedules.Narrowed.{narrowed}
use Rattle.vr_routes.specs.Pieces.{joined}
use Rattle.vr_costfilter.specs.GuideRuns.{runs_of}
use Rattle.vr_costfilter.specs.Runs.{AllowsRuns}
use Rattle.vr_costfilter.proofs.RunLemmas.{line-allows}
use Rattle.vr_costfilter.proofs.TightLemmas.{chosen-feasible}
use Rattle.vr_costfilter.proofs.kept.KeptList.earliest_after.Goals as goal

pub after-requires-clause-allows : goal.after-requires-clause-allows
after-requires-clause-allows c =
    let g = c.args.asked.now.guide.now in
    let new : List ℕ = joined c.args.asked.now.routes.now.lists c.args.asked.now.pieces.now in
    let by = line-allows g.model.now g.d g.v (runs_of g) c.requires.by.runs new c.args.asked.now.sound.used.tour in
    subst (λ (l : Line). AllowsRuns g.model.now g.d g.v (runs_of g) new l)
    (sym (ap (λ rule. narrowed rule (line g.model.now g.d g.v new)) c.requires.by.rule_is)) by

pub after-requires-clause-known : goal.after-requires-clause-known
after-requires-clause-known c =
    let g = c.args.asked.now.guide.now in
    let many = c.are_of.ensures.0 c.if-not-are_of.false in
    let list = ap length c.list-list.ensures.value in
    record {
      stages = (c.requires.of_old.earliest c.requires.by.rule_is (runs_of g) c.requires.by.runs).told (omega (arith, many, list));
      many = omega (arith, many, list);
      few = c.args.asked.now.sound.short;
    }

pub returns-clause-known : goal.returns-clause-known
returns-clause-known c feasible =
    let g = c.args.asked.now.guide.now in
    let many = c.are_of.ensures.0 c.if-not-are_of.false in
    let list = ap length c.list-list.ensures.value in (
      λ _. omega (arith, many, list),
      λ _. c.after.ensures.known ∙ chosen-feasible g.model.now g.d g.v (joined c.args.asked.now.routes.now.lists c.args.asked.now.pieces.now) feasible,
    )

pub returns-then-not-are_of-clause-known : goal.returns-then-not-are_of-clause-known
returns-then-not-are_of-clause-known c feasible =
    let list = ap length c.list-list.ensures.value in
    (λ e. absurd (false≢true e), λ told. absurd (false≢true (sym c.if-not-are_of.true ∙ c.are_of.ensures.1 (omega (arith, told, list)))))

pub returns-clause-timing : goal.returns-clause-timing
returns-clause-timing c = c.after.ensures.timing

pub returns-clause-range : goal.returns-clause-range
returns-clause-range c = c.after.ensures.range
