use Rattle.std.proofs.Common.{◌∙◌, sym, subst, arith}
use Rattle.std.proofs.lemmas.Bool.{false≢true}
use Rattle.vr_costfilter.specs.FewVisits.{AreFewVisits}
use Rattle.vr_costfilter.specs.Runs.{AllowsRuns}
use Rattle.vr_costfilter.specs.Steps.{HasStages}
use Rattle.vr_costfilter.proofs.KeptCumulLemmas.{stages-none}
use Rattle.vr_costfilter.proofs.GuideLemmas.{by-guide, of-guide}
use Rattle.vr_costfilter.proofs.kept.KeptList.write_between.Goals as goal

pub returns-then-on-clause-stages : goal.returns-then-on-clause-stages
returns-then-on-clause-stages c =
    let g = c.args.on.now.guide.now in
    stages-none g.model.now g.d g.v _ c.args.on.now.list.now _ (omega (arith, c.requires.none))

pub invariant_of-write : goal.invariant_of-write
invariant_of-write c = record { sound = subst (λ model. AreFewVisits model c.args.on.now.list.now) (sym c.between-between.ensures.model) c.args.on.now.sound }

pub returns-clause-stages : goal.returns-clause-stages
returns-clause-stages c =
    let e = c.between-between.ensures in
    by-guide c.between-between.result e.model e.dimension e.vehicle e.runs
    (λ model d v runs. HasStages model d v runs c.args.on.now.list.now c.write.new.self) c.write.ensures.stages

pub returns-then-on-clause-told : goal.returns-then-on-clause-told
returns-then-on-clause-told c soft = absurd (false≢true (sym soft ∙ c.if-on.true))

pub returns-then-on-clause-all : goal.returns-then-on-clause-all
returns-then-on-clause-all c soft L by feasible = absurd (false≢true (sym soft ∙ c.if-on.true))

pub returns-clause-told : goal.returns-clause-told
returns-clause-told c soft = c.ends-ends.ensures.ends

pub returns-clause-all : goal.returns-clause-all
returns-clause-all c soft L by feasible =
    let e = c.between-between.ensures in
    c.write.ensures.all L
    (of-guide c.between-between.result e.model e.dimension e.vehicle e.runs (λ model d v runs. AllowsRuns model d v runs c.args.on.now.list.now L) by) feasible
