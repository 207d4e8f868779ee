use Rattle.vr_model.specs.schedules.Narrowed.{chosen_line}
use Rattle.vr_costfilter.specs.Asked.{new_list, IsTimingFound}
use Rattle.vr_costfilter.specs.Joined.{AreJoined}
use Rattle.vr_costfilter.specs.Runs.{AllowsRuns}
use Rattle.vr_costfilter.proofs.GuideLemmas.{by-guide, of-guide}
use Rattle.vr_costfilter.proofs.changed_list.Asked.timing_between.Goals as goal

pub invariant_of-asked : goal.invariant_of-asked
invariant_of-asked c =
    let asked = c.args.self.now in
    let e = c.between-guide.ensures in
    record {
      sound = of-guide c.between-guide.result e.model e.dimension e.vehicle e.runs
          (λ model d v runs. AreJoined model v asked.routes.now.lists asked.pieces.now asked.splice) asked.sound;
    }

pub timing_along-requires : goal.timing_along-requires
timing_along-requires c =
    let e = c.between-guide.ensures in
    of-guide c.between-guide.result e.model e.dimension e.vehicle e.runs
    (λ model d v runs. AllowsRuns model d v runs (new_list c.args.self.now) (chosen_line model d v (new_list c.args.self.now))) c.requires.allows

pub returns : goal.returns
returns c =
    let e = c.between-guide.ensures in
    by-guide c.between-guide.result e.model e.dimension e.vehicle e.runs
    (λ model d v runs. IsTimingFound model d v (new_list c.args.self.now) c.timing_along.result) c.timing_along.ensures
