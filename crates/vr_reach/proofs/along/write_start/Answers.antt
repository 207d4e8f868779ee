use Rattle.vr_model.proofs.schedules.LinesSound.{lines_are_sound}
use Rattle.vr_steps.proofs.LawLemmas.{start_is_reached}
use Rattle.vr_reach.proofs.AlongLemmas.{started}
use Rattle.vr_reach.proofs.along.write_start.Goals as goal

pub returns : goal.returns
returns c =
    let stops = c.args.stops.now in
    let of = stops.of in
    started lines_are_sound of.closed.model.now of.closed.well_formed of.d of.v of.dimension of.vehicle start_is_reached stops.ends.now
    stops.ends_are c.start_levels_into.new.out c.in_ok-start_levels_into.ensures.exact c.in_ok-start_levels_into.ensures.levels of.list.now of.used
