use Rattle.vr_model.specs.tables.Tables.{vehicle_at}
use Rattle.vr_costfilter.proofs.RestLemmas.{start-fits, through-read, time-fits, transits-fit}
use Rattle.vr_costfilter.proofs.guides.Guide.way_through.Goals as goal

pub overflow_add-way : goal.overflow_add-way
overflow_add-way c = let t = c.transit-transit.ensures in time-fits c.requires.rest t.value t.least t.greatest c.requires.way

pub overflow_add-result : goal.overflow_add-result
overflow_add-result c = let t = c.transit-transit.ensures in transits-fit c.requires.rest t.value t.least t.greatest c.requires.way

pub overflow_sub-rest : goal.overflow_sub-rest
overflow_sub-rest c = let t = c.transit-transit.ensures in start-fits c.requires.rest t.value t.least t.greatest c.requires.way

pub returns : goal.returns
returns c =
    let g = c.args.self.now in
    let t = c.transit-transit.ensures in
    through-read c.requires.rest t.value t.least t.greatest c.requires.way g.finish.node
    (vehicle_at g.model.now g.v).end c.max.result c.min.result g.sound.end_is c.max.ensures.value c.min.ensures.value
