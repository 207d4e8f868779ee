use Rattle.vr_costfilter.proofs.RestLemmas.{before-read, from-fits, under-fits}
use Rattle.vr_costfilter.proofs.guides.Guide.rest_on.Goals as goal

pub overflow_add-allowed : goal.overflow_add-allowed
overflow_add-allowed c = let t = c.transit-transit.ensures in from-fits c.requires.rest t.value t.least t.greatest c.requires.stop.ends

pub overflow_sub-rest : goal.overflow_sub-rest
overflow_sub-rest c = let t = c.transit-transit.ensures in under-fits c.requires.rest t.value t.least t.greatest c.requires.stop.ends

pub returns : goal.returns
returns c =
    let t = c.transit-transit.ensures in
    before-read c.requires.rest t.value t.least t.greatest c.requires.stop.ends c.args.node c.max.result c.min.result c.max.ensures.value c.min.ensures.value
