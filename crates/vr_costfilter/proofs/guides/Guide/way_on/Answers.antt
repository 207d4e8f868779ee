use Rattle.vr_costfilter.proofs.WayLemmas.{left-fits, on-read}
use Rattle.vr_costfilter.proofs.guides.Guide.way_on.Goals as goal

pub overflow_sub-allowed : goal.overflow_sub-allowed
overflow_sub-allowed c = let t = c.transit-transit.ensures in left-fits c.requires.way c.requires.stop.ends t.value t.least t.greatest

pub returns : goal.returns
returns c =
    let t = c.transit-transit.ensures in
    on-read c.requires.way c.requires.stop.ends t.value t.least t.greatest c.args.node c.max.result c.min.result c.max.ensures.value c.min.ensures.value
