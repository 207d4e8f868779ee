use Rattle.vr_app.proofs.ShortestLemmas.{found_shortest}
use Rattle.vr_app.proofs.spans.shortest.Goals as goal

pub returns : goal.returns
returns c =
    let is = c.in_ok-found.ensures in
    found_shortest c.args.line.now c.requires.no_breaks c.unwrap.result c.in_ok-found.found c.unwrap.ensures is.reached is.least is.first
