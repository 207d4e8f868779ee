use Rattle.std.proofs.Common.{arith}
use Rattle.std.proofs.lemmas.Int.{ints}
use Rattle.std.proofs.lemmas.Result.{on_ok_weaker}
use Rattle.vr_steps.proofs.LevelLemmas.{plain_arrivals, plain_departures}
use Rattle.vr_steps.proofs.crossing.write_plain.Goals as goal

pub returns-in-On : goal.returns-in-On
returns-in-On c =
    let hop = c.requires.hop in
    rw c.in-On.is
    (on_ok_weaker c.reach_into.result
    (plain_arrivals c.args.hop c.args.from.now c.args.within.now c.reach_into.new.out _ _ c.requires.from c.requires.within
    (omega (arith, ints, hop.transit)) (omega (arith, ints, hop.transit, hop.slack))) c.reach_into.ensures.exact)

pub returns-in-Back : goal.returns-in-Back
returns-in-Back c =
    let hop = c.requires.hop in
    rw c.in-Back.is
    (on_ok_weaker c.reach_into-in-Back.result
    (plain_departures c.args.hop c.args.from.now c.args.within.now c.reach_into-in-Back.new.out _ _ c.requires.from c.requires.within
    (omega (arith, ints, hop.transit, hop.slack)) (omega (arith, ints, hop.transit))) c.reach_into-in-Back.ensures.exact)
