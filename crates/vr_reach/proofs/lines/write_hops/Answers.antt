use Rattle.std.proofs.Common.{◌∙◌, sym, arith}
use Rattle.std.proofs.lemmas.List.{length-map, take_all}
use Rattle.std.proofs.lemmas.List.Elements.{All-push}
use Rattle.vr_model.specs.tables.Tables.{dimension_at}
use Rattle.vr_model.specs.schedules.Schedules.{no_arc}
use Rattle.vr_model.proofs.schedules.LineArcs.{arcs_of_line}
use Rattle.vr_steps.specs.Arcs.{IsSoundHop}
use Rattle.vr_steps.specs.Lines.{hop_of, hops_along}
use Rattle.vr_reach.specs.VehicleStops.{line_of}
use Rattle.vr_reach.proofs.Tables.{push_taken, read_map}
use Rattle.vr_reach.proofs.lines.write_hops.Goals as goal

pub loop-k-preserved : goal.loop-k-preserved
loop-k-preserved c =
    let of = c.args.of.now in
    let k = c.loop-k.k in
    let f = hop_of (dimension_at of.closed.model.now of.d).slack_max in
    let arcs = (line_of of).arcs in
    let n = arcs_of_line of.closed.model.now of.d of.v of.list.now in
    let many = length-map arcs f in
    record {
      exact = rw c.in_ok-push.ensures.ok
          (push_taken (hops_along of.closed.model.now of.d of.v of.list.now) c.loop-k.hops k c.hop_from.result
          c.hop_from.result (omega (arith, n, many, c.loop-k-test.true, c.len-n.ensures.value)) c.loop-k.invariant.exact
          (c.hop_from.ensures.exact ∙ sym (read_map f arcs k no_arc c.hop_from.result (omega (arith, n, c.loop-k-test.true, c.len-n.ensures.value)))));
      sound = rw c.in_ok-push.ensures.ok (All-push IsSoundHop _ _ c.loop-k.invariant.sound c.hop_from.ensures.sound);
    }

pub returns-clause-exact : goal.returns-clause-exact
returns-clause-exact c =
    let of = c.args.of.now in
    let n = arcs_of_line of.closed.model.now of.d of.v of.list.now in
    let many = length-map (line_of of).arcs (hop_of (dimension_at of.closed.model.now of.d).slack_max) in
    c.loop-k.invariant.exact ∙ take_all c.loop-k.k (hops_along of.closed.model.now of.d of.v of.list.now) (omega (arith, n, many, c.len-n.ensures.value))
