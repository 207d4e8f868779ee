use Rattle.std.proofs.Common.{◌∙◌, ◌<◌, ◌+◌, ◌*◌, ◌++◌, ◌∷◌, [], drop, length, slice_index_or, ap, sym, arith}
use Rattle.vr_model.specs.routes.Routes.{UsedArc, arcs_from}
use Rattle.vr_guided.specs.Counts.{counted}
use Rattle.vr_guided.specs.Worths.{raised_in_turn}
use Rattle.vr_guided.proofs.ArcLemmas.{arcs_onward}
use Rattle.vr_guided.proofs.RaiseLemmas.{once_within}
use Rattle.vr_guided.proofs.SpareLemmas.{or_first, or_second}
use Rattle.vr_guided.proofs.penalties.Penalties.raise_route.Goals as goal

pub loop-node-preserved : goal.loop-node-preserved
loop-node-preserved c =
    let inv = c.loop-node.invariant in
    let at = c.loop-node.node-index in
    let end = c.get-ends.result.now.end in
    let low : at < length c.args.list.now.nodes.now = c.loop-node-test.true in
    let node = slice_index_or c.args.list.now.nodes.now at 0 in
    let arc : UsedArc = record { vehicle = c.args.list.now.vehicle; origin = c.loop-node.at; target = node } in
    record {
      goes = ap (λ q. raised_in_turn c.args.list.now.closed.model.now c.args.greatest.now q
          (arcs_from c.args.list.now.vehicle node (drop (at + 1) c.args.list.now.nodes.now ++ end ∷ []))) c.raise_arc-any.ensures.raised
          ∙ (sym (ap (raised_in_turn c.args.list.now.closed.model.now c.args.greatest.now (counted c.loop-node.self))
          (arcs_onward c.args.list.now.vehicle c.loop-node.at end c.args.list.now.nodes.now at low)) ∙ inv.goes);
      at = c.args.list.now.few.below at 0 low;
      nodes = c.raise_arc-any.ensures.covers ∙ inv.nodes;
      few = once_within c.args.list.now.closed.model.now c.args.greatest.now (counted c.loop-node.self) (counted c.raise_arc-any.new.self)
          arc (1000000000 + 1001 * c.args.list.now.vehicle + at) _ c.raise_arc-any.ensures.raised inv.few (omega arith);
      same = λ none. c.raise_arc-any.ensures.same (or_second c.loop-node.any c.raise_arc-any.result none)
          ∙ inv.same (or_first c.loop-node.any c.raise_arc-any.result none);
    }

pub returns-clause-few : goal.returns-clause-few
returns-clause-few c =
    let inv = c.loop-node.invariant in
    let short = c.args.list.now.few.short in
    let last = c.loop-node.auto.node-index-end in
    once_within c.args.list.now.closed.model.now c.args.greatest.now (counted c.loop-node.self) (counted c.raise_arc.new.self) _
    (1000000000 + 1001 * c.args.list.now.vehicle + c.loop-node.node-index) _ c.raise_arc.ensures.raised inv.few (omega (arith, short, last))

pub returns-clause-same : goal.returns-clause-same
returns-clause-same c none =
    c.raise_arc.ensures.same (or_second c.loop-node.any c.raise_arc.result none) ∙ c.loop-node.invariant.same (or_first c.loop-node.any c.raise_arc.result none)
