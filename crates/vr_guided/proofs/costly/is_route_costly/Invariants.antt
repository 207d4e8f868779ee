use Rattle.std.proofs.Common.{◌≡◌, ◌<◌, ◌++◌, ◌∷◌, [], drop}
use Rattle.std.specs.List.{list_any}
use Rattle.vr_model.specs.routes.Routes.{arcs_from}
use Rattle.vr_guided.specs.Guides.{is_costly}
use Rattle.vr_guided.proofs.costly.is_route_costly.Given as goal

-- no arc so far is costly, and the arcs from here on decide
abbrev pub invariant-loop-node : goal.invariant-loop-node
invariant-loop-node l = record {
  decide : list_any (is_costly l.list.closed.model.now) (arcs_from l.list.vehicle l.at (drop l.node-index l.nodes ++ l.ends.end ∷ []))
      ≡ list_any (is_costly l.list.closed.model.now) (arcs_from l.list.vehicle l.ends.start (l.nodes ++ l.ends.end ∷ []));
  at : l.at < l.list.closed.model.now.nodes;
}
