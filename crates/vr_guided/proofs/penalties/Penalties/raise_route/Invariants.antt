use Rattle.std.proofs.Common.{false, ◌≡◌, ◌<◌, ◌+◌, ◌*◌, ◌++◌, ◌∷◌, [], drop}
use Rattle.vr_model.specs.routes.Routes.{arcs_from}
use Rattle.vr_guided.specs.Counts.{AtMost, counted}
use Rattle.vr_guided.specs.Worths.{raised_in_turn}
use Rattle.vr_guided.proofs.penalties.Penalties.raise_route.Given as goal

-- the arcs so far are raised, and those from here on are left
abbrev pub invariant-loop-node : goal.invariant-loop-node
invariant-loop-node l = record {
  goes : raised_in_turn l.list.closed.model.now l.greatest (counted l.self) (arcs_from l.list.vehicle l.at (drop l.node-index l.nodes ++ l.ends.end ∷ []))
      ≡ raised_in_turn l.list.closed.model.now l.greatest (counted l.initial.self) (arcs_from l.list.vehicle l.ends.start (l.nodes ++ l.ends.end ∷ []));
  at : l.at < l.list.closed.model.now.nodes;
  nodes : l.self.nodes ≡ l.list.closed.model.now.nodes;
  few : AtMost (1000000000 + 1001 * l.list.vehicle + l.node-index) (counted l.self);
  same : l.any ≡ false → counted l.self ≡ counted l.initial.self;
}
