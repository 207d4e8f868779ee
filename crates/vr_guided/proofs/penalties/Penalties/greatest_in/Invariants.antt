use Rattle.std.proofs.Common.{◌≡◌, ◌<◌, ◌++◌, ◌∷◌, [], drop}
use Rattle.vr_model.specs.routes.Routes.{arcs_from}
use Rattle.vr_guided.specs.Counts.{counted}
use Rattle.vr_guided.specs.Worths.{greatest_worth, worth_of}
use Rattle.vr_guided.proofs.penalties.Penalties.greatest_in.Given as goal

-- the arcs so far are counted, and those from here on are left
abbrev pub invariant-loop-node : goal.invariant-loop-node
invariant-loop-node l = record {
  goes : greatest_worth (worth_of l.list.closed.model.now (counted l.self)) l.best
      (arcs_from l.list.vehicle l.at (drop l.node-index l.nodes ++ l.ends.end ∷ []))
      ≡ greatest_worth (worth_of l.list.closed.model.now (counted l.self)) l.fn.so_far (arcs_from l.list.vehicle l.ends.start (l.nodes ++ l.ends.end ∷ []));
  at : l.at < l.list.closed.model.now.nodes;
}
