use Rattle.std.proofs.Common.{◌≡◌, ◌∷◌, []}
use Rattle.std.specs.Prelude.{filter}
use Rattle.vr_model.specs.tables.Numbers.{below}
use Rattle.vr_model.specs.tables.Tables.{is_visit}
use Rattle.vr_routes.proofs.routes.visits_of.Given as goal

abbrev pub invariant-loop-node : goal.invariant-loop-node
invariant-loop-node l = record {
  lists : l.seating.lists ≡ filter (is_visit l.model) (below l.node) ∷ [];
  nodes : l.seating.nodes ≡ l.model.nodes;
}
