use Rattle.std.proofs.Common.{◌≡◌, not}
use Rattle.std.specs.Prelude.{filter}
use Rattle.vr_model.specs.tables.Numbers.{below}
use Rattle.vr_model.specs.routes.Routes.{is_active}
use Rattle.vr_model.specs.tables.Tables.{is_visit}
use Rattle.vr_print.proofs.routes.inactive.Given as goal

abbrev pub invariant-loop-node : goal.invariant-loop-node
invariant-loop-node l = l.nodes.items ≡ filter (λ node. not (is_active l.routes.lists node)) (filter (is_visit l.model) (below l.node))
