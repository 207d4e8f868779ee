use Rattle.std.proofs.Common.{◌≡◌, map}
use Rattle.serde_json.specs.View.{view}
use Rattle.vr_model.specs.tables.Numbers.{below, each}
use Rattle.vr_printed.specs.Printed.{assignment_of}
use Rattle.vr_app.specs.Spans.{span_rows}
use Rattle.vr_app.proofs.spans.rows_of.Given as goal

abbrev pub invariant-loop-v : goal.invariant-loop-v
invariant-loop-v l = map view l.rows.items ≡ each (below l.v) (span_rows l.closed.model.now (assignment_of l.routes))
