use Rattle.std.proofs.Common.{◌≡◌, ◌++◌, map}
use Rattle.serde_json.specs.View.{view}
use Rattle.vr_model.specs.tables.Numbers.{below}
use Rattle.vr_app.specs.Spans.{spans_in}
use Rattle.vr_app.specs.Scheduled.{printed_plans}
use Rattle.vr_app.proofs.spans.push_used.Given as goal

abbrev pub invariant-loop-d : goal.invariant-loop-d
invariant-loop-d l = map view l.rows.items ≡ map view l.initial.rows.items ++ spans_in l.closed.model.now l.v l.list (printed_plans l.route) (below l.d)
