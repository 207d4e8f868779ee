-- Negative transits by evaluator, and not by vehicle: the form in which the code looks for them.
use Rattle.std.specs.Prelude.{ℕ, Bool, not, ◌&&◌, ◌||◌, ◌==◌, length}
use Rattle.std.specs.List.{list_any}
use Rattle.vr_model.specs.tables.Numbers.{below}
use Rattle.vr_model.specs.tables.Tables.{evaluated, evaluator_of}
use Rattle.vr_model.specs.tables.ModelRules.{is_negative, evaluator_at, has_breaks, has_span_costs}
use Rattle.vr_model.specs.declared.records.Model.{Model}
use Rattle.vr_model.specs.declared.records.Dimension.{Dimension}
use Rattle.vr_model.specs.declared.records.Evaluator.{Evaluator}

-- an evaluator gives a negative transit from node i to node j, which is another
abbrev pub is_backward_arc : Model → Evaluator → ℕ → ℕ → Bool
is_backward_arc model evaluator i j = not (i == j) && is_negative (evaluated model evaluator i j)

-- an evaluator gives a negative transit from node i to another
abbrev pub is_backward_from : Model → Evaluator → ℕ → Bool
is_backward_from model evaluator i = list_any (is_backward_arc model evaluator i) (below model.nodes)

-- an evaluator gives a negative transit between two distinct nodes
abbrev pub is_backward : Model → Evaluator → Bool
is_backward model evaluator = list_any (is_backward_from model evaluator) (below model.nodes)

-- evaluator k of a dimension does so, and some vehicle uses it
abbrev pub is_used_backward : Model → Dimension → ℕ → Bool
is_used_backward model dimension k =
    list_any (λ number. number == k) dimension.vehicle_evaluators && is_backward model (evaluator_at dimension k)

-- the evaluator of some vehicle does so
abbrev pub has_backward_vehicle : Model → Dimension → Bool
has_backward_vehicle model dimension =
    list_any (λ v. is_backward model (evaluator_of dimension v)) (below (length model.vehicles))

-- a dimension has breaks or span costs, and the evaluator of some vehicle does so
abbrev pub is_backward_dimension : Model → Dimension → Bool
is_backward_dimension model dimension =
    (has_breaks dimension || has_span_costs dimension) && has_backward_vehicle model dimension
