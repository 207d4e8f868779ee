use Rattle.std.proofs.Common.{◌≡◌, length, sym, ◌∙◌, arith}
use Rattle.std.specs.List.{list_any}
use Rattle.vr_model.specs.tables.Numbers.{below}
use Rattle.vr_model.specs.tables.ModelRules.{evaluator_at}
use Rattle.vr_model.specs.tables.WellFormed.{IsDimension}
use Rattle.vr_model.specs.declared.records.Model.{Model}
use Rattle.vr_model.specs.declared.records.Dimension.{Dimension}
use Rattle.vr_read.specs.Backward.{is_backward, is_used_backward, has_backward_vehicle}
use Rattle.vr_model.proofs.tables.Ranges.{test_finds, test_goes_on, test_ends}
use Rattle.vr_read.proofs.Uses.{used_once}
use Rattle.vr_read.proofs.backward.has_backward_vehicle.Goals as goal

-- some evaluator that is used goes back exactly where that of some vehicle does
by_evaluator : (model : Model) (dimension : Dimension) → IsDimension model dimension
    → list_any (is_used_backward model dimension) (below (length dimension.evaluators)) ≡ has_backward_vehicle model dimension
by_evaluator model dimension h =
    used_once (λ k. is_backward model (evaluator_at dimension k)) dimension.vehicle_evaluators
    (length dimension.evaluators) (length model.vehicles) h.vehicle_evaluators_in_range h.evaluator_of_each_vehicle

pub returns-then-is_used_backward : goal.returns-then-is_used_backward
returns-then-is_used_backward c =
    let model = c.args.of.model.now in let dimension = c.args.dimension.now in
    test_finds (is_used_backward model dimension) (length dimension.evaluators) c.loop-k.k
    c.loop-k.invariant (omega arith) (sym c.is_used_backward.ensures ∙ c.if-is_used_backward.true)
    ∙ by_evaluator model dimension c.requires.dimension

pub loop-k-preserved : goal.loop-k-preserved
loop-k-preserved c =
    let model = c.args.of.model.now in let dimension = c.args.dimension.now in
    test_goes_on (is_used_backward model dimension) (length dimension.evaluators) c.loop-k.k
    c.loop-k.invariant (omega arith) (sym c.is_used_backward.ensures ∙ c.if-is_used_backward.false)

pub returns : goal.returns
returns c =
    let model = c.args.of.model.now in let dimension = c.args.dimension.now in
    test_ends (is_used_backward model dimension) (length dimension.evaluators) c.loop-k.k c.loop-k.invariant (omega arith)
    ∙ by_evaluator model dimension c.requires.dimension
