use Rattle.std.proofs.Common.{◌≡◌, ◌∙◌, ap, arith, sym}
use Rattle.std.proofs.lemmas.Int.{ints}
use Rattle.std.specs.Prelude.{slice_index_or}
use Rattle.vr_model.specs.tables.Numbers.{number_at}
use Rattle.vr_model.specs.tables.Tables.{dimension_at, evaluator_number, no_dimension, no_evaluator}
use Rattle.vr_loads.specs.Loads.{taken, value_of}
use Rattle.vr_ruin.proofs.CarryingLemmas.{taken-small}
use Rattle.vr_ruin.proofs.carrying.taken.Goals as goal

pub returns-clause-range : goal.returns-clause-range
returns-clause-range c =
    let model = c.args.list.now.closed.model.now in
    let d = c.args.d in
    let v = c.args.list.now.vehicle in
    let s = (taken-small model d v c.requires.load c.args.list.now.there).each c.args.node in
    let number : c.get-evaluator.result.now ≡ evaluator_number (dimension_at model d) v =
    sym (c.get-evaluator.ensures.value 0) ∙ ap (λ x. slice_index_or x.vehicle_evaluators v 0) (sym (c.get-dimension.ensures.value no_dimension)) in
    let same : c.value.result ≡ taken model d v c.args.node =
    c.value.ensures.value
    ∙ (ap (λ e. number_at e.values c.args.node) (sym (c.get.ensures.value no_evaluator))
    ∙ ap (λ x. number_at (slice_index_or x.evaluators c.get-evaluator.result.now no_evaluator).values c.args.node)
    (sym (c.get-dimension.ensures.value no_dimension)))
    ∙ ap (λ e. value_of model d e c.args.node) number in
    record { low = omega (arith, ints, s.low, s.high, same); high = omega (arith, ints, s.low, s.high, same) }
