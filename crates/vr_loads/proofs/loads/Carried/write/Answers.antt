use Rattle.std.proofs.Common.{◌≡◌, ◌∙◌, ◌<◌, length, sym, ap, subst, arith, pos}
use Rattle.std.proofs.lemmas.Int.{ints}
use Rattle.std.specs.Prelude.{slice_index_or}
use Rattle.vr_model.specs.tables.Numbers.{number_at}
use Rattle.vr_model.specs.tables.Tables.{dimension_at, evaluator_number, no_dimension, no_vehicle, vehicle_at}
use Rattle.vr_loads.specs.Loads.{taken, value_of}
use Rattle.vr_loads.proofs.LoadLines.{capacity_in_range, number_low}
use Rattle.vr_loads.proofs.loads.Carried.write.Goals as goal

pub write_sums-requires-clause-evaluator : goal.write_sums-requires-clause-evaluator
write_sums-requires-clause-evaluator c =
    let number : c.get-evaluator.result.now ≡ evaluator_number (dimension_at c.args.model.now c.args.d) c.args.v =
    sym (c.get-evaluator.ensures.value 0) ∙ ap (λ x. slice_index_or x.vehicle_evaluators c.args.v 0) (sym (c.get-dimension.ensures.value no_dimension)) in
    subst (λ e. e < length (dimension_at c.args.model.now c.args.d).evaluators) (sym number)
    (number_low c.args.model.now c.args.d c.requires.load c.args.v c.requires.vehicle)

pub overflow_sub-self : goal.overflow_sub-self
overflow_sub-self c =
    let r = capacity_in_range c.args.model.now c.args.d c.requires.load c.args.v c.requires.vehicle in
    let capacity : c.get-capacity.result.now ≡ number_at (dimension_at c.args.model.now c.args.d).capacities c.args.v =
    sym (c.get-capacity.ensures.value (pos 0)) ∙ ap (λ x. number_at x.capacities c.args.v) (sym (c.get-dimension.ensures.value no_dimension)) in
    let b = c.value.ensures.range in
    omega (arith, ints, r.at_least, r.at_most, capacity, b.low, b.high)

pub returns : goal.returns
returns c =
    let m = c.args.model.now in
    let d = c.args.d in
    let v = c.args.v in
    let r = capacity_in_range m d c.requires.load v c.requires.vehicle in
    let number : c.get-evaluator.result.now ≡ evaluator_number (dimension_at m d) v =
    sym (c.get-evaluator.ensures.value 0) ∙ ap (λ x. slice_index_or x.vehicle_evaluators v 0) (sym (c.get-dimension.ensures.value no_dimension)) in
    let capacity : c.get-capacity.result.now ≡ number_at (dimension_at m d).capacities v =
    sym (c.get-capacity.ensures.value (pos 0)) ∙ ap (λ x. number_at x.capacities v) (sym (c.get-dimension.ensures.value no_dimension)) in
    let first : c.value.result ≡ taken m d v (vehicle_at m v).start =
    c.value.ensures.value ∙ (ap (λ e. value_of m d e c.get.result.now.start) number ∙ ap (λ x. taken m d v x.start) (sym (c.get.ensures.value no_vehicle))) in
    let b = c.value.ensures.range in
    record {
      evaluator_is = number;
      room_is = omega (arith, ints, r.at_least, r.at_most, capacity, b.low, b.high, first);
      sums_are = c.write_sums.ensures;
    }
