use Rattle.std.proofs.Common.{◌≡◌, ◌∙◌, pos, sym, ap, arith}
use Rattle.std.proofs.lemmas.Int.{ints}
use Rattle.vr_model.specs.tables.Tables.{no_dimension, dimension_at}
use Rattle.vr_model.specs.tables.Numbers.{number_at}
use Rattle.vr_check.proofs.Widths.{read64}
use Rattle.vr_check.proofs.spans.span_coefficient.Goals as goal

pub returns : goal.returns
returns c =
    let model = c.args.closed.model.now in
    let of = c.args.closed.well_formed.each_dimension c.args.d no_dimension c.requires.dimension in
    let range = of.span_costs_in_range c.args.v (pos 0) (omega (arith, c.requires.vehicle, of.span_cost_of_each_vehicle)) in
    let coefficient = number_at (dimension_at model c.args.d).span_costs c.args.v in
    let is : c.get-2.result.now ≡ coefficient = sym (c.get-2.ensures.value (pos 0))
    ∙ ap (λ dimension. number_at dimension.span_costs c.args.v) (sym (c.get.ensures.value no_dimension)) in
    let fits : read64 coefficient ≡ coefficient = omega (arith, ints, range.at_least, range.at_most) in
    let value : read64 c.get-2.result.now ≡ coefficient = ap read64 is ∙ fits in
    record {
      value = value;
      range = record { at_least = omega (arith, ints, value, range.at_least); at_most = omega (arith, ints, value, range.at_most) };
    }
