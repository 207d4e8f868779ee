use Rattle.std.proofs.Common.{◌≡◌, ◌∙◌, sym, ap, arith}
use Rattle.std.proofs.lemmas.Int.{ints}
use Rattle.vr_model.specs.tables.Tables.{no_dimension, dimension_at}
use Rattle.vr_check.proofs.Widths.{read64}
use Rattle.vr_check.proofs.spans.global_coefficient.Goals as goal

pub returns : goal.returns
returns c =
    let model = c.args.closed.model.now in
    let of = c.args.closed.well_formed.each_dimension c.args.d no_dimension c.requires.dimension in
    let range = of.global_span_cost_in_range in
    let coefficient = (dimension_at model c.args.d).global_span_cost in
    let is : c.get.result.now.global_span_cost ≡ coefficient = ap (λ dimension. dimension.global_span_cost) (sym (c.get.ensures.value no_dimension)) in
    let fits : read64 coefficient ≡ coefficient = omega (arith, ints, range.at_least, range.at_most) in
    let value : read64 c.get.result.now.global_span_cost ≡ coefficient = ap read64 is ∙ fits in
    record {
      value = value;
      range = record { at_least = omega (arith, ints, value, range.at_least); at_most = omega (arith, ints, value, range.at_most) };
    }
