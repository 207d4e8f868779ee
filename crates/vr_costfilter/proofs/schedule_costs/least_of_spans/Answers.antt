use Rattle.std.proofs.Common.{◌≡◌, ◌∙◌, ℕ, List, length, ap, arith}
use Rattle.std.proofs.lemmas.Int.{ints}
use Rattle.std.specs.Prelude.{ℤ, ◌*ℤ◌}
use Rattle.vr_model.specs.tables.Numbers.{below, number_at, total_by}
use Rattle.vr_model.specs.tables.Tables.{dimension_at}
use Rattle.vr_model.specs.declared.records.Model.{Model}
use Rattle.vr_model.proofs.tables.Totals.{total_by-more}
use Rattle.vr_routes.specs.Pieces.{joined, part_at}
use Rattle.vr_earliest.specs.Ways.{least_span}
use Rattle.vr_costfilter.proofs.schedule_costs.least_of_spans.Goals as goal

-- what the span of a list costs at least in dimension d
abbrev paid : Model → ℕ → List ℕ → ℕ → ℤ
paid model v list d = number_at (dimension_at model d).span_costs v *ℤ least_span model d v list

pub loop-d-preserved : goal.loop-d-preserved
loop-d-preserved c =
    let model = c.args.early.now.model.now in
    let part = part_at c.args.early.now.change.now c.args.k in
    let i = c.loop-d.invariant in
    let is = c.loop-d.cost-is in
    let e = c.least_of_span-cost.ensures in
    let low = c.loop-d-test.true in
    let n = c.len-d-end.ensures in
    let few = c.args.early.now.sound.well_formed.number_of_dimensions in
    record {
      sum = λ lists are.
          let list : List ℕ = joined lists part.pieces in
          let next = total_by-more (paid model part.vehicle list) c.loop-d.d in
          let value : c.least_of_span-cost.result ≡ paid model part.vehicle list c.loop-d.d = e.value lists are in
          let before = i.sum lists are in
          omega (arith, ints, next, before, is, value, e.range.low, e.range.high, i.range.low, i.range.high, low, few, n);
      range = record {
        low = omega (arith, ints, is, e.range.low, e.range.high, i.range.low, i.range.high, low, few, n);
        high = omega (arith, ints, is, e.range.low, e.range.high, i.range.low, i.range.high, low, few, n);
      };
    }

pub returns-clause-value : goal.returns-clause-value
returns-clause-value c lists are =
    let model = c.args.early.now.model.now in
    let part = part_at c.args.early.now.change.now c.args.k in
    let all : c.loop-d.d ≡ length model.dimensions = omega (arith, c.len-d-end.ensures, c.loop-d-test.false, c.loop-d.auto.d-end) in
    c.loop-d.invariant.sum lists are ∙ ap (λ n. total_by (paid model part.vehicle (joined lists part.pieces)) (below n)) all
