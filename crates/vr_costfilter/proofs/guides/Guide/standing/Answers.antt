use Rattle.std.proofs.Common.{◌∙◌, ◌<◌, ℕ, ap, ap₂, sym, subst, arith, to_z, of_z, w64}
use Rattle.std.specs.Prelude.{All, ℤ, pos}
use Rattle.std.proofs.lemmas.Int.{ints}
use Rattle.vr_model.specs.declared.records.Dimension.{Dimension}
use Rattle.vr_model.specs.declared.records.Vehicle.{Vehicle}
use Rattle.vr_model.specs.tables.Numbers.{horizon}
use Rattle.vr_model.specs.tables.Tables.{no_dimension, no_vehicle, row_of, vehicle_at}
use Rattle.vr_model.specs.tables.WellFormed.{IsIn, IsStopRow}
use Rattle.vr_model.specs.routes.Costs.{row_cost}
use Rattle.vr_plan.specs.Bounds.{cumul_cost}
use Rattle.vr_plan.proofs.BoundLemmas.{read-around, read-cumul}
use Rattle.vr_costfilter.specs.declared.guides.Stage.{Stage}
use Rattle.vr_costfilter.proofs.guides.Guide.standing.Goals as goal

pub row_cost-requires-clause-valid : goal.row_cost-requires-clause-valid
row_cost-requires-clause-valid c =
    let g = c.args.self.now.sound in
    let is = g.well_formed.each_dimension c.args.self.now.d no_dimension g.dimension in
    c.of_key.ensures.valid (subst (λ (x : Dimension). All IsStopRow x.starts) (c.get-dimension.ensures.value no_dimension) is.rows_of_starts.each_row)

pub returns-clause-value : goal.returns-clause-value
returns-clause-value c =
    let x = c.args.cumul in
    let read = read-cumul x c.requires.cumul in
    let costs = c.row_cost.ensures in
    let soft = read-around c.row_cost.result cumul_cost costs.range (omega arith) ∙ costs.value
    ∙ ap₂ (λ o z. row_cost o z)
    (c.of_key.ensures.value ∙ ap (λ (d : Dimension). row_of d.starts c.args.self.now.v) (sym (c.get-dimension.ensures.value no_dimension))) read in
    ap₂ (λ (n : ℕ) (y : ℤ). (let s : Stage = record { at = n; cumul = y; soft = to_z w64 (of_z w64 c.row_cost.result) } in s))
    (ap (λ (w : Vehicle). w.start) (sym (c.get.ensures.value no_vehicle))) read
    ∙ ap (λ (y : ℤ). (let s : Stage = record { at = (vehicle_at c.args.self.now.model.now c.args.self.now.v).start; cumul = x; soft = y } in s)) soft

pub returns-clause-range : goal.returns-clause-range
returns-clause-range c =
    let g = c.args.self.now.sound in
    let costs = c.row_cost.ensures in
    let known = (g.well_formed.each_vehicle c.args.self.now.v no_vehicle g.vehicle).start_in_range in
    record {
      at = subst (λ (w : Vehicle). w.start < c.args.self.now.model.now.nodes) (c.get.ensures.value no_vehicle) known;
      cumul = subst (IsIn (pos 0) horizon) (sym (read-cumul c.args.cumul c.requires.cumul)) c.requires.cumul;
      not_negative = omega (arith, ints, costs.low, costs.range.high);
      bound = omega (arith, ints, costs.low, costs.range.high);
    }
