use Rattle.std.proofs.Common.{◌≡◌, ap, sym, ◌∙◌, arith}
use Rattle.std.proofs.lemmas.Int.{ints}
use Rattle.vr_model.specs.tables.Tables.{no_vehicle, entry, arc_cost}
use Rattle.vr_model.proofs.tables.Bounds.{arc_cost_in_range}
use Rattle.vr_model.proofs.records.Model.arc_cost.Goals as goal

pub returns-clause-not_negative : goal.returns-clause-not_negative
returns-clause-not_negative c =
    let model = c.args.self.now in
    let e : c.matrix_part.result ≡ arc_cost model c.args.v c.args.i c.args.j = c.matrix_part.ensures.value
    ∙ ap (λ vehicle. entry model vehicle.costs c.args.i c.args.j) (sym (c.get.ensures.value no_vehicle)) in
    let r = arc_cost_in_range model c.requires.well_formed c.args.v c.args.i c.args.j c.requires.vehicle c.requires.origin c.requires.target in
    omega (arith, ints, e, r.at_least, r.at_most)
