use Rattle.std.proofs.Common.{◌∙◌, ◌++◌, ap, sym}
use Rattle.vr_model.specs.declared.records.Vehicle.{Vehicle}
use Rattle.vr_model.specs.tables.Tables.{no_vehicle, vehicle_at}
use Rattle.vr_model.specs.schedules.Lines.{line}
use Rattle.vr_model.proofs.schedules.ChoiceLaws.{chosen_where_feasible}
use Rattle.vr_steps.specs.Lines.{hop_between}
use Rattle.vr_rules.specs.Placing.{item_nodes}
use Rattle.vr_rules.proofs.OpenLemmas.{same_test}
use Rattle.vr_rules.proofs.FrontLemmas.{at_end, item_last}
use Rattle.vr_rules.proofs.fronts.Front.ends.Goals as goal

pub returns : goal.returns
returns c =
    let model = c.args.longer.now.closed.model.now in
    let d = c.args.self.now.dimension in
    let v = c.args.self.now.vehicle in
    let whole = c.args.longer.now.list.now ++ item_nodes c.args.longer.now.item in
    let front = c.requires.front in
    let last = c.last-last.ensures ∙ item_last (vehicle_at model v).start c.args.longer.now.list.now c.args.longer.now.item in
    let end = ap (λ (vehicle : Vehicle). vehicle.end) (sym (c.get.ensures.value no_vehicle)) in
    let arc = c.hop-arc.ensures.exact ∙ (λ t. hop_between model d v (last t) (end t)) in
    same_test _ _
    (c.ends.ensures (line model d v whole)
    (at_end model c.args.longer.now.closed.well_formed d v front.dimension front.vehicle whole c.args.walk.now c.cross.new.self c.hop-arc.result
    c.args.self.now.ending c.args.self.now.breaks c.requires.here front.breaks c.in_ok-cross.ensures.exact arc front.ending c.requires.driven))
    (chosen_where_feasible (line model d v whole))
