use Rattle.std.proofs.Common.{◌∙◌, ap, sym}
use Rattle.vr_model.specs.tables.Tables.{no_vehicle}
use Rattle.vr_model.specs.declared.records.Vehicle.{Vehicle}
use Rattle.vr_earliest.specs.Floors.{starts_freely}
use Rattle.vr_earliest.proofs.FloorLemmas.{free-more}
use Rattle.vr_earliest.proofs.floors.free_of.Goals as goal

pub loop-v-preserved : goal.loop-v-preserved
loop-v-preserved c =
    let is = c.starts_freely.ensures ∙ ap (λ (x : Vehicle). starts_freely x c.args.dimension.now c.loop-v.v) (sym (c.get.ensures.value no_vehicle)) in
    free-more c.args.vehicles.now c.args.dimension.now c.loop-v.v c.loop-v.free.items
    c.push.new.self.items c.starts_freely.result c.loop-v.invariant is c.in_ok-push.ensures.items
