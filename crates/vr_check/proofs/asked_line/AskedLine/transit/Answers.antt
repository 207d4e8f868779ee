use Rattle.std.proofs.Common.{◌≡◌, ◌+◌, suc, sym, ap, ap₂, ◌∙◌, arith, to_z, of_z, w64}
use Rattle.std.proofs.lemmas.Int.{ints}
use Rattle.vr_model.specs.tables.Tables.{transit}
use Rattle.vr_check.specs.Asked.{stop_node}
use Rattle.vr_check.proofs.Lines.{arc_is}
use Rattle.vr_check.proofs.asked_line.AskedLine.transit.Goals as goal

pub returns-clause-value : goal.returns-clause-value
returns-clause-value c =
    let it = c.args.self.now in
    let fits : to_z w64 (of_z w64 c.transit.result) ≡ c.transit.result = omega (arith, ints, c.transit.ensures.least, c.transit.ensures.greatest) in
    let next : c.args.k + 1 ≡ suc c.args.k = omega arith in
    fits ∙ c.transit.ensures.value ∙ ap (λ v. transit it.model.now it.d v c.node.result c.node-2.result) c.vehicle.ensures
    ∙ ap₂ (transit it.model.now it.d it.v) c.node.ensures.value (c.node-2.ensures.value ∙ ap (stop_node it) next)
    ∙ sym (ap (λ arc. arc.transit) (arc_is it.model.now it.d it.v it.list.now c.args.k (omega (arith, c.requires.arc))))
