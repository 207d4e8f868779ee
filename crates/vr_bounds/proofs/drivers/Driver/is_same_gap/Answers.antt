use Rattle.std.proofs.Common.{rules, ◌≡◌, ◌∙◌, ◌<◌, length, sym, arith}
use Rattle.std.proofs.lemmas.Bool.{eqb-true}
use Rattle.vr_model.specs.declared.records.Model.{Model}
use Rattle.vr_bounds.proofs.GapLemmas.{same-gap}
use Rattle.vr_bounds.proofs.drivers.Driver.is_same_gap.Goals as goal

pub returns-then-begins_so-clause-same : goal.returns-then-begins_so-clause-same
returns-then-begins_so-clause-same c ends node =
    let model : Model = c.args.self.closed.model.now in
    let v = c.args.self.vehicle in
    let begins : c.before-2.result ≡ c.before-3.result = omega (arith, c.if-begins_so.true) in
    let ends_so : c.at.result ≡ c.at-2.result = eqb-true c.at.result c.at-2.result ends in
    let some : 0 < length c.args.old.now = search rules in
    let also : 0 < length c.args.new.now = search rules in
    same-gap model v c.args.old.now c.args.place c.args.new.now c.args.other node (omega (arith, c.if-place-old.false)) some c.requires.other also
    (sym c.before-2.ensures.value ∙ begins ∙ c.before-3.ensures.value) (sym c.at.ensures.value ∙ ends_so ∙ c.at-2.ensures.value)
