use Rattle.std.proofs.Common.{◌∙◌, ap₂, sym, ap, arith}
use Rattle.vr_model.specs.tables.Numbers.{number_at}
use Rattle.vr_check.proofs.Lines.{arc_is}
use Rattle.vr_check.proofs.Widths.{narrow}
use Rattle.vr_check.proofs.asked_line.AskedLine.visit.Goals as goal

pub returns : goal.returns
returns c =
    let it = c.args.self.now in
    record {
      value = narrow c.visit_of.result c.visit_of.type_inv ∙ c.visit_of.ensures
          ∙ ap₂ number_at (ap (λ dimension. dimension.visit) c.dimension.ensures) c.node.ensures.value
          ∙ sym (ap (λ arc. arc.visit) (arc_is it.model.now it.d it.v it.list.now c.args.k (omega (arith, c.requires.arc))));
    }
