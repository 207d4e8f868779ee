use Rattle.std.proofs.Common.{◌∙◌, ℕ, ap, ap₂, sym, Option}
use Rattle.vr_model.specs.declared.records.Dimension.{Dimension}
use Rattle.vr_model.specs.declared.records.StopRow.{StopRow}
use Rattle.vr_model.specs.tables.Tables.{dimension_at, no_dimension, row_of, transit}
use Rattle.vr_costfilter.specs.Stages.{go_on}
use Rattle.vr_costfilter.proofs.guides.Guide.to_end.Goals as goal

pub returns-clause-value : goal.returns-clause-value
returns-clause-value c =
    let g = c.args.self.now in
    let row = c.of_key-row.ensures.value ∙ ap (λ (x : Dimension). row_of x.ends g.v) (sym (c.get-dimension.ensures.value no_dimension)) in
    c.go_on.ensures.value ∙ ap₂ (λ (n : ℕ) (o : Option StopRow). go_on (transit g.model.now g.d g.v c.args.stage.at n)
    (dimension_at g.model.now g.d).slack_max n g.finish.allowed o c.args.stage) c.args.self.now.sound.end_is row
