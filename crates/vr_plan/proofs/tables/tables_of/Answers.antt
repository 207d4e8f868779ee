use Rattle.std.proofs.Common.{◌∙◌, ℕ, ◌+◌, ap, subst, sym}
use Rattle.std.proofs.lemmas.List.{length-append}
use Rattle.vr_plan.specs.declared.tables.Table.{Table}
use Rattle.vr_plan.specs.Tables.{IsTable}
use Rattle.vr_reach.proofs.Tables.{each_push}
use Rattle.vr_plan.proofs.tables.tables_of.Goals as goal

pub loop-d-preserved : goal.loop-d-preserved
loop-d-preserved c =
    let m = c.loop-d.invariant in
    let P = λ (d : ℕ) (table : Table). IsTable c.args.model.now d table in
    rw c.in_ok-push.ensures.items (record {
      long = length-append c.loop-d.tables.items _ ∙ ap (λ n. n + 1) m.long;
      each = λ d other lt. each_push P c.loop-d.tables.items c.in_ok-table_of.field-0 m.each
          (subst (λ n. P n c.in_ok-table_of.field-0) (sym m.long) c.in_ok-table_of.ensures) d other lt;
    })
