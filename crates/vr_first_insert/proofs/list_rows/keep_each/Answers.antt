use Rattle.std.proofs.Common.{◌∙◌, ℕ, ◌+◌, ap, subst, sym}
use Rattle.std.proofs.lemmas.List.{length-append}
use Rattle.vr_reach.proofs.Tables.{each_push}
use Rattle.vr_first_insert.specs.declared.list_rows.ListRows.{ListRows}
use Rattle.vr_first_insert.specs.KeptRows.{AreKeptRowsIn}
use Rattle.vr_first_insert.proofs.list_rows.keep_each.Goals as goal

pub loop-d-preserved : goal.loop-d-preserved
loop-d-preserved c =
    let m = c.loop-d.invariant in
    let P = λ (d : ℕ) (kept : ListRows). AreKeptRowsIn c.args.lookups.now.closed.model.now d c.args.lists.now kept in
    rw c.in_ok-push.ensures.items (record {
      long = length-append c.loop-d.list_rows.items _ ∙ ap (λ n. n + 1) m.long;
      each = λ d other lt. each_push P c.loop-d.list_rows.items c.in_ok-build.field-0 m.each
          (subst (λ n. P n c.in_ok-build.field-0) (sym m.long) c.in_ok-build.ensures) d other lt;
    })
