use Rattle.std.proofs.Common.{◌∙◌, ℕ, ◌+◌, ap, subst, sym}
use Rattle.std.proofs.lemmas.List.{length-append}
use Rattle.vr_reach.proofs.Tables.{each_push}
use Rattle.vr_ruin.specs.declared.columns.MatrixColumns.{MatrixColumns}
use Rattle.vr_ruin.specs.Columns.{AreColumnsOf}
use Rattle.vr_ruin.proofs.columns.columns_of.Goals as goal

pub loop-m-preserved : goal.loop-m-preserved
loop-m-preserved c =
    let m = c.loop-m.invariant in
    let P = λ (m : ℕ) (one : MatrixColumns). AreColumnsOf c.args.closed.model.now m one.columns.items in
    rw c.in_ok-push.ensures.items (record {
      long = length-append c.loop-m.all.items _ ∙ ap (λ n. n + 1) m.long;
      each = λ k other low. each_push P c.loop-m.all.items c.in_ok-columns_in.field-0 m.each
          (subst (λ n. P n c.in_ok-columns_in.field-0) (sym m.long) c.in_ok-columns_in.ensures) k other low;
    })
