use Rattle.std.proofs.Common.{◌∙◌, ℕ, ℤ, List, ◌+◌, ap, subst, sym}
use Rattle.std.proofs.lemmas.List.{length-append}
use Rattle.vr_reach.proofs.Tables.{each_push}
use Rattle.vr_ruin.specs.Columns.{IsColumn}
use Rattle.vr_ruin.proofs.columns.columns_in.Goals as goal

pub loop-x-preserved : goal.loop-x-preserved
loop-x-preserved c =
    let m = c.loop-x.invariant in
    let P = λ (x : ℕ) (column : List ℤ). IsColumn c.args.closed.model.now c.args.m x column in
    rw c.in_ok-push.ensures.items (record {
      long = length-append c.loop-x.columns.items _ ∙ ap (λ n. n + 1) m.long;
      each = λ x other low. each_push P c.loop-x.columns.items c.in_ok-column_of.field-0 m.each
          (subst (λ n. P n c.in_ok-column_of.field-0) (sym m.long) c.in_ok-column_of.ensures) x other low;
    })
