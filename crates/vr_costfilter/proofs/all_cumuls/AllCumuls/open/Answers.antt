use Rattle.std.proofs.Common.{◌≡◌, ◌∙◌, ℕ, ◌+◌, List, length, length-append, ap, subst, sym}
use Rattle.std.specs.Prelude.{slice_index_or}
use Rattle.std.proofs.lemmas.List.{get_or_default}
use Rattle.vr_model.specs.tables.Tables.{dimension_at}
use Rattle.vr_plan.specs.declared.tables.Table.{Table}
use Rattle.vr_costfilter.proofs.KnownLemmas.{known-at}
use Rattle.vr_parts.proofs.RowLemmas.{each-push}
use Rattle.vr_costfilter.specs.declared.kept.KeptList.{KeptList}
use Rattle.vr_costfilter.specs.Kept.{AreKept, IsPaid}
use Rattle.vr_costfilter.proofs.all_cumuls.AllCumuls.open.Goals as goal

pub kept_in-requires-clause-known : goal.kept_in-requires-clause-known
kept_in-requires-clause-known c =
    known-at c.args.closed.model.now c.args.tables.now c.requires.tables c.loop-d.d c.index-tables-d.result c.index-tables-d.is c.loop-d-test.true

pub loop-d-preserved : goal.loop-d-preserved
loop-d-preserved c =
    let m = c.loop-d.invariant in
    let P = λ (d : ℕ) (kept : List KeptList). AreKept c.args.closed.model.now d c.args.routes.now.lists kept in
    let Q = λ (d : ℕ) (kept : List KeptList). (table : Table)
    → IsPaid c.args.paid (slice_index_or c.args.tables.now d table) (dimension_at c.args.closed.model.now d)
    → length kept ≡ length c.args.routes.now.lists in
    let here : Q c.loop-d.d c.in_ok-kept_in.field-0 = λ table paid.
    c.in_ok-kept_in.ensures.each (subst (λ (t : Table). IsPaid c.args.paid t (dimension_at c.args.closed.model.now c.loop-d.d))
    (get_or_default c.args.tables.now c.loop-d.d table c.index-tables-d.result c.loop-d-test.true ∙ sym c.index-tables-d.is) paid) in
    rw c.in_ok-push.ensures.items (record {
      many = length-append c.loop-d.dimensions.items _ ∙ ap (λ n. n + 1) m.many;
      each = λ d other low. each-push P c.loop-d.dimensions.items c.in_ok-kept_in.field-0 m.each
          (subst (λ n. P n c.in_ok-kept_in.field-0) (sym m.many) c.in_ok-kept_in.ensures.kept) d other low;
      of_each = λ d other table low paid. each-push Q c.loop-d.dimensions.items c.in_ok-kept_in.field-0
          (λ d other low. λ table. m.of_each d other table low) (subst (λ n. Q n c.in_ok-kept_in.field-0) (sym m.many) here) d other low table paid;
    })
