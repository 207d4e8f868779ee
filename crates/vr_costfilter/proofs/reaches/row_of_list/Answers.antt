use Rattle.std.proofs.Common.{◌≡◌, ◌∙◌, List, Option, None, sym, subst, arith, inl, inr}
use Rattle.std.proofs.lemmas.Bool.{cases_lt}
use Rattle.std.proofs.lemmas.List.{get_or-set_other, get_or-set_same, length-set}
use Rattle.std.specs.Prelude.{slice_index_or, slice_set}
use Rattle.vr_plan.specs.declared.timings.Timing.{Timing}
use Rattle.vr_costfilter.proofs.KnownLemmas.{known-at}
use Rattle.vr_costfilter.specs.GlobalCosts.{IsTimedIfPaid}
use Rattle.vr_costfilter.proofs.reaches.row_of_list.Goals as goal

pub timing_of_tour-requires : goal.timing_of_tour-requires
timing_of_tour-requires c = record {
  known =
      known-at c.args.tour.now.closed.model.now c.args.tables.now c.requires.tables c.loop-d.d c.index-tables-d.result c.index-tables-d.is c.loop-d-test.true;
}

pub loop-d-preserved : goal.loop-d-preserved
loop-d-preserved c =
    let i = c.loop-d.invariant in
    let d = c.loop-d.d in
    let row : List (Option Timing) = c.loop-d.row in
    let new : Option Timing = c.in_ok-row.field-0 in
    let n = c.requires.tables.one_of_each in
    let few = c.args.tour.now.closed.well_formed.number_of_dimensions in
    let low = c.loop-d-test.true in
    let many = i.many in
    record {
      many = length-set row d new ∙ i.many;
      each = λ e under. elim (cases_lt e d) [
        | inl before ↦ subst (IsTimedIfPaid c.args.tour.now.closed.model.now e c.args.tour.now.v c.args.tour.now.list.now)
            (sym (get_or-set_other row d e new None (omega (arith, before)))) (i.each e before)
        | inr past ↦ (
            let here : d ≡ e = omega (arith, under, past) in
            subst (λ k. IsTimedIfPaid c.args.tour.now.closed.model.now k c.args.tour.now.v
            c.args.tour.now.list.now (slice_index_or (slice_set row d new) k None)) here
            (subst (IsTimedIfPaid c.args.tour.now.closed.model.now d c.args.tour.now.v c.args.tour.now.list.now)
            (sym (get_or-set_same row d new None (omega (arith, n, few, low, many)))) c.in_ok-row.ensures))
      ];
    }

pub returns : goal.returns
returns c =
    let i = c.loop-d.invariant in
    let n = c.requires.tables.one_of_each in
    let end = c.loop-d-test.false in
    record { many = i.many; each = λ d low. i.each d (omega (arith, n, end, low)) }
