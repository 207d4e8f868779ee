use Rattle.std.proofs.Common.{◌≡◌, ◌∙◌, List, Option, None, sym, subst, arith, inl, inr}
use Rattle.std.proofs.lemmas.Bool.{cases_lt}
use Rattle.std.proofs.lemmas.List.{get_or-set_other, get_or-set_same, length-set}
use Rattle.std.specs.Prelude.{slice_index_or, slice_set}
use Rattle.vr_routes.specs.Pieces.{joined, part_at}
use Rattle.vr_plan.specs.declared.timings.Timing.{Timing}
use Rattle.vr_costfilter.proofs.KnownLemmas.{known-at}
use Rattle.vr_costfilter.specs.GlobalCosts.{IsTimedIfPaid}
use Rattle.vr_costfilter.proofs.reaches.row_of_part.Goals as goal

pub kept_after-requires-clause-known : goal.kept_after-requires-clause-known
kept_after-requires-clause-known c =
    known-at c.args.part.now.model.now c.args.tables.now c.requires.tables c.loop-d.d c.index-tables-d.result c.index-tables-d.is c.loop-d-test.true

pub loop-d-preserved : goal.loop-d-preserved
loop-d-preserved c =
    let i = c.loop-d.invariant in
    let d = c.loop-d.d in
    let row : List (Option Timing) = c.loop-d.timings in
    let new : Option Timing = c.in_ok-timings.field-0 in
    record {
      many = length-set row d new ∙ i.many;
      each = λ e under. elim (cases_lt e d) [
        | inl before ↦ subst (IsTimedIfPaid c.args.part.now.model.now e (part_at c.args.part.now.change.now c.args.part.now.k).vehicle
            (joined c.args.part.now.routes.now.lists (part_at c.args.part.now.change.now c.args.part.now.k).pieces))
            (sym (get_or-set_other row d e new None (omega (arith, before)))) (i.each e before)
        | inr past ↦ (
            let here : d ≡ e = omega (arith, under, past) in
            subst (λ k. IsTimedIfPaid c.args.part.now.model.now k (part_at c.args.part.now.change.now c.args.part.now.k).vehicle
            (joined c.args.part.now.routes.now.lists (part_at c.args.part.now.change.now c.args.part.now.k).pieces)
            (slice_index_or (slice_set row d new) k None)) here
            (subst (IsTimedIfPaid c.args.part.now.model.now d (part_at c.args.part.now.change.now c.args.part.now.k).vehicle
            (joined c.args.part.now.routes.now.lists (part_at c.args.part.now.change.now c.args.part.now.k).pieces)) (sym (get_or-set_same row d new
            None (omega (arith, c.requires.tables.one_of_each, c.args.part.now.sound.well_formed.number_of_dimensions, c.loop-d-test.true, i.many))))
            c.in_ok-timings.ensures))
      ];
    }

pub returns : goal.returns
returns c =
    let i = c.loop-d.invariant in
    record { many = i.many; each = λ d low. i.each d (omega (arith, c.requires.tables.one_of_each, c.loop-d-test.false, low)) }
