use Rattle.std.proofs.Common.{◌≡◌, ◌+◌, to_z, of_z, w64, ap, ◌∙◌, sym, subst, arith}
use Rattle.std.specs.Prelude.{ℤ, Option, false, slice_index_or, IfSome}
use Rattle.std.proofs.lemmas.Int.{ints, clamps}
use Rattle.vr_model.specs.schedules.Schedules.{no_break}
use Rattle.vr_model.specs.declared.records.BreakRow.{BreakRow}
use Rattle.vr_steps.specs.declared.lines.Line.{Line}
use Rattle.vr_plan.specs.Narrow.{place_begin, first_at, may_stand, stands_at, is_earlier, IsLeastOf, IsStartOf}
use Rattle.vr_plan.proofs.LeastTried.{tried_more, tried_as, not_earlier, not_standing}
use Rattle.vr_plan.proofs.StartSteps.{lesser_start}
use Rattle.vr_plan.proofs.starts.best_with.Goals as goal

pub returns-then-not-is_earlier-clause-exact : goal.returns-then-not-is_earlier-clause-exact
returns-then-not-is_earlier-clause-exact c before defined of =
    let row = slice_index_or c.args.line.now.breaks c.args.i no_break in
    let firsts = first_at c.args.line.now.hops c.args.cumuls.now row c.args.ready in
    let valid = c.requires.sound.each_break c.args.i no_break c.requires.place in
    let from_is = ap (λ (r : BreakRow). r.from) c.row_at-row.ensures in
    let begin_is = c.place_begin-begin.ensures.value ∙ ap (λ hs. place_begin hs c.args.cumuls.now c.args.place) c.as_slice-hops.ensures in
    let same : to_z w64 (of_z w64 c.max-first.result) ≡ firsts c.args.place = omega
    (arith, ints, clamps, c.max.ensures.value, c.max-first.ensures.value, begin_is, from_is, valid, c.requires.ready, c.place_begin-begin.ensures.range) in
    not_earlier defined c.args.i row.to firsts (stands_at c.args.line.now.hops c.args.cumuls.now row c.args.ready) c.args.place c.args.best
    (subst (λ (x : ℤ). is_earlier x c.args.best ≡ false) same (sym c.is_earlier.ensures ∙ c.if-not-is_earlier.true)) (before defined of)

pub returns-then-not-may_stand-clause-exact : goal.returns-then-not-may_stand-clause-exact
returns-then-not-may_stand-clause-exact c before defined of =
    let row = slice_index_or c.args.line.now.breaks c.args.i no_break in
    let firsts = first_at c.args.line.now.hops c.args.cumuls.now row c.args.ready in
    let valid = c.requires.sound.each_break c.args.i no_break c.requires.place in
    let from_is = ap (λ (r : BreakRow). r.from) c.row_at-row.ensures in
    let long_is = ap (λ (r : BreakRow). r.duration) c.row_at-row.ensures in
    let begin_is = c.place_begin-begin.ensures.value ∙ ap (λ hs. place_begin hs c.args.cumuls.now c.args.place) c.as_slice-hops.ensures in
    let same : to_z w64 (of_z w64 c.max-first.result) ≡ firsts c.args.place = omega
    (arith, ints, clamps, c.max.ensures.value, c.max-first.ensures.value, begin_is, from_is, valid, c.requires.ready, c.place_begin-begin.ensures.range) in
    let long : to_z w64 (of_z w64 c.row_at-row.result.duration) ≡ row.duration = omega (arith, ints, long_is, valid) in
    not_standing defined c.args.i row.to firsts (stands_at c.args.line.now.hops c.args.cumuls.now row c.args.ready) c.args.place c.args.best
    (subst (λ (x : ℤ). may_stand c.args.line.now.hops c.args.cumuls.now row.duration x c.args.place ≡ false) same
    (subst (λ (d : ℤ). may_stand c.args.line.now.hops c.args.cumuls.now d (to_z w64 (of_z w64 c.max-first.result)) c.args.place ≡ false) long
    (ap (λ hs. may_stand hs c.args.cumuls.now (to_z w64 (of_z w64 c.row_at-row.result.duration)) (to_z w64 (of_z w64 c.max-first.result)) c.args.place)
    (sym c.as_slice-hops.ensures) ∙ sym c.may_stand.ensures ∙ c.if-not-may_stand.true))) (before defined of)

pub returns-clause-exact : goal.returns-clause-exact
returns-clause-exact c before defined of =
    let row = slice_index_or c.args.line.now.breaks c.args.i no_break in
    let firsts = first_at c.args.line.now.hops c.args.cumuls.now row c.args.ready in
    let valid = c.requires.sound.each_break c.args.i no_break c.requires.place in
    let from_is = ap (λ (r : BreakRow). r.from) c.row_at-row.ensures in
    let to_is = ap (λ (r : BreakRow). r.to) c.row_at-row.ensures in
    let begin_is = c.place_begin-begin.ensures.value ∙ ap (λ hs. place_begin hs c.args.cumuls.now c.args.place) c.as_slice-hops.ensures in
    let tried = c.in_ok-try_start.ensures.exact defined of in
    subst (λ best. IsLeastOf c.args.line.now c.args.cumuls.now c.args.i c.args.ready (c.args.place + 1) best) (sym c.lesser.ensures)
    (λ defined of. tried_more defined c.args.i row.to firsts
    (stands_at c.args.line.now.hops c.args.cumuls.now row c.args.ready) c.args.place _ _ (before defined of)
    (tried_as defined c.args.i _ _ row.to (firsts c.args.place) _ (c.in_ok-try_start.ensures.exact defined of)
    (omega (arith, ints, to_is, valid))
    (omega
    (arith, ints, clamps, c.max.ensures.value, c.max-first.ensures.value, begin_is, from_is, valid, c.requires.ready, c.place_begin-begin.ensures.range))))
    defined of

pub may_stand-requires-clause-long : goal.may_stand-requires-clause-long
may_stand-requires-clause-long c =
    let valid = c.requires.sound.each_break c.args.i no_break c.requires.place in
    let long_is = ap (λ (r : BreakRow). r.duration) c.row_at-row.ensures in
    record { at_least = omega (arith, ints, long_is, valid.duration_in_range); at_most = omega (arith, ints, long_is, valid.duration_in_range) }

pub may_stand-requires-clause-first : goal.may_stand-requires-clause-first
may_stand-requires-clause-first c =
    let valid = c.requires.sound.each_break c.args.i no_break c.requires.place in
    let from_is = ap (λ (r : BreakRow). r.from) c.row_at-row.ensures in
    record {
      at_least =
          omega (arith, ints, clamps, c.max.ensures.value, c.max-first.ensures.value, from_is, valid, c.requires.ready, c.place_begin-begin.ensures.range);
      at_most =
          omega (arith, ints, clamps, c.max.ensures.value, c.max-first.ensures.value, from_is, valid, c.requires.ready, c.place_begin-begin.ensures.range);
    }

pub returns-clause-range : goal.returns-clause-range
returns-clause-range c =
    let row = slice_index_or c.args.line.now.breaks c.args.i no_break in
    subst (λ best. IfSome best (IsStartOf row)) (sym c.lesser.ensures) (lesser_start row _ _ c.requires.best c.in_ok-try_start.ensures.range)
