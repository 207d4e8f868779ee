use Rattle.std.proofs.Common.{◌≡◌, ◌+◌, ◌<◌, suc, None, Some, pos, ◌+ℤ◌, length, to_z, of_z, w64, ap, ◌∙◌, sym, subst, arith}
use Rattle.std.specs.Prelude.{slice_index_or, IfSome}
use Rattle.std.proofs.lemmas.Int.{ints}
use Rattle.vr_model.specs.schedules.Schedules.{no_break}
use Rattle.vr_steps.specs.declared.lines.Line.{Line}
use Rattle.vr_plan.specs.Narrow.{IsStartOf, with_start}
use Rattle.vr_plan.proofs.StartSteps.{AreStarted, none_started, stopped, started_more, all_started, retry}
use Rattle.vr_plan.proofs.starts.settle_starts.Goals as goal

pub loop-i-init : goal.loop-i-init
loop-i-init c = subst (λ zs. AreStarted c.args.line.now c.args.line.now c.args.cumuls.now 0 zs (pos 0))
    (sym c.requires.none) (none_started c.args.line.now c.args.cumuls.now c.requires.sound c.requires.settled)

pub returns-in_default-clause-stops : goal.returns-in_default-clause-stops
returns-in_default-clause-stops c = λ stops.
    let m = c.loop-i.invariant in
    let there : c.loop-i.i < length c.loop-i.line.breaks = let n = ap (λ (l : Line). length l.breaks) c.line.view_is in
    omega (arith, m.number, c.len-i-end.ensures.value, n) in
    let long = c.requires.stops ∙ ap (λ hs. suc (length hs)) (sym m.hops) in
    stopped c.args.line.now c.loop-i.line c.args.cumuls.now c.loop-i.i c.loop-i.starts (to_z w64 c.loop-i.ready-bits) m there long
    (retry c.loop-i.line c.loop-i.i c.args.cumuls.now _ (to_z w64 c.loop-i.ready-bits) _ None
    c.in_ok-first.ensures.exact (omega (arith, ints, m.ready_in_range)) c.in_default.is)

pub loop-i-preserved : goal.loop-i-preserved
loop-i-preserved c =
    let m = c.loop-i.invariant in
    let i = c.loop-i.i in
    let row = slice_index_or c.loop-i.line.breaks i no_break in
    let x = to_z w64 (of_z w64 c.in-Some.first) in
    let there : c.loop-i.i < length c.loop-i.line.breaks = let n = ap (λ (l : Line). length l.breaks) c.line.view_is in
    omega (arith, m.number, c.len-i-end.ensures.value, n) in
    let long = c.requires.stops ∙ ap (λ hs. suc (length hs)) (sym m.hops) in
    let valid = m.sound.each_break i no_break there in
    let start = subst (λ found. IfSome found (IsStartOf row)) c.in-Some.is c.in_ok-first.ensures.range in
    let same : c.in-Some.first ≡ x = omega (arith, ints, start.from, start.to, valid) in
    let tried = retry c.loop-i.line i c.args.cumuls.now _ (to_z w64 c.loop-i.ready-bits) _ (Some x)
    c.in_ok-first.ensures.exact (omega (arith, ints, m.ready_in_range)) (c.in-Some.is ∙ ap Some same) in
    let line_is = c.fix_start-ready.ensures.line ∙ ap (λ (l : Line). with_start l i x) c.in_ok-first.ensures.same in
    let long_is = ap (λ (l : Line). (slice_index_or l.breaks i no_break).duration) c.in_ok-first.ensures.same in
    let ready_is : to_z w64 (of_z w64 c.fix_start-ready.result) ≡ x +ℤ row.duration =
    omega (arith, ints, c.fix_start-ready.ensures.over, long_is, start.from, start.to, valid, valid.duration_in_range, same) in
    let pushed = c.in_ok-push.ensures.ok in
    subst (λ T. T) (λ t. AreStarted c.args.line.now (sym line_is t) c.args.cumuls.now (i + 1) (sym pushed t) (sym ready_is t))
    (started_more c.args.line.now c.loop-i.line c.args.cumuls.now i c.loop-i.starts
    (to_z w64 c.loop-i.ready-bits) m there long x (subst (IsStartOf row) same start) tried)

pub returns-clause-settled : goal.returns-clause-settled
returns-clause-settled c = λ goes.
    let n = ap (λ (l : Line). length l.breaks) c.line.view_is in
    all_started c.args.line.now c.loop-i.line c.args.cumuls.now c.loop-i.i c.loop-i.starts
    (to_z w64 c.loop-i.ready-bits) c.loop-i.invariant (omega (arith, c.len-i-end.ensures.value, n))
