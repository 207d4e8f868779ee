use Rattle.std.proofs.Common.{◌≡◌, to_z, of_z, w64, subst, arith}
use Rattle.std.proofs.lemmas.Int.{ints}
use Rattle.std.proofs.lemmas.Result.{IfOk-weaker}
use Rattle.vr_plan.specs.Ends.{IsPinnedOf}
use Rattle.vr_steps.proofs.LawLemmas.{lines_stand_for_theirs}
use Rattle.vr_span.proofs.SpanLemmas.{between_told}
use Rattle.vr_span.proofs.least.schedule_between.Goals as goal

pub returns : goal.returns
returns c =
    let line = c.args.line.now in
    let end_same : to_z w64 (of_z w64 c.args.end) ≡ c.args.end = omega (arith, ints, c.requires.end) in
    let start_same : to_z w64 (of_z w64 c.args.start) ≡ c.args.start = omega (arith, ints, c.requires.start) in
    let from = subst (λ from. IsPinnedOf from c.len.result (to_z w64 (of_z w64 c.args.end)) c.pin.new.line) c.in_ok-narrow.ensures c.in_ok-pin.ensures.exact in
    let ending = subst (λ x. IsPinnedOf line c.len.result x c.pin.new.line) end_same from in
    let narrow = subst (λ x. IsPinnedOf c.pin.new.line 0 x c.pin-2.new.line) start_same c.in_ok-pin-2.ensures.exact in
    IfOk-weaker _ _ _
    (between_told lines_stand_for_theirs line c.requires.sound c.args.start c.args.end c.len.result
    c.len.ensures c.pin.new.line c.pin-2.new.line ending narrow) c.schedule.ensures.chosen
