use Rattle.std.proofs.Common.{◌≡◌, [], sym, ap, subst, to_z, of_z, w64, arith}
use Rattle.std.proofs.lemmas.Int.{ints}
use Rattle.vr_steps.specs.Lines.{IsSoundLine}
use Rattle.vr_plan.specs.Ends.{IsPinnedOf}
use Rattle.vr_plan.specs.Settled.{IsOnly}
use Rattle.vr_plan.proofs.PinnedLemmas.{pinned_line, pinned_sound, with_sets}
use Rattle.vr_plan.proofs.narrow.pin.Goals as goal

pub returns-clause-exact : goal.returns-clause-exact
returns-clause-exact c =
    let line = c.args.line.now in
    let range = c.requires.cumul in
    let as_it_is : to_z w64 (of_z w64 c.args.x) ≡ c.args.x = omega (arith, ints, range) in
    let exact = subst (λ x. IsOnly c.get.result.now x c.keep.new.only) as_it_is c.in_ok-keep.ensures.exact in
    let only = subst (λ allowed. IsOnly allowed c.args.x c.keep.new.only) (sym (c.get.ensures.value [])) exact in
    subst (IsPinnedOf line c.args.k c.args.x) (sym (ap (with_sets line) c.set.ensures))
    (pinned_line line c.args.k c.keep.new.only c.args.x c.requires.place only)

pub returns-clause-sound : goal.returns-clause-sound
returns-clause-sound c =
    let line = c.args.line.now in
    subst IsSoundLine (sym (ap (with_sets line) c.set.ensures)) (pinned_sound line c.args.k c.keep.new.only c.requires.sound c.in_ok-keep.ensures.cumuls)
