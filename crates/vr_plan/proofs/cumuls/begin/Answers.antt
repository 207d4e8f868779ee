use Rattle.std.proofs.Common.{◌≡◌, ◌∷◌, ◌++◌, [], pos, to_z, of_z, w64, ap, ◌∙◌, subst, sym, rules, arith}
use Rattle.std.proofs.lemmas.Int.{ints}
use Rattle.vr_reach.specs.Shared.{IsLeastSharedCumul}
use Rattle.vr_reach.proofs.SweepLemmas.{begun}
use Rattle.vr_model.specs.tables.Numbers.{horizon}
use Rattle.vr_model.specs.tables.WellFormed.{IsIn}
use Rattle.vr_plan.specs.Settled.{IsSettled}
use Rattle.vr_plan.proofs.PinLemmas.{unfeasible_at_start, settled_at_start, shared_range}
use Rattle.vr_steps.proofs.LawLemmas.{lines_stand_for_theirs, start_is_reached}
use Rattle.vr_plan.proofs.cumuls.begin.Goals as goal

pub returns-in_default-clause-stops : goal.returns-in_default-clause-stops
returns-in_default-clause-stops c = λ stops.
    unfeasible_at_start c.args.sound.line.now c.args.behind.now c.args.sound.sound c.requires.behind c.start_levels_into.new.out c.levels.result.now
    (begun lines_stand_for_theirs c.args.sound.line.now c.args.sound.sound start_is_reached c.get-allowed.result.now
    c.start_levels_into.new.out c.get-allowed.ensures.value c.in_ok-start_levels_into.ensures.exact c.in_ok-start_levels_into.ensures.levels)
    c.levels.ensures (c.in_default.ensures.none (search rules))

pub returns-clause-settled : goal.returns-clause-settled
returns-clause-settled c = λ goes.
    let x = to_z w64 (of_z w64 c.in-Some.first) in
    let least = c.in-Some.ensures.some in
    let ahead = begun lines_stand_for_theirs c.args.sound.line.now c.args.sound.sound start_is_reached c.get-allowed.result.now
    c.start_levels_into.new.out c.get-allowed.ensures.value c.in_ok-start_levels_into.ensures.exact c.in_ok-start_levels_into.ensures.levels in
    let range = shared_range c.args.sound.line.now.breaks c.start_levels_into.new.out
    c.levels.result.now c.in-Some.first c.in_ok-start_levels_into.ensures.levels least.shared in
    let same : x ≡ c.in-Some.first = omega (arith, ints, range) in
    let pushed = c.in_ok-push.ensures.ok ∙ ap (λ cs. cs ++ x ∷ []) c.requires.none in
    subst (λ cs. IsSettled c.args.sound.line.now 0 cs c.start_levels_into-2.new.out) (sym pushed)
    (settled_at_start c.args.sound.line.now c.args.behind.now c.args.sound.sound c.requires.behind c.start_levels_into.new.out
    c.levels.result.now ahead c.levels.ensures x (subst (IsLeastSharedCumul c.start_levels_into.new.out c.levels.result.now) (sym same) least)
    c.get-allowed.result.now c.keep.new.only c.start_levels_into-2.new.out c.get-allowed.ensures.value c.in_ok-keep.ensures.exact
    c.in_ok-keep.ensures.cumuls c.in_ok-start_levels_into-2.ensures.exact (subst (IsIn (pos 0) horizon) (sym same) range))
