use Rattle.std.proofs.Common.{◌≡◌, pos, subst, to_z, of_z, w64, rules, arith}
use Rattle.std.specs.Prelude.{IfSome}
use Rattle.std.proofs.lemmas.Int.{ints}
use Rattle.vr_model.specs.tables.Numbers.{horizon}
use Rattle.vr_model.specs.tables.WellFormed.{IsIn}
use Rattle.vr_plan.specs.Ends.{IsLatestOf, IsLeastEndOf, IsPinnedOf}
use Rattle.vr_plan.proofs.RuleLemmas.{never_stuck, tight_line}
use Rattle.vr_plan.proofs.ends.tight_line.Goals.{In_ok-pin}
use Rattle.vr_plan.proofs.ends.tight_line.Goals as goal

-- the least end, and the line whose end allows it alone
end_is : (c : In_ok-pin) → IsLeastEndOf c.args.sound.line.now c.in-Some.end
end_is c = subst (λ found. IfSome found (IsLeastEndOf c.args.sound.line.now)) c.in-Some.is c.in_ok-end.ensures.some

ending_is : (c : In_ok-pin) → IsPinnedOf c.args.sound.line.now c.len.result c.in-Some.end c.pin.new.line
ending_is c =
    let range = subst (λ found. IfSome found (IsIn (pos 0) horizon)) c.in-Some.is c.in_ok-end.ensures.range in
    let as_it_is : to_z w64 (of_z w64 c.in-Some.end) ≡ c.in-Some.end = omega (arith, ints, range) in
    let from = subst (λ from. IsPinnedOf from c.len.result (to_z w64 (of_z w64 c.in-Some.end)) c.pin.new.line)
    c.in_ok-narrow.ensures c.in_ok-pin.ensures.exact in
    subst (λ x. IsPinnedOf c.args.sound.line.now c.len.result x c.pin.new.line) as_it_is from

pub returns-in_default-2-clause-none : goal.returns-in_default-2-clause-none
returns-in_default-2-clause-none c =
    let at = (goal.at.returns-in_default-2-clause-none c).In_ok-pin in
    λ none. never_stuck c.args.sound.line.now c.args.sound.sound c.in-Some.end (end_is at) c.len.result
    c.len.ensures c.pin.new.line (ending_is at) (c.in_ok-start.ensures.none (search rules))

pub returns-clause-some : goal.returns-clause-some
returns-clause-some c =
    let at = (goal.at.returns-clause-some c).In_ok-pin in
    let start = subst (λ found. IfSome found (IsLatestOf c.pin.new.line)) c.in-Some-2.is c.in_ok-start.ensures.some in
    let start_range = subst (λ found. IfSome found (IsIn (pos 0) horizon)) c.in-Some-2.is c.in_ok-start.ensures.range in
    let start_as_it_is : to_z w64 (of_z w64 c.in-Some-2.start) ≡ c.in-Some-2.start = omega (arith, ints, start_range) in
    let narrow = subst (λ x. IsPinnedOf c.pin.new.line 0 x c.pin-2.new.line) start_as_it_is c.in_ok-pin-2.ensures.exact in
    tight_line c.args.sound.line.now c.args.sound.sound c.in-Some.end (end_is at) c.len.result
    c.len.ensures c.pin.new.line (ending_is at) c.in-Some-2.start start c.pin-2.new.line narrow
