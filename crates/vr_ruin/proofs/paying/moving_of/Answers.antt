use Rattle.std.proofs.Common.{◌≡◌, ◌∙◌, ◌-ℤ◌, ℤ, ap, ap₂, arith}
use Rattle.std.specs.Prelude.{nat_abs}
use Rattle.std.proofs.lemmas.Int.{ints}
use Rattle.vr_rules.proofs.TotalLemmas.{read}
use Rattle.vr_ruin.proofs.PayLemmas.{are_read}
use Rattle.vr_ruin.proofs.paying.moving_of.Goals as goal

pub returns : goal.returns
returns c =
    let h = c.requires in
    let fixed = c.args.parts.now.fixed in
    let penalty = c.args.parts.now.penalty in
    let total = c.total_of.result in
    let range = c.total_of.ensures.range in
    let r = are_read c.args.parts.now h in
    let one : read total ≡ total = omega (arith, ints, range.low, range.high) in
    let two : read (total -ℤ fixed) ≡ (total -ℤ fixed) = omega (arith, ints, range.low, range.high, h.fixed_low, h.fixed_high) in
    let three : read ((total -ℤ fixed) -ℤ penalty) ≡ ((total -ℤ fixed) -ℤ penalty) =
    omega (arith, ints, range.low, range.high, h.fixed_low, h.fixed_high, h.penalty_low, h.penalty_high) in
    let less : read (read total -ℤ read fixed) ≡ (total -ℤ fixed) = ap read (ap₂ (λ x y. x -ℤ y) one r.fixed) ∙ two in
    let read_is : read (read (read total -ℤ read fixed) -ℤ read penalty) ≡ ((total -ℤ fixed) -ℤ penalty) = ap read (ap₂ (λ x y. x -ℤ y) less r.penalty)
    ∙ three in
    c.unsigned_abs.ensures.value ∙ ap nat_abs read_is ∙ ap (λ (total : ℤ). nat_abs ((total -ℤ fixed) -ℤ penalty)) c.total_of.ensures.value
