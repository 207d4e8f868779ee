use Rattle.std.proofs.Common.{◌≡◌, ◌∙◌, ap, ap₂, arith}
use Rattle.std.specs.Prelude.{◌*ℤ◌}
use Rattle.std.proofs.lemmas.Int.{ints}
use Rattle.vr_check.proofs.Sums.{product_within}
use Rattle.vr_check.proofs.Widths.{read64, read128, wide}
use Rattle.vr_check.proofs.numbers.times.Goals as goal

pub returns : goal.returns
returns c =
    let coefficient = c.args.coefficient in
    let number = c.args.number in
    let range = c.requires.coefficient in
    let around = c.requires.number in
    let narrow : read64 coefficient ≡ coefficient = omega (arith, ints, range.at_least, range.at_most) in
    let same : read128 number ≡ number = omega (arith, ints, around.at_least, around.at_most) in
    let bounds = product_within coefficient number range around in
    let factors : (read128 c.from.result *ℤ read128 number) ≡ (coefficient *ℤ number) = ap₂ (λ x y. x *ℤ y)
    (wide c.from.result c.from.type_inv ∙ c.from.ensures ∙ narrow) same in
    let fits : read128 (coefficient *ℤ number) ≡ coefficient *ℤ number = omega (arith, ints, bounds.at_least, bounds.at_most) in
    let whole : read128 (read128 c.from.result *ℤ read128 number) ≡ coefficient *ℤ number = ap read128 factors ∙ fits in
    record {
      value = whole;
      range = record { at_least = omega (arith, ints, whole, bounds.at_least); at_most = omega (arith, ints, whole, bounds.at_most) };
    }
