use Rattle.std.proofs.Common.{◌≡◌, true, false, ◌&&◌, to_z, of_z, w64, ap, ap₂, ◌∙◌, sym, arith}
use Rattle.std.specs.Prelude.{int_le, ◌+ℤ◌, ◌-ℤ◌}
use Rattle.std.proofs.lemmas.Int.{ints}
use Rattle.vr_plan.proofs.starts.fits_arc.Goals as goal

pub returns-then-first-long : goal.returns-then-first-long
returns-then-first-long c =
    let q = c.requires in
    let sum : to_z w64 (of_z w64 (to_z w64 (of_z w64 c.args.first) +ℤ to_z w64 (of_z w64 c.args.long))) ≡ c.args.first +ℤ c.args.long =
    omega (arith, ints, q.first, q.long) in
    let end : to_z w64 (of_z w64 c.args.to) ≡ c.args.to = omega (arith, ints, q.to) in
    let left : to_z w64 (of_z w64 (to_z w64 (of_z w64 c.args.from) +ℤ to_z w64 (of_z w64 c.args.hop.transit))) ≡ c.args.from +ℤ c.args.hop.transit =
    omega (arith, ints, q.from, q.hop.transit) in
    let right : to_z w64 (of_z w64 (to_z w64 (of_z w64 c.args.to) -ℤ to_z w64 (of_z w64 c.args.long))) ≡ c.args.to -ℤ c.args.long =
    omega (arith, ints, q.to, q.long) in
    let early : int_le (c.args.first +ℤ c.args.long) c.args.to ≡ true = sym (ap₂ int_le sum end) ∙ c.if-first-long.true in
    ap₂ int_le left right ∙ sym (ap (λ b. b && int_le (c.args.from +ℤ c.args.hop.transit) (c.args.to -ℤ c.args.long)) early)

pub returns-else-first-long : goal.returns-else-first-long
returns-else-first-long c =
    let q = c.requires in
    let sum : to_z w64 (of_z w64 (to_z w64 (of_z w64 c.args.first) +ℤ to_z w64 (of_z w64 c.args.long))) ≡ c.args.first +ℤ c.args.long =
    omega (arith, ints, q.first, q.long) in
    let end : to_z w64 (of_z w64 c.args.to) ≡ c.args.to = omega (arith, ints, q.to) in
    let late : int_le (c.args.first +ℤ c.args.long) c.args.to ≡ false = sym (ap₂ int_le sum end) ∙ c.if-first-long.false in
    c.if-first-long.false ∙ sym (ap (λ b. b && int_le (c.args.from +ℤ c.args.hop.transit) (c.args.to -ℤ c.args.long)) late)
