use Rattle.std.proofs.Common.{◌≡◌, ap₂, arith, to_z, of_z, w64}
use Rattle.std.specs.Prelude.{ℤ, ◌+ℤ◌, ◌-ℤ◌}
use Rattle.std.proofs.lemmas.Int.{ints}
use Rattle.vr_plan.proofs.BoundLemmas.{read-cumul}
use Rattle.vr_costfilter.specs.declared.guides.Stage.{Stage}
use Rattle.vr_costfilter.proofs.steps.resumed.Goals as goal

pub returns : goal.returns
returns c =
    let e = c.requires.end_paid in
    let k = c.requires.kept_paid in
    let g = c.requires.gone_paid in
    let sum : to_z w64
    (of_z w64 (to_z w64 (of_z w64 c.args.end.soft) +ℤ to_z w64 (of_z w64 (to_z w64 (of_z w64 c.args.gone.soft) -ℤ to_z w64 (of_z w64 c.args.kept.soft)))))
    ≡ c.args.end.soft +ℤ (c.args.gone.soft -ℤ c.args.kept.soft) =
    omega (arith, ints, e.at_least, e.at_most, k.at_least, k.at_most, g.at_least, g.at_most) in
    ap₂ (λ (m : ℤ) (n : ℤ). (let s : Stage = record { at = c.args.end.at; cumul = m; soft = n } in s)) (read-cumul c.args.end.cumul c.requires.end_cumul) sum
