use Rattle.std.proofs.Common.{◌≡◌, ◌≤◌, ◌+◌, ◌*◌, ℕ, sym, ap₂, subst, ◌∙◌, arith}
use Rattle.std.specs.Prelude.{◌-ℤ◌, nat_abs}
use Rattle.std.proofs.Common.{to_z, of_z, w64}
use Rattle.std.proofs.lemmas.Int.{ints}
use Rattle.vr_tsplib.proofs.TreeLemmas.{apart_low, squares_low}
use Rattle.vr_tsplib.proofs.trees.distance.Goals as goal

pub nearest_root-requires : goal.nearest_root-requires
nearest_root-requires c =
    let a = c.requires.first in
    let b = c.requires.second in
    let ax : to_z w64 (of_z w64 c.args.a.x) ≡ c.args.a.x = omega (arith, ints, a.x_least, a.x_most) in
    let ay : to_z w64 (of_z w64 c.args.a.y) ≡ c.args.a.y = omega (arith, ints, a.y_least, a.y_most) in
    let bx : to_z w64 (of_z w64 c.args.b.x) ≡ c.args.b.x = omega (arith, ints, b.x_least, b.x_most) in
    let by : to_z w64 (of_z w64 c.args.b.y) ≡ c.args.b.y = omega (arith, ints, b.y_least, b.y_most) in
    let Low : ℕ → Type 0 = λ n. n ≤ 2000000 in
    let dx = subst Low (sym (c.abs_diff-dx.ensures ∙ ap₂ (λ x y. nat_abs (x -ℤ y)) ax bx))
    (apart_low c.args.a.x c.args.b.x a.x_least a.x_most b.x_least b.x_most) in
    let dy = subst Low (sym (c.abs_diff-dy.ensures ∙ ap₂ (λ x y. nat_abs (x -ℤ y)) ay by))
    (apart_low c.args.a.y c.args.b.y a.y_least a.y_most b.y_least b.y_most) in
    squares_low c.abs_diff-dx.result c.abs_diff-dy.result dx dy

pub overflow_add-dx : goal.overflow_add-dx
overflow_add-dx c = omega (arith, nearest_root-requires c)
