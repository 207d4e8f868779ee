use Rattle.std.proofs.Common.{◌≡◌, ◌∷◌, take, not}
use Rattle.std.specs.Prelude.{filter}
use Rattle.vr_model.specs.first.SavingsJoins.{joined_route, is_part_of}
use Rattle.vr_first_savings.specs.Joins.{join_of}
use Rattle.vr_first_savings.proofs.merge.join.Given as goal

-- the joined route, and the others so far
abbrev pub invariant-loop-route : goal.invariant-loop-route
invariant-loop-route l = l.after.items
    ≡ joined_route (join_of l.routes l.fn.choice) ∷ filter (λ list. not (is_part_of (join_of l.routes l.fn.choice) list)) (take l.route-index l.routes)
