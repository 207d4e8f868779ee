-- What guided search takes.
use Rattle.std.specs.Prelude.{Bool, ℕ, List, ℤ, int_lt, pos, ◌+ℤ◌, ◌-ℤ◌, ◌*ℤ◌}
use Rattle.vr_model.specs.moves.Moves.{apply}
use Rattle.vr_model.specs.routes.Routes.{UsedArc, cost_of_arc}
use Rattle.vr_model.specs.search.GuidedSearches.{Penalties, augmented, penalised}
use Rattle.vr_model.specs.declared.records.Model.{Model}
use Rattle.vr_model.specs.declared.search.Lambda.{Lambda}
use Rattle.vr_model.specs.declared.neighbours.Move.{Move}

-- a move is taken if it makes the augmented cost less
abbrev pub makes_less : Model → Lambda → Penalties → List (List ℕ) → Move → ℤ → Bool
makes_less model lambda penalties lists mv change =
    int_lt (augmented model lambda penalties (apply model lists mv)) (augmented model lambda penalties lists)

-- the weighted sum of what becomes of the cost and of the penalised arc costs is less than 0
abbrev pub is_gain : Lambda → ℤ → ℤ → Bool
is_gain lambda difference change = int_lt ((lambda.q *ℤ difference) +ℤ (lambda.p *ℤ change)) (pos 0)

-- what a move makes of the penalised arc costs
abbrev pub penalised_change : Model → Penalties → List (List ℕ) → Move → ℤ
penalised_change model penalties lists mv =
    penalised model penalties (apply model lists mv) -ℤ penalised model penalties lists

-- an arc has a cost above 0
abbrev pub is_costly : Model → UsedArc → Bool
is_costly model arc = int_lt (pos 0) (cost_of_arc model arc)
