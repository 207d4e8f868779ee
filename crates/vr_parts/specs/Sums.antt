-- Sums over the lists of vehicles.
use Rattle.std.specs.Prelude.{ℕ, List, length, ℤ, ◌-ℤ◌}
use Rattle.vr_model.specs.tables.Numbers.{total_by, below}
use Rattle.vr_model.specs.routes.Routes.{route}
use Rattle.vr_routes.specs.Pieces.{ListAfter, joined}

-- the sum over the vehicles of what f gives of each and its list
abbrev pub sum_over_routes : (ℕ → List ℕ → ℤ) → List (List ℕ) → ℤ
sum_over_routes f lists = total_by (λ v. f v (route lists v)) (below (length lists))

-- what one list after a change adds to such a sum
abbrev pub part_change : (ℕ → List ℕ → ℤ) → List (List ℕ) → ListAfter → ℤ
part_change f lists part = f part.vehicle (joined lists part.pieces) -ℤ f part.vehicle (route lists part.vehicle)

-- what f gives of the list after a part, less what g gives of the list before it
abbrev pub part_less : (ℕ → List ℕ → ℤ) → (ℕ → List ℕ → ℤ) → List (List ℕ) → ListAfter → ℤ
part_less f g lists part = f part.vehicle (joined lists part.pieces) -ℤ g part.vehicle (route lists part.vehicle)
