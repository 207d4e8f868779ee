-- The place of the chain of a cut.
use Rattle.std.specs.Prelude.{ℕ, ◌+◌, Bool, ◌&&◌, ◌==◌, List, length, min, nat_le, nat_lt}
use Rattle.vr_model.specs.routes.Routes.{route}
use Rattle.vr_routes.specs.declared.seats.Seat.{Seat}
use Rattle.vr_lns.specs.declared.cutting.Cut.{Cut}

-- the place after the chain of a cut
abbrev pub chain_end : ℕ → List (List ℕ) → Cut → ℕ
chain_end most lists at = min (at.place + most) (length (route lists at.vehicle))

-- a seat lies in the chain of a cut that ends before place `end`
abbrev pub is_between : Cut → ℕ → Seat → Bool
is_between at end seat = ((seat.vehicle == at.vehicle) && nat_le at.place seat.place) && nat_lt seat.place end
