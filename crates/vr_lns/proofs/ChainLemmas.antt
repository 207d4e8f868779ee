-- Which nodes stand in a chain, told by where they stand.
use Rattle.std.proofs.Common.{◌≡◌, ◌∙◌, ℕ, ◌+◌, ◌-◌, ◌<◌, ◌≤◌, false, List, length, drop, sym, ap, arith}
use Rattle.std.specs.Prelude.{IsTrue, ◌&&◌, ◌==◌, nat_le, slice_index, slice_range}
use Rattle.std.proofs.lemmas.List.{get_or-drop, get_or-take, length-take, length-drop}
use Rattle.vr_model.specs.deciding.Testing.{and_left, and_right, and_both, eq_of_test, test_of_eq}
use Rattle.vr_model.specs.routes.Routes.{route, holds, is_active}
use Rattle.vr_model.proofs.routes.Lists.{place_of_held, held_at}
use Rattle.vr_model.proofs.tables.Tests.{clash, fails, same_tests, lt_of_test, nat_of_test, test_of_lt}
use Rattle.vr_routes.specs.Seats.{IsSeat, IsOnce}
use Rattle.vr_routes.proofs.SeatLemmas.{active_at}
use Rattle.vr_routes.specs.declared.seats.Seat.{Seat}
use Rattle.vr_lns.specs.Chains.{chain_end, is_between}
use Rattle.vr_lns.specs.Cuts.{cut_chain}
use Rattle.vr_lns.specs.declared.cutting.Cut.{Cut}

-- entry j of the nodes from place a up to but not including place b
in_range : (xs : List ℕ) (a b j : ℕ) → j < b - a → slice_index (slice_range xs a b) j ≡ slice_index xs (a + j)
in_range xs a b j low = get_or-take (b - a) (drop a xs) j 0 low ∙ get_or-drop a xs j 0

range_length : (xs : List ℕ) (a b : ℕ) → b ≤ length xs → length (slice_range xs a b) ≡ b - a
range_length xs a b within = let t = length-take (b - a) (drop a xs) in let d = length-drop a xs in omega (arith, t, d, within)

-- a node that stands there has a place there
place_in : (xs : List ℕ) (a b x : ℕ) → b ≤ length xs → IsTrue (holds (slice_range xs a b) x) → (k : ℕ) × (a ≤ k) × (k < b) × (slice_index xs k ≡ x)
place_in xs a b x within held =
    let p = place_of_held (slice_range xs a b) x held in
    let long = range_length xs a b within in
    let low = p.1 in
    (a + p.0, omega arith, omega (arith, long, low), sym (in_range xs a b p.0 (omega (arith, long, low))) ∙ p.2)

-- and the other way round
held_in : (xs : List ℕ) (a b x k : ℕ) → b ≤ length xs → a ≤ k → k < b → slice_index xs k ≡ x → IsTrue (holds (slice_range xs a b) x)
held_in xs a b x k within from to found =
    let long = range_length xs a b within in
    let there : a + (k - a) ≡ k = omega (arith, from) in
    held_at (slice_range xs a b) x (k - a) (omega (arith, long, from, to))
    (in_range xs a b (k - a) (omega (arith, from, to)) ∙ ap (slice_index xs) there ∙ found)

module _ (most : ℕ) (lists : List (List ℕ)) (at : Cut) (vehicle : at.vehicle < length lists) (node : ℕ) where
  short : chain_end most lists at ≤ length (route lists at.vehicle)
  short = omega arith

  -- a node that stands nowhere stands in no chain
  pub none_there : is_active lists node ≡ false → false ≡ holds (cut_chain most lists at) node
  none_there nowhere = sym (fails (holds (cut_chain most lists at) node) (λ held.
      let p = place_in (route lists at.vehicle) at.place (chain_end most lists at) node short held in
      let low = p.2 in
      clash (is_active lists node) (active_at lists node at.vehicle p.0 vehicle (omega (arith, low, short)) p.3) nowhere))

  -- a node stands in the chain where its seat lies there
  pub by_seat : (seat : Seat) → IsOnce lists → IsSeat lists node seat.vehicle seat.place
      → is_between at (chain_end most lists at) seat ≡ holds (cut_chain most lists at) node
  by_seat seat once stands = same_tests (is_between at (chain_end most lists at) seat) (holds (cut_chain most lists at) node) held there
    where
      held : IsTrue (is_between at (chain_end most lists at) seat) → IsTrue (holds (cut_chain most lists at) node)
      held h =
          let same : seat.vehicle ≡ at.vehicle = eq_of_test seat.vehicle at.vehicle
          (and_left (seat.vehicle == at.vehicle) _ (and_left ((seat.vehicle == at.vehicle) && nat_le at.place seat.place) _ h)) in
          let both = and_left ((seat.vehicle == at.vehicle) && nat_le at.place seat.place) _ h in
          held_in (route lists at.vehicle) at.place (chain_end most lists at) node seat.place
          short (nat_of_test at.place seat.place (and_right (seat.vehicle == at.vehicle) _ both))
          (lt_of_test seat.place (chain_end most lists at) (and_right ((seat.vehicle == at.vehicle) && nat_le at.place seat.place) _ h))
          (ap (λ v. slice_index (route lists v) seat.place) (sym same) ∙ stands.found)

      there : IsTrue (holds (cut_chain most lists at) node) → IsTrue (is_between at (chain_end most lists at) seat)
      there h =
          let p = place_in (route lists at.vehicle) at.place (chain_end most lists at) node short h in
          let low = p.2 in
          let from = p.1 in
          let same = once node seat.vehicle seat.place at.vehicle p.0 stands (record { vehicle = vehicle; place = omega (arith, low, short); found = p.3 }) in
          let place = same.1 in
          and_both ((seat.vehicle == at.vehicle) && nat_le at.place seat.place) _
          (and_both (seat.vehicle == at.vehicle) _ (test_of_eq seat.vehicle at.vehicle same.0)
          (test_of_le_nat at.place seat.place (omega (arith, from, place))))
          (test_of_lt seat.place (chain_end most lists at) (omega (arith, low, place)))
        where
          test_of_le_nat : (m n : ℕ) → m ≤ n → IsTrue (nat_le m n)
          test_of_le_nat m n h = Prim.grind arith
