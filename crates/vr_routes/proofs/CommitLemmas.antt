-- The lists after a change that was made on lists.
use Rattle.std.proofs.Common.{◌⊎◌, inl, inr, ◌≡◌, ◌∙◌, ℕ, ◌≤◌, List, [], ◌∷◌, length, length-set, refl, sym, subst, arith}
use Rattle.std.specs.Prelude.{IsTrue}
use Rattle.vr_model.specs.routes.Routes.{holds, is_active}
use Rattle.vr_model.specs.tables.Tables.{is_visit}
use Rattle.vr_routes.specs.Seats.{IsOnce}
use Rattle.vr_routes.specs.Pieces.{ListAfter, joined, with_parts, changed}
use Rattle.vr_routes.specs.Tours.{Tours}
use Rattle.vr_routes.specs.Changes.{IsMadeOn}
use Rattle.vr_routes.proofs.SeatLemmas.{seat_of_active, active_at}
use Rattle.vr_model.proofs.moves.Times.{times_in}
use Rattle.vr_routes.proofs.OnceLemmas.{few_times, once_of_times, times_of_seat, one_seat_of}
use Rattle.vr_model.proofs.moves.Kept.{kept}
use Rattle.vr_routes.proofs.TourLemmas.{visit_held}

length_with_parts : (old : List (List ℕ)) (parts : List ListAfter) (lists : List (List ℕ)) → length (with_parts old parts lists) ≡ length lists
length_with_parts old [] lists = refl
length_with_parts old (part ∷ parts) lists = length_with_parts old parts _ ∙ length-set lists part.vehicle (joined old part.pieces)

pub as_many_lists : (lists : List (List ℕ)) (parts : List ListAfter) → length (changed lists parts) ≡ length lists
as_many_lists lists parts = length_with_parts lists parts lists

module _ (tours : Tours) (parts : List ListAfter) (made : IsMadeOn tours parts) (once : IsOnce tours.lists) where
  abbrev after : List (List ℕ)
  after = changed tours.lists parts

  kept_after : (x : ℕ) → (times_in x after ≤ times_in x tours.lists) ⊎ ((times_in x after ≤ 1) × IsTrue (is_visit made.model x))
  kept_after x = subst (λ l. (times_in x l ≤ times_in x tours.lists) ⊎ ((times_in x l ≤ 1) × IsTrue (is_visit made.model x)))
      (sym made.makes.lists_are) (kept made.model tours.lists made.well_formed made.mv made.is_one x)

  pub once_after : IsOnce after
  once_after = once_of_times after (λ x. elim (kept_after x) [
    | inl less ↦ (let few = few_times x tours.lists (once x) in omega (arith, less, few))
    | inr new ↦ new.0
  ])

  pub entry_after : ((x : ℕ) → IsTrue (is_active tours.lists x) → IsTrue (holds tours.visits x))
      → (x : ℕ) → IsTrue (is_active after x) → IsTrue (holds tours.visits x)
  entry_after before x active =
      let s = seat_of_active after x active in
      let one = times_of_seat after x s.0 s.1 s.2 in
      elim (kept_after x) [
        | inl less ↦ (let b = one_seat_of x tours.lists (omega (arith, one, less)) in
            before x (active_at tours.lists x b.0 b.1 b.2.vehicle b.2.place b.2.found))
        | inr new ↦ subst (λ l. IsTrue (holds l x)) made.visits_are (visit_held made.model x new.1)
      ]
