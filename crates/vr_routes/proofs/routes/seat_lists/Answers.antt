use Rattle.std.proofs.Common.{◌≡◌, ◌∙◌, [], ℕ, List, length, ◌++◌, length-set, ap, sym, subst, refl, arith}
use Rattle.vr_model.specs.routes.Routes.{route}
use Rattle.vr_routes.proofs.TourLemmas.{lists_agree, no_visits}
use Rattle.std.specs.Prelude.{slice_set}
use Rattle.std.proofs.lemmas.List.{get_or_default}
use Rattle.vr_routes.specs.Tours.{HaveVisits}
use Rattle.vr_routes.specs.Seats.{IsOnce}
use Rattle.vr_routes.proofs.ListsLemmas.{next_part, part_once, part_visits}
use Rattle.vr_routes.proofs.routes.seat_lists.Goals as goal

pub loop-v-init : goal.loop-v-init
loop-v-init c = record {
  nodes = refl;
  as_many = refl;
  done = λ w low. absurd (omega (arith, low));
  left = λ w low. c.requires.empty w;
  visits = no_visits c.args.model.now c.args.seating.now.lists c.requires.empty;
}

pub returns-clause-lists : goal.returns-clause-lists
returns-clause-lists c _ =
    let i = c.loop-v.invariant in
    let many = i.as_many in
    let same : length c.loop-v.seating.lists ≡ length c.args.lists.now = omega (arith, many, c.if-lists-vehicles.false, c.vehicles.ensures) in
    lists_agree c.loop-v.seating.lists c.args.lists.now same (λ v low. i.done v (omega (arith, low, same, c.loop-v-test.false)))

pub returns-then-not-seat_list-clause-passes : goal.returns-then-not-seat_list-clause-passes
returns-then-not-seat_list-clause-passes c many visits once =
    let whole : List (List ℕ) = c.args.lists.now in
    let now : List (List ℕ) = c.loop-v.seating.lists in
    let v = c.loop-v.v in
    let i = c.loop-v.invariant in
    let kept = i.as_many in
    let row : c.as_slice.result.now ≡ route whole v = c.as_slice.ensures ∙ c.index-lists-v.is
    ∙ get_or_default whole v c.index-lists-v.result [] c.loop-v-test.true in
    let part : List (List ℕ) = slice_set now v (route now v ++ route whole v) in
    let same : length now ≡ length whole = omega (arith, kept, many) in
    let as_many : length part ≡ length whole = omega (arith, same, length-set now v (route now v ++ route whole v)) in
    let some = next_part whole now v same c.loop-v-test.true i.done i.left in
    let is_part : slice_set now v (route now v ++ route whole v) ≡ slice_set now v (route now v ++ c.as_slice.result.now) =
    ap (λ l. slice_set now v (route now v ++ l)) (sym row) in
    sym c.if-not-seat_list.true ∙ c.seat_list.ensures.passes
    (subst (HaveVisits c.args.model.now) is_part (part_visits c.args.model.now whole part as_many some visits))
    (subst IsOnce is_part (part_once whole part as_many some once))
