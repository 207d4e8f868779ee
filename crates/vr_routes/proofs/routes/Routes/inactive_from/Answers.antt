use Rattle.std.proofs.Common.{◌∙◌, sym, subst, not}
use Rattle.std.specs.List.Sorted.{IsStrictlyIncreasing}
use Rattle.std.proofs.lemmas.List.Kept.{IsStrictlyIncreasing-filter}
use Rattle.vr_model.specs.routes.Routes.{route, is_active}
use Rattle.vr_routes.specs.Tours.{Tours}
use Rattle.vr_routes.proofs.routes.Routes.inactive_from.Goals as goal

pub first_from-requires : goal.first_from-requires
first_from-requires c =
    let tours : Tours = record { visits = route c.self.inside.visits.lists 0; lists = c.self.inside.seating.lists } in
    record {
      ascending = subst IsStrictlyIncreasing (sym (c.as_slice.ensures.value ∙ c.self.invariant.inactive_ones))
          (IsStrictlyIncreasing-filter (λ x. not (is_active tours.lists x)) tours.visits c.self.invariant.tours.visits_ascend);
    }
