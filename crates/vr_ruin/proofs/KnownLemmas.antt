-- Lists whose rows are known, one of each vehicle.
use Rattle.std.proofs.Common.{◌≡◌, ◌∙◌, ℕ, List, [], ap, arith, get_or, inl, inr, length, set, subst, sym}
use Rattle.std.proofs.lemmas.Bool.Decides.{eqb_tells}
use Rattle.std.proofs.lemmas.List.{get_or-set_other, get_or-set_same, length-set}
use Rattle.vr_model.specs.declared.records.Model.{Model}
use Rattle.vr_model.specs.routes.Routes.{is_empty}
use Rattle.vr_model.proofs.tables.Tests.{clash}
use Rattle.vr_ruin.specs.declared.known.KnownRoute.{KnownRoute}
use Rattle.vr_ruin.specs.Known.{AreKnownRoutes, IsKnownRoute}

-- of the empty list nothing is known
pub none-known : (model : Model) (v : ℕ) (route : KnownRoute)
    → length route.rows.items ≡ length model.dimensions → route.nodes ≡ [] → IsKnownRoute model v route
none-known model v route many none = record {
  many = many;
  rows_are = λ d other low no_load used. absurd (clash (is_empty route.nodes) (ap is_empty none) used);
  arcs_are = λ used. absurd (clash (is_empty route.nodes) (ap is_empty none) used);
  sums_are = λ used. absurd (clash (is_empty route.nodes) (ap is_empty none) used);
}

-- another list of one vehicle
pub known-set : (model : Model) (routes : List KnownRoute) (v : ℕ) (route : KnownRoute)
    → AreKnownRoutes model routes → IsKnownRoute model v route → AreKnownRoutes model (set routes v route)
known-set model routes v route are is = record {
  many = length-set routes v route ∙ are.many;
  each = λ w other low. let n = length-set routes v route in elim (eqb_tells w v) [
    | inl e ↦ subst (λ u. IsKnownRoute model u (get_or (set routes v route) u other)) (sym e.1)
        (subst (IsKnownRoute model v) (sym (get_or-set_same routes v route other (let f = e.1 in omega (arith, low, n, f)))) is)
    | inr e ↦ subst (IsKnownRoute model w) (sym (get_or-set_other routes v w route other e.1)) (are.each w other (omega (arith, low, n)))
  ];
}
