-- The sums of vehicles are written one after another, and a move leaves those of the vehicles that it does not touch.
use Rattle.std.proofs.Common.{◌≡◌, ◌∙◌, inl, inr, ℕ, ◌+◌, ◌<◌, List, length, length-set, refl, sym, subst, arith}
use Rattle.std.specs.Prelude.{slice_index_or, slice_set}
use Rattle.std.proofs.lemmas.Bool.Decides.{eqb_tells}
use Rattle.std.proofs.lemmas.List.{get_or-set_other, get_or-set_same}
use Rattle.vr_model.specs.routes.Routes.{route}
use Rattle.vr_model.specs.search.GuidedSearches.{Penalties}
use Rattle.vr_model.specs.declared.records.Model.{Model}
use Rattle.vr_known.proofs.TouchedLemmas.{SameBut}
use Rattle.vr_guided.specs.RouteSums.{AreAllRouteSums, AreRouteSums, IsWritten, no_route_sums}
use Rattle.vr_guided.specs.declared.route_sums.RouteSums.{RouteSums}

-- those of one vehicle more are written
pub written_more : (model : Model) (p : Penalties) (lists : List (List ℕ)) (v : ℕ) (before after : List RouteSums) → v < length before
    → ((w : ℕ) → w < v → AreRouteSums model p w (route lists w) (slice_index_or before w no_route_sums)) → IsWritten model p lists v before after
    → (w : ℕ) → w < v + 1 → AreRouteSums model p w (route lists w) (slice_index_or after w no_route_sums)
written_more model p lists v before after low each written w under = elim (eqb_tells w v) [
  | inl at ↦ subst (λ u. AreRouteSums model p u (route lists u) (slice_index_or after u no_route_sums)) (sym at.1) (written.here low)
  | inr other ↦
      subst (AreRouteSums model p w (route lists w)) (sym (written.others w other.1)) (each w (let apart = other.1 in Prim.grind (arith, apart, under)))
]

module _ (model : Model) (p : Penalties) (lists later : List (List ℕ)) (before : List RouteSums)
    (are : AreAllRouteSums model p lists before) (many : length later ≡ length model.vehicles) where
  abbrev AreOf : ℕ → RouteSums → Type 0
  AreOf u both = AreRouteSums model p u (route later u) both

  -- the sums of a vehicle that was not written
  left_alone : (u : ℕ) → u < length model.vehicles → route later u ≡ route lists u
      → {both : RouteSums} → both ≡ slice_index_or before u no_route_sums → AreOf u both
  left_alone u low same is =
      subst (AreOf u) (sym is) (subst (λ l. AreRouteSums model p u l (slice_index_or before u no_route_sums)) (sym same) (are.each u low))

  -- one list is another one, and its sums were written
  pub after_one : (v : ℕ) (after : List RouteSums) → IsWritten model p later v before after → SameBut v v lists later → AreAllRouteSums model p later after
  after_one v after written same = record {
    many = written.long ∙ are.many;
    known = many;
    each = λ u low. elim (eqb_tells u v) [
      | inl at ↦
          subst (λ x. AreOf x (slice_index_or after x no_route_sums)) (sym at.1) (written.here (let is = at.1 in let n = are.many in omega (arith, is, n, low)))
      | inr other ↦ left_alone u low (same u other.1 other.1) (written.others u other.1)
    ];
  }

  -- two lists are
  pub after_two : (v w : ℕ) (mid after : List RouteSums) → IsWritten model p later v before mid
      → IsWritten model p later w mid after → SameBut v w lists later → AreAllRouteSums model p later after
  after_two v w mid after first second same = record {
    many = second.long ∙ (first.long ∙ are.many);
    known = many;
    each = λ u low. elim (eqb_tells u w) [
      | inl at ↦ subst (λ x. AreOf x (slice_index_or after x no_route_sums)) (sym at.1)
          (second.here (let is = at.1 in let n = are.many in let k = first.long in omega (arith, is, n, k, low)))
      | inr other ↦ subst (AreOf u) (sym (second.others u other.1)) (elim (eqb_tells u v) [
        | inl at ↦
            subst (λ x. AreOf x (slice_index_or mid x no_route_sums)) (sym at.1) (first.here (let is = at.1 in let n = are.many in omega (arith, is, n, low)))
        | inr apart ↦ left_alone u low (same u apart.1 other.1) (first.others u apart.1)
      ])
    ];
  }

-- two vehicles that are one
pub same_one : (v w : ℕ) (lists later : List (List ℕ)) → w ≡ v → SameBut v w lists later → SameBut v v lists later
same_one v w lists later is same u apart _ = same u apart (λ e. apart (e ∙ is))

-- one entry is another one
pub written : (model : Model) (p : Penalties) (later : List (List ℕ)) (v : ℕ) (before : List RouteSums) (both : RouteSums)
    → v < length before → AreRouteSums model p v (route later v) both
    → IsWritten model p later v before (slice_set before v both)
written model p later v before both low are = record {
  long = length-set before v both;
  here = λ _. subst (AreRouteSums model p v (route later v)) (sym (get_or-set_same before v both no_route_sums low)) are;
  others = λ u apart. get_or-set_other before v u both no_route_sums apart;
}

-- there is no such vehicle
pub unwritten : (model : Model) (p : Penalties) (later : List (List ℕ)) (v : ℕ) (before : List RouteSums)
    → (v < length before → ⊥) → IsWritten model p later v before before
unwritten model p later v before none = record { long = refl; here = λ low. absurd (none low); others = λ u apart. refl }
