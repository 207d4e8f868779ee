-- What is known of vehicles, one after another.
use Rattle.std.proofs.Common.{◌≡◌, inl, inr, ℕ, ◌<◌, ◌≤◌, Bool, true, false, cond, List, [], ◌∷◌, ◌++◌, length, get_or, set, refl, sym, ap, subst, ◌∙◌, arith}
use Rattle.std.specs.Prelude.{nat_lt}
use Rattle.std.proofs.lemmas.Bool.{cases_lt}
use Rattle.std.proofs.lemmas.Bool.Decides.{eqb_tells}
use Rattle.std.proofs.lemmas.List.{get_or_append_left, get_or_push, length-append, get_or-set_same, get_or-set_other, length-set}
use Rattle.vr_model.specs.routes.Routes.{route}
use Rattle.vr_model.specs.moves.Moves.{with_route}
use Rattle.vr_model.specs.declared.records.Model.{Model}
use Rattle.vr_reach.specs.Rows.{BothWays}
use Rattle.vr_routes.specs.Pieces.{ListAfter, joined, changed, part_at}
use Rattle.vr_model.proofs.routes.Lists.{route_set_same, route_set_other}
use Rattle.vr_reach.specs.KnownRows.{AreRowsIfUsed}
use Rattle.vr_pathfilters.specs.Known.{AreKnown, with_part}

module _ (model : Model) (d : ℕ) (lists : List (List ℕ)) where
  pub known_more : (known new : List BothWays) (v : ℕ) (more : BothWays) → AreKnown model d lists known → length known ≡ v
      → AreRowsIfUsed model d v (route lists v) more → new ≡ known ++ more ∷ [] → AreKnown model d lists new
  known_more known new v more are long here is w default low = elim (cases_lt w (length known)) [
    | inl before ↦ subst (λ k. AreRowsIfUsed model d w (route lists w) (get_or k w default)) (sym is)
        (subst (AreRowsIfUsed model d w (route lists w)) (sym (get_or_append_left known (more ∷ []) default w before)) (are w default before))
    | inr past ↦ (
        let n = ap length is ∙ length-append known (more ∷ []) in
        let at : length known ≡ w = omega (arith, low, past, n) in
        let v_is : v ≡ w = sym long ∙ at in
        subst (λ k. AreRowsIfUsed model d w (route lists w) (get_or k w default)) (sym is)
        (subst (AreRowsIfUsed model d w (route lists w)) (sym (get_or_push known more default w at))
        (subst (λ i. AreRowsIfUsed model d i (route lists i) more) v_is here)))
  ]

  -- the rows of one vehicle, put in the place of the old ones with its list
  pub known_put : (known new : List BothWays) (v : ℕ) (list : List ℕ) (rows : BothWays)
      → AreKnown model d lists known → v < length known → v < length lists → AreRowsIfUsed model d v list rows
      → new ≡ set known v rows → AreKnown model d (with_route lists v list) new
  known_put known new v list rows are low low_too rows_are is w default within = elim (eqb_tells w v) [
    | inl at ↦ (
        let here : get_or new w default ≡ rows = ap (λ k. get_or k w default) is
        ∙ (ap (λ i. get_or (set known v rows) i default) at.1 ∙ get_or-set_same known v rows default low) in
        let row : route (with_route lists v list) w ≡ list = ap (route (with_route lists v list)) at.1 ∙ route_set_same lists v list low_too in
        subst (AreRowsIfUsed model d w (route (with_route lists v list) w)) (sym here)
        (subst (λ l. AreRowsIfUsed model d w l rows) (sym row) (subst (λ i. AreRowsIfUsed model d i list rows) (sym at.1) rows_are)))
    | inr other ↦ (
        let here : get_or new w default ≡ get_or known w default = ap (λ k. get_or k w default) is ∙ get_or-set_other known v w rows default other.1 in
        let row : route (with_route lists v list) w ≡ route lists w = route_set_other lists v w list other.1 in
        let n = ap length is ∙ length-set known v rows in
        subst (AreRowsIfUsed model d w (route (with_route lists v list) w)) (sym here)
        (subst (λ l. AreRowsIfUsed model d w l (get_or known w default)) (sym row) (are w default (omega (arith, within, n)))))
  ]

-- both parts, one after the other, are the whole change
pub both_parts : (lists : List (List ℕ)) (parts : List ListAfter) → 0 < length parts
    → length parts ≤ 2 → with_part lists parts 1 (with_part lists parts 0 lists) ≡ changed lists parts
both_parts lists [] some few = absurd (omega (arith, some))
both_parts lists (p ∷ []) some few = refl
both_parts lists (p ∷ q ∷ []) some few = refl
both_parts lists (p ∷ q ∷ r ∷ rest) some few = absurd (omega (arith, few))

pub with_part_is : (old : List (List ℕ)) (parts : List ListAfter) (k : ℕ) (lists : List (List ℕ)) → k < length parts
    → with_part old parts k lists ≡ with_route lists (part_at parts k).vehicle (joined old (part_at parts k).pieces)
with_part_is old parts k lists low =
    ap (λ b. cond b (with_route lists (part_at parts k).vehicle (joined old (part_at parts k).pieces)) lists) (test k (length parts) low)
  where
    test : (k n : ℕ) → k < n → nat_lt k n ≡ true
    test k n low = grind arith

pub as_many_with_part : (old : List (List ℕ)) (parts : List ListAfter) (k : ℕ) (lists : List (List ℕ)) → length (with_part old parts k lists) ≡ length lists
as_many_with_part old parts k lists = by (nat_lt k (length parts))
  where
    by : (b : Bool) → length (cond b (with_route lists (part_at parts k).vehicle (joined old (part_at parts k).pieces)) lists) ≡ length lists
    by true = length-set lists (part_at parts k).vehicle (joined old (part_at parts k).pieces)
    by false = refl
