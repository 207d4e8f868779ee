-- What is reached carries over to another list that shares the nodes up to there, and what the end is reached from to one
-- that shares the nodes from there on.
use Rattle.std.proofs.Common.{◌≡◌, ℕ, zero, suc, ◌+◌, ◌-◌, ◌<◌, ◌≤◌, Bool, false, List, [], ◌∷◌, ◌++◌, length, map, take, drop, ℤ, refl, sym, ap, subst, ◌∙◌}
use Rattle.std.proofs.Common.{arith}
use Rattle.vr_spans.specs.declared.runs.Run.{Run}
use Rattle.vr_model.specs.tables.Numbers.{number_at}
use Rattle.vr_model.specs.tables.Tables.{vehicle_at, dimension_at, breaks_of, row_of}
use Rattle.vr_model.specs.routes.Routes.{UsedArc, arcs_from, is_empty}
use Rattle.vr_model.specs.schedules.Lines.{line, line_arc, start_allows, stop_allows}
use Rattle.vr_model.specs.schedules.Schedules.{Plan, KeepsRules, before_only, after_only, cumul, front, back, IsReached, ReachesEnd}
use Rattle.vr_model.specs.declared.records.Model.{Model}
use Rattle.vr_steps.specs.Levels.{AreLevels}
use Rattle.vr_steps.specs.Reached.{AreReached, AreReachingEnd}
use Rattle.vr_reach.specs.Rows.{BothWays, row_at}
use Rattle.vr_reach.specs.Lists.{IsUsed}
use Rattle.vr_reach.specs.Stretches.{SharesFront, SharesBack}
use Rattle.vr_reach.specs.declared.ends.Ends.{Ends}
use Rattle.vr_reach.specs.Stops.{AreEndsOf}
use Rattle.vr_reach.specs.KnownRows.{AreRowsOf, IsReachingFrom}
use Rattle.vr_reach.specs.Standing.{IsReachedAt}

take_of_map : {B : Type 0} (f : ℕ → B) (list : List ℕ) (rest : List B) (k : ℕ) → k ≤ length list → take k (map f list ++ rest) ≡ map f (take k list)
take_of_map f list rest zero le = refl
take_of_map f [] rest (suc k) le = absurd (omega (arith, le))
take_of_map f (x ∷ xs) rest (suc k) le = ap (λ l. f x ∷ l) (take_of_map f xs rest k (omega (arith, le)))

take_of_arcs : {B : Type 0} (g : UsedArc → B) (v node : ℕ) (list rest : List ℕ) (k : ℕ) → k ≤ length list
    → take k (map g (arcs_from v node (list ++ rest))) ≡ map g (arcs_from v node (take k list))
take_of_arcs g v node list rest zero le = refl
take_of_arcs g v node [] rest (suc k) le = absurd (omega (arith, le))
take_of_arcs g v node (x ∷ xs) rest (suc k) le =
    ap (λ l. g (record { vehicle = v; origin = node; target = x }) ∷ l) (take_of_arcs g v x xs rest k (omega (arith, le)))

drop_of_map : {B : Type 0} (f : ℕ → B) (list : List ℕ) (rest : List B) (k : ℕ) → k ≤ length list → drop k (map f list ++ rest) ≡ map f (drop k list) ++ rest
drop_of_map f list rest zero le = refl
drop_of_map f [] rest (suc k) le = absurd (omega (arith, le))
drop_of_map f (x ∷ xs) rest (suc k) le = drop_of_map f xs rest k (omega (arith, le))

behind_first : {B : Type 0} (g : UsedArc → B) (v node other : ℕ) (ts : List ℕ) → drop 1 (map g (arcs_from v node ts)) ≡ drop 1 (map g (arcs_from v other ts))
behind_first g v node other [] = refl
behind_first g v node other (t ∷ ts) = refl

drop_of_arcs : {B : Type 0} (g : UsedArc → B) (v node : ℕ) (list rest : List ℕ) (k : ℕ) → k ≤ length list
    → drop (suc k) (map g (arcs_from v node (list ++ rest))) ≡ drop 1 (map g (arcs_from v 0 (drop k list ++ rest)))
drop_of_arcs g v node list rest zero le = behind_first g v node 0 (list ++ rest)
drop_of_arcs g v node [] rest (suc k) le = absurd (omega (arith, le))
drop_of_arcs g v node (x ∷ xs) rest (suc k) le = drop_of_arcs g v x xs rest k (omega (arith, le))

-- what a line allows at its start, at a visit and at its end
abbrev at_start : Model → ℕ → ℕ → ℤ → Bool
at_start model d v = start_allows (dimension_at model d) (number_at (dimension_at model d).capacities v) (row_of (dimension_at model d).starts v)

abbrev at_visit : Model → ℕ → ℕ → ℕ → ℤ → Bool
at_visit model d v node = stop_allows (number_at (dimension_at model d).capacities v) (row_of (dimension_at model d).nodes node)

abbrev at_end : Model → ℕ → ℕ → List (ℤ → Bool)
at_end model d v = stop_allows (number_at (dimension_at model d).capacities v) (row_of (dimension_at model d).ends v) ∷ []

module _ (model : Model) (d v : ℕ) (old new : List ℕ) where
  front_same : (a b : ℕ) → SharesFront old new a → front (line model d v old) a b ≡ front (line model d v new) a b
  front_same a b shares =
      let f : ℕ → ℤ → Bool = at_visit model d v in
      let rest : List (ℤ → Bool) = at_end model d v in
      let last : List ℕ = (vehicle_at model v).end ∷ [] in
      let allowed = ap (λ l. at_start model d v ∷ l)
      (take_of_map f old rest a shares.within_old ∙ (ap (map f) shares.same ∙ sym (take_of_map f new rest a shares.within_new))) in
      let arcs = take_of_arcs (line_arc model d v) v (vehicle_at model v).start old last a shares.within_old
      ∙ (ap (λ l. map (line_arc model d v) (arcs_from v (vehicle_at model v).start l)) shares.same
      ∙ sym (take_of_arcs (line_arc model d v) v (vehicle_at model v).start new last a shares.within_new)) in
      λ i. record { allowed = allowed i; arcs = arcs i; slack_max = (dimension_at model d).slack_max; breaks = take b (breaks_of (dimension_at model d) v) }

  back_same : (z b : ℕ) → SharesBack old new z → back (line model d v old) (suc (length old - z)) b ≡ back (line model d v new) (suc (length new - z)) b
  back_same z b shares =
      let j : length old - z ≤ length old = omega arith in
      let k : length new - z ≤ length new = omega arith in
      let f : ℕ → ℤ → Bool = at_visit model d v in
      let rest : List (ℤ → Bool) = at_end model d v in
      let last : List ℕ = (vehicle_at model v).end ∷ [] in
      let allowed = drop_of_map f old rest (length old - z) j ∙ (ap (λ l. map f l ++ rest) shares.same ∙ sym (drop_of_map f new rest (length new - z) k)) in
      let arcs = drop_of_arcs (line_arc model d v) v (vehicle_at model v).start old last (length old - z) j
      ∙ (ap (λ l. drop 1 (map (line_arc model d v) (arcs_from v 0 (l ++ last)))) shares.same
      ∙ sym (drop_of_arcs (line_arc model d v) v (vehicle_at model v).start new last (length new - z) k)) in
      λ i. record { allowed = allowed i; arcs = arcs i; slack_max = (dimension_at model d).slack_max; breaks = drop b (breaks_of (dimension_at model d) v) }

  pub reached_too : (a : ℕ) → SharesFront old new a → (levels : List (List Run))
      → AreReached (line model d v old) a levels → AreReached (line model d v new) a levels
  reached_too a shares levels are b le x =
      let same : IsReached (line model d v old) a b x ≡ IsReached (line model d v new) a b x =
      ap (λ l. (plan : Plan) × KeepsRules before_only l plan × (cumul plan a ≡ x)) (front_same a b shares) in
      (λ t. subst (λ T. T) same ((are b le x).0 t), λ m. (are b le x).1 (subst (λ T. T) (sym same) m))

  pub reaching_too : (z : ℕ) → SharesBack old new z → (levels : List (List Run))
      → AreReachingEnd (line model d v old) (suc (length old - z)) levels → AreReachingEnd (line model d v new) (suc (length new - z)) levels
  reaching_too z shares levels are b le x =
      let same : ReachesEnd (line model d v old) (suc (length old - z)) b x ≡ ReachesEnd (line model d v new) (suc (length new - z)) b x =
      ap (λ l. (plan : Plan) × KeepsRules after_only l plan × (cumul plan 0 ≡ x)) (back_same z b shares) in
      (λ t. subst (λ T. T) same ((are b le x).0 t), λ m. (are b le x).1 (subst (λ T. T) (sym same) m))

pub not_empty : (list : List ℕ) → 0 < length list → is_empty list ≡ false
not_empty [] some = absurd (omega (arith, some))
not_empty (x ∷ xs) some = refl

-- the rows of a list have those of each stop behind nodes that it keeps, and before such nodes
module _ (model : Model) (d v : ℕ) (list : List ℕ) (rows : BothWays) (kept : is_empty list ≡ false → AreRowsOf model d v list rows) where
  pub row_before : (front : ℕ) → front ≤ length list → 0 < front → front < length rows.forward
  row_before front within some = let n = (kept (not_empty list (omega (arith, some, within)))).forward.row_of_each_stop in omega (arith, n, within)

  pub row_behind : (back : ℕ) → back ≤ length list → 0 < back → length list - back + 1 < length rows.backward
  row_behind back within some = let n = (kept (not_empty list (omega (arith, some, within)))).backward.row_of_each_stop in omega (arith, n, within, some)

-- the levels of the start and of the end of a vehicle, with a list
module _ (model : Model) (d v : ℕ) (list : List ℕ) (ends : Ends) (are : AreEndsOf model d v ends) (used : IsUsed model list) where
  pub started_at : IsReachedAt model d v list 0 ends.start_levels
  started_at = record { form = subst (λ breaks. AreLevels breaks ends.start_levels) are.sets.breaks_are.same are.start_form; reached = are.start_is list used }

  pub ended_at : IsReachingFrom model d v list (suc (length list)) ends.end_levels
  ended_at = record { form = subst (λ breaks. AreLevels breaks ends.end_levels) are.sets.breaks_are.same are.end_form; reaching = are.end_is list used }

module _ (model : Model) (d v : ℕ) (old new : List ℕ) (ends : Ends) (are : AreEndsOf model d v ends)
    (rows : BothWays) (kept : is_empty old ≡ false → AreRowsOf model d v old rows) (used : IsUsed model new) where
  -- the levels at the last stop that both lists share at the front
  pub left_at : (a : ℕ) → SharesFront old new a → (levels : List (List Run)) → (a ≡ 0 → levels ≡ ends.start_levels)
      → (0 < a → levels ≡ row_at rows.forward a) → IsReachedAt model d v new a levels
  left_at zero shares levels start row = subst (IsReachedAt model d v new 0) (sym (start refl)) (started_at model d v new ends are used)
  left_at (suc a) shares levels start row =
      let within = shares.within_old in
      let r = kept (not_empty old (omega (arith, within))) in
      let f = r.forward.each (suc a) (omega (arith, within)) in
      subst (IsReachedAt model d v new (suc a)) (sym (row (omega arith)))
      (record { form = f.form; reached = reached_too model d v old new (suc a) shares (row_at rows.forward (suc a)) f.reached })

  -- the levels at the first stop that both lists share at the back
  pub met_at : (z : ℕ) → SharesBack old new z → (levels : List (List Run)) → (z ≡ 0 → levels ≡ ends.end_levels)
      → (0 < z → levels ≡ row_at rows.backward (length old - z + 1)) → IsReachingFrom model d v new (length new - z + 1) levels
  met_at zero shares levels finish row =
      let e : suc (length new) ≡ length new - 0 + 1 = omega arith in
      subst (λ k. IsReachingFrom model d v new k levels) e
      (subst (IsReachingFrom model d v new (suc (length new))) (sym (finish refl)) (ended_at model d v new ends are used))
  met_at (suc z) shares levels finish row =
      let within = shares.within_old in
      let within_new = shares.within_new in
      let r = kept (not_empty old (omega (arith, within))) in
      let k : suc (length old - suc z) ≡ length old - suc z + 1 = omega (arith, within) in
      let j : suc (length new - suc z) ≡ length new - suc z + 1 = omega (arith, within_new) in
      let f = r.backward.each (suc (length old - suc z)) (omega (arith, within)) in
      let here : levels ≡ row_at rows.backward (suc (length old - suc z)) = row (omega arith) ∙ sym (ap (row_at rows.backward) k) in
      subst (λ i. IsReachingFrom model d v new i levels) j (subst (IsReachingFrom model d v new (suc (length new - suc z))) (sym here)
      (record { form = f.form; reaching = reaching_too model d v old new (suc z) shares (row_at rows.backward (suc (length old - suc z))) f.reaching }))
