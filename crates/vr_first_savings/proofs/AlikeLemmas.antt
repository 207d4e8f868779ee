-- Vehicles that are alike may drive the same lists.
use Rattle.std.proofs.Common.{◌≡◌, ◌∙◌, ◌<◌, ◌++◌, ℕ, List, [], ◌∷◌, Bool, true, false, not, Option, Some, None, refl, ap, ap₂, sym, inl, inr, length, map}
use Rattle.std.specs.Prelude.{◌&&◌, ◌||◌, ◌==◌, ℤ, pos, find, slice_index_or}
use Rattle.std.specs.List.{list_all, list_any}
use Rattle.vr_model.specs.tables.Numbers.{are_same_by, below, is_same_number, number_at, within}
use Rattle.vr_model.specs.tables.Tables.{breaks_of, dimension_at, evaluated, evaluator_number, no_dimension, no_evaluator, row_of, vehicle_at}
use Rattle.vr_model.specs.tables.ModelRules.{are_alike, are_alike_in, is_same_break, is_same_interval, is_same_option, is_same_policy, is_same_row}
use Rattle.vr_model.specs.tables.ModelRules.{is_same_schedule_rule, is_savings, vehicles_differ}
use Rattle.vr_model.specs.tables.WellFormed.{IsWellFormed}
use Rattle.vr_model.specs.routes.Routes.{arcs_from, is_empty}
use Rattle.vr_model.specs.routes.Rules.{allows_vehicle, is_route_open, keeps_policy, pairs_in, policy_allows, row_allows_vehicle, serves_pair}
use Rattle.vr_model.specs.schedules.Lines.{in_window, line, line_arc, row_allows, stop_allows}
use Rattle.vr_model.specs.schedules.Choices.{is_feasible}
use Rattle.vr_model.specs.deciding.Testing.{and_left, and_right, eq_of_test, eq_of_tests}
use Rattle.vr_model.specs.declared.records.Allowed.{Allowed}
use Rattle.vr_model.specs.declared.records.BreakRow.{BreakRow}
use Rattle.vr_model.specs.declared.records.Dimension.{Dimension}
use Rattle.vr_model.specs.declared.records.Interval.{Interval}
use Rattle.vr_model.specs.declared.records.Model.{Model}
use Rattle.vr_model.specs.declared.records.Policy.{Policy}
use Rattle.vr_model.specs.declared.records.Policy.TheVariants.{Any, Lifo, Fifo}
use Rattle.vr_model.specs.declared.records.StopRow.{StopRow}
use Rattle.vr_model.proofs.tables.Members.{In, of_below, to_below}
use Rattle.vr_model.proofs.tables.Tests.{all-from_list_all, or-false_left, or-false_right}

-- ---- what tests of sameness show

same_option : {A : Type 0} (same : A → A → Bool) → ((x y : A) → same x y ≡ true → x ≡ y) → (o p : Option A) → is_same_option same o p ≡ true → o ≡ p
same_option same sound None None e = refl
same_option same sound None (Some y) e = absurd cc
same_option same sound (Some x) None e = absurd cc
same_option same sound (Some x) (Some y) e = ap Some (sound x y e)

same_by : {A : Type 0} (same : A → A → Bool) → ((x y : A) → same x y ≡ true → x ≡ y) → (xs ys : List A) → are_same_by same xs ys ≡ true → xs ≡ ys
same_by same sound [] [] e = refl
same_by same sound [] (y ∷ ys) e = absurd cc
same_by same sound (x ∷ xs) [] e = absurd cc
same_by same sound (x ∷ xs) (y ∷ ys) e = ap₂ (λ z zs. z ∷ zs) (sound x y (and_left (same x y) _ e)) (same_by same sound xs ys (and_right (same x y) _ e))

same_policy : (p q : Policy) → is_same_policy p q ≡ true → p ≡ q
same_policy Any Any e = refl
same_policy Any Lifo e = absurd cc
same_policy Any Fifo e = absurd cc
same_policy Lifo Any e = absurd cc
same_policy Lifo Lifo e = refl
same_policy Lifo Fifo e = absurd cc
same_policy Fifo Any e = absurd cc
same_policy Fifo Lifo e = absurd cc
same_policy Fifo Fifo e = refl

same_interval : (x y : Interval) → is_same_interval x y ≡ true → x ≡ y
same_interval x y e =
    let lo = eq_of_tests x.lo y.lo (and_left (is_same_number x.lo y.lo) _ e) in
    let hi = eq_of_tests x.hi y.hi (and_right (is_same_number x.lo y.lo) _ e) in
    λ i. record { lo = lo i; hi = hi i }

same_break : (x y : BreakRow) → is_same_break x y ≡ true → x ≡ y
same_break x y e =
    let rest = and_right (is_same_number x.from y.from) _ e in
    let from = eq_of_tests x.from y.from (and_left (is_same_number x.from y.from) _ e) in
    let to = eq_of_tests x.to y.to (and_left (is_same_number x.to y.to) _ rest) in
    let duration = eq_of_tests x.duration y.duration (and_right (is_same_number x.to y.to) _ rest) in
    λ i. record { from = from i; to = to i; duration = duration i }

-- rows that are the same but for their keys allow the same cumuls
same_rows : (r s : Option StopRow) → is_same_option is_same_row r s ≡ true → (x : ℤ) → row_allows r x ≡ row_allows s x
same_rows None None e x = refl
same_rows None (Some s) e x = absurd cc
same_rows (Some r) None e x = absurd cc
same_rows (Some r) (Some s) e x =
    let window = same_option is_same_interval same_interval r.window s.window (and_left (is_same_option is_same_interval r.window s.window) _ e) in
    let rest = and_right (is_same_option is_same_interval r.window s.window) _ e in
    let forbidden = same_by is_same_interval same_interval r.forbidden s.forbidden (and_left (are_same_by is_same_interval r.forbidden s.forbidden) _ rest) in
    λ i. in_window (window i) x && list_all (λ interval. not (within interval.lo interval.hi x)) (forbidden i)

-- ---- vehicles that are alike

-- a test that passes nowhere does not pass at a member
fails_at : {A : Type 0} (p : A → Bool) (xs : List A) (x : A) → list_any p xs ≡ false → In xs x → p x ≡ false
fails_at p [] x e there = absurd there
fails_at p (y ∷ ys) x e (inl same) = ap p same ∙ or-false_left (p y) (list_any p ys) e
fails_at p (y ∷ ys) x e (inr there) = fails_at p ys x (or-false_right (p y) (list_any p ys) e) there

-- each two vehicles are alike, and each visit allows each vehicle
pub record AreAlike (model : Model) : Type 0 where
  pub each : (v w : ℕ) → v < length model.vehicles → w < length model.vehicles → are_alike model v w ≡ true
  pub none_allowed : model.allowed ≡ []

not_false : (b : Bool) → not b ≡ false → b ≡ true
not_false true e = refl
not_false false e = absurd cc

no_rows : (rows : List Allowed) → is_empty rows ≡ true → rows ≡ []
no_rows [] e = refl
no_rows (row ∷ rows) e = absurd cc

-- so it is in a well-formed model whose first solution is to be built by savings
pub saved-alike : (model : Model) → IsWellFormed model → is_savings model.search.first ≡ true → AreAlike model
saved-alike model well saved =
    let can : (vehicles_differ model || not (is_empty model.allowed)) ≡ false =
    sym (ap (λ b. b && (vehicles_differ model || not (is_empty model.allowed))) saved) ∙ well.can_save in
    let all : List ℕ = below (length model.vehicles) in
    record {
      each = λ v w low known.
          let one = fails_at (λ v. list_any (λ w. not (are_alike model v w)) all) all v
          (or-false_left (vehicles_differ model) _ can) (to_below (length model.vehicles) v low) in
          not_false (are_alike model v w) (fails_at (λ w. not (are_alike model v w)) all w one (to_below (length model.vehicles) w known));
      none_allowed = no_rows model.allowed (not_false (is_empty model.allowed) (or-false_right (vehicles_differ model) _ can));
    }

-- ---- what alike vehicles may drive

-- what is the same of two vehicles that are alike
record IsSame (model : Model) (v w : ℕ) : Type 0 where
  start : (vehicle_at model v).start ≡ (vehicle_at model w).start
  «end» : (vehicle_at model v).end ≡ (vehicle_at model w).end
  policy : (vehicle_at model v).policy ≡ (vehicle_at model w).policy
  dimensions : list_all (λ dimension. are_alike_in dimension v w) model.dimensions ≡ true

is_same : (model : Model) (v w : ℕ) → are_alike model v w ≡ true → IsSame model v w
is_same model v w h =
    let one = vehicle_at model v in
    let other = vehicle_at model w in
    let behind_start = and_right (one.start == other.start) _ h in
    let behind_end = and_right (one.end == other.end) _ behind_start in
    let behind_costs = and_right (one.costs == other.costs) _ behind_end in
    let behind_fixed = and_right (is_same_number one.fixed other.fixed) _ behind_costs in
    let behind_policy = and_right (is_same_policy one.policy other.policy) _ behind_fixed in
    record {
      start = eq_of_test one.start other.start (and_left (one.start == other.start) _ h);
      «end» = eq_of_test one.end other.end (and_left (one.end == other.end) _ behind_start);
      policy = same_policy one.policy other.policy (and_left (is_same_policy one.policy other.policy) _ behind_fixed);
      dimensions = and_right (is_same_schedule_rule one.schedule other.schedule) _ behind_policy;
    }

-- what is the same of them in a dimension
record IsSameIn (dimension : Dimension) (v w : ℕ) : Type 0 where
  capacity : number_at dimension.capacities v ≡ number_at dimension.capacities w
  evaluator : evaluator_number dimension v ≡ evaluator_number dimension w
  starts : (x : ℤ) → row_allows (row_of dimension.starts v) x ≡ row_allows (row_of dimension.starts w) x
  ends : (x : ℤ) → row_allows (row_of dimension.ends v) x ≡ row_allows (row_of dimension.ends w) x
  breaks : breaks_of dimension v ≡ breaks_of dimension w

is_same_in : (dimension : Dimension) (v w : ℕ) → are_alike_in dimension v w ≡ true → IsSameIn dimension v w
is_same_in dimension v w h =
    let capacities = is_same_number (number_at dimension.capacities v) (number_at dimension.capacities w) in
    let evaluators = evaluator_number dimension v == evaluator_number dimension w in
    let spans = is_same_number (number_at dimension.span_costs v) (number_at dimension.span_costs w) in
    let starts = is_same_option is_same_row (row_of dimension.starts v) (row_of dimension.starts w) in
    let ends = is_same_option is_same_row (row_of dimension.ends v) (row_of dimension.ends w) in
    let behind_capacity = and_right capacities _ h in
    let behind_evaluator = and_right evaluators _ behind_capacity in
    let behind_span = and_right spans _ behind_evaluator in
    let behind_starts = and_right starts _ behind_span in
    record {
      capacity = eq_of_tests _ _ (and_left capacities _ h);
      evaluator = eq_of_test _ _ (and_left evaluators _ behind_capacity);
      starts = same_rows _ _ (and_left starts _ behind_span);
      ends = same_rows _ _ (and_left ends _ behind_starts);
      breaks = same_by is_same_break same_break _ _ (and_right ends _ behind_starts);
    }

-- tests that say the same of each member say the same of all
pub all_same : {A : Type 0} (p q : A → Bool) (xs : List A) → ((x : A) → In xs x → p x ≡ q x) → list_all p xs ≡ list_all q xs
all_same p q [] h = refl
all_same p q (x ∷ xs) h = ap₂ (λ a b. a && b) (h x (inl refl)) (all_same p q xs (λ y there. h y (inr there)))

module _ (model : Model) (v w : ℕ) (same : IsSame model v w) (list : List ℕ) where
  -- the arcs of a way ask the same of both
  arcs_same : (d : ℕ) → IsSameIn (dimension_at model d) v w → (node : ℕ) (rest : List ℕ)
      → map (line_arc model d v) (arcs_from v node rest) ≡ map (line_arc model d w) (arcs_from w node rest)
  arcs_same d alike node [] = refl
  arcs_same d alike node (next ∷ rest) = λ i.
      let dimension = dimension_at model d in
      record {
        transit = evaluated model (slice_index_or dimension.evaluators (alike.evaluator i) no_evaluator) node next;
        visit = number_at dimension.visit node;
      } ∷ arcs_same d alike next rest i

  -- a list has the same line for both
  line_same : (d : ℕ) → IsSameIn (dimension_at model d) v w → line model d v list ≡ line model d w list
  line_same d alike =
      let dimension = dimension_at model d in
      let arcs = arcs_same d alike (vehicle_at model v).start (list ++ (vehicle_at model v).end ∷ [])
      ∙ ap₂ (λ from to. map (line_arc model d w) (arcs_from w from (list ++ to ∷ []))) same.start same.end in
      λ i. record {
        allowed = (λ x. ((within (pos 0) (alike.capacity i) x && alike.starts x i) && (not dimension.fix_start || is_same_number x (pos 0))))
            ∷ (map (λ node. stop_allows (alike.capacity i) (row_of dimension.nodes node)) list
            ++ (λ x. (within (pos 0) (alike.capacity i) x && alike.ends x i)) ∷ []);
        arcs = arcs i;
        slack_max = dimension.slack_max;
        breaks = alike.breaks i;
      }

  feasible_same : list_all (λ d. is_feasible (line model d v list)) (below (length model.dimensions))
      ≡ list_all (λ d. is_feasible (line model d w list)) (below (length model.dimensions))
  feasible_same = all_same (λ d. is_feasible (line model d v list)) (λ d. is_feasible (line model d w list)) (below (length model.dimensions)) (λ d there.
      ap is_feasible (line_same d (is_same_in (dimension_at model d) v w
      (all-from_list_all (λ dimension. are_alike_in dimension v w) model.dimensions
      same.dimensions d no_dimension (of_below (length model.dimensions) d there)))))

  policy_same : keeps_policy model v list ≡ keeps_policy model w list
  policy_same = ap (λ policy. list_all (λ x. list_all (λ y. policy_allows policy list x y) (pairs_in model list)) (pairs_in model list)) same.policy

-- without rows of allowed vehicles each list allows each vehicle
allows_all : (model : Model) (v : ℕ) (list : List ℕ) → model.allowed ≡ [] → list_all (allows_vehicle model v) list ≡ list_all (λ node. true) list
allows_all model v list none = ap (λ rows. list_all (λ node. row_allows_vehicle (find (λ row. row.node == node) rows) v) list) none

-- of vehicles that are alike one may drive a list exactly if another may
pub open-alike : (model : Model) → AreAlike model → (v w : ℕ) → v < length model.vehicles
    → w < length model.vehicles → (list : List ℕ) → is_route_open model v list ≡ is_route_open model w list
open-alike model alike v w low known list =
    let same = is_same model v w (alike.each v w low known) in
    let allows = allows_all model v list alike.none_allowed ∙ sym (allows_all model w list alike.none_allowed) in
    λ i. is_empty list || (feasible_same model v w same list i && (list_all (serves_pair list) model.pairs && (policy_same model v w same list i && allows i)))
