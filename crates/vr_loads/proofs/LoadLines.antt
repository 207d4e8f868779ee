-- The lines of a load carry what is taken.
use Rattle.std.proofs.Common.{◌≡◌, ◌∙◌, ℕ, zero, suc, ◌<◌, ◌≤◌, Bool, true, false, List, [], ◌∷◌, ◌++◌, length, map, ℤ, pos, Option, Some, None, refl, sym, ap}
use Rattle.std.proofs.Common.{subst, arith}
use Rattle.std.specs.Prelude.{IsTrue, ◌&&◌, ◌||◌, ◌==◌, not, slice_index_or, ◌≤ℤ◌, int_le}
use Rattle.std.specs.List.{list_all}
use Rattle.std.proofs.lemmas.Int.{ints}
use Rattle.vr_model.specs.tables.Numbers.{number_at, horizon, within, is_same_number}
use Rattle.vr_model.specs.tables.Tables.{dimension_at, vehicle_at, no_dimension, no_evaluator, row_of, breaks_of, matrix_part, transit, evaluator_number}
use Rattle.vr_model.specs.tables.ModelRules.{evaluator_at}
use Rattle.vr_model.specs.tables.Limits.{greatest_value}
use Rattle.vr_model.specs.tables.WellFormed.{IsDimension, IsEvaluator, IsIn}
use Rattle.vr_model.specs.routes.Routes.{UsedArc, arcs_from, is_empty}
use Rattle.vr_model.specs.schedules.Lines.{Line, line, line_arc, start_allows, stop_allows}
use Rattle.vr_model.specs.schedules.Schedules.{allows, no_arc}
use Rattle.vr_model.specs.schedules.Choices.{is_feasible}
use Rattle.vr_model.specs.schedules.ChosenLaws.{ChosenWhereFeasible}
use Rattle.vr_model.specs.deciding.Testing.{and_left, and_right, and_both, eq_of_test, eq_of_tests, le_of_test, test_of_le, test_of_within, within_is}
use Rattle.vr_model.specs.declared.records.Model.{Model}
use Rattle.vr_model.specs.declared.records.Dimension.{Dimension}
use Rattle.vr_model.specs.declared.records.Evaluator.{Evaluator}
use Rattle.vr_model.proofs.tables.Tests.{all-from_list_all, same_tests}
use Rattle.vr_model.proofs.tables.Bounds.{evaluator_low}
use Rattle.vr_model.proofs.schedules.LineArcs.{length_arcs}
use Rattle.vr_loads.specs.Loads.{only_adds, has_no_matrix, has_no_rows, HasLoad, value_of, taken, load_of, LoadsDecide}
use Rattle.vr_balance.specs.Sums.{IsUpTo}
use Rattle.vr_loads.proofs.Totals.{AreSmall}
use Rattle.vr_loads.proofs.Carrying.{IsCarrying, fits, goes_through}

one_behind : {A : Type 0} (xs : List A) (x : A) → length (xs ++ x ∷ []) ≡ suc (length xs)
one_behind [] x = refl
one_behind (y ∷ ys) x = ap suc (one_behind ys x)

same_of_all : {T : Type 0} (f : ℕ → T) (last none : T) → ((n : ℕ) → f n ≡ last)
    → (list : List ℕ) (k : ℕ) → k ≤ length list → slice_index_or (map f list ++ last ∷ []) k none ≡ last
same_of_all f last none same [] zero le = refl
same_of_all f last none same [] (suc k) le = absurd (omega (arith, le))
same_of_all f last none same (x ∷ xs) zero le = same x
same_of_all f last none same (x ∷ xs) (suc k) le = same_of_all f last none same xs k (omega (arith, le))

as_many : {T : Type 0} (f : ℕ → T) (list : List ℕ) → length (map f list) ≡ length list
as_many f [] = refl
as_many f (x ∷ xs) = ap suc (as_many f xs)

empty_of_test : {A : Type 0} (xs : List A) → IsTrue (length xs == 0) → xs ≡ []
empty_of_test [] h = refl
empty_of_test (x ∷ xs) h = absurd (let e = eq_of_test (suc (length xs)) 0 h in omega (arith, e))

no_matrix_of : (m : Option ℕ) → IsTrue (has_no_matrix m) → m ≡ None
no_matrix_of None h = refl
no_matrix_of (Some k) h = absurd (let f : false ≡ true → ⊥ = λ e. Prim.cc in f h)

-- the same dimension without slack, rows and breaks
abbrev bare : Dimension → Dimension
bare dimension = record dimension { slack_max = pos 0; nodes = []; starts = []; ends = []; breaks = [] }

bare_is : (x : Dimension) → x.slack_max ≡ pos 0 → x.nodes ≡ [] → x.starts ≡ [] → x.ends ≡ [] → x.breaks ≡ [] → x ≡ bare x
bare_is x slack nodes starts ends breaks =
    ap (λ y. record x { slack_max = y }) slack
    ∙ (ap (λ y. record x { slack_max = pos 0; nodes = y }) nodes
    ∙ (ap (λ y. record x { slack_max = pos 0; nodes = []; starts = y }) starts
    ∙ (ap (λ y. record x { slack_max = pos 0; nodes = []; starts = []; ends = y }) ends
    ∙ ap (λ y. record x { slack_max = pos 0; nodes = []; starts = []; ends = []; breaks = y }) breaks)))

module _ (model : Model) (d : ℕ) (has : HasLoad model d) where
  abbrev here : Dimension
  here = dimension_at model d

  of_dimension : IsDimension model here
  of_dimension = has.well_formed.each_dimension d no_dimension has.dimension

  behind_slack : IsTrue (has_no_rows here && list_all only_adds here.evaluators)
  behind_slack = and_right (is_same_number here.slack_max (pos 0)) _ has.load

  rows : IsTrue (has_no_rows here)
  rows = and_left (has_no_rows here) (list_all only_adds here.evaluators) behind_slack

  behind_nodes : IsTrue ((length here.starts == 0) && ((length here.ends == 0) && (length here.breaks == 0)))
  behind_nodes = and_right (length here.nodes == 0) _ rows

  behind_starts : IsTrue ((length here.ends == 0) && (length here.breaks == 0))
  behind_starts = and_right (length here.starts == 0) _ behind_nodes

  here_is : here ≡ bare here
  here_is = bare_is here
      (let e = eq_of_tests here.slack_max (pos 0) (and_left (is_same_number here.slack_max (pos 0)) _ has.load) in e)
      (empty_of_test here.nodes (and_left (length here.nodes == 0) _ rows))
      (empty_of_test here.starts (and_left (length here.starts == 0) _ behind_nodes))
      (empty_of_test here.ends (and_left (length here.ends == 0) _ behind_starts))
      (empty_of_test here.breaks (and_right (length here.ends == 0) (length here.breaks == 0) behind_starts))

  module _ (e : ℕ) (known : e < length here.evaluators) where
    abbrev evaluator : Evaluator
    evaluator = evaluator_at here e

    adds : IsTrue (only_adds evaluator)
    adds = all-from_list_all only_adds here.evaluators (and_right (has_no_rows here) _ behind_slack) e no_evaluator known

    pub is_evaluator : IsEvaluator model evaluator
    is_evaluator = of_dimension.each_evaluator e no_evaluator known

    no_matrix : evaluator.matrix ≡ None
    no_matrix = no_matrix_of evaluator.matrix (and_left (has_no_matrix evaluator.matrix) _ adds)

    -- each value is 0 or more, and at most 2 ^ 30
    pub small : AreSmall (value_of model d e)
    small = record {
      each =
          λ x. of_list evaluator.values (and_right (has_no_matrix evaluator.matrix) _ adds) (λ k low. (is_evaluator.values_in_range k (pos 0) low).at_most) x;
    }
      where
        of_list : (values : List ℤ) → IsTrue (list_all (int_le (pos 0)) values)
            → ((k : ℕ) → k < length values → number_at values k ≤ℤ greatest_value) → (k : ℕ) → IsUpTo 1 (number_at values k)
        of_list [] all high k = record { low = omega (arith, ints); high = omega (arith, ints) }
        of_list (x ∷ xs) all high zero =
            record { low = le_of_test (pos 0) x (and_left (int_le (pos 0) x) _ all); high = (let h = high 0 (omega arith) in omega (arith, ints, h)) }
        of_list (x ∷ xs) all high (suc k) = of_list xs (and_right (int_le (pos 0) x) _ all) (λ j low. high (suc j) (omega (arith, low))) k

  module _ (v : ℕ) (vehicle : v < length model.vehicles) where
    pub number_low : evaluator_number here v < length here.evaluators
    number_low = evaluator_low model has.well_formed d v has.dimension vehicle

    abbrev f : ℕ → ℤ
    f = taken model d v

    abbrev capacity : ℤ
    capacity = number_at here.capacities v

    pub capacity_in_range : IsIn (pos 0) horizon capacity
    capacity_in_range = of_dimension.capacities_in_range v (pos 0) (subst (λ n. v < n) (sym of_dimension.capacity_of_each_vehicle) vehicle)

    takes : (i j : ℕ) → transit model d v i j ≡ f i
    takes i j =
        let e = ap (λ m. matrix_part model m i j) (no_matrix (evaluator_number here v) number_low) in
        omega (arith, ints, e)

    arcs_take : (x : ℕ) (ts : List ℕ) (end k : ℕ) → k < suc (length ts)
        → (slice_index_or (map (line_arc model d v) (arcs_from v x (ts ++ end ∷ []))) k no_arc).transit ≡ f (slice_index_or (x ∷ ts) k 0)
    arcs_take x [] end zero low = takes x end
    arcs_take x [] end (suc k) low = absurd (omega (arith, low))
    arcs_take x (t ∷ ts) end zero low = takes x t
    arcs_take x (t ∷ ts) end (suc k) low = arcs_take t ts end k (omega (arith, low))

    module _ (list : List ℕ) where
      abbrev nodes : List ℕ
      nodes = (vehicle_at model v).start ∷ list

      -- the line of the list, of a dimension
      abbrev line_by : Dimension → Line
      line_by dimension = record {
        allowed = start_allows dimension capacity (row_of dimension.starts v)
            ∷ (map (λ node. stop_allows capacity (row_of dimension.nodes node)) list ++ stop_allows capacity (row_of dimension.ends v) ∷ []);
        arcs = (line model d v list).arcs;
        slack_max = dimension.slack_max;
        breaks = breaks_of dimension v;
      }

      abbrev bare_line : Line
      bare_line = line_by (bare here)

      abbrev anywhere : ℤ → Bool
      anywhere = stop_allows capacity None

      behind_start : (k : ℕ) → suc k ≤ length nodes → slice_index_or bare_line.allowed (suc k) (λ _. false) ≡ anywhere
      behind_start k le = same_of_all (λ node. anywhere) anywhere (λ _. false) (λ n. refl) list k (omega (arith, le))

      of_stop : (x : ℤ) → IsTrue (anywhere x) → (pos 0 ≤ℤ x) × (x ≤ℤ capacity)
      of_stop x h = within_is (pos 0) capacity x (and_left (within (pos 0) capacity x) true h)

      to_stop : (x : ℤ) → pos 0 ≤ℤ x → x ≤ℤ capacity → IsTrue (anywhere x)
      to_stop x low high = and_both (within (pos 0) capacity x) true (test_of_within (pos 0) capacity x low high) refl

      in_horizon : (x : ℤ) → pos 0 ≤ℤ x → x ≤ℤ capacity → IsTrue (within (pos 0) horizon x)
      in_horizon x low high = let c = capacity_in_range in let h = c.at_most in test_of_within (pos 0) horizon x low (omega (arith, ints, high, h))

      bounds : (k : ℕ) → k ≤ length nodes → (x : ℤ) → IsTrue (allows bare_line k x) → (pos 0 ≤ℤ x) × (x ≤ℤ capacity)
      bounds zero le x h = of_stop x (and_left (anywhere x) _ (and_right (within (pos 0) horizon x) _ h))
      bounds (suc k) le x h = of_stop x (subst (λ p. IsTrue (p x)) (behind_start k le) (and_right (within (pos 0) horizon x) _ h))

      starts_at : (b : Bool) → IsTrue (not b || is_same_number (pos 0) (pos 0))
      starts_at true = refl
      starts_at false = refl

      bare_carries : IsCarrying bare_line f nodes capacity
      bare_carries = record {
        stops = ap suc
            (one_behind (map (λ node. stop_allows capacity None) list) (stop_allows capacity None) ∙ ap suc (as_many (λ node. stop_allows capacity None) list));
        arcs = length_arcs_of ∙ one_behind list (vehicle_at model v).end;
        transits = λ k low. arcs_take (vehicle_at model v).start list (vehicle_at model v).end k low;
        tight = refl;
        no_breaks = refl;
        bounded = bounds;
        first = λ low. and_both (within (pos 0) horizon (pos 0)) _ (in_horizon (pos 0) (omega (arith, ints)) low)
            (and_both (anywhere (pos 0)) _ (to_stop (pos 0) (omega (arith, ints)) low) (starts_at here.fix_start));
        others = others;
      }
        where
          length_arcs_of : length (line model d v list).arcs ≡ length (list ++ (vehicle_at model v).end ∷ [])
          length_arcs_of = mapped (arcs_from v (vehicle_at model v).start (list ++ (vehicle_at model v).end ∷ []))
              ∙ length_arcs v (vehicle_at model v).start (list ++ (vehicle_at model v).end ∷ [])
            where
              mapped : (arcs : List UsedArc) → length (map (line_arc model d v) arcs) ≡ length arcs
              mapped [] = refl
              mapped (a ∷ arcs) = ap suc (mapped arcs)

          others : (k : ℕ) → 0 < k → k ≤ length nodes → (x : ℤ) → pos 0 ≤ℤ x → x ≤ℤ capacity → IsTrue (allows bare_line k x)
          others zero some le x low high = absurd (omega (arith, some))
          others (suc k) some le x low high =
              and_both (within (pos 0) horizon x) _ (in_horizon x low high) (subst (λ p. IsTrue (p x)) (sym (behind_start k le)) (to_stop x low high))

      carries : IsCarrying (line model d v list) f nodes capacity
      carries = subst (λ dimension. IsCarrying (line_by dimension) f nodes capacity) (sym here_is) bare_carries

      decided : ChosenWhereFeasible → is_feasible (line model d v list) ≡ int_le (load_of model d v list) capacity
      decided chosen = same_tests (is_feasible (line model d v list)) (int_le (load_of model d v list) capacity)
          (λ h. test_of_le (load_of model d v list) capacity (fits (line model d v list) f nodes capacity carries ((chosen (line model d v list)).0 h)))
          (λ h. (chosen (line model d v list)).1 (goes_through (line model d v list) f nodes capacity carries
          (small (evaluator_number here v) number_low) (le_of_test (load_of model d v list) capacity h)))

pub decide : ChosenWhereFeasible → LoadsDecide
decide chosen model d v has vehicle list = ap (λ b. is_empty list || b) (decided model d has v vehicle list chosen)
