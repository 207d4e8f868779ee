-- The lines of even models are steady.
use Rattle.std.proofs.Common.{◌≡◌, ◌∙◌, ℕ, zero, suc, ◌<◌, ◌≤◌, Bool, true, false, List, [], ◌∷◌, ◌++◌, length, map, ℤ, pos, None, refl, sym, ap, subst, arith}
use Rattle.std.specs.Prelude.{IsTrue, ◌↔◌, ◌&&◌, ◌==◌, slice_index_or}
use Rattle.std.specs.List.{list_all}
use Rattle.std.proofs.lemmas.Int.{ints}
use Rattle.vr_model.specs.tables.Numbers.{number_at, horizon, within, is_same_number}
use Rattle.vr_model.specs.tables.Tables.{dimension_at, row_of, breaks_of, is_visit}
use Rattle.vr_model.specs.routes.Routes.{arcs_between, is_distinct, is_empty}
use Rattle.vr_model.specs.schedules.Lines.{Line, line, start_allows, stop_allows}
use Rattle.vr_model.specs.schedules.Schedules.{allows, arc_at}
use Rattle.vr_model.specs.schedules.SoundLines.{IsSound, LinesAreSound}
use Rattle.vr_model.specs.deciding.Testing.{and_left, and_right, and_both, eq_of_tests, test_of_eq, test_of_within}
use Rattle.vr_model.specs.declared.records.Model.{Model}
use Rattle.vr_model.specs.declared.records.Dimension.{Dimension}
use Rattle.vr_model.proofs.tables.Tests.{clash}
use Rattle.vr_model.proofs.schedules.LineArcs.{arcs_of_line}
use Rattle.vr_model.proofs.schedules.LinesSound.{arc_is, no_used_arc, taken}
use Rattle.vr_steps.specs.Even.{IsEven, asking_nothing_else}
use Rattle.vr_steps.proofs.Steady.{IsSteady}

same_of_all : {T : Type 0} (f : ℕ → T) (last none : T) → ((n : ℕ) → f n ≡ last)
    → (list : List ℕ) (k : ℕ) → k ≤ length list → slice_index_or (map f list ++ last ∷ []) k none ≡ last
same_of_all f last none same [] zero le = refl
same_of_all f last none same [] (suc k) le = absurd (omega (arith, le))
same_of_all f last none same (x ∷ xs) zero le = same x
same_of_all f last none same (x ∷ xs) (suc k) le = same_of_all f last none same xs k (omega (arith, le))

module _ (model : Model) (even : IsEven model) (sound : LinesAreSound) (list : List ℕ) (some : is_empty list ≡ false)
    (visits : IsTrue (list_all (is_visit model) list)) (distinct : IsTrue (is_distinct list)) (few : length list ≤ 1000) where
  -- the line of a list, of a dimension
  abbrev line_by : Dimension → Line
  line_by dimension = record {
    allowed = start_allows dimension (number_at dimension.capacities 0) (row_of dimension.starts 0)
        ∷ (map (λ node. stop_allows (number_at dimension.capacities 0) (row_of dimension.nodes node)) list
        ++ stop_allows (number_at dimension.capacities 0) (row_of dimension.ends 0) ∷ []);
    arcs = (line model 0 0 list).arcs;
    slack_max = dimension.slack_max;
    breaks = breaks_of dimension 0;
  }

  abbrev even_line : Line
  even_line = line_by (asking_nothing_else (dimension_at model 0))

  line_is : line model 0 0 list ≡ even_line
  line_is = ap line_by even.nothing_else

  as_many : length (line model 0 0 list).arcs ≡ suc (length list)
  as_many = arcs_of_line model 0 0 list

  five : (k : ℕ) → k < length (line model 0 0 list).arcs → (arc_at (line model 0 0 list) k).transit ≡ pos 5
  five k low =
      let arc = slice_index_or (arcs_between model 0 list) k no_used_arc in
      let between = taken model even.well_formed 0 0 even.some_dimension even.vehicle list some visits distinct k low in
      ap (λ taken. taken.transit) (arc_is model even.well_formed 0 0 even.some_dimension even.vehicle list some visits distinct k low)
      ∙ even.transits arc.origin arc.target between.origin_low between.target_low
      (λ e. clash (arc.origin == arc.target) (test_of_eq arc.origin arc.target e) between.apart)

  start_is : (x : ℤ) → IsTrue (allows even_line 0 x) ↔ (x ≡ pos 0)
  start_is x = (to, from)
    where
      to : IsTrue (allows even_line 0 x) → x ≡ pos 0
      to h = sym (eq_of_tests (pos 0) x
          (turned x (and_right (within (pos 0) horizon x && true) (is_same_number x (pos 0)) (and_right (within (pos 0) horizon x) _ h))))
        where
          turned : (x : ℤ) → IsTrue (is_same_number x (pos 0)) → IsTrue (within (pos 0) (pos 0) x)
          turned x t = let e = eq_of_tests x (pos 0) t in test_of_within (pos 0) (pos 0) x (omega (arith, ints, e)) (omega (arith, ints, e))

      from : x ≡ pos 0 → IsTrue (allows even_line 0 x)
      from e = subst (λ z. IsTrue (allows even_line 0 z)) (sym e) refl

  others_are : (k : ℕ) → 0 < k → k ≤ length (line model 0 0 list).arcs → (x : ℤ) → IsTrue (allows even_line k x) ↔ IsTrue (within (pos 0) horizon x)
  others_are zero some_stop le x = absurd (omega (arith, some_stop))
  others_are (suc k) some_stop le x =
      let test : ℤ → Bool = stop_allows horizon None in
      let same : slice_index_or even_line.allowed (suc k) (λ _. false) ≡ test = same_of_all (λ node. stop_allows horizon (row_of [] node))
      test (λ _. false) (λ n. refl) list k (let n = as_many in omega (arith, le, n)) in (
        λ h. and_left (within (pos 0) horizon x) _ h,
        λ w. subst (λ f. IsTrue (within (pos 0) horizon x && f x)) (sym same)
            (and_both (within (pos 0) horizon x) _ w (and_both (within (pos 0) horizon x) true w refl)),
      )

  pub steady : IsSteady (line model 0 0 list)
  steady = subst IsSteady (sym line_is) (record {
    sound = subst IsSound line_is (sound model even.well_formed 0 0 even.some_dimension even.vehicle list some visits distinct);
    few = let n = as_many in omega (arith, n, few);
    transits = five;
    tight = refl;
    no_breaks = refl;
    start = start_is;
    others = others_are;
  })
