-- The shortest schedule of a line: one of the least span. Of those of this span it is the one whose cumuls, compared
-- from the start on, are least. Each line has one, or is not feasible.
use Rattle.std.proofs.Common.{◌≡◌, ℕ, zero, suc, ◌<◌, List, [], ◌∷◌, ◌++◌, length, ◌⊎◌, inl, inr, refl, ◌∙◌, sym, arith}
use Rattle.std.specs.Prelude.{Bool, ℤ, pos, neg_ℤ, ◌-ℤ◌, ◌≤ℤ◌, int_le, int_lt, IsTrue, Option, Some, None, unwrap_or}
use Rattle.std.proofs.lemmas.Int.{ints}
use Rattle.vr_model.specs.tables.Numbers.{number_at, within, horizon, is_lex_le, is_same_number}
use Rattle.vr_model.specs.schedules.Lines.{Line}
use Rattle.vr_model.specs.schedules.Schedules.{Plan, both_sides, cumul, span, IsFeasible, IsLeastSpan, IsSchedule}
use Rattle.vr_model.specs.deciding.ChosenSchedule.{IsLeastPlan, NoPlan, find_chosen, find_plan}
use Rattle.vr_model.specs.deciding.Testing.{and_both, and_left, and_right, eq_of_tests, or_cases, or_left, or_right}
use Rattle.vr_model.specs.deciding.Testing.{tests_of_eq, within_is}
use Rattle.vr_model.specs.routes.Costs.{no_plan}

-- the shortest schedule: it has the least span, and no schedule of this span has cumuls that come before its own
pub record IsShortestSchedule (line : Line) (plan : Plan) : Type 0 where
  pub schedule : IsSchedule line plan
  pub least : IsLeastSpan line (span line plan)
  pub first : (other : Plan) → IsSchedule line other → span line other ≡ span line plan
      → IsTrue (is_lex_le plan.cumuls other.cumuls)

-- a shortest schedule, or that there is none
abbrev pub ShortestFound : Line → Type 0
ShortestFound line = ((plan : Plan) × IsShortestSchedule line plan) ⊎ ¬ IsFeasible line

-- ---- how one is found, up to `find_shortest`: a definition that searches has what its search needs beside it

-- ---- spans lie in -horizon..=horizon

in_range : (cs : List ℤ) → ((k : ℕ) → k < length cs → IsTrue (within (pos 0) horizon (number_at cs k))) → (k : ℕ)
    → (pos 0 ≤ℤ number_at cs k) × (number_at cs k ≤ℤ horizon)
in_range [] h zero = (omega (arith, ints), omega (arith, ints))
in_range [] h (suc k) = (omega (arith, ints), omega (arith, ints))
in_range (c ∷ cs) h zero = within_is (pos 0) horizon c (h 0 (omega arith))
in_range (c ∷ cs) h (suc k) = in_range cs (λ i low. h (suc i) (omega (arith, low))) k

cumul_in_range : (line : Line) (plan : Plan) → IsSchedule line plan → (k : ℕ)
    → (pos 0 ≤ℤ cumul plan k) × (cumul plan k ≤ℤ horizon)
cumul_in_range line plan is = in_range plan.cumuls (λ k low.
    let n = is.cumul_of_each_stop in
    and_left (within (pos 0) horizon (cumul plan k)) _ (is.cumuls_allowed k (omega (arith, low, n))))

pub span_low : (line : Line) (plan : Plan) → IsSchedule line plan → neg_ℤ horizon ≤ℤ span line plan
span_low line plan is =
    let a = cumul_in_range line plan is (length line.arcs) in
    let b = cumul_in_range line plan is 0 in
    omega (arith, ints, a.0, b.1)

pub span_high : (line : Line) (plan : Plan) → IsSchedule line plan → span line plan ≤ℤ horizon
span_high line plan is =
    let a = cumul_in_range line plan is (length line.arcs) in
    let b = cumul_in_range line plan is 0 in
    omega (arith, ints, a.1, b.0)

-- ---- a schedule of the least span

-- no schedule has a lesser span
abbrev pub IsOfLeastSpan : Line → Plan → Type 0
IsOfLeastSpan line plan =
    IsSchedule line plan × ((other : Plan) → IsSchedule line other → span line plan ≤ℤ span line other)

shorter : (x y : ℤ) (n : ℕ) → IsTrue (int_lt x y) → y ≤ℤ (pos (suc n) -ℤ horizon) → x ≤ℤ (pos n -ℤ horizon)
shorter x y n h low = Prim.grind (arith, ints)

no_shorter : (x y : ℤ) → (IsTrue (int_lt x y) → ⊥) → y ≤ℤ x
no_shorter x y h = Prim.grind (arith, ints)

-- from a schedule whose span is at most n above -horizon: each shorter one that is found takes one of the n at least
least_from : (line : Line) (n : ℕ) (plan : Plan) → IsSchedule line plan → span line plan ≤ℤ (pos n -ℤ horizon)
    → (best : Plan) × IsOfLeastSpan line best
least_from line zero plan is low =
    (plan, (is, λ other s. let b = span_low line other s in omega (arith, ints, low, b)))
least_from line (suc n) plan is low =
    elim (find_plan both_sides (λ other. int_lt (span line other) (span line plan)) line) [
      | inl r ↦ least_from line n r.0 r.1.keeps (shorter (span line r.0) (span line plan) n r.1.passes low)
      | inr none ↦ (
        plan,
        (is, λ other s. no_shorter (span line other) (span line plan) (none other s)),
      )
    ]

-- from any schedule: its span is at most twice the horizon above -horizon
some_least_span : (line : Line) (plan : Plan) → IsSchedule line plan → (best : Plan) × IsOfLeastSpan line best
some_least_span line plan is =
    let b = span_high line plan is in least_from line 137438953472 plan is (omega (arith, ints, b))

-- ---- the first of this span

-- of lists of one length, the fronts are in the order of the lists
lex_front : (xs ys ends others : List ℤ) → length xs ≡ length ys → IsTrue (is_lex_le (xs ++ ends) (ys ++ others))
    → IsTrue (is_lex_le xs ys)
lex_front [] ys ends others e h = refl
lex_front (x ∷ xs) [] ends others e h = absurd (omega (arith, e))
lex_front (x ∷ xs) (y ∷ ys) ends others e h = elim (or_cases (int_lt x y) _ h) [
  | inl less ↦ or_left (int_lt x y) _ less
  | inr same ↦ or_right (int_lt x y) _ (and_both (int_le x y) _ (and_left (int_le x y) _ same)
      (lex_front xs ys ends others (omega (arith, e)) (and_right (int_le x y) _ same)))
]

-- the plan has this span
abbrev has_span : Line → ℤ → Plan → Bool
has_span line w plan = is_same_number w (span line plan)

-- the least plan of the span of a schedule of the least span is the shortest schedule
shortest_from : (line : Line) (best : Plan) → IsOfLeastSpan line best
    → (((plan : Plan) × IsLeastPlan both_sides (has_span line (span line best)) line plan)
    ⊎ NoPlan both_sides (has_span line (span line best)) line) → (plan : Plan) × IsShortestSchedule line plan
shortest_from line best is (inr none) =
    absurd (none best is.0 (tests_of_eq (span line best) (span line best) refl))
shortest_from line best is (inl r) =
    let same : span line best ≡ span line r.0 = eq_of_tests (span line best) (span line r.0) r.1.passes in (
      r.0,
      record {
        schedule = r.1.keeps;
        least = record {
          reached = (r.0, r.1.keeps, refl);
          least = λ other s. let b = is.1 other s in omega (arith, ints, same, b);
        };
        first = λ other s e.
            let m = r.1.keeps.cumul_of_each_stop in
            let n = s.cumul_of_each_stop in
            lex_front r.0.cumuls other.cumuls r.0.breaks other.breaks (omega (arith, m, n))
            (r.1.least other s (tests_of_eq (span line best) (span line other) (same ∙ sym e)));
      },
    )

-- a line has a shortest schedule, or no schedule
pub find_shortest : (line : Line) → ShortestFound line
find_shortest line = elim (find_chosen line) [
  | inl r ↦ inl (
      let best = some_least_span line r.0 r.1.schedule in
      shortest_from line best.0 best.1 (find_plan both_sides (has_span line (span line best.0)) line)
      )
  | inr none ↦ inr none
]

-- the plan that was found, if any
abbrev pub shortest_found : (line : Line) → ShortestFound line → Option Plan
shortest_found line found = elim found [ inl r ↦ Some r.0 | inr none ↦ None ]

-- the shortest schedule of a line, if there is one
abbrev pub shortest : Line → Option Plan
shortest line = shortest_found line (find_shortest line)

-- the same, without cumuls if there is none
abbrev pub shortest_plan : Line → Plan
shortest_plan line = unwrap_or (shortest line) no_plan
