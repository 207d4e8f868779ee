-- The shortest schedule of a line, and what the code finds of it.
use Rattle.std.proofs.Common.{◌≡◌, ◌∙◌, List, [], ◌∷◌, ◌++◌, length, Bool, Option, Some, refl, sym, subst, ap, ap₂, inl, inr, arith}
use Rattle.std.specs.Prelude.{ℤ, ◌&&◌, ◌||◌, int_le, int_lt, IfSome, IsTrue, unwrap_or}
use Rattle.std.proofs.lemmas.Int.{ints}
use Rattle.vr_model.specs.tables.Numbers.{is_lex_le}
use Rattle.vr_model.specs.schedules.Lines.{Line as Defined}
use Rattle.vr_model.specs.schedules.Schedules.{Plan as Wanted, both_sides, IsFeasible, span}
use Rattle.vr_model.specs.deciding.ChosenSchedule.{plan_of_key, plan_of-key}
use Rattle.vr_model.specs.deciding.Testing.{and_left, and_right, le_of_test, or_cases}
use Rattle.vr_model.specs.routes.Costs.{no_plan}
use Rattle.vr_plan.specs.Plans.{as_defined}
use Rattle.vr_span.specs.Spans.{IsFirstPlan, IsLeastSpanOf, IsReachedSpan}
use Rattle.vr_span.specs.declared.least.Least.{Least}
use Rattle.vr_steps.specs.declared.lines.Line.{Line}
use Rattle.vr_app.specs.Shortest.{IsShortestSchedule, ShortestFound, find_shortest, shortest, shortest_found, shortest_plan}
use Rattle.vr_app.specs.Scheduled.{IsShortestOf}

-- ---- two lists of numbers that come no later than each other

clash : (x y : ℤ) → IsTrue (int_lt x y) → IsTrue (int_le y x) → ⊥
clash x y h g = grind (arith, ints)

lower : (x y : ℤ) → IsTrue (int_lt x y) → IsTrue (int_le x y)
lower x y h = grind (arith, ints)

no_first : (x y : ℤ) (b c : Bool) → IsTrue (int_lt x y) → IsTrue (int_lt y x || (int_le y x && c)) → ⊥
no_first x y b c h g = elim (or_cases (int_lt y x) _ g) [
  | inl less ↦ clash x y h (lower y x less)
  | inr rest ↦ clash x y h (and_left (int_le y x) c rest)
]

both_rests : (x y : ℤ) (b c : Bool) → IsTrue (int_lt x y || (int_le x y && b))
    → IsTrue (int_lt y x || (int_le y x && c)) → IsTrue (int_le x y && b) × IsTrue (int_le y x && c)
both_rests x y b c h g = elim (or_cases (int_lt x y) _ h) [
  | inl less ↦ absurd (no_first x y b c less g)
  | inr rest ↦ elim (or_cases (int_lt y x) _ g) [
    | inl less ↦ absurd (no_first y x c b less h)
    | inr other ↦ (rest, other)
  ]
]

lex_both : (xs ys : List ℤ) → length xs ≡ length ys → IsTrue (is_lex_le xs ys) → IsTrue (is_lex_le ys xs) → xs ≡ ys
lex_both [] [] e h g = refl
lex_both [] (y ∷ ys) e h g = absurd (omega (arith, e))
lex_both (x ∷ xs) [] e h g = absurd (omega (arith, e))
lex_both (x ∷ xs) (y ∷ ys) e h g =
    let r = both_rests x y (is_lex_le xs ys) (is_lex_le ys xs) h g in
    let a = le_of_test x y (and_left (int_le x y) _ r.0) in
    let b = le_of_test y x (and_left (int_le y x) _ r.1) in
    let first : x ≡ y = omega (arith, ints, a, b) in
    let rest : xs ≡ ys = lex_both xs ys (omega (arith, e)) (and_right (int_le x y) _ r.0) (and_right (int_le y x) _ r.1) in
    λ i. first i ∷ rest i

-- ---- a line without breaks has one shortest schedule

none_of : {A : Type 0} (xs : List A) → length xs ≡ 0 → xs ≡ []
none_of [] e = refl
none_of (x ∷ xs) e = absurd (omega (arith, e))

module _ (line : Defined) (none : line.breaks ≡ []) where
  one_shortest : (p q : Wanted) → IsShortestSchedule line p → IsShortestSchedule line q → p ≡ q
  one_shortest p q a b =
      let low = a.least.least q b.schedule in
      let high = b.least.least p a.schedule in
      let same : span line q ≡ span line p = omega (arith, ints, low, high) in
      let cumuls : p.cumuls ≡ q.cumuls =
      lex_both p.cumuls q.cumuls (a.schedule.cumul_of_each_stop ∙ sym b.schedule.cumul_of_each_stop)
      (a.first q b.schedule same) (b.first p a.schedule (sym same)) in
      let breaks : p.breaks ≡ q.breaks =
      none_of p.breaks (a.schedule.start_of_each_break ∙ ap length none) ∙ sym (none_of q.breaks (b.schedule.start_of_each_break ∙ ap length none)) in
      sym (plan_of-key both_sides line p a.schedule)
      ∙ (ap (plan_of_key line) (ap₂ (λ xs ys. xs ++ ys) cumuls breaks) ∙ plan_of-key both_sides line q b.schedule)

  pub shortest_is : (plan : Wanted) → IsShortestSchedule line plan → shortest line ≡ Some plan
  shortest_is plan is = by (find_shortest line)
    where
      by : (f : ShortestFound line) → shortest_found line f ≡ Some plan
      by (inl r) = ap Some (one_shortest r.0 plan r.1 is)
      by (inr none_there) = absurd (none_there (plan, is.schedule))

-- a feasible line has a shortest schedule
pub shortest_there : (line : Defined) → IsFeasible line → IsShortestSchedule line (shortest_plan line)
shortest_there line feasible = by (find_shortest line)
  where
    by : (f : ShortestFound line) → IsShortestSchedule line (unwrap_or (shortest_found line f) no_plan)
    by (inl r) = r.1
    by (inr none) = absurd (none feasible)

-- ---- what the code finds

module _ (made : Line) (none : made.breaks ≡ []) (least : Least) where
  -- a reached least span, with the first plan of it
  least_shortest : IsReachedSpan made least → IsLeastSpanOf made least → IsFirstPlan made least → IsShortestOf made least
  least_shortest reached is_least first defined of =
      let r = reached defined of in
      let l = is_least defined of in
      let f = first defined of in
      let its : span defined (as_defined least.plan) ≡ least.span = r.span_is in
      record {
        plan_is = shortest_is defined (sym of.breaks ∙ none) (as_defined least.plan) (record {
          schedule = r.schedule;
          least = record {
            reached = (as_defined least.plan, r.schedule, refl);
            least = λ other s. let b = l.least other s in omega (arith, ints, its, b);
          };
          first = λ other s e. f other s (e ∙ its);
        });
        span_is = sym its;
      }

  pub found_shortest : (found : Option Least) → found ≡ Some least → IfSome found (IsReachedSpan made)
      → IfSome found (IsLeastSpanOf made) → IfSome found (IsFirstPlan made) → IsShortestOf made least
  found_shortest found is reached is_least first =
      least_shortest (subst (λ o. IfSome o (IsReachedSpan made)) is reached)
      (subst (λ o. IfSome o (IsLeastSpanOf made)) is is_least) (subst (λ o. IfSome o (IsFirstPlan made)) is first)
