-- The chosen schedule between the ends of the first of the shortest schedules.
use Rattle.std.proofs.Common.{◌≡◌, ◌∙◌, ℕ, ◌<◌, List, [], ◌∷◌, ◌++◌, length, ℤ, ◌-ℤ◌, ◌≤ℤ◌, ◌<ℤ◌, Option, Some, None, false, true, refl, sym, ap, subst, inl}
use Rattle.std.proofs.Common.{inr, arith, ◌⊎◌}
use Rattle.std.specs.Prelude.{IsTrue, IsNone, is_some}
use Rattle.std.proofs.lemmas.Int.{ints}
use Rattle.vr_model.specs.tables.Numbers.{is_lex_le}
use Rattle.vr_model.specs.schedules.Lines.{Line as Defined}
use Rattle.vr_model.specs.schedules.Schedules.{Plan as Wanted, IsChosen, IsFeasible, IsSchedule, cumul, span}
use Rattle.vr_model.specs.schedules.ChosenLaws.{ChosenIsLeast, ChosenWhereFeasible, pinned}
use Rattle.vr_model.specs.schedules.Narrowed.{between}
use Rattle.vr_model.specs.schedules.RuleLaws.{HasStops}
use Rattle.vr_model.specs.schedules.Tight.{end_of}
use Rattle.vr_model.proofs.schedules.Narrowing.{lex_less_at}
use Rattle.vr_model.proofs.schedules.NarrowLines.{of-between, to-between}
use Rattle.vr_model.specs.declared.records.ScheduleRule.TheVariants.{Earliest}
use Rattle.vr_steps.specs.declared.lines.Line.{Line}
use Rattle.vr_steps.specs.Lines.{IsLineOf, IsSoundLine}
use Rattle.vr_steps.specs.Reached.{LinesStandForTheirs}
use Rattle.vr_plan.specs.declared.plans.Plan.{Plan}
use Rattle.vr_plan.specs.Ends.{IsPinnedOf}
use Rattle.vr_plan.specs.Plans.{IsChosenPlanUnder, as_defined}
use Rattle.vr_plan.specs.Settled.{IsUnfeasible}
use Rattle.vr_span.specs.declared.pieces.Piece.{Piece}
use Rattle.vr_span.specs.declared.least.Least.{Least}
use Rattle.vr_span.specs.Starts.{IsFirstShortest, IsShortestWay}
use Rattle.vr_span.specs.Spans.{IsChosenBetween, IsFirstPlan, IsLeastSpanOf, IsReachedSpan}

no_more : (xs ys : List ℤ) → ys ≡ [] → xs ++ ys ≡ xs
no_more xs ys none = ap (λ zs. xs ++ zs) none ∙ nothing xs
  where
    nothing : (xs : List ℤ) → xs ++ [] ≡ xs
    nothing [] = refl
    nothing (x ∷ xs) = ap (λ zs. x ∷ zs) (nothing xs)

none_of : {A : Type 0} (xs : List A) → length xs ≡ 0 → xs ≡ []
none_of [] e = refl
none_of (x ∷ xs) e = absurd (omega (arith, e))

no_later : (a b : ℤ) → a ≤ℤ b → (b ≡ a) ⊎ (a <ℤ b)
no_later a b h = grind (arith, ints)

module _ (line : Defined) (stops : HasStops line) (none : line.breaks ≡ []) (s e : ℤ) (is : IsFirstShortest line s e) where
  -- the line between has a schedule
  pub between_feasible : IsFeasible (between line s e)
  between_feasible = let r = is.reached in (r.0, to-between line stops s e r.0 r.1 r.2 r.3)

  without_breaks : (plan : Wanted) → IsSchedule line plan → plan.cumuls ++ plan.breaks ≡ plan.cumuls
  without_breaks plan sch = no_more plan.cumuls plan.breaks (none_of plan.breaks (sch.start_of_each_break ∙ ap length none))

  module _ (plan : Wanted) (c : IsChosen (between line s e) plan) where
    mine : IsSchedule line plan × (cumul plan 0 ≡ s) × (end_of line plan ≡ e)
    mine = of-between line stops s e plan c.schedule

    pub its_span : span line plan ≡ (e -ℤ s)
    its_span = let a = mine.1 in let b = mine.2 in omega (arith, ints, a, b)

    pub its_schedule : IsSchedule line plan
    its_schedule = mine.0

    pub first_of_span : (other : Wanted) → IsSchedule line other → span line other ≡ (e -ℤ s) → IsTrue (is_lex_le plan.cumuls other.cumuls)
    first_of_span other sch same = elim (no_later s (cumul other 0) (is.earliest other sch same)) [
      | inl at ↦ (
          let end : end_of line other ≡ e = omega (arith, ints, at, same) in
          subst (λ xs. IsTrue (is_lex_le xs other.cumuls)) (without_breaks plan mine.0)
          (subst (λ ys. IsTrue (is_lex_le (plan.cumuls ++ plan.breaks) ys))
          (without_breaks other sch) (c.least other (to-between line stops s e other sch at end))))
      | inr later ↦ lex_less_at 0 plan.cumuls other.cumuls (λ i lt. absurd (omega (arith, lt)))
          (long plan mine.0) (long other sch) (let a = mine.1 in omega (arith, ints, a, later))
    ]
      where
        long : (p : Wanted) → IsSchedule line p → 0 < length p.cumuls
        long p q = let n = q.cumul_of_each_stop in omega (arith, n, stops)

module _ (stands : LinesStandForTheirs) (law : ChosenIsLeast) (feasible : ChosenWhereFeasible) (made : Line)
    (sound : IsSoundLine made) (none : made.breaks ≡ []) (way : Piece) (is : IsShortestWay made way) where
  stops_of : (defined : Defined) → IsLineOf defined made → HasStops defined
  stops_of defined of = (stands defined made of sound).sound.stops

  none_of_line : (defined : Defined) → IsLineOf defined made → defined.breaks ≡ []
  none_of_line defined of = (stands defined made of sound).breaks ∙ none

  -- the plan that was found between the ends is the first of the least span
  module _ (least : Least) (w : least.span ≡ (way.lo -ℤ way.first)) (found : IsChosenBetween made way.first way.lo (Some least.plan)) where
    its : (defined : Defined) (of : IsLineOf defined made) → IsChosen (between defined way.first way.lo) (as_defined least.plan)
    its defined of = (law (between defined way.first way.lo) (as_defined least.plan)).0 (sym (found defined of))

    pub reached_told : IsReachedSpan made least
    reached_told defined of = record {
      schedule = its_schedule defined (stops_of defined of) (none_of_line defined of) way.first way.lo (is defined of) (as_defined least.plan) (its defined of);
      span_is = its_span defined (stops_of defined of) (none_of_line defined of) way.first way.lo (is defined of) (as_defined least.plan) (its defined of)
          ∙ sym w;
    }

    pub least_told : IsLeastSpanOf made least
    least_told defined of =
        let r = reached_told defined of in
        record {
          reached = (as_defined least.plan, r.schedule, r.span_is);
          least = λ other sch. subst (λ v. v ≤ℤ span defined other) (sym w) ((is defined of).least other sch);
        }

    pub first_told : IsFirstPlan made least
    first_told defined of other sch same =
        first_of_span defined (stops_of defined of) (none_of_line defined of) way.first
        way.lo (is defined of) (as_defined least.plan) (its defined of) other sch (same ∙ w)

  -- and one is found
  pub never_none : (none_is : Option Plan) → IsChosenBetween made way.first way.lo none_is → IsNone none_is → IsUnfeasible made
  never_none (Some plan) found nothing defined of any = absurd (let f : true ≡ false → ⊥ = λ e. cc in f nothing)
  never_none None found nothing defined of any =
      let some = (feasible (between defined way.first way.lo)).1
      (between_feasible defined (stops_of defined of) (none_of_line defined of) way.first way.lo (is defined of)) in
      let f : false ≡ true → ⊥ = λ e. cc in f (ap is_some (found defined of) ∙ some)

-- the plan of the line that is pinned at both ends is chosen between them
pub between_told : LinesStandForTheirs → (made : Line) → IsSoundLine made → (s e : ℤ) (last : ℕ)
    → last ≡ length made.hops → (ending narrow : Line) → IsPinnedOf made last e ending → IsPinnedOf ending 0 s narrow
    → (found : Option Plan) → IsChosenPlanUnder Earliest narrow found → IsChosenBetween made s e found
between_told stands made sound s e last last_is ending narrow ending_is narrow_is found chosen_is defined of =
    let at_end : last ≡ length defined.arcs = last_is ∙ sym (stands defined made of sound).arcs in
    chosen_is (between defined s e)
    (narrow_is (pinned defined (length defined.arcs) e) (subst (λ k. IsLineOf (pinned defined k e) ending) at_end (ending_is defined of)))
