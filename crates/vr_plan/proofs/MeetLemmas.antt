-- What the levels at a stop tell of the cumuls that schedules have there.
use Rattle.std.proofs.Common.{◌≡◌, ◌∙◌, ℕ, suc, ◌≤◌, List, length, ℤ, Option, sym, ap, subst, arith}
use Rattle.std.specs.Prelude.{◌≤ℤ◌, IsNone}
use Rattle.vr_spans.specs.declared.runs.Run.{Run}
use Rattle.vr_model.specs.schedules.Lines.{Line as Defined}
use Rattle.vr_model.specs.schedules.Schedules.{Plan, IsSchedule, cumul}
use Rattle.vr_steps.specs.declared.lines.Line.{Line}
use Rattle.vr_steps.specs.Lines.{IsLineOf, IsSoundLine}
use Rattle.vr_steps.proofs.LawLemmas.{lines_stand_for_theirs}
use Rattle.vr_reach.specs.Rows.{IsBackwardRow, IsForwardRow}
use Rattle.vr_reach.specs.Shared.{IsGreatestShared, IsLeastSharedCumul, SharedAt}
use Rattle.vr_plan.specs.Ends.{IsLatestOf, IsLeastEndOf}
use Rattle.vr_plan.specs.Settled.{IsUnfeasible}
use Rattle.vr_plan.proofs.PinLemmas.{long_of, schedule_of, shared_of}

module _ (made : Line) (sound : IsSoundLine made) where
  module _ (k : ℕ) (low : k ≤ length made.hops) (from to : List (List Run)) (ahead : IsForwardRow made k from) (behind : IsBackwardRow made k to) where
    module _ (defined : Defined) (of : IsLineOf defined made) where
      within_arcs : k ≤ length defined.arcs
      within_arcs = let n = (lines_stand_for_theirs defined made of sound).arcs in omega (arith, low, n)

      long : length from ≡ suc (length defined.breaks)
      long = long_of made sound defined of from ahead.form

      long_too : length to ≡ suc (length defined.breaks)
      long_too = long_of made sound defined of to behind.form

      -- what schedules have at the stop is shared
      shared : (plan : Plan) → IsSchedule defined plan → SharedAt from to (cumul plan k)
      shared plan s = shared_of defined (lines_stand_for_theirs defined made of sound).sound k
          within_arcs from to long long_too (ahead.exact defined of) (behind.exact defined of) plan s

      -- and what is shared some schedule has there
      scheduled : (x : ℤ) → SharedAt from to x → (plan : Plan) × IsSchedule defined plan × (cumul plan k ≡ x)
      scheduled x m = schedule_of defined (lines_stand_for_theirs defined made of sound).sound k
          within_arcs from to long long_too (ahead.exact defined of) (behind.exact defined of) x m

    pub none_meets : (found : Option ℤ) → (IsNone found → (x : ℤ) → SharedAt from to x → ⊥) → IsNone found → IsUnfeasible made
    none_meets found h none defined of feasible = h none (cumul feasible.0 k) (shared defined of feasible.0 feasible.1)

  -- the least cumul that is shared at the last stop is the least end
  pub least_end_of : (from to : List (List Run)) → IsForwardRow made (length made.hops) from
      → IsBackwardRow made (length made.hops) to → (x : ℤ) → IsLeastSharedCumul from to x → IsLeastEndOf made x
  least_end_of from to ahead behind x is defined of =
      let low : length made.hops ≤ length made.hops = omega arith in
      let last = (lines_stand_for_theirs defined made of sound).arcs in
      let found = scheduled (length made.hops) low from to ahead behind defined of x is.shared in
      record {
        reached = (found.0, found.1, ap (cumul found.0) last ∙ found.2);
        least = λ other s. subst (λ k. x ≤ℤ cumul other k) (sym last)
            (is.least (cumul other (length made.hops)) (shared (length made.hops) low from to ahead behind defined of other s));
      }

  -- the greatest that is shared at the first stop is the latest start
  pub latest_start_of : (from to : List (List Run)) → IsForwardRow made 0 from
      → IsBackwardRow made 0 to → (x : ℤ) → IsGreatestShared from to x → IsLatestOf made x
  latest_start_of from to ahead behind x is defined of =
      let low : 0 ≤ length made.hops = omega arith in
      record {
        reached = scheduled 0 low from to ahead behind defined of x is.shared;
        greatest = λ other s. is.greatest (cumul other 0) (shared 0 low from to ahead behind defined of other s);
      }
