-- Where a walk meets the rows of a line.
use Rattle.std.proofs.Common.{◌≡◌, ℕ, List, ℤ, sym, ap, subst, arith}
use Rattle.std.specs.Prelude.{◌↔◌}
use Rattle.vr_spans.specs.declared.runs.Run.{Run}
use Rattle.vr_model.specs.schedules.Lines.{Line}
use Rattle.vr_model.specs.schedules.Schedules.{IsFeasible}
use Rattle.vr_steps.specs.Reached.{FeasibleWhereShared}
use Rattle.vr_reach.specs.Shared.{SharedAt}
use Rattle.vr_model.specs.declared.records.BreakRow.{BreakRow}
use Rattle.vr_steps.specs.Fits.{CanEnd}
use Rattle.vr_steps.specs.Reached.{FeasibleAtEnd}
use Rattle.vr_reach.specs.Walks.{Meets, EndsAt}

-- the line is feasible exactly where both levels share a cumul
pub feasible_where_met : FeasibleWhereShared → (line : Line) (k : ℕ) (ahead behind : List (List Run))
    → Meets line k ahead behind → ((x : ℤ) × SharedAt ahead behind x) ↔ IsFeasible line
feasible_where_met law line k ahead behind meets =
    let long = meets.ahead_form.one_more in
    let long_too = meets.behind_form.one_more in
    let there = law line meets.sound k meets.stop ahead behind meets.reached meets.reaching in (
      λ shared. let m = shared.1 in there.1 (m.0, let lt = m.1 in omega (arith, lt, long), shared.0, m.3, m.4),
      λ feasible. let m = there.0 feasible in (m.2, (m.0, let le = m.1 in omega (arith, le, long), let le = m.1 in omega (arith, le, long_too), m.3, m.4)),
    )

-- the line is feasible exactly where the other breaks can be taken at its end
pub feasible_where_ended : FeasibleAtEnd → (line : Line) (breaks : List BreakRow) (levels : List (List Run))
    → EndsAt line breaks levels → CanEnd levels breaks ↔ IsFeasible line
feasible_where_ended law line breaks levels ends =
    let there = law line ends.sound levels ends.reached in
    let same : CanEnd levels line.breaks ≡ CanEnd levels breaks = ap (CanEnd levels) ends.breaks_are in
    (λ can. there.1 (subst (λ T. T) (sym same) can), λ feasible. subst (λ T. T) same (there.0 feasible))
