use Rattle.std.proofs.Common.{◌≡◌, ◌∙◌, ◌<◌, Bool, true, false, List, [], length, ap, sym, subst, arith}
use Rattle.std.specs.Prelude.{slice_index_or}
use Rattle.std.proofs.lemmas.List.{get_or_default}
use Rattle.vr_spans.specs.declared.runs.Run.{Run}
use Rattle.vr_model.specs.schedules.Lines.{line}
use Rattle.vr_model.specs.schedules.Choices.{is_feasible}
use Rattle.vr_rules.proofs.OpenLemmas.{one_fails}
use Rattle.vr_model.proofs.tables.Ranges.{test_finds, test_goes_on}
use Rattle.vr_reach.specs.Standing.{is_stuck, IsReachedAt}
use Rattle.vr_first_insert.proofs.probes.Probes.is_stuck.Goals.{After-is_stuck}
use Rattle.vr_first_insert.proofs.probes.Probes.is_stuck.Goals as goal

pub returns-then-is_stuck-clause-no_end : goal.returns-then-is_stuck-clause-no_end
returns-then-is_stuck-clause-no_end c = λ t v list k low used within at.
    let model = c.args.closed.model.now in
    let here : List (List Run) = c.index.result.now in
    let low_d : c.loop-d.d < length model.dimensions = omega (arith, c.loop-d-test.true, c.len-d-end.ensures) in
    one_fails (λ d. is_feasible (line model d v list)) (length model.dimensions) c.loop-d.d low_d
    (c.is_stuck.ensures.no_end c.if-is_stuck.true model c.loop-d.d v list k c.args.closed.well_formed low_d low used within
    (subst (IsReachedAt model c.loop-d.d v list k) (sym c.index.ensures) (at.each c.loop-d.d here low_d)))

-- whether nothing is reached in the dimension, as code reads it
told : (c : After-is_stuck) (b : Bool) → c.is_stuck.result ≡ b → is_stuck (slice_index_or c.args.self.now.here.items c.loop-d.d []) ≡ b
told c b e =
    let here : List (List (List Run)) = c.args.self.now.here.items in
    ap is_stuck
    (sym (c.index.ensures ∙ get_or_default here c.loop-d.d c.index.result.now [] (omega (arith, c.loop-d-test.true, c.len-d-end.ensures, c.requires))))
    ∙ sym c.is_stuck.ensures.exact ∙ e

pub returns-then-is_stuck-clause-exact : goal.returns-then-is_stuck-clause-exact
returns-then-is_stuck-clause-exact c =
    test_finds (λ d. is_stuck (slice_index_or c.args.self.now.here.items d [])) (length c.args.closed.model.now.dimensions)
    c.loop-d.d c.loop-d.invariant (omega (arith, c.loop-d-test.true, c.len-d-end.ensures))
    (told (goal.at.returns-then-is_stuck-clause-exact c).After-is_stuck true c.if-is_stuck.true)

pub loop-d-preserved : goal.loop-d-preserved
loop-d-preserved c =
    test_goes_on (λ d. is_stuck (slice_index_or c.args.self.now.here.items d [])) (length c.args.closed.model.now.dimensions)
    c.loop-d.d c.loop-d.invariant (omega (arith, c.loop-d-test.true, c.len-d-end.ensures))
    (told (goal.at.loop-d-preserved c).After-is_stuck false c.if-is_stuck.false)
