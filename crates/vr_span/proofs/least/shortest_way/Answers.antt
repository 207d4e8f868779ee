use Rattle.std.proofs.Common.{◌∙◌, pos, sym, subst}
use Rattle.std.specs.Prelude.{IfSome}
use Rattle.vr_model.specs.tables.Numbers.{horizon}
use Rattle.vr_model.specs.tables.WellFormed.{IsIn}
use Rattle.vr_plan.proofs.PlanLemmas.{some_weaker}
use Rattle.vr_model.proofs.schedules.Joining.{cumul_where_levels_meet}
use Rattle.vr_model.proofs.schedules.LevelEnds.{reached_at_end}
use Rattle.vr_steps.proofs.LawLemmas.{lines_stand_for_theirs}
use Rattle.vr_span.specs.Pieces.{IsShortest}
use Rattle.vr_span.proofs.LineLemmas.{none_told, way_told}
use Rattle.vr_span.proofs.least.shortest_way.Goals as goal

pub returns-clause-some : goal.returns-clause-some
returns-clause-some c =
    let shortest = subst (λ pieces. IfSome c.shortest.result (IsShortest pieces)) c.as_slice.ensures c.shortest.ensures.some in
    way_told lines_stand_for_theirs c.args.line.now c.requires.sound cumul_where_levels_meet
    reached_at_end c.requires.no_breaks c.in_ok-pieces.pieces c.in_ok-pieces.ensures.told
    c.shortest.result shortest

pub returns-clause-none : goal.returns-clause-none
returns-clause-none c = λ none.
    none_told lines_stand_for_theirs c.args.line.now c.requires.sound cumul_where_levels_meet
    reached_at_end c.requires.no_breaks c.in_ok-pieces.pieces c.in_ok-pieces.ensures.told
    (sym c.as_slice.ensures ∙ c.shortest.ensures.none none)

pub returns-clause-cumul : goal.returns-clause-cumul
returns-clause-cumul c =
    some_weaker c.shortest.result (IsShortest c.as_slice.result.now) (λ way. IsIn (pos 0) horizon way.lo) (λ way is. is.ends.cumul) c.shortest.ensures.some

pub returns-clause-start : goal.returns-clause-start
returns-clause-start c =
    some_weaker c.shortest.result (IsShortest c.as_slice.result.now) (λ way. IsIn (pos 0) horizon way.first) (λ way is. is.ends.start) c.shortest.ensures.some
