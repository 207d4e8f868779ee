use Rattle.std.proofs.Common.{List, ℕ, ap, subst, sym, ◌∙◌}
use Rattle.std.specs.Prelude.{IfOk}
use Rattle.vr_model.specs.declared.records.Model.{Model}
use Rattle.vr_routes.specs.Pieces.{joined, part_at}
use Rattle.vr_costfilter.specs.GlobalCosts.{IsRow}
use Rattle.vr_costfilter.proofs.GlobalLemmas.{none-kept, none-pays}
use Rattle.vr_costfilter.specs.GlobalCosts.{KeptSpans}
use Rattle.vr_costfilter.specs.Known.{AreCumulsAt, IsValidChange}
use Rattle.vr_costfilter.proofs.KnownLemmas.{spans-cumuls}
use Rattle.vr_costfilter.proofs.global_span.GlobalSpan.row_after.Goals as goal

pub returns-then-is_idle-clause-kept : goal.returns-then-is_idle-clause-kept
returns-then-is_idle-clause-kept c =
    let part = part_at c.args.change.now c.args.k in
    let list : List ℕ = joined c.args.routes.now.lists part.pieces in
    subst (λ (m : Model). IsRow m part.vehicle list _) (ap (λ s. s.model) c.self.view_is)
    (none-kept c.self.inside.rules (none-pays c.self.inside.rules (sym c.is_idle.ensures ∙ c.if-is_idle.true)) part.vehicle list)

pub row_after-requires-clause-change : goal.row_after-requires-clause-change
row_after-requires-clause-change c = subst (λ (s : KeptSpans). IsValidChange (AreCumulsAt s.model s.cumuls) s.model c.args.routes.now c.args.change.now)
    (sym c.self.view_is) (spans-cumuls c.args.self.now c.args.routes.now c.args.change.now c.requires.change)

pub returns-clause-kept : goal.returns-clause-kept
returns-clause-kept c =
    let part = part_at c.args.change.now c.args.k in
    subst (λ (m : Model). IfOk c.row_after.result (IsRow m part.vehicle (joined c.args.routes.now.lists part.pieces)))
    (ap (λ s. s.model) c.self.view_is) c.row_after.ensures
