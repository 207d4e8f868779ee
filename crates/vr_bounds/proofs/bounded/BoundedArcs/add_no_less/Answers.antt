use Rattle.std.proofs.Common.{sym, subst, arith}
use Rattle.std.proofs.lemmas.Int.{ints}
use Rattle.vr_model.specs.declared.records.Model.{Model}
use Rattle.vr_routes.specs.Runs.{with_last}
use Rattle.vr_routes.proofs.FactLemmas.{of_make_active}
use Rattle.vr_arccosts.specs.Runs.{AddsNoLess}
use Rattle.vr_arccosts.proofs.PutLemmas.{active-no-less}
use Rattle.vr_bounds.proofs.bounded.BoundedArcs.add_no_less.Goals as goal

pub returns-in-MakeActive-clause-no_less : goal.returns-in-MakeActive-clause-no_less
returns-in-MakeActive-clause-no_less c told k =
    let model : Model = c.args.self.now.model in
    let lists = c.args.routes.now.lists in
    let u = c.in-MakeActive.u in
    let w = c.in-MakeActive.w in
    subst (λ m. AddsNoLess model lists (with_last m k) c.args.bound) (sym c.in-MakeActive.is) (λ one.
    let facts = of_make_active model lists u w k one in
    let gap = c.gaps_add_no_less.ensures.no_less told k facts.gap in
    active-no-less model lists u w k c.args.bound (omega (arith, ints, gap, c.ranges.bound)) one)
