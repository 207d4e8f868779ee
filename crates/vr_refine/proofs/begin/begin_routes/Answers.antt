use Rattle.std.proofs.Common.{◌≡◌, ℕ, List, Option, sym, subst}
use Rattle.std.specs.Prelude.{IfOk}
use Rattle.vr_rules.specs.Placing.{lists_in}
use Rattle.vr_given.specs.Begin.{begin_lists}
use Rattle.vr_refine.proofs.begin.begin_routes.Goals as goal

pub returns-in-None-clause-lists : goal.returns-in-None-clause-lists
unfolding begin_lists
returns-in-None-clause-lists c =
    let model = c.args.lookups.now.closed.model.now in
    let P : Option (List (List ℕ)) → Type 0 = λ given. IfOk c.first_routes.result (λ first. lists_in first ≡ begin_lists model given) in
    subst P (sym c.in-None.is) c.first_routes.ensures.lists
