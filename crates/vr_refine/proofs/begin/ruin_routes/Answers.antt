use Rattle.std.proofs.Common.{◌≡◌, ◌∙◌, ℕ, List, Option, Some, ap, sym, subst}
use Rattle.std.specs.Prelude.{IfOk}
use Rattle.vr_rules.specs.Placing.{lists_in}
use Rattle.vr_given.specs.Begin.{ruin_begin}
use Rattle.vr_refine.proofs.begin.ruin_routes.Goals as goal

pub returns-in-None-clause-lists : goal.returns-in-None-clause-lists
unfolding ruin_begin
returns-in-None-clause-lists c =
    let model = c.args.lookups.now.closed.model.now in
    let P : Option (List (List ℕ)) → Type 0 = λ given. IfOk c.ruin_without.result (λ first. lists_in first ≡ ruin_begin model given) in
    subst P (sym c.in-None.is) c.ruin_without.ensures.lists

pub returns-in-Some-clause-lists : goal.returns-in-Some-clause-lists
unfolding ruin_begin
returns-in-Some-clause-lists c =
    let model = c.args.lookups.now.closed.model.now in
    let P : Option (List (List ℕ)) → Type 0 = λ given. IfOk c.ruin_with.result (λ first. lists_in first ≡ ruin_begin model given) in
    subst P (ap Some c.as_slice.ensures ∙ sym c.in-Some.is) c.ruin_with.ensures.lists
