use Rattle.std.proofs.Common.{◌∙◌, ap, sym, subst, length}
use Rattle.vr_rules.specs.Placing.{AreBuilt}
use Rattle.vr_rules.proofs.PlacingLemmas.{built-count, built-distinct, built-visits, AreBuilt-empty}
use Rattle.vr_first_insert.proofs.keeper.Keeper.open.Goals as goal

pub keep_each-requires-clause-vehicles : goal.keep_each-requires-clause-vehicles
keep_each-requires-clause-vehicles c =
    let model = c.args.lookups.now.closed.model.now in
    ap length (c.deref.ensures.value ∙ c.in_ok-lists.ensures) ∙ built-count model _ (AreBuilt-empty model)

pub keep_each-requires-clause-tours : goal.keep_each-requires-clause-tours
keep_each-requires-clause-tours c =
    let model = c.args.lookups.now.closed.model.now in
    let lists = c.deref.result.now in
    let built : AreBuilt model lists = subst (AreBuilt model) (sym (c.deref.ensures.value ∙ c.in_ok-lists.ensures)) (AreBuilt-empty model) in
    λ v low. record { visits = built-visits model lists v built; distinct = built-distinct model lists v built }
