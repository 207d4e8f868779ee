use Rattle.std.proofs.Common.{◌∙◌, List, ℕ, sym, subst, drop, length}
use Rattle.vr_rules.specs.Placing.{AreBuilt}
use Rattle.vr_first_arc.proofs.AppendLemmas.{whole-lists}
use Rattle.vr_first_arc.proofs.solution.filled_lists.Goals as goal

pub returns-clause-lists : goal.returns-clause-lists
returns-clause-lists c =
    let written : List (List ℕ) = c.fill_empty.new.lists in
    whole-lists c.args.lookups.now.closed.model.now c.in_ok-lists.lists.len c.deref_mut.result.now written (drop (length written) c.in_ok-lists.lists.items)
    (c.deref_mut.ensures.value ∙ c.in_ok-lists.ensures) c.deref_mut.ensures.len c.in_ok-fill_empty.ensures.built
    ∙ c.in_ok-fill_empty.ensures.lists

pub returns-clause-built : goal.returns-clause-built
returns-clause-built c =
    let model = c.args.lookups.now.closed.model.now in
    let written : List (List ℕ) = c.fill_empty.new.lists in
    let done = c.in_ok-fill_empty.ensures.built in
    subst (AreBuilt model) (sym (whole-lists model c.in_ok-lists.lists.len c.deref_mut.result.now written
    (drop (length written) c.in_ok-lists.lists.items) (c.deref_mut.ensures.value ∙ c.in_ok-lists.ensures) c.deref_mut.ensures.len done)) done
