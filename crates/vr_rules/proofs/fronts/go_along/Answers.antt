use Rattle.std.proofs.Common.{refl, true, get_or}
use Rattle.vr_model.specs.tables.Tables.{is_visit}
use Rattle.vr_model.specs.deciding.Testing.{and_both}
use Rattle.vr_model.proofs.tables.Tests.{all-from_list_all}
use Rattle.vr_rules.proofs.FrontLemmas.{visits_taken}
use Rattle.vr_rules.proofs.fronts.go_along.Goals as goal

pub invariant_of-next-clause-visits : goal.invariant_of-next-clause-visits
invariant_of-next-clause-visits c = visits_taken c.args.closed.model.now c.args.list.now c.loop-k.k c.requires.visits

pub invariant_of-next-clause-item_visits : goal.invariant_of-next-clause-item_visits
invariant_of-next-clause-item_visits c =
    let model = c.args.closed.model.now in
    let list = c.args.list.now in
    and_both (is_visit model (get_or list c.loop-k.k 0)) true (all-from_list_all (is_visit model) list c.requires.visits c.loop-k.k 0 c.loop-k-test.true) refl
