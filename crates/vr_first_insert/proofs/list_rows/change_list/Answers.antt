use Rattle.std.proofs.Common.{ap, subst, sym}
use Rattle.vr_model.specs.moves.Moves.{with_route}
use Rattle.vr_first_insert.specs.KeptRows.{AreKeptRows}
use Rattle.vr_first_insert.proofs.list_rows.change_list.Goals as goal

pub returns-clause-lists : goal.returns-clause-lists
returns-clause-lists c = ap (with_route c.args.lists.now c.args.new.now.vehicle) c.in_ok-write_list.ensures

pub returns-clause-kept : goal.returns-clause-kept
returns-clause-kept c =
    subst (λ list. AreKeptRows c.args.new.now.lookups.now.closed.model.now (with_route c.args.lists.now c.args.new.now.vehicle list) c.rewrite.new.list_rows)
    (sym c.in_ok-write_list.ensures) c.in_ok-rewrite.ensures
