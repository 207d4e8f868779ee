use Rattle.std.proofs.Common.{ℕ, List, sym}
use Rattle.vr_model.specs.tables.Tables.{pair_at}
use Rattle.vr_model.specs.declared.records.Pair.{Pair}
use Rattle.vr_model.specs.declared.neighbours.Move.TheVariants.{PairInactive}
use Rattle.vr_routes.proofs.ChangeLemmas.{one_part}
use Rattle.vr_routes.proofs.PairLemmas.{places_apart}
use Rattle.vr_routes.proofs.WithoutLemmas.{pair_out}
use Rattle.vr_routes.proofs.changes.Change.write_pair_inactive.Goals as goal

pub take_pair-requires : goal.take_pair-requires
take_pair-requires c =
    let at = c.in-Some.at in
    places_apart c.args.closed.model.now c.args.p c.args.routes.now.lists at.vehicle at.pickup
    at.delivery c.args.closed.well_formed c.in-Some.ensures.pair c.in-Some.ensures.places

pub returns : goal.returns
returns c =
    let lists : List (List ℕ) = c.args.routes.now.lists in
    let pair : Pair = pair_at c.args.closed.model.now c.args.p in
    let at = c.in-Some.at in
    let places = c.in-Some.ensures.places in
    one_part c.args.closed.model.now lists (PairInactive c.args.p) _ at.vehicle _ places.pickup_stands.vehicle c.take_pair.ensures
    (sym (pair_out pair lists c.know_once.ensures at.vehicle at.pickup at.delivery places)) c.requires.is_one
