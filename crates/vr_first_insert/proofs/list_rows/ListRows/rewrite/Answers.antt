use Rattle.std.proofs.Common.{◌≡◌, arith, refl, subst, sym}
use Rattle.std.specs.Vec.{with_item}
use Rattle.vr_model.specs.routes.Routes.{route}
use Rattle.vr_reach.specs.KnownRows.{AreRowsIfUsed}
use Rattle.vr_first_insert.proofs.RowLemmas.{kept_again, list_at}
use Rattle.vr_first_insert.proofs.list_rows.ListRows.rewrite.Goals as goal

pub rewrite_rows-requires-clause-rows : goal.rewrite_rows-requires-clause-rows
rewrite_rows-requires-clause-rows c =
    let lists = c.args.lists.now in
    let model = c.args.new.now.lookups.now.closed.model.now in
    let many = c.requires.kept.many in
    let there = c.requires.there in
    let old : c.as_slice-old.result.now ≡ route lists c.args.new.now.vehicle = list_at lists c.args.new.now.vehicle
    c.as_slice-old.result.now c.index-lists-v.result c.as_slice-old.ensures c.index-lists-v.is there in
    subst (λ l. AreRowsIfUsed model c.args.d c.args.new.now.vehicle l c.index_mut.result.now) (sym old)
    (subst (AreRowsIfUsed model c.args.d c.args.new.now.vehicle (route lists c.args.new.now.vehicle)) (sym c.index_mut.ensures.value)
    (c.requires.kept.rows_of_each c.args.new.now.vehicle c.index_mut.result.now (omega (arith, there, many))))

pub returns : goal.returns
returns c =
    let before = c.args.self.now in
    let rows = c.rewrite_rows.new.rows in
    kept_again c.args.new.now.lookups.now.closed.model.now c.args.d c.args.lists.now c.args.new.now.vehicle c.args.new.now.nodes.now before
    (record { rows = with_item before.rows c.args.new.now.vehicle rows }) rows refl c.requires.there c.in_ok-rewrite_rows.ensures c.requires.kept
