use Rattle.std.proofs.Common.{◌≡◌, ◌∙◌, ap, sym, subst, arith, to_z, of_z, w64}
use Rattle.std.proofs.lemmas.Int.{ints}
use Rattle.std.specs.Prelude.{All}
use Rattle.vr_model.specs.tables.Tables.{no_dimension}
use Rattle.vr_model.specs.tables.WellFormed.{IsStopRow}
use Rattle.vr_plan.specs.Timings.{soft_of}
use Rattle.vr_plan.proofs.TableLemmas.{nodes_here, places_here}
use Rattle.vr_plan.proofs.timings.timing_at.Goals as goal

pub soft_cost-requires-clause-starts : goal.soft_cost-requires-clause-starts
soft_cost-requires-clause-starts c =
    let is = c.args.closed.well_formed.each_dimension c.args.d no_dimension c.requires.dimension in
    subst (λ x. All IsStopRow x.starts) (c.get-dimension.ensures.value no_dimension) is.rows_of_starts.each_row

pub soft_cost-requires-clause-nodes : goal.soft_cost-requires-clause-nodes
soft_cost-requires-clause-nodes c =
    let is = c.args.closed.well_formed.each_dimension c.args.d no_dimension c.requires.dimension in
    subst (λ x. All IsStopRow x.nodes) (c.get-dimension.ensures.value no_dimension) is.rows_of_visits.each_row

pub soft_cost-requires-clause-ends : goal.soft_cost-requires-clause-ends
soft_cost-requires-clause-ends c =
    let is = c.args.closed.well_formed.each_dimension c.args.d no_dimension c.requires.dimension in
    subst (λ x. All IsStopRow x.ends) (c.get-dimension.ensures.value no_dimension) is.rows_of_ends.each_row

pub soft_cost-requires-clause-places : goal.soft_cost-requires-clause-places
soft_cost-requires-clause-places c = places_here c.args.closed.model.now c.args.d c.args.table.now c.requires.table
    c.deref.result.now c.deref.ensures.value c.get-dimension.result.now (c.get-dimension.ensures.value no_dimension)

pub soft_cost-requires-clause-list : goal.soft_cost-requires-clause-list
soft_cost-requires-clause-list c =
    nodes_here c.args.closed.model.now c.args.d c.args.table.now c.requires.table c.deref.result.now c.deref.ensures.value c.args.list.now c.requires.visits

pub returns-clause-soft : goal.returns-clause-soft
returns-clause-soft c =
    let soft = c.soft_cost.ensures in
    let few = c.requires.few in
    let read : to_z w64 (of_z w64 c.soft_cost.result) ≡ c.soft_cost.result = omega (arith, ints, soft.low, soft.high, few) in
    read ∙ soft.value ∙ ap (λ x. soft_of x c.args.v c.args.list.now c.args.cumuls.now) (sym (c.get-dimension.ensures.value no_dimension))
