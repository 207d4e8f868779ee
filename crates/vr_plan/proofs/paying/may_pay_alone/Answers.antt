use Rattle.std.proofs.Common.{◌∙◌, ◌<◌, ap, subst, sym, length}
use Rattle.vr_model.specs.tables.Tables.{dimension_at, no_dimension}
use Rattle.vr_plan.specs.Paying.{may_pay_alone}
use Rattle.vr_plan.proofs.PayingLemmas.{free_pays}
use Rattle.vr_plan.proofs.TableLemmas.{nodes_here, places_here}
use Rattle.vr_plan.proofs.paying.may_pay_alone.Goals as goal

pub list_pays-requires-clause-vehicle : goal.list_pays-requires-clause-vehicle
list_pays-requires-clause-vehicle c =
    let is = c.requires.well_formed.each_dimension c.args.d no_dimension c.requires.dimension in
    subst (λ x. c.args.v < length x.span_costs) (c.get.ensures.value no_dimension)
    (subst (λ n. c.args.v < n) (sym is.span_cost_of_each_vehicle) c.requires.vehicle)

pub list_pays-requires-clause-places : goal.list_pays-requires-clause-places
list_pays-requires-clause-places c = places_here c.args.model.now c.args.d c.args.table.now c.requires.table
    c.deref.result.now c.deref.ensures.value c.get.result.now (c.get.ensures.value no_dimension)

pub list_pays-requires-clause-list : goal.list_pays-requires-clause-list
list_pays-requires-clause-list c =
    nodes_here c.args.model.now c.args.d c.args.table.now c.requires.table c.deref.result.now c.deref.ensures.value c.args.list.now c.requires.visits

pub returns-then-table : goal.returns-then-table
returns-then-table c = sym (free_pays (dimension_at c.args.model.now c.args.d) (sym c.requires.table.is_free ∙ c.if-table.true) c.args.v c.args.list.now)

pub returns : goal.returns
returns c = c.list_pays.ensures ∙ ap (λ x. may_pay_alone x c.args.v c.args.list.now) (sym (c.get.ensures.value no_dimension))
