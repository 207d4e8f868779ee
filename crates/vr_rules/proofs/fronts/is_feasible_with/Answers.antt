use Rattle.std.proofs.Common.{◌≡◌, ◌∙◌, ◌++◌, ap₂, arith}
use Rattle.vr_model.specs.schedules.Lines.{line}
use Rattle.vr_model.specs.schedules.Choices.{is_feasible}
use Rattle.vr_rules.specs.Placing.{item_nodes}
use Rattle.vr_rules.proofs.OpenLemmas.{feasible_ends, feasible_goes_on, feasible_stops}
use Rattle.vr_rules.proofs.FrontLemmas.{front_at}
use Rattle.vr_rules.proofs.fronts.is_feasible_with.Goals.{In_ok-feasible_with}
use Rattle.vr_rules.proofs.fronts.is_feasible_with.Goals as goal

pub feasible_with-requires-clause-front : goal.feasible_with-requires-clause-front
feasible_with-requires-clause-front c = (front_at c.args.longer.now.closed.model.now c.args.longer.now.v
    c.args.longer.now.list.now _ c.requires.fronts c.loop-d.d c.index.result.now c.index.ensures (omega arith)).front_of_list

-- whether the line is feasible in a dimension is known by its front
known : (c : In_ok-feasible_with) → c.in_ok-feasible_with.field-0
    ≡ is_feasible (line c.args.longer.now.closed.model.now c.loop-d.d c.args.longer.now.v (c.args.longer.now.list.now ++ item_nodes c.args.longer.now.item))
known c =
    let front = front_at c.args.longer.now.closed.model.now c.args.longer.now.v c.args.longer.now.list.now
    _ c.requires.fronts c.loop-d.d c.index.result.now c.index.ensures (omega arith) in
    c.in_ok-feasible_with.ensures
    ∙ ap₂ (λ d v. is_feasible (line c.args.longer.now.closed.model.now d v (c.args.longer.now.list.now ++ item_nodes c.args.longer.now.item)))
    front.dimension_is front.vehicle_is

pub returns-then-not-branch : goal.returns-then-not-branch
returns-then-not-branch c =
    let model = c.args.longer.now.closed.model.now in
    feasible_stops model c.args.longer.now.v (c.args.longer.now.list.now ++ item_nodes c.args.longer.now.item) c.loop-d.d c.in_ok-feasible_with.field-0
    (omega (arith, c.requires.fronts.one_of_each)) (known (goal.at.returns-then-not-branch c).In_ok-feasible_with) c.if-not-branch.true

pub loop-d-preserved : goal.loop-d-preserved
loop-d-preserved c =
    feasible_goes_on c.args.longer.now.closed.model.now c.args.longer.now.v (c.args.longer.now.list.now ++ item_nodes c.args.longer.now.item)
    c.loop-d.d c.in_ok-feasible_with.field-0 c.loop-d.invariant (known (goal.at.loop-d-preserved c).In_ok-feasible_with) c.if-not-branch.false

pub returns : goal.returns
returns c =
    feasible_ends c.args.longer.now.closed.model.now c.args.longer.now.v (c.args.longer.now.list.now ++ item_nodes c.args.longer.now.item)
    c.loop-d.d (omega (arith, c.requires.fronts.one_of_each)) c.loop-d.invariant
