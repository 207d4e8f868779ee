use Rattle.std.proofs.Common.{◌∙◌, ℕ, Bool, arith, length, sym}
use Rattle.vr_model.specs.tables.Tables.{dimension_at}
use Rattle.vr_model.specs.declared.records.Model.{Model}
use Rattle.vr_model.proofs.tables.Ranges.{all_begin, all_end, all_go_on, all_stop}
use Rattle.vr_ruin.specs.Timeless.{costs_no_time}
use Rattle.vr_ruin.proofs.asking.is_timeless.Goals as goal

abbrev passes : Model → ℕ → Bool
passes model d = costs_no_time (dimension_at model d)

pub loop-d-init : goal.loop-d-init
loop-d-init c = let model = c.args.lookups.now.closed.model.now in all_begin (passes model) (length model.dimensions)

pub loop-d-preserved : goal.loop-d-preserved
loop-d-preserved c = let model = c.args.lookups.now.closed.model.now in
    all_go_on (passes model) (length model.dimensions) c.loop-d.d c.loop-d.invariant (omega arith) (sym c.costs_no_time.ensures ∙ c.if-not-costs_no_time.false)

pub returns-then-not-costs_no_time : goal.returns-then-not-costs_no_time
returns-then-not-costs_no_time c = let model = c.args.lookups.now.closed.model.now in
    all_stop (passes model) (length model.dimensions) c.loop-d.d c.loop-d.invariant (omega arith) (sym c.costs_no_time.ensures ∙ c.if-not-costs_no_time.true)

pub returns : goal.returns
returns c = let model = c.args.lookups.now.closed.model.now in
    all_end (passes model) (length model.dimensions) c.loop-d.d c.loop-d.invariant (omega arith)
