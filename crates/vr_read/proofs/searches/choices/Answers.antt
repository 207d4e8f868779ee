use Rattle.std.proofs.Common.{rules}
use Rattle.vr_json.proofs.Steps.{then, stops, gives}
use Rattle.vr_read.specs.Searches.{choices}
use Rattle.vr_read.proofs.searches.choices.Goals as goal

pub returns-in_err-first : goal.returns-in_err-first
unfolding choices
returns-in_err-first c = stops _ _ c.in_err-first.ensures c.from_residual.ensures.1

pub returns-in_err-improve : goal.returns-in_err-improve
unfolding choices
returns-in_err-improve c = then _ c.in_ok-first.ensures (stops _ _ c.in_err-improve.ensures c.from_residual-in_err-improve.ensures.1)

pub returns-in_err-tries : goal.returns-in_err-tries
unfolding choices
returns-in_err-tries c = then _ c.in_ok-first.ensures (then _ c.in_ok-improve.ensures (stops _ _ c.in_err-tries.ensures c.from_residual-in_err-tries.ensures.1))

pub returns-in_err-solutions : goal.returns-in_err-solutions
unfolding choices
returns-in_err-solutions c = then _ c.in_ok-first.ensures
    (then _ c.in_ok-improve.ensures (then _ c.in_ok-tries.ensures (stops _ _ c.in_err-solutions.ensures c.from_residual-in_err-solutions.ensures.1)))

pub returns : goal.returns
unfolding choices
returns c =
    then _ c.in_ok-first.ensures (then _ c.in_ok-improve.ensures (then _ c.in_ok-tries.ensures (then _ c.in_ok-solutions.ensures (gives (search rules)))))
