use Rattle.std.proofs.Common.{rules}
use Rattle.vr_json.proofs.Steps.{then, stops, gives}
use Rattle.vr_printed.specs.Tables.{solution}
use Rattle.vr_printed.proofs.tables.SolutionTableTable.read.Goals as goal

pub returns-in_err-parts : goal.returns-in_err-parts
unfolding solution
returns-in_err-parts c = then _ c.in_ok-cost.ensures
    (then _ c.in_ok-dropped.ensures (then _ c.in_ok-first_cost.ensures (stops _ _ c.in_err-parts.ensures c.from_residual-in_err-parts.ensures.1)))

pub returns-in_err-routes : goal.returns-in_err-routes
unfolding solution
returns-in_err-routes c = then _ c.in_ok-cost.ensures
    (then _ c.in_ok-dropped.ensures
    (then _ c.in_ok-first_cost.ensures (then _ c.in_ok-parts.ensures (stops _ _ c.in_err-routes.ensures c.from_residual-in_err-routes.ensures.1))))

pub returns-in_err-solutions : goal.returns-in_err-solutions
unfolding solution
returns-in_err-solutions c = then _ c.in_ok-cost.ensures
    (then _ c.in_ok-dropped.ensures
    (then _ c.in_ok-first_cost.ensures
    (then _ c.in_ok-parts.ensures (then _ c.in_ok-routes.ensures (stops _ _ c.in_err-solutions.ensures c.from_residual-in_err-solutions.ensures.1)))))

pub returns-in_err-required : goal.returns-in_err-required
unfolding solution
returns-in_err-required c = then _ c.in_ok-cost.ensures (then _ c.in_ok-dropped.ensures (then _ c.in_ok-first_cost.ensures (then _ c.in_ok-parts.ensures
    (then _ c.in_ok-routes.ensures (then _ c.in_ok-solutions.ensures (stops _ _ c.in_err-required.ensures c.from_residual-in_err-required.ensures.1))))))

pub returns-in_err-required-2 : goal.returns-in_err-required-2
unfolding solution
returns-in_err-required-2 c = then _ c.in_ok-cost.ensures (then _ c.in_ok-dropped.ensures (then _ c.in_ok-first_cost.ensures (then _ c.in_ok-parts.ensures
    (then _ c.in_ok-routes.ensures
    (then _ c.in_ok-solutions.ensures (then _ c.in_ok-required.ensures (stops _ _ c.in_err-required-2.ensures c.from_residual-in_err-required-2.ensures.1)))))))

pub returns-in_err-tries : goal.returns-in_err-tries
unfolding solution
returns-in_err-tries c = then _ c.in_ok-cost.ensures (then _ c.in_ok-dropped.ensures (then _ c.in_ok-first_cost.ensures (then _ c.in_ok-parts.ensures
    (then _ c.in_ok-routes.ensures
    (then _ c.in_ok-solutions.ensures
    (then _ c.in_ok-required.ensures (then _ c.in_ok-required-2.ensures (stops _ _ c.in_err-tries.ensures c.from_residual-in_err-tries.ensures.1))))))))

pub returns-in_err-known : goal.returns-in_err-known
unfolding solution
returns-in_err-known c = then _ c.in_ok-cost.ensures (then _ c.in_ok-dropped.ensures (then _ c.in_ok-first_cost.ensures (then _ c.in_ok-parts.ensures
    (then _ c.in_ok-routes.ensures
    (then _ c.in_ok-solutions.ensures
    (then _ c.in_ok-required.ensures
    (then _ c.in_ok-required-2.ensures (then _ c.in_ok-tries.ensures (stops _ _ c.in_err-known.ensures c.from_residual-in_err-known.ensures.1)))))))))

pub returns : goal.returns
unfolding solution
returns c = then _ c.in_ok-cost.ensures (then _ c.in_ok-dropped.ensures (then _ c.in_ok-first_cost.ensures (then _ c.in_ok-parts.ensures
    (then _ c.in_ok-routes.ensures
    (then _ c.in_ok-solutions.ensures
    (then _ c.in_ok-required.ensures
    (then _ c.in_ok-required-2.ensures (then _ c.in_ok-tries.ensures (then _ c.in_ok-known.ensures (gives (search rules)))))))))))
