use Rattle.std.proofs.Common.{rules}
use Rattle.vr_json.proofs.Steps.{then, stops, gives}
use Rattle.vr_printed.specs.Tables.{printed_parts}
use Rattle.vr_printed.proofs.tables.PartsTableTable.read.Goals as goal

pub returns-in_err-known : goal.returns-in_err-known
unfolding printed_parts
returns-in_err-known c = then _ c.in_ok-arcs.ensures (then _ c.in_ok-fixed.ensures (then _ c.in_ok-global.ensures (then _ c.in_ok-penalty.ensures
    (then _ c.in_ok-soft.ensures (then _ c.in_ok-span.ensures (stops _ _ c.in_err-known.ensures c.from_residual-in_err-known.ensures.1))))))

pub returns : goal.returns
unfolding printed_parts
returns c = then _ c.in_ok-arcs.ensures (then _ c.in_ok-fixed.ensures (then _ c.in_ok-global.ensures
    (then _ c.in_ok-penalty.ensures (then _ c.in_ok-soft.ensures (then _ c.in_ok-span.ensures (then _ c.in_ok-known.ensures (gives (search rules))))))))
