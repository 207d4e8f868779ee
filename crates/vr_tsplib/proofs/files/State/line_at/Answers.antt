use Rattle.std.proofs.Common.{sym, ap, ◌∙◌}
use Rattle.vr_tsplib.specs.Files.{head_line, line_at}
use Rattle.vr_tsplib.proofs.Chains.{goes}
use Rattle.vr_tsplib.proofs.LineSteps.{line_value}
use Rattle.vr_tsplib.proofs.files.State.line_at.Goals as goal

pub returns-in_ok-self-in-Outside : goal.returns-in_ok-self-in-Outside
unfolding head_line
returns-in_ok-self-in-Outside c =
    let here = ap (λ at. line_at at c.args.self.now c.args.line.now) c.in-Outside.is in
    line_value (here ∙ goes _ (sym c.in_ok-self-in-Outside.ensures))

pub returns-in_ok-self-in-Depot : goal.returns-in_ok-self-in-Depot
unfolding head_line
returns-in_ok-self-in-Depot c =
    let here = ap (λ at. line_at at c.args.self.now c.args.line.now) c.in-Depot.is in
    line_value (here ∙ goes _ (sym c.in_ok-self-in-Depot.ensures))

pub returns-in_ok-self-in-DepotEnd : goal.returns-in_ok-self-in-DepotEnd
unfolding head_line
returns-in_ok-self-in-DepotEnd c =
    let here = ap (λ at. line_at at c.args.self.now c.args.line.now) c.in-DepotEnd.is in
    line_value (here ∙ goes _ (sym c.in_ok-self-in-DepotEnd.ensures))
