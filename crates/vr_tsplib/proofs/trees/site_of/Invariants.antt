use Rattle.std.proofs.Common.{◌≡◌, ◌==◌, find, drop}
use Rattle.vr_tsplib.proofs.trees.site_of.Given as goal

abbrev pub invariant-loop-row : goal.invariant-loop-row
invariant-loop-row l = find (λ row. row.node == l.node) (drop l.row-index l.rows) ≡ find (λ row. row.node == l.node) l.rows
