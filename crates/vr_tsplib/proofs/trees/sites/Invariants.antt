use Rattle.std.proofs.Common.{◌≡◌, map}
use Rattle.std.specs.List.{range_with_len}
use Rattle.vr_tsplib.specs.Rows.{site_of}
use Rattle.vr_tsplib.proofs.trees.sites.Given as goal

abbrev pub invariant-loop-k : goal.invariant-loop-k
invariant-loop-k l = l.all.items ≡ map (site_of l.rows) (range_with_len 1 l.k)
