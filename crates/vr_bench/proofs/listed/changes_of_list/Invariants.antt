use Rattle.std.proofs.Common.{length}
use Rattle.vr_bench.proofs.listed.changes_of_list.Given as goal

abbrev pub decreases-loop-mv : goal.decreases-loop-mv
decreases-loop-mv l = length l.list
