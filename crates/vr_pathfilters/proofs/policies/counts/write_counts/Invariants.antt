use Rattle.std.proofs.Common.{◌≡◌, ◌<◌, ℕ, ◌+◌, false, length, take}
use Rattle.std.specs.Prelude.{slice_index}
use Rattle.vr_model.specs.routes.Routes.{holds}
use Rattle.vr_pathfilters.specs.Counted.{count_of, pair_counts}
use Rattle.vr_pathfilters.proofs.policies.counts.write_counts.Given as goal

-- the nodes so far are counted, and each has what stands up to it
abbrev pub invariant-loop-k : goal.invariant-loop-k
invariant-loop-k l = record {
  so_far : l.counts ≡ pair_counts l.node_tables (take l.k l.list);
  long : length l.table ≡ length l.fn.table;
  counted : (j : ℕ) → j < l.k → count_of l.table (slice_index l.list j) ≡ pair_counts l.node_tables (take (j + 1) l.list);
  others : (node : ℕ) → holds l.list node ≡ false → count_of l.table node ≡ count_of l.fn.table node;
}
