use Rattle.std.proofs.Common.{ℕ, ◌<◌}
use Rattle.std.specs.Prelude.{IsTrue}
use Rattle.vr_model.specs.tables.Tables.{is_visit}
use Rattle.vr_tabu.specs.Tabus.{tabus_of}
use Rattle.vr_tabu.specs.TabuSearches.{is_tabu_visit}
use Rattle.vr_tabu.proofs.tabu_list.TabuList.are_all_tabu.Given as goal

-- the visits so far are tabu
abbrev pub invariant-loop-node : goal.invariant-loop-node
invariant-loop-node l = record {
  tabu : (visit : ℕ) → visit < l.node → IsTrue (is_visit l.model visit) → IsTrue (is_tabu_visit (tabus_of l.self) visit);
}
