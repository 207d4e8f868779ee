use Rattle.std.proofs.Common.{◌≡◌, length}
use Rattle.std.specs.List.{list_any}
use Rattle.vr_model.specs.tables.Numbers.{below, from_to}
use Rattle.vr_tabu.specs.Parts.{change_of, frees}
use Rattle.vr_tabu.specs.Tabus.{tabus_of}
use Rattle.vr_tabu.proofs.tabu_list.TabuList.is_tabu.Given as goal

-- the parts so far free no visit
abbrev pub invariant-loop-k : goal.invariant-loop-k
invariant-loop-k l = record {
  left : list_any (λ j. frees (tabus_of l.self) (change_of l.lists.closed.model.now l.lists.routes.now.lists l.change j)) (from_to l.k (length l.change))
      ≡ list_any (λ j. frees (tabus_of l.self) (change_of l.lists.closed.model.now l.lists.routes.now.lists l.change j)) (below (length l.change));
}
