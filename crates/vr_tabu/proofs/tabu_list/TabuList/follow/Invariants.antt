use Rattle.std.proofs.Common.{◌≡◌, ℕ, cond, length}
use Rattle.std.specs.List.{list_any}
use Rattle.vr_model.specs.tables.Numbers.{below, from_to}
use Rattle.vr_tabu.specs.Parts.{change_of, changes}
use Rattle.vr_tabu.specs.Tabus.{until_at}
use Rattle.vr_tabu.proofs.tabu_list.TabuList.follow.Given as goal

-- what is left is the whole
abbrev pub invariant-loop-k : goal.invariant-loop-k
invariant-loop-k l = record {
  round : l.self.round ≡ l.fn.self.round;
  covers : length l.self.until.items ≡ length l.fn.self.until.items;
  left : (visit : ℕ)
      → cond (list_any (λ j. changes (change_of l.lists.closed.model.now l.lists.routes.now.lists l.change j) visit) (from_to l.k (length l.change)))
      l.until (until_at l.self visit)
      ≡ cond (list_any (λ j. changes (change_of l.lists.closed.model.now l.lists.routes.now.lists l.change j) visit) (below (length l.change)))
      l.until (until_at l.fn.self visit);
}
