use Rattle.std.proofs.Common.{◌≡◌, ℕ, cond, length, drop}
use Rattle.std.specs.Prelude.{◌&&◌}
use Rattle.vr_model.specs.routes.Routes.{holds}
use Rattle.vr_tabu.specs.Parts.{changes}
use Rattle.vr_tabu.specs.Tabus.{until_at}
use Rattle.vr_tabu.proofs.tabu_list.TabuList.forbid_some.Given as goal

-- what is left is the whole
abbrev pub invariant-loop-k : goal.invariant-loop-k
invariant-loop-k l = record {
  round : l.self.round ≡ l.fn.self.round;
  covers : length l.self.until.items ≡ length l.fn.self.until.items;
  left : (visit : ℕ) → cond (holds (drop l.k l.visits) visit && changes l.list visit) l.until (until_at l.self visit)
      ≡ cond (holds l.visits visit && changes l.list visit) l.until (until_at l.fn.self visit);
}
