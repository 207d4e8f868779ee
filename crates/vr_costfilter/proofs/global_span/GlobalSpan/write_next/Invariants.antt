use Rattle.std.proofs.Common.{◌≡◌, false}
use Rattle.vr_costfilter.specs.GlobalCosts.{AreLike, AreRowsAfter}
use Rattle.vr_costfilter.proofs.global_span.GlobalSpan.write_next.Given as goal

-- the parts so far are told
abbrev pub invariant-loop-k : goal.invariant-loop-k
invariant-loop-k l = record {
  like : AreLike l.fn.self l.self;
  unprepared : l.self.is_prepared ≡ false;
  next : AreRowsAfter l.fn.self.model l.routes.lists l.change l.k l.self.next;
}
