use Rattle.std.proofs.Common.{subst, sym}
use Rattle.vr_steps.specs.Reached.{AreReached}
use Rattle.vr_steps.proofs.LawLemmas.{lines_stand_for_theirs}
use Rattle.vr_reach.proofs.walks.Walk.goes_along.Goals as goal

pub returns : goal.returns
returns c = λ defined of.
    let s = lines_stand_for_theirs defined c.args.line.now of c.requires in
    c.ends.ensures defined (record {
      sound = s.sound;
      breaks_are = s.breaks;
      reached = subst (λ k. AreReached defined k c.walk_along.new.here) (sym s.arcs) (c.in_ok-walk_along.ensures.exact defined of);
    })
