use Rattle.std.proofs.Common.{◌≡◌, ◌+◌, suc, length, to_z, of_z, w64, ◌∙◌, sym, subst, arith}
use Rattle.std.specs.Prelude.{slice_index_or, IfSome}
use Rattle.std.proofs.lemmas.Int.{ints}
use Rattle.vr_model.specs.schedules.Schedules.{no_break}
use Rattle.vr_steps.specs.declared.lines.Line.{Line}
use Rattle.vr_plan.specs.Narrow.{IsLeastOf, IsStartOf}
use Rattle.vr_plan.proofs.starts.least_start.Goals as goal

pub loop-place-preserved : goal.loop-place-preserved
loop-place-preserved c =
    let m = c.loop-place.invariant in
    record {
      same = c.in_ok-best.ensures.same ∙ m.same;
      range = subst (λ (l : Line). IfSome c.in_ok-best.best (IsStartOf (slice_index_or l.breaks c.args.i no_break))) m.same c.in_ok-best.ensures.range;
      least = subst (λ (l : Line). IsLeastOf l c.args.cumuls.now c.args.i (to_z w64 (of_z w64 c.args.ready)) c.loop-place.place c.loop-place.best
          → IsLeastOf l c.args.cumuls.now c.args.i (to_z w64 (of_z w64 c.args.ready)) (c.loop-place.place + 1) c.in_ok-best.best)
          m.same c.in_ok-best.ensures.exact m.least;
    }

pub returns-clause-exact : goal.returns-clause-exact
returns-clause-exact c =
    let all : c.loop-place.place ≡ suc (length c.args.cumuls.now) = omega arith in
    let ready : to_z w64 (of_z w64 c.args.ready) ≡ c.args.ready = omega (arith, ints, c.requires.ready) in
    subst (λ n. IsLeastOf c.args.line.now c.args.cumuls.now c.args.i c.args.ready n c.loop-place.best) all
    (subst (λ r. IsLeastOf c.args.line.now c.args.cumuls.now c.args.i r c.loop-place.place c.loop-place.best) ready c.loop-place.invariant.least)
