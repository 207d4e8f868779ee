use Rattle.std.proofs.Common.{◌≡◌, subst, arith, to_z, of_z}
use Rattle.std.specs.Int.{w128}
use Rattle.std.specs.Prelude.{IfSome, false, pos, ◌-ℤ◌}
use Rattle.std.proofs.lemmas.Int.{ints}
use Rattle.vr_guided.specs.Counts.{counted}
use Rattle.vr_guided.specs.Guides.{is_gain}
use Rattle.vr_known.specs.Touching.{AreFound}
use Rattle.vr_guided.proofs.SavingLemmas.{enough_for_run}
use Rattle.vr_guided.proofs.guiding.GuidingAccept.open_below.Goals as goal

pub returns : goal.returns
returns c = record {
  enough = (
      let at = c.args.self.now in
      let lists = c.args.routes.now.lists in
      let saved = c.saved_in_run-saved.result in
      let s = c.saved_in_run-saved.ensures in
      let low = s.low in
      let high = s.high in
      let as_read : to_z w128 (of_z w128 saved) ≡ saved = omega (arith, ints, low, high) in
      let none = subst (λ z. IfSome c.enough_against.result (λ e. is_gain at.lambda e (pos 0 -ℤ z) ≡ false)) as_read c.enough_against.ensures in
      enough_for_run at.weights.closed.model.now (counted at.weights.penalties.now) at.lambda at.sound.p_in_range.at_least
      at.sound.q_in_range.at_least lists c.args.mv saved s.most c.enough_against.result none);
}

pub saved_in_run-saved-requires-clause-found : goal.saved_in_run-saved-requires-clause-found
saved_in_run-saved-requires-clause-found c =
    subst (AreFound c.args.self.now.weights.closed.model.now c.args.routes.now.lists c.args.mv) c.in-Some.is c.found.ensures
