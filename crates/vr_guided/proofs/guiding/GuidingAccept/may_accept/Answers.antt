use Rattle.std.proofs.Common.{◌≡◌, ◌∙◌, ap₂, sym, subst, arith, false, w64, to_z, of_z}
use Rattle.std.specs.Int.{w128}
use Rattle.std.specs.Prelude.{ℤ, pos, ◌+ℤ◌, ◌-ℤ◌, ◌≤ℤ◌}
use Rattle.std.proofs.lemmas.Int.{ints}
use Rattle.vr_model.specs.moves.Moves.{apply}
use Rattle.vr_model.specs.search.GuidedSearches.{penalised}
use Rattle.vr_guided.specs.Counts.{counted}
use Rattle.vr_guided.specs.Guides.{is_gain, penalised_change}
use Rattle.vr_guided.proofs.GuideLemmas.{change_read, lists_after, none_saved, passed_over}
use Rattle.vr_guided.proofs.guiding.GuidingAccept.may_accept.Goals as goal

-- what is taken at most, told of the change
told : (before after saved : ℤ) → (before -ℤ after) ≤ℤ saved → pos 0 ≤ℤ ((after -ℤ before) +ℤ saved)
told before after saved most = omega (arith, ints, most)

pub invariant_of-weighed : goal.invariant_of-weighed
invariant_of-weighed c = record {
  parts = c.requires.change.parts_are;
  after = lists_after c.args.self.now.weights.closed.model.now c.args.self.now.weights.closed.well_formed
      c.args.routes.now.lists c.args._mv c.requires.asks.valid c.requires.asks.is_one c.requires.change;
}

pub returns-then-is_no_gain : goal.returns-then-is_no_gain
returns-then-is_no_gain c = record {
  passed = λ refused valid low. (
      let at = c.args.self.now in
      let p = counted at.weights.penalties.now in
      let lists = c.args.routes.now.lists in
      let same : to_z w64 (of_z w64 c.args.least) ≡ c.args.least = omega (arith, ints, c.ranges.least) in
      let saved = c.saved_at_most-saved.result in
      let from = c.saved_at_most-saved.ensures.low in
      let to = c.saved_at_most-saved.ensures.high in
      let as_read : to_z w128 (of_z w128 saved) ≡ saved = omega (arith, ints, from, to) in
      let most = subst (λ ls. (penalised at.weights.closed.model.now p lists -ℤ penalised at.weights.closed.model.now p ls) ≤ℤ saved)
      c.requires.change.lists_are c.saved_at_most-saved.ensures.most in
      let none = subst (λ d. is_gain at.lambda d (pos 0 -ℤ saved) ≡ false) same
      (subst (λ z. is_gain at.lambda (to_z w64 (of_z w64 c.args.least)) (pos 0 -ℤ z) ≡ false) as_read (c.is_no_gain.ensures c.if-is_no_gain.true)) in
      let no_gain = none_saved at.lambda c.args.least (penalised_change at.weights.closed.model.now p lists c.args._mv) saved at.sound.p_in_range.at_least
      none (told (penalised at.weights.closed.model.now p lists)
      (penalised at.weights.closed.model.now p (apply at.weights.closed.model.now lists c.args._mv)) saved most) in
      passed_over at.weights.closed.model.now at.lambda p lists c.args._mv c.args.least at.sound.q_in_range.at_least no_gain low);
}

pub returns : goal.returns
returns c = record {
  passed = λ refused valid low. (
      let at = c.args.self.now in
      let model = at.weights.closed.model.now in
      let p = counted at.weights.penalties.now in
      let lists = c.args.routes.now.lists in
      let same : to_z w64 (of_z w64 c.args.least) ≡ c.args.least = omega (arith, ints, c.ranges.least) in
      let change = change_read model p lists c.args._mv c.difference.result c.requires.change c.difference.ensures.bound c.difference.ensures.value in
      let none = sym (c.gains.ensures ∙ ap₂ (is_gain at.lambda) same change) ∙ refused in
      passed_over model at.lambda p lists c.args._mv c.args.least at.sound.q_in_range.at_least none low);
}
