use Rattle.std.proofs.Common.{◌≡◌, ◌∙◌, arith, w64, to_z, of_z}
use Rattle.std.proofs.lemmas.Int.{ints}
use Rattle.vr_guided.specs.Counts.{counted}
use Rattle.vr_guided.proofs.GuideLemmas.{change_read, lists_after, makes_less_where}
use Rattle.vr_guided.proofs.guiding.GuidingAccept.accepts_change.Goals as goal

pub invariant_of-weighed : goal.invariant_of-weighed
invariant_of-weighed c = record {
  parts = c.requires.change.parts_are;
  after = lists_after c.args.self.now.weights.closed.model.now c.args.self.now.weights.closed.well_formed
      c.args.routes.now.lists c.args._mv c.requires.asks.valid c.requires.asks.is_one c.requires.change;
}

pub returns : goal.returns
returns c =
    let at = c.args.self.now in
    let model = at.weights.closed.model.now in
    let p = counted at.weights.penalties.now in
    let lists = c.args.routes.now.lists in
    let same : to_z w64 (of_z w64 c.args.difference) ≡ c.args.difference = omega (arith, ints, c.ranges.difference) in
    let change = change_read model p lists c.args._mv c.difference.result c.requires.change c.difference.ensures.bound c.difference.ensures.value in
    c.gains.ensures ∙ makes_less_where model at.lambda p lists c.args._mv _ _ (same ∙ c.requires.difference) change
