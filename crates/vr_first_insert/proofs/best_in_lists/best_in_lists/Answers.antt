use Rattle.std.proofs.Common.{◌≡◌, ◌∙◌, ℕ, [], ap, arith, length, subst, sym}
use Rattle.std.proofs.lemmas.List.{get_or_default}
use Rattle.vr_model.specs.routes.Routes.{route}
use Rattle.vr_first_insert.specs.Kept.{candidate_at, AreCandidatesKnown}
use Rattle.vr_first_insert.specs.Placings.{best_in}
use Rattle.vr_first_insert.proofs.InsertLemmas.{best_in_lists-more}
use Rattle.vr_first_insert.proofs.KeptLemmas.{row-written}
use Rattle.vr_first_insert.proofs.best_in_lists.best_in_lists.Goals as goal

pub settle_over-requires : goal.settle_over-requires
settle_over-requires c =
    let model = c.args.on.now.items.lookups.now.closed.model.now in
    let lists = c.args.on.now.lists.now in
    let v : ℕ = c.loop-v.v in
    let known_items = c.loop-v.known_items in
    let known = c.loop-v.invariant.known in
    let many : length known_items ≡ length lists = known.many in
    let there = c.loop-v-test.true in
    record {
      asked = c.requires.asked;
      candidate = c.requires.candidate;
      may_hold = c.requires.may_hold;
      there = there;
      row = subst (AreCandidatesKnown model v (route lists v) c.args.on.now.items.candidates.now)
          (get_or_default known_items v [] c.index-known_items-v.result (omega (arith, many, there))) (known.each v there);
    }

pub loop-v-preserved : goal.loop-v-preserved
loop-v-preserved c =
    let model = c.args.on.now.items.lookups.now.closed.model.now in
    let lists = c.args.on.now.lists.now in
    let v : ℕ = c.loop-v.v in
    let candidate = candidate_at c.args.on.now.items.candidates.now c.args.i in
    record {
      best = c.in_ok-settle_over.ensures.best
          ∙ ap (best_in model v (route lists v) candidate) c.loop-v.invariant.best ∙ sym (best_in_lists-more model lists candidate v c.args.best);
      known = row-written model lists c.args.on.now.items.candidates.now c.loop-v.known_items
          v c.settle_over.new.known_here c.loop-v.invariant.known c.in_ok-settle_over.ensures.known;
    }
