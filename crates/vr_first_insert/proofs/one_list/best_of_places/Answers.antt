use Rattle.std.proofs.Common.{◌≡◌, ◌∙◌, ◌+◌, ℕ, suc, ap, sym, arith, length}
use Rattle.std.specs.Prelude.{fold, map}
use Rattle.std.proofs.lemmas.List.Edits.{length-insert}
use Rattle.vr_model.specs.tables.Numbers.{below}
use Rattle.vr_model.proofs.tables.Ranges.{below-more}
use Rattle.vr_first_insert.specs.declared.choice.InsertionChoice.{InsertionChoice}
use Rattle.vr_first_insert.specs.Placings.{visit_choice, weigh}
use Rattle.vr_first_insert.proofs.InsertLemmas.{fold-one}
use Rattle.vr_first_insert.proofs.ReadyLemmas.{few-held}
use Rattle.vr_first_insert.proofs.one_list.best_of_places.Goals as goal

pub write_placed-requires-clause-few : goal.write_placed-requires-clause-few
write_placed-requires-clause-few c = few-held c.args.visit.now.list c.args.visit.now.may_hold

pub move_on-requires : goal.move_on-requires
move_on-requires c =
    let list = c.args.visit.now.list.nodes.now in
    let t : ℕ = c.loop-t.t in
    let long = ap length c.loop-t.invariant.longer ∙ length-insert list t c.args.visit.now.node (omega arith) in
    omega (arith, long, c.loop-t-test.true)

pub weigh_visit-requires : goal.weigh_visit-requires
weigh_visit-requires c = record { ready = c.requires; within = omega arith; longer = c.in_ok-write_placed.ensures }

pub weigh_visit-requires-in-loop-t : goal.weigh_visit-requires-in-loop-t
weigh_visit-requires-in-loop-t c = record {
  ready = c.requires;
  within = omega (arith, c.loop-t-test.true);
  longer = c.move_on.ensures c.args.visit.now.list.nodes.now c.args.visit.now.node c.loop-t-test.true c.loop-t.invariant.longer;
}

pub loop-t-preserved : goal.loop-t-preserved
loop-t-preserved c =
    let model = c.args.visit.now.list.lookups.now.closed.model.now in
    let list = c.args.visit.now.list.nodes.now in
    let t : ℕ = c.loop-t.t in
    let f : ℕ → InsertionChoice = visit_choice model c.args.visit.now.list.vehicle list c.args.visit.now.class c.args.visit.now.node in
    record {
      best = c.in_ok-best.ensures.best
          ∙ ap (λ best. weigh model list best (f (t + 1))) c.loop-t.invariant.best
          ∙ sym (fold-one (weigh model list) c.args.best f (below (t + 1)) (t + 1))
          ∙ sym (ap (λ ks. fold (weigh model list) c.args.best (map f ks)) (below-more (t + 1)));
      longer = c.in_ok-best.ensures.longer ∙ c.move_on.ensures list c.args.visit.now.node c.loop-t-test.true c.loop-t.invariant.longer;
    }

pub returns : goal.returns
returns c =
    let model = c.args.visit.now.list.lookups.now.closed.model.now in
    let list = c.args.visit.now.list.nodes.now in
    let f : ℕ → InsertionChoice = visit_choice model c.args.visit.now.list.vehicle list c.args.visit.now.class c.args.visit.now.node in
    let end : c.loop-t.t + 1 ≡ suc (length list) = omega arith in
    c.loop-t.invariant.best ∙ ap (λ n. fold (weigh model list) c.args.best (map f (below n))) end
