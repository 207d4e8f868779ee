use Rattle.std.proofs.Common.{refl, ◌≡◌, ◌∙◌, ◌+◌, ◌-◌, ◌≤ℤ◌, ◌+ℤ◌, ℕ, ℤ, pos, suc, ap, sym, subst, arith, length, to_z, of_z, w64}
use Rattle.std.specs.Prelude.{fold, insert, map}
use Rattle.std.proofs.lemmas.Int.{ints}
use Rattle.vr_first_insert.specs.Increases.{pair_increase, visit_increase}
use Rattle.vr_first_insert.proofs.BoundLemmas.{ahead-read, deliveries-passed_over, least-apart-at}
use Rattle.std.proofs.lemmas.List.Edits.{length-insert}
use Rattle.vr_model.specs.tables.Numbers.{from_to}
use Rattle.vr_model.proofs.tables.Ranges.{walk_ends, walk_opens}
use Rattle.vr_first_insert.specs.Probes.{AreReachedAt}
use Rattle.vr_first_insert.proofs.InsertedLemmas.{pair_is}
use Rattle.vr_model.specs.declared.records.Pair.{Pair}
use Rattle.vr_first_insert.specs.declared.choice.InsertionChoice.{InsertionChoice}
use Rattle.vr_first_insert.specs.Placings.{may_improve, pair_choice, weigh}
use Rattle.vr_first_insert.proofs.ReadyLemmas.{deliveries-stuck, half-goes_on}
use Rattle.vr_first_insert.proofs.one_list.best_further.Goals as goal

pub weigh_pair-requires : goal.weigh_pair-requires
weigh_pair-requires c =
    let list = c.args.begun.now.pair.list.nodes.now in
    let half = c.args.begun.now.half.now in
    let t : ℕ = c.loop-t.t in
    let pair : Pair = record { pickup = c.args.begun.now.pair.pickup; delivery = c.args.begun.now.pair.delivery } in
    let long : length half ≡ length list + 1 = ap length c.args.begun.now.picked_up
    ∙ length-insert list c.args.begun.now.s c.args.begun.now.pair.pickup c.args.begun.now.within in
    let next : suc t ≡ t + 1 = omega arith in
    record {
      ready = c.requires.ready.ready;
      order = omega arith;
      within = omega (arith, c.loop-t-test.true);
      here = subst (λ half. AreReachedAt c.args.begun.now.pair.list.lookups.now.closed.model.now c.args.begun.now.pair.list.vehicle
          half (c.loop-t.t + 1) c.loop-t.probes) c.args.begun.now.picked_up c.loop-t.invariant.reached;
      longer = c.move_on.ensures half c.args.begun.now.pair.delivery (omega (arith, long, c.loop-t-test.true)) c.loop-t.invariant.longer
          ∙ ap (λ l. insert l (t + 1) c.args.begun.now.pair.delivery) c.args.begun.now.picked_up
          ∙ sym (pair_is pair list c.args.begun.now.s t (omega arith) (omega (arith, c.loop-t-test.true))
          ∙ ap (λ n. insert (insert list c.args.begun.now.s c.args.begun.now.pair.pickup) n c.args.begun.now.pair.delivery) next);
    }

pub move_on-requires : goal.move_on-requires
move_on-requires c =
    let half = c.args.begun.now.half.now in
    let t : ℕ = c.loop-t.t in
    let long : length half ≡ length c.args.begun.now.pair.list.nodes.now + 1 = ap length c.args.begun.now.picked_up
    ∙ length-insert c.args.begun.now.pair.list.nodes.now c.args.begun.now.s c.args.begun.now.pair.pickup c.args.begun.now.within in
    let longer = ap length c.loop-t.invariant.longer ∙ length-insert half t c.args.begun.now.pair.delivery (omega (arith, long, c.loop-t-test.true)) in
    omega (arith, long, longer, c.loop-t-test.true)

pub go_on-requires : goal.go_on-requires
go_on-requires c =
    let begun = c.args.begun.now in
    half-goes_on begun.pair begun.s (c.loop-t.t + 1) begun.half.now c.loop-t.probes
    begun.within begun.picked_up (omega (arith, c.loop-t-test.true)) c.loop-t.invariant.reached

pub loop-t-preserved : goal.loop-t-preserved
loop-t-preserved c =
    let model = c.args.begun.now.pair.list.lookups.now.closed.model.now in
    let list = c.args.begun.now.pair.list.nodes.now in
    let f : ℕ → InsertionChoice = pair_choice model c.args.begun.now.pair.list.vehicle list
    c.args.begun.now.pair.class c.args.begun.now.pair.pickup c.args.begun.now.pair.delivery c.args.begun.now.s in
    record {
      best = ap (λ best. fold (weigh model list) best (map f (from_to (c.loop-t.t + 1) (suc (length list))))) c.in_ok-best.ensures.best
          ∙ walk_opens (λ ks. fold (weigh model list) c.loop-t.best (map f ks)) (suc (length list)) c.loop-t.t c.loop-t.invariant.best (omega arith);
      reached = c.in_ok-go_on.ensures;
      longer = c.in_ok-best.ensures.longer ∙ c.move_on.ensures c.args.begun.now.half.now c.args.begun.now.pair.delivery
          (let long = ap length c.args.begun.now.picked_up ∙ length-insert list c.args.begun.now.s c.args.begun.now.pair.pickup c.args.begun.now.within in
          omega (arith, long, c.loop-t-test.true)) c.loop-t.invariant.longer;
    }

pub returns-then-is_stuck : goal.returns-then-is_stuck
returns-then-is_stuck c =
    let model = c.args.begun.now.pair.list.lookups.now.closed.model.now in
    let list = c.args.begun.now.pair.list.nodes.now in
    deliveries-stuck model c.args.begun.now.pair.list.vehicle list c.args.begun.now.pair.class c.args.begun.now.pair.pickup c.args.begun.now.pair.delivery
    c.args.begun.now.s c.loop-t.t c.loop-t.best c.loop-t.probes c.args.begun.now.pair.list.there c.args.begun.now.pair.may_hold (omega arith) (omega arith)
    (subst (λ half. AreReachedAt model c.args.begun.now.pair.list.vehicle half (c.loop-t.t + 1) c.loop-t.probes)
    c.args.begun.now.picked_up c.loop-t.invariant.reached) (c.is_stuck.ensures.no_end c.if-is_stuck.true)
    ∙ c.loop-t.invariant.best

pub returns : goal.returns
returns c =
    let model = c.args.begun.now.pair.list.lookups.now.closed.model.now in
    let list = c.args.begun.now.pair.list.nodes.now in
    let f : ℕ → InsertionChoice = pair_choice model c.args.begun.now.pair.list.vehicle list
    c.args.begun.now.pair.class c.args.begun.now.pair.pickup c.args.begun.now.pair.delivery c.args.begun.now.s in
    walk_ends (λ ks. fold (weigh model list) c.loop-t.best (map f ks)) (suc (length list)) c.loop-t.t c.loop-t.invariant.best (omega arith)

pub loop-t-init : goal.loop-t-init
loop-t-init c =
    let next : c.args.begun.now.s + 2 ≡ c.args.begun.now.s + 1 + 1 = omega arith in
    record {
      best = refl;
      longer = c.requires.longer;
      reached = subst (λ k. AreReachedAt c.args.begun.now.pair.list.lookups.now.closed.model.now
          c.args.begun.now.pair.list.vehicle c.args.begun.now.half.now k c.args.probes.now) next c.requires.here;
    }

pub get-least-requires : goal.get-least-requires
get-least-requires c =
    let long = c.requires.ready.ahead.one_of_each in
    omega (arith, long)

pub least_apart-requires-clause-pickup : goal.least_apart-requires-clause-pickup
least_apart-requires-clause-pickup c =
    let alone = c.visit_increase-alone.ensures in
    record { low = omega (arith, ints, alone.low, alone.high); high = omega (arith, ints, alone.low, alone.high) }

pub least_apart-requires-clause-least : goal.least_apart-requires-clause-least
least_apart-requires-clause-least c =
    let list = c.args.begun.now.pair.list.nodes.now in
    let is = ahead-read c.args.begun.now.pair.list.lookups.now.closed.model.now c.args.begun.now.pair.list.vehicle list c.args.begun.now.pair.delivery
    (length list - c.loop-t.t) c.args.begun.now.ahead.now c.get-least.result.now c.requires.ready.ahead (c.get-least.ensures.value (pos 0)) (omega arith) in
    record { low = is.low; high = is.high }

pub returns-then-not-may_improve : goal.returns-then-not-may_improve
returns-then-not-may_improve c =
    let model = c.args.begun.now.pair.list.lookups.now.closed.model.now in
    let list = c.args.begun.now.pair.list.nodes.now in
    let v : ℕ = c.args.begun.now.pair.list.vehicle in
    let t : ℕ = c.loop-t.t in
    let least : ℤ = to_z w64 (of_z w64 c.get-least.result.now) in
    let is = ahead-read model v list c.args.begun.now.pair.delivery (length list - t) c.args.begun.now.ahead.now
    c.get-least.result.now c.requires.ready.ahead (c.get-least.ensures.value (pos 0)) (omega arith) in
    let apart = c.least_apart.ensures in
    let alone = c.visit_increase-alone.ensures in
    let fits : to_z w64 (of_z w64 c.least_apart.result) ≡ c.least_apart.result = omega (arith, ints, apart.low, apart.high) in
    let sum : c.least_apart.result ≡ (visit_increase model v list c.args.begun.now.pair.pickup c.args.begun.now.s +ℤ least) =
    omega (arith, ints, apart.value, alone.value, alone.low, alone.high) in
    deliveries-passed_over model v list c.args.begun.now.pair.class c.args.begun.now.pair.pickup
    c.args.begun.now.pair.delivery c.args.begun.now.s t c.loop-t.best c.least_apart.result
    (λ u from high. subst (λ x. x ≤ℤ pair_increase model v list c.args.begun.now.pair.pickup c.args.begun.now.pair.delivery c.args.begun.now.s u) (sym sum)
    (least-apart-at model v list c.args.begun.now.pair.pickup c.args.begun.now.pair.delivery
    c.args.begun.now.s u least (is.behind u (omega (arith, from)) high) (omega (arith, from))))
    (ap (may_improve c.loop-t.best c.args.begun.now.pair.class) (sym fits) ∙ sym c.may_improve.ensures ∙ c.if-not-may_improve.true)
    ∙ c.loop-t.invariant.best
