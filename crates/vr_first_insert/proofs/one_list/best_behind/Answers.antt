use Rattle.std.proofs.Common.{to_z, of_z, w64, ◌≡◌, ◌∙◌, ◌+◌, ℕ, suc, ap, sym, subst, arith, length}
use Rattle.std.specs.Prelude.{fold, insert, map}
use Rattle.std.proofs.lemmas.Result.{IfOk-weaker}
use Rattle.vr_model.specs.tables.Numbers.{from_to}
use Rattle.vr_model.proofs.tables.Ranges.{first_left}
use Rattle.vr_reach.specs.Stretches.{SharesFront}
use Rattle.vr_first_insert.specs.Probes.{AreReachedAt}
use Rattle.vr_first_insert.proofs.InsertedLemmas.{pair_is, visit_front}
use Rattle.vr_model.specs.declared.records.Pair.{Pair}
use Rattle.vr_first_insert.specs.declared.choice.InsertionChoice.{InsertionChoice}
use Rattle.vr_first_insert.specs.Increases.{IsIncrease}
use Rattle.std.proofs.lemmas.Int.{ints, to_z-of_z}
use Rattle.vr_first_insert.proofs.BoundLemmas.{deliveries-passed_over}
use Rattle.vr_first_insert.specs.Placings.{may_improve, pair_choice, weigh, VisitAddsAtLeast}
use Rattle.vr_first_insert.proofs.ReadyLemmas.{deliveries-stuck, few-held, half-goes_on, half-used}
use Rattle.vr_first_insert.proofs.one_list.best_behind.Goals as goal

pub leave-requires : goal.leave-requires
leave-requires c =
    let begun = c.args.begun.now in
    record {
      kept = c.requires.ready.ready.kept;
      used = half-used begun.pair begun.s begun.half.now begun.within begun.picked_up;
      front = subst (λ new. SharesFront begun.pair.list.nodes.now new begun.s) (sym begun.picked_up)
          (visit_front begun.pair.list.nodes.now begun.s begun.pair.pickup begun.within);
    }

pub go_on-requires : goal.go_on-requires
go_on-requires c =
    let begun = c.args.begun.now in
    half-goes_on begun.pair begun.s (begun.s + 1) begun.half.now c.leave.new.self begun.within
    begun.picked_up (let within = begun.within in omega (arith, within)) c.in_ok-leave.ensures

pub weigh_pair-requires : goal.weigh_pair-requires
weigh_pair-requires c = record {
  ready = c.requires.ready.ready;
  order = omega arith;
  within = c.args.begun.now.within;
  here = subst (λ half. AreReachedAt c.args.begun.now.pair.list.lookups.now.closed.model.now c.args.begun.now.pair.list.vehicle
      half (c.args.begun.now.s + 1) c.leave.new.self) c.args.begun.now.picked_up c.in_ok-leave.ensures;
  longer = c.in_ok-write_placed.ensures;
}

pub least_further-requires-clause-least : goal.least_further-requires-clause-least
least_further-requires-clause-least c = subst IsIncrease (sym (to_z-of_z w64 c.args.least c.ranges.least)) c.requires.least.small

pub overflow_cast-placing : goal.overflow_cast-placing
overflow_cast-placing c = omega (arith, few-held c.args.begun.now.pair.list c.args.begun.now.pair.may_hold)

pub overflow_cast-placing-2 : goal.overflow_cast-placing-2
overflow_cast-placing-2 c = omega (arith, few-held c.args.begun.now.pair.list c.args.begun.now.pair.may_hold)

pub write_placed-requires-clause-few : goal.write_placed-requires-clause-few
write_placed-requires-clause-few c = few-held c.args.begun.now.pair.list c.args.begun.now.pair.may_hold

pub best_further-requires-clause-longer : goal.best_further-requires-clause-longer
best_further-requires-clause-longer c =
    let list = c.args.begun.now.pair.list.nodes.now in
    let s : ℕ = c.args.begun.now.s in
    let pair : Pair = record { pickup = c.args.begun.now.pair.pickup; delivery = c.args.begun.now.pair.delivery } in
    let next : suc s ≡ s + 1 = omega arith in
    c.in_ok-near.ensures.longer ∙ c.in_ok-write_placed.ensures
    ∙ pair_is pair list s s (omega arith) c.args.begun.now.within
    ∙ ap (λ n. insert (insert list s c.args.begun.now.pair.pickup) n c.args.begun.now.pair.delivery) next
    ∙ ap (λ l. insert l (s + 1) c.args.begun.now.pair.delivery) (sym c.args.begun.now.picked_up)

pub best_further-requires-clause-here : goal.best_further-requires-clause-here
best_further-requires-clause-here c =
    let next : c.args.begun.now.s + 1 + 1 ≡ c.args.begun.now.s + 2 = omega arith in
    subst (λ k. AreReachedAt c.args.begun.now.pair.list.lookups.now.closed.model.now
    c.args.begun.now.pair.list.vehicle c.args.begun.now.half.now k c.go_on.new.self) next c.in_ok-go_on.ensures

pub returns-then-is_stuck : goal.returns-then-is_stuck
returns-then-is_stuck c =
    deliveries-stuck c.args.begun.now.pair.list.lookups.now.closed.model.now c.args.begun.now.pair.list.vehicle c.args.begun.now.pair.list.nodes.now
    c.args.begun.now.pair.class c.args.begun.now.pair.pickup c.args.begun.now.pair.delivery c.args.begun.now.s c.args.begun.now.s
    c.args.best c.leave.new.self c.args.begun.now.pair.list.there c.args.begun.now.pair.may_hold (omega arith) c.args.begun.now.within
    (subst (λ half. AreReachedAt c.args.begun.now.pair.list.lookups.now.closed.model.now c.args.begun.now.pair.list.vehicle half
    (c.args.begun.now.s + 1) c.leave.new.self) c.args.begun.now.picked_up c.in_ok-leave.ensures) (c.is_stuck.ensures.no_end c.if-is_stuck.true)

pub returns-then-not-may_improve : goal.returns-then-not-may_improve
returns-then-not-may_improve c =
    let model = c.args.begun.now.pair.list.lookups.now.closed.model.now in
    let list = c.args.begun.now.pair.list.nodes.now in
    let f : ℕ → InsertionChoice = pair_choice model c.args.begun.now.pair.list.vehicle list
    c.args.begun.now.pair.class c.args.begun.now.pair.pickup c.args.begun.now.pair.delivery c.args.begun.now.s in
    let further = c.least_further.ensures in
    let least = subst (λ x. VisitAddsAtLeast model c.args.begun.now.pair.list.vehicle list c.args.begun.now.pair.delivery x)
    (sym (to_z-of_z w64 c.args.least c.ranges.least)) c.requires.least.adds in
    let fits : to_z w64 (of_z w64 c.least_further.result) ≡ c.least_further.result = omega (arith, ints, further.low, further.high) in
    deliveries-passed_over model c.args.begun.now.pair.list.vehicle list c.args.begun.now.pair.class c.args.begun.now.pair.pickup
    c.args.begun.now.pair.delivery c.args.begun.now.s (c.args.begun.now.s + 1) c.in_ok-near.near c.least_further.result
    (λ t from high. further.least c.args.begun.now.pair.delivery t least (omega (arith, from)) high)
    (ap (may_improve c.in_ok-near.near c.args.begun.now.pair.class) (sym fits) ∙ sym c.may_improve.ensures ∙ c.if-not-may_improve.true)
    ∙ ap (λ best. fold (weigh model list) best (map f (from_to (c.args.begun.now.s + 1) (suc (length list))))) c.in_ok-near.ensures.best
    ∙ sym (first_left c.args.begun.now.s (suc (length list)) (omega (arith, c.args.begun.now.within)) (λ ks. fold (weigh model list) c.args.best (map f ks)))

pub returns : goal.returns
returns c =
    let model = c.args.begun.now.pair.list.lookups.now.closed.model.now in
    let list = c.args.begun.now.pair.list.nodes.now in
    let f : ℕ → InsertionChoice = pair_choice model c.args.begun.now.pair.list.vehicle list
    c.args.begun.now.pair.class c.args.begun.now.pair.pickup c.args.begun.now.pair.delivery c.args.begun.now.s in
    IfOk-weaker c.best_further.result
    (λ chosen. chosen ≡ fold (weigh model list) c.in_ok-near.near (map f (from_to (c.args.begun.now.s + 1) (suc (length list)))))
    (λ chosen. chosen ≡ fold (weigh model list) c.args.best (map f (from_to c.args.begun.now.s (suc (length list)))))
    (λ chosen is.
    is ∙ ap (λ best. fold (weigh model list) best (map f (from_to (c.args.begun.now.s + 1) (suc (length list))))) c.in_ok-near.ensures.best
    ∙ sym
    (first_left c.args.begun.now.s (suc (length list)) (omega (arith, c.args.begun.now.within)) (λ ks. fold (weigh model list) c.args.best (map f ks))))
    c.best_further.ensures
