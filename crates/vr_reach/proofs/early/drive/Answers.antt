use Rattle.std.proofs.Common.{◌≡◌, ◌∙◌, suc, ◌+◌, ◌≤◌, ◌∷◌, ◌++◌, [], false, List, length, ℤ, to_z, of_z, w64, pos, refl, sym, ap, ap₂, subst, arith}
use Rattle.std.specs.Prelude.{is_some}
use Rattle.std.proofs.lemmas.Bool.{false≢true}
use Rattle.std.proofs.lemmas.Int.{ints}
use Rattle.vr_model.specs.tables.Numbers.{horizon, number_at}
use Rattle.vr_model.specs.tables.WellFormed.{IsIn}
use Rattle.vr_reach.specs.Early.{has_cumul_behind, AreEarly, AreFoundInTurn}
use Rattle.vr_reach.specs.VehicleStops.{line_of}
use Rattle.vr_reach.proofs.EarlyLemmas.{at_new, begin_list, step_list}
use Rattle.vr_reach.proofs.FoundLemmas.{begin_found_list, found_next, found_none}
use Rattle.vr_reach.proofs.SingleLemmas.{cumul_read}
use Rattle.vr_reach.proofs.early.drive.Goals as goal

pub loop-k-init : goal.loop-k-init
loop-k-init c =
    let of = c.args.line.now.of in
    let range = c.requires.start.ends.lo in
    let is = cumul_read c.args.start.lo range in
    let only = c.push.ensures.items ∙ ap₂ (λ (xs : List ℤ) x. xs ++ x ∷ []) c.clear.ensures is in
    record {
      early = begin_list of.closed.model.now of.d of.v of.list.now c.args.start c.requires.start c.requires.some c.push.new.self.items only;
      found = begin_found_list of.closed.model.now of.d of.v of.list.now c.args.start c.requires.start c.requires.some c.push.new.self.items only;
      cumul = is ∙ sym (ap (λ xs. number_at xs 0) only);
      range = subst (IsIn (pos 0) horizon) (sym is) range;
      origin = c.node_at-origin.ensures.node;
      below = c.node_at-origin.ensures.below;
    }

pub loop-k-preserved : goal.loop-k-preserved
loop-k-preserved c =
    let line = c.args.line.now in
    let of = line.of in
    let k = c.loop-k.k in
    let i = c.loop-k.invariant in
    let low : k ≤ length of.list.now = (let t = c.loop-k-test.true in omega (arith, t, c.len-n.ensures.value)) in
    let next : ℤ = c.in-Some.next in
    let range = c.in-Some.ensures.range in
    let is = cumul_read next range in
    let old : List ℤ = c.loop-k.cumuls.items in
    let ahead = c.stop_ahead-ahead.ensures in
    let t = c.transit-transit.ensures in
    let least = t.least in
    let greatest = t.greatest in
    let way : to_z w64 (of_z w64 c.transit-transit.result) ≡ c.transit-transit.result = omega (arith, ints, least, greatest) in
    let slack = cumul_read line.slack line.slack_range in
    let more = c.push-in-loop-k.ensures.items ∙ ap (λ x. old ++ x ∷ []) is in
    record {
      early = subst (AreEarly (line_of of) (k + 1)) (sym more)
          (step_list of.closed.model.now of.d of.v of.list.now k old low i.early c.stop_ahead-ahead.result.allowed ahead.allowed
          c.loop-k.origin c.stop_ahead-ahead.result.node i.origin ahead.node (to_z w64 c.loop-k.cumul-bits) (to_z w64 (of_z w64 c.transit-transit.result))
          (to_z w64 (of_z w64 line.slack)) next i.cumul (way ∙ t.value) (slack ∙ line.slack_is) c.in-Some.ensures.exact);
      found = subst (AreFoundInTurn (line_of of) (k + 1)) (sym more)
          (found_next of.closed.model.now of.d of.v of.list.now k old low i.found c.stop_ahead-ahead.result.allowed ahead.allowed
          c.loop-k.origin c.stop_ahead-ahead.result.node i.origin ahead.node (to_z w64 c.loop-k.cumul-bits) (to_z w64 (of_z w64 c.transit-transit.result))
          (to_z w64 (of_z w64 line.slack)) i.cumul (way ∙ t.value) (slack ∙ line.slack_is) next c.in-Some.ensures.exact);
      cumul = is ∙ sym (ap (λ xs. number_at xs (k + 1)) more ∙ at_new old next (k + 1) (let n = i.early.many in omega (arith, n)));
      range = subst (IsIn (pos 0) horizon) (sym is) range;
      origin = ahead.node;
      below = ahead.below;
    }

pub returns-in-None-clause-found : goal.returns-in-None-clause-found
returns-in-None-clause-found c =
    let line = c.args.line.now in
    let of = line.of in
    let k = c.loop-k.k in
    let i = c.loop-k.invariant in
    let low : k ≤ length of.list.now = (let t = c.loop-k-test.true in omega (arith, t, c.len-n.ensures.value)) in
    let ahead = c.stop_ahead-ahead.ensures in
    let least = c.transit-transit.ensures.least in
    let greatest = c.transit-transit.ensures.greatest in
    let way : to_z w64 (of_z w64 c.transit-transit.result) ≡ c.transit-transit.result = omega (arith, ints, least, greatest) in
    let slack = cumul_read line.slack line.slack_range in
    let none : has_cumul_behind (to_z w64 c.loop-k.cumul-bits) (to_z w64 (of_z w64 c.transit-transit.result)) (to_z w64 (of_z w64 line.slack))
    c.stop_ahead-ahead.result.allowed ≡ false = sym c.earliest_behind.ensures.known ∙ ap is_some c.in-None.is in (
      λ t. absurd (false≢true t),
      λ m. absurd (found_none of.closed.model.now of.d of.v of.list.now k c.loop-k.cumuls.items low i.found c.stop_ahead-ahead.result.allowed ahead.allowed
          c.loop-k.origin c.stop_ahead-ahead.result.node i.origin ahead.node (to_z w64 c.loop-k.cumul-bits) (to_z w64 (of_z w64 c.transit-transit.result))
          (to_z w64 (of_z w64 line.slack)) i.cumul (way ∙ c.transit-transit.ensures.value) (slack ∙ line.slack_is) none m.0 m.1),
    )

pub returns-in-None-clause-early : goal.returns-in-None-clause-early
returns-in-None-clause-early c none = absurd (false≢true none)

pub returns-clause-found : goal.returns-clause-found
returns-clause-found c =
    let of = c.args.line.now.of in
    let at : c.loop-k.k ≡ suc (length of.list.now) =
    (let done = c.loop-k-test.false in let end = c.loop-k.auto.k-end in omega (arith, done, end, c.len-n.ensures.value)) in
    (λ _. (c.loop-k.cumuls.items, subst (λ k. AreFoundInTurn (line_of of) k c.loop-k.cumuls.items) at c.loop-k.invariant.found), λ _. refl)

pub returns-clause-early : goal.returns-clause-early
returns-clause-early c _ =
    let of = c.args.line.now.of in
    let at : c.loop-k.k ≡ length of.list.now + 1 =
    (let done = c.loop-k-test.false in let end = c.loop-k.auto.k-end in omega (arith, done, end, c.len-n.ensures.value)) in
    subst (λ k. AreEarly (line_of of) k c.loop-k.cumuls.items) at c.loop-k.invariant.early
