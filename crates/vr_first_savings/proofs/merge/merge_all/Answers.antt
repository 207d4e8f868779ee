use Rattle.std.proofs.Common.{rules, ◌≡◌, ◌∙◌, ◌+◌, ◌-◌, ℕ, List, None, ap, sym, subst, arith, length}
use Rattle.std.specs.Option.{option_map}
use Rattle.vr_model.specs.first.Choosing.{least_by}
use Rattle.vr_model.specs.first.SavingsJoins.{Join, join_key, joins, merged, after_join}
use Rattle.vr_first_savings.specs.declared.choice.JoinChoice.{JoinChoice}
use Rattle.vr_first_savings.specs.Joins.{join_of, AreApart}
use Rattle.vr_first_savings.specs.Bounds.{AreBounds, AreRaised}
use Rattle.vr_first_savings.proofs.MergeLemmas.{found-read, merged-stops, merged-unwanted, merged-next}
use Rattle.vr_first_savings.proofs.JoinedApart.{AreApart-joined}
use Rattle.vr_first_savings.proofs.BoundLemmas.{bounds-joined}
use Rattle.vr_first_savings.proofs.merge.merge_all.Goals as goal

pub returns-in-None-clause-merged : goal.returns-in-None-clause-merged
returns-in-None-clause-merged c =
    let model = c.args.lookups.now.closed.model.now in
    let routes : List (List ℕ) = c.loop-step.routes.items in
    let none : least_by (join_key model) (joins model routes) ≡ None =
    sym (ap (λ routes. least_by (join_key model) (joins model routes)) c.deref.ensures.value)
    ∙ sym c.in_ok-choice.ensures.best ∙ ap (option_map (join_of c.deref.result.now)) c.in-None.is in
    sym (merged-stops model (length c.args.routes.items - c.loop-step._step) routes none) ∙ c.loop-step.invariant.merges

pub returns-then-not-is_wanted-clause-merged : goal.returns-then-not-is_wanted-clause-merged
returns-then-not-is_wanted-clause-merged c =
    let model = c.args.lookups.now.closed.model.now in
    let routes : List (List ℕ) = c.loop-step.routes.items in
    let choice : JoinChoice = c.in-Some.choice in
    let found = found-read model routes c.deref.result.now choice _ c.len.result c.is_wanted.result c.deref.ensures.value
    c.in-Some.is c.in_ok-choice.ensures.best c.in_ok-choice.ensures.may (omega arith) c.is_wanted.ensures in
    sym (merged-unwanted model (length c.args.routes.items - c.loop-step._step) routes (join_of routes choice)
    found.best (sym found.tells ∙ c.if-not-is_wanted.true)) ∙ c.loop-step.invariant.merges

pub loop-step-preserved : goal.loop-step-preserved
loop-step-preserved c =
    let model = c.args.lookups.now.closed.model.now in
    let routes : List (List ℕ) = c.loop-step.routes.items in
    let choice : JoinChoice = c.in-Some.choice in
    let join : Join = join_of routes choice in
    let found = found-read model routes c.deref.result.now choice _ c.len.result c.is_wanted.result c.deref.ensures.value
    c.in-Some.is c.in_ok-choice.ensures.best c.in_ok-choice.ensures.may (omega arith) c.is_wanted.ensures in
    let n : ℕ = length c.args.routes.items in
    let after : c.in_ok-routes-in-Some.routes.items ≡ after_join routes join = c.in_ok-routes-in-Some.ensures
    ∙ ap (λ routes. after_join routes (join_of routes choice)) c.deref-in-Some.ensures.value in
    record {
      merges = ap (merged model (n - (c.loop-step._step + 1))) after
          ∙ sym (merged-next model (n - c.loop-step._step) (n - (c.loop-step._step + 1)) routes join found.best
          (sym found.tells ∙ c.if-not-is_wanted.false) (omega arith)) ∙ c.loop-step.invariant.merges;
      apart = subst (AreApart model) (sym after) (AreApart-joined model routes choice c.loop-step.invariant.apart found.may);
      number = c.raise.ensures.number ∙ (c.in_ok-choice.ensures.number ∙ c.loop-step.invariant.number);
      bounds = bounds-joined model routes join c.in_ok-routes-in-Some.routes.items
          c.best_join.new.bounds c.raise.new.bounds c.args.lookups.now.closed.well_formed after
          (subst (AreApart model) (sym after) (AreApart-joined model routes choice c.loop-step.invariant.apart found.may))
          (subst (λ rs. AreBounds model rs c.best_join.new.bounds) c.deref.ensures.value c.in_ok-choice.ensures.bounds)
          (subst (λ rs. AreRaised model rs c.best_join.new.bounds c.raise.new.bounds) c.deref-in-Some-2.ensures.value c.raise.ensures);
    }

pub raise-requires-clause-apart : goal.raise-requires-clause-apart
raise-requires-clause-apart c =
    let model = c.args.lookups.now.closed.model.now in
    let routes : List (List ℕ) = c.loop-step.routes.items in
    let choice : JoinChoice = c.in-Some.choice in
    let found = found-read model routes c.deref.result.now choice _ c.len.result c.is_wanted.result c.deref.ensures.value
    c.in-Some.is c.in_ok-choice.ensures.best c.in_ok-choice.ensures.may (omega arith) c.is_wanted.ensures in
    let after : c.in_ok-routes-in-Some.routes.items ≡ after_join routes (join_of routes choice) = c.in_ok-routes-in-Some.ensures
    ∙ ap (λ routes. after_join routes (join_of routes choice)) c.deref-in-Some.ensures.value in
    subst (AreApart model) (sym (c.deref-in-Some-2.ensures.value ∙ after)) (AreApart-joined model routes choice c.loop-step.invariant.apart found.may)
