use Rattle.std.proofs.Common.{◌∙◌, ap, sym, subst, refl, arith}
use Rattle.std.proofs.lemmas.Int.{ints}
use Rattle.std.specs.Prelude.{IfOk}
use Rattle.vr_model.specs.tables.Tables.{no_dimension}
use Rattle.vr_costfilter.specs.GlobalCosts.{IsTimedIfPaid}
use Rattle.vr_costfilter.proofs.KnownLemmas.{tour-of}
use Rattle.vr_costfilter.proofs.PartLemmas.{list-of-part}
use Rattle.vr_costfilter.specs.PartsAfter.{list_after}
use Rattle.vr_costfilter.proofs.reaches.kept_after.Goals as goal

pub returns-then-is_empty : goal.returns-then-is_empty
returns-then-is_empty c = record {
  told = λ pays. sym c.is_empty.ensures ∙ c.if-is_empty.true;
  untold = λ zero. refl;
}

pub returns-then-get-eq0 : goal.returns-then-get-eq0
returns-then-get-eq0 c = record {
  told = λ pays. absurd (pays (ap (λ x. x.global_span_cost) (c.get.ensures.value no_dimension) ∙ omega (arith, ints, c.if-get-eq0.true)));
  untold = λ zero. refl;
}

pub timing_after-told-requires-clause-some : goal.timing_after-told-requires-clause-some
timing_after-told-requires-clause-some c = sym c.is_empty.ensures ∙ c.if-is_empty.false

pub returns-in-Some : goal.returns-in-Some
returns-in-Some c = record {
  told = λ pays. record {
    used = sym c.is_empty.ensures ∙ c.if-is_empty.false;
    is_timing = c.in-Some.ensures.timing;
    range = (let r = c.in-Some.ensures.range in record { start = r.start_in_range; last = r.last_in_range });
  };
  untold =
      λ zero. absurd (let none = ap (λ x. x.global_span_cost) (sym (c.get.ensures.value no_dimension)) ∙ zero in omega (arith, ints, none, c.if-get-eq0.false));
}

pub invariant_of-tour : goal.invariant_of-tour
invariant_of-tour c =
    let part = c.args.part.now in
    record {
      sound = tour-of part.model.now c.vehicle.result (list_after part) c.vehicle.ensures.known
          (list-of-part part) c.as_slice.result.now (c.as_slice.ensures.value ∙ c.write.ensures.list);
    }

pub returns : goal.returns
returns c =
    let m = c.args.part.now.model.now in
    let found = c.timing_of_tour.result in
    subst (λ v. IfOk found (IsTimedIfPaid m c.args.d v (list_after c.args.part.now))) c.vehicle.ensures.value
    (subst (λ l. IfOk found (IsTimedIfPaid m c.args.d c.vehicle.result l)) (c.as_slice.ensures.value ∙ c.write.ensures.list) c.timing_of_tour.ensures)
