use Rattle.std.proofs.Common.{◌∙◌, ap, sym, refl, arith}
use Rattle.std.proofs.lemmas.Int.{ints}
use Rattle.vr_model.specs.tables.Tables.{no_dimension}
use Rattle.vr_model.proofs.tables.Tests.{none_from_test, some_from_test}
use Rattle.vr_model.proofs.routes.Lists.{empty_where, not_empty}
use Rattle.vr_costfilter.proofs.reaches.timing_of_tour.Goals as goal

pub returns-then-is_empty : goal.returns-then-is_empty
returns-then-is_empty c = record {
  told = λ pays. empty_where c.args.tour.now.list.now (none_from_test _ _ c.if-is_empty.true c.is_empty.ensures);
  untold = λ zero. refl;
}

pub returns-then-get-eq0 : goal.returns-then-get-eq0
returns-then-get-eq0 c = record {
  told = λ pays. absurd (pays (ap (λ x. x.global_span_cost) (c.get.ensures.value no_dimension) ∙ omega (arith, ints, c.if-get-eq0.true)));
  untold = λ zero. refl;
}

pub returns : goal.returns
returns c = record {
  told = λ pays. record {
    used = not_empty c.args.tour.now.list.now (some_from_test _ _ c.if-is_empty.false c.is_empty.ensures);
    is_timing = c.in_ok-timing.ensures.timing;
    range = (let r = c.in_ok-timing.ensures.range in record { start = r.start_in_range; last = r.last_in_range });
  };
  untold =
      λ zero. absurd (let none = ap (λ x. x.global_span_cost) (sym (c.get.ensures.value no_dimension)) ∙ zero in omega (arith, ints, none, c.if-get-eq0.false));
}
