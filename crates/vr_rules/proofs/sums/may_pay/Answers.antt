use Rattle.std.proofs.Common.{◌≡◌, ◌∙◌, ap, ap₂, not, of_z, sym, w64, arith}
use Rattle.std.proofs.lemmas.Bool.Decides.{Decides-int_eq}
use Rattle.std.proofs.lemmas.Int.{ints}
use Rattle.std.specs.Ordering.{int_eq}
use Rattle.std.specs.Prelude.{pos, ◌||◌}
use Rattle.vr_model.specs.tables.Tables.{dimension_at, no_dimension}
use Rattle.vr_model.proofs.tables.Tests.{fails}
use Rattle.vr_plan.specs.Paying.{may_pay_alone}
use Rattle.vr_rules.proofs.sums.may_pay.Goals as goal

pub returns-then-get-ne0 : goal.returns-then-get-ne0
returns-then-get-ne0 c =
    let dimension = dimension_at c.args.of.now.lookups.now.closed.model.now c.args.of.now.d in
    let same = ap (λ x. x.global_span_cost) (sym (c.get.ensures.value no_dimension)) in
    let some = fails (int_eq dimension.global_span_cost (pos 0))
    (λ t. c.if-get-ne0.true (ap (of_z w64) (same ∙ (Decides-int_eq dimension.global_span_cost (pos 0)).0 t))) in
    sym (ap (λ b. not b || may_pay_alone dimension c.args.v c.args.list.now) some)

pub returns : goal.returns
returns c =
    let dimension = dimension_at c.args.of.now.lookups.now.closed.model.now c.args.of.now.d in
    let none : c.get.result.now.global_span_cost ≡ pos 0 = omega (arith, ints, c.if-get-ne0.false) in
    let zero = (Decides-int_eq dimension.global_span_cost (pos 0)).1 (ap (λ x. x.global_span_cost) (c.get.ensures.value no_dimension) ∙ none) in
    sym (ap₂ (λ a b. not a || b) zero (sym c.may_pay_alone.ensures))
