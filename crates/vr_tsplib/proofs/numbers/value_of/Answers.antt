use Rattle.std.proofs.Common.{◌+◌, ◌-◌, ◌*◌, get_or, drop, length, sym, ap, ◌∙◌, arith}
use Rattle.std.proofs.lemmas.List.{at_drop_more, at_drop_all}
use Rattle.vr_tsplib.specs.Numbers.{digits_behind}
use Rattle.vr_tsplib.proofs.RowLemmas.{digit_low, digits_fit, no_digit, no_digit_more, one_digit_more, one_power_more, power_low}
use Rattle.vr_tsplib.proofs.numbers.value_of.Goals as goal

pub returns-then-not-is_digit-clause-value : goal.returns-then-not-is_digit-clause-value
returns-then-not-is_digit-clause-value c =
    let text = c.args.text.now in
    let k = c.loop-b.b-index in
    sym (no_digit c.loop-b.value (get_or text k 0) (drop (k + 1) text) (sym c.is_digit.ensures ∙ c.if-not-is_digit.true))
    ∙ sym (at_drop_more (digits_behind c.loop-b.value) text k 0 c.loop-b-test.true) ∙ c.loop-b.invariant.so_far

pub overflow_mul-value : goal.overflow_mul-value
overflow_mul-value c = omega (arith, digits_fit c.loop-b.value c.loop-b.b-index c.loop-b.invariant.small (omega (arith, c.loop-b-test.true, c.requires)))

pub overflow_add-value : goal.overflow_add-value
overflow_add-value c =
    let b = get_or c.args.text.now c.loop-b.b-index 0 in
    omega (
      arith,
      digits_fit c.loop-b.value c.loop-b.b-index c.loop-b.invariant.small (omega (arith, c.loop-b-test.true, c.requires)),
      digit_low b (sym c.is_digit.ensures ∙ c.if-not-is_digit.false),
    )

pub loop-b-preserved : goal.loop-b-preserved
loop-b-preserved c =
    let text = c.args.text.now in
    let n = c.loop-b.value in
    let k = c.loop-b.b-index in
    let b = get_or text k 0 in
    let is = sym c.is_digit.ensures ∙ c.if-not-is_digit.false in
    let digit = c.from.ensures in
    record {
      so_far = ap (λ d. digits_behind (n * 10 + d) (drop (k + 1) text)) digit ∙ sym (one_digit_more n b (drop (k + 1) text) is)
          ∙ sym (at_drop_more (digits_behind n) text k 0 c.loop-b-test.true) ∙ c.loop-b.invariant.so_far;
      small = one_power_more n k c.from.result c.loop-b.invariant.small (omega (arith, digit, digit_low b is));
    }

pub returns-clause-value : goal.returns-clause-value
returns-clause-value c =
    let text = c.args.text.now in
    sym (no_digit_more c.loop-b.value) ∙ sym (at_drop_all (digits_behind c.loop-b.value) text c.loop-b.b-index c.loop-b-test.false) ∙ c.loop-b.invariant.so_far

pub returns-clause-small : goal.returns-clause-small
returns-clause-small c = power_low c.loop-b.value c.loop-b.b-index c.loop-b.invariant.small (omega (arith, c.requires, c.loop-b.auto.b-index-end))
