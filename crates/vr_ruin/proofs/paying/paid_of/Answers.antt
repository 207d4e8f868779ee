use Rattle.std.proofs.Common.{arith}
use Rattle.std.proofs.lemmas.Int.{ints}
use Rattle.vr_ruin.proofs.PayLemmas.{are_read}
use Rattle.vr_ruin.proofs.paying.paid_of.Goals as goal

pub returns-clause-value : goal.returns-clause-value
returns-clause-value c =
    let h = c.requires in
    let r = are_read c.args.parts.now h in
    rw (r.arcs, r.fixed, r.global, r.soft, r.span, r.two, r.three, r.four_paid) (omega (
      arith,
      ints,
      h.arcs_low,
      h.arcs_high,
      h.fixed_low,
      h.fixed_high,
      h.global.low,
      h.global.high,
      h.penalty_low,
      h.penalty_high,
      h.soft_low,
      h.soft_high,
      h.span.low,
      h.span.high,
    ))

pub returns-clause-range : goal.returns-clause-range
returns-clause-range c =
    let h = c.requires in
    let r = are_read c.args.parts.now h in
    rw (r.arcs, r.fixed, r.global, r.soft, r.span, r.two, r.three, r.four_paid) (record {
      low = omega (
        arith,
        ints,
        h.arcs_low,
        h.arcs_high,
        h.fixed_low,
        h.fixed_high,
        h.global.low,
        h.global.high,
        h.penalty_low,
        h.penalty_high,
        h.soft_low,
        h.soft_high,
        h.span.low,
        h.span.high,
      );
      high = omega (
        arith,
        ints,
        h.arcs_low,
        h.arcs_high,
        h.fixed_low,
        h.fixed_high,
        h.global.low,
        h.global.high,
        h.penalty_low,
        h.penalty_high,
        h.soft_low,
        h.soft_high,
        h.span.low,
        h.span.high,
      );
    })
