-- The parts of the cost of open lists, and the sums of the first of them, fit 64 bits.
use Rattle.std.proofs.Common.{◌≡◌, ◌+ℤ◌, arith}
use Rattle.std.proofs.lemmas.Int.{ints}
use Rattle.vr_model.specs.declared.records.Parts.{Parts}
use Rattle.vr_rules.specs.Totals.{AreInRange}
use Rattle.vr_rules.proofs.TotalLemmas.{read}

-- each part, and each sum of the first ones, is read as it is
pub record AreRead (parts : Parts) : Type 0 where
  pub arcs : read parts.arcs ≡ parts.arcs
  pub fixed : read parts.fixed ≡ parts.fixed
  pub global : read parts.global ≡ parts.global
  pub penalty : read parts.penalty ≡ parts.penalty
  pub soft : read parts.soft ≡ parts.soft
  pub span : read parts.span ≡ parts.span
  pub two : read (parts.arcs +ℤ parts.fixed) ≡ (parts.arcs +ℤ parts.fixed)
  pub three : read (parts.arcs +ℤ parts.fixed +ℤ parts.global) ≡ (parts.arcs +ℤ parts.fixed +ℤ parts.global)
  pub four : read (parts.arcs +ℤ parts.fixed +ℤ parts.global +ℤ parts.penalty) ≡ (parts.arcs +ℤ parts.fixed +ℤ parts.global +ℤ parts.penalty)
  pub five : read (parts.arcs +ℤ parts.fixed +ℤ parts.global +ℤ parts.penalty +ℤ parts.soft)
      ≡ (parts.arcs +ℤ parts.fixed +ℤ parts.global +ℤ parts.penalty +ℤ parts.soft)
  pub four_paid : read (parts.arcs +ℤ parts.fixed +ℤ parts.global +ℤ parts.soft) ≡ (parts.arcs +ℤ parts.fixed +ℤ parts.global +ℤ parts.soft)

pub are_read : (parts : Parts) → AreInRange parts → AreRead parts
are_read parts h = record {
  arcs = omega (arith, ints, h.arcs_low, h.arcs_high);
  fixed = omega (arith, ints, h.fixed_low, h.fixed_high);
  global = omega (arith, ints, h.global.low, h.global.high);
  penalty = omega (arith, ints, h.penalty_low, h.penalty_high);
  soft = omega (arith, ints, h.soft_low, h.soft_high);
  span = omega (arith, ints, h.span.low, h.span.high);
  two = omega (arith, ints, h.arcs_low, h.arcs_high, h.fixed_low, h.fixed_high);
  three = omega (arith, ints, h.arcs_low, h.arcs_high, h.fixed_low, h.fixed_high, h.global.low, h.global.high);
  four = omega (arith, ints, h.arcs_low, h.arcs_high, h.fixed_low, h.fixed_high, h.global.low, h.global.high, h.penalty_low, h.penalty_high);
  five = omega
      (arith, ints, h.arcs_low, h.arcs_high, h.fixed_low, h.fixed_high, h.global.low, h.global.high, h.penalty_low, h.penalty_high, h.soft_low, h.soft_high);
  four_paid = omega (arith, ints, h.arcs_low, h.arcs_high, h.fixed_low, h.fixed_high, h.global.low, h.global.high, h.soft_low, h.soft_high);
}
