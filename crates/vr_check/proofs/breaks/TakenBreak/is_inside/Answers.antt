use Rattle.std.proofs.Common.{◌≡◌, ◌∙◌, ◌&&◌, ◌+◌, suc, true, ◌+ℤ◌, sym, ap, ap₂, arith}
use Rattle.std.specs.Prelude.{int_le}
use Rattle.std.proofs.lemmas.Int.{ints}
use Rattle.vr_model.specs.schedules.Schedules.{cumul, arc_at, break_start, break_end}
use Rattle.vr_model.specs.deciding.Testing.{test_of_le}
use Rattle.vr_check.specs.Asked.{asked_line}
use Rattle.vr_check.specs.Breaks.{plan_of_taken}
use Rattle.vr_check.proofs.Widths.{narrow, wide}
use Rattle.vr_check.proofs.breaks.TakenBreak.is_inside.Goals as goal

pub overflow_add-free : goal.overflow_add-free
overflow_add-free c = omega (arith, ints, c.from.ensures, c.from-2.ensures, c.visit.type_inv, c.cumul_at.type_inv)

pub overflow_add-k : goal.overflow_add-k
overflow_add-k c = omega (arith, c.requires.arc, c.args.self.now.taken.of.fits.slacks, c.args.self.now.taken.of.asked.known.few)

pub returns-then-free-from : goal.returns-then-free-from
returns-then-free-from c =
    let line = asked_line c.args.self.now.taken.of.asked in
    let plan = plan_of_taken c.args.self.now.taken in
    let next : c.args.k + 1 ≡ suc c.args.k = omega arith in
    let first : int_le (cumul plan c.args.k +ℤ (arc_at line c.args.k).visit) (break_start plan c.args.self.now.i) ≡ true
    = test_of_le (cumul plan c.args.k +ℤ (arc_at line c.args.k).visit) (break_start plan c.args.self.now.i) (omega (
      arith,
      ints,
      c.if-free-from.true,
      c.from.ensures,
      c.from-2.ensures,
      c.from-3.ensures,
      c.cumul_at.ensures,
      c.visit.ensures.value,
      c.start.ensures,
      c.cumul_at.type_inv,
      c.visit.type_inv,
      c.start.type_inv,
    )) in
    ap₂ int_le (wide c.end.result c.end.type_inv ∙ c.end.ensures)
    (wide c.from-then-free-from.result c.from-then-free-from.type_inv ∙ c.from-then-free-from.ensures
    ∙ narrow c.cumul_at-then-free-from.result c.cumul_at-then-free-from.type_inv ∙ c.cumul_at-then-free-from.ensures ∙ ap (cumul plan) next)
    ∙ sym (ap (λ b. b && int_le (break_end line plan c.args.self.now.i) (cumul plan (suc c.args.k))) first)
