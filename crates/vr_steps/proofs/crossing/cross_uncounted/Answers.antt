use Rattle.std.proofs.Common.{[], ◌∷◌, suc, length, All, ap, sym, subst, ◌∙◌, arith}
use Rattle.vr_steps.specs.Levels.{IsCumuls}
use Rattle.vr_steps.proofs.ArcLemmas.{answered}
use Rattle.vr_steps.proofs.LevelLemmas.{crossed_are, no_breaks, plain_crossed}
use Rattle.vr_steps.proofs.crossing.cross_uncounted.Goals as goal

pub write_plain-requires-clause-from : goal.write_plain-requires-clause-from
write_plain-requires-clause-from c = (subst (All IsCumuls) (sym c.from.view_is) c.requires.form.cumuls) 0 [] (omega arith)

pub returns-clause-exact : goal.returns-clause-exact
returns-clause-exact c =
    let none = no_breaks c.args.breaks.now c.breaks.inside.rows.items c.is_empty.result c.if-not-is_empty.false c.is_empty.ensures c.breaks.view_is in
    plain_crossed c.args.way c.args.from.now c.args.hop c.args.within.now c.args.breaks.now c.from.inside.first c.write_plain.new.set _ _ none c.from.view_is
    (answered c.write_plain.result c.is_err.result _ c.if-is_err.false c.is_err.ensures.value c.write_plain.ensures)

pub returns-clause-levels : goal.returns-clause-levels
returns-clause-levels c =
    let none = no_breaks c.args.breaks.now c.breaks.inside.rows.items c.is_empty.result c.if-not-is_empty.false c.is_empty.ensures c.breaks.view_is in
    crossed_are c.args.way c.args.from.now c.args.hop c.args.within.now c.args.breaks.now
    (c.write_plain.new.set ∷ c.empty.new.sets.items) (returns-clause-exact c)
    (ap suc (ap length c.empty.ensures ∙ sym (ap length none))) c.requires.cumuls
