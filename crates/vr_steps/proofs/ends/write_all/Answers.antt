use Rattle.std.proofs.Common.{suc, ◌∷◌, length, subst, ap, ◌∙◌}
use Rattle.vr_steps.specs.Ways.{AreBegunBy}
use Rattle.vr_steps.proofs.ArcLemmas.{answered}
use Rattle.vr_steps.proofs.LevelLemmas.{begun_are, begun_by}
use Rattle.vr_steps.proofs.ends.write_all.Goals as goal

pub returns-clause-exact : goal.returns-clause-exact
returns-clause-exact c =
    let first = c.write_level.new.set in
    let more = c.write_further.new.sets.items in
    let rows_is = c.as_slice-rows.ensures.value ∙ c.breaks.view_is in
    subst (λ rows. AreBegunBy c.args.way c.args.allowed.now rows (first ∷ more)) rows_is
    (begun_by c.args.way c.args.allowed.now c.as_slice-rows.result.now first more
    (answered c.write_level.result c.is_err-2.result _ c.if-is_err-2.false c.is_err-2.ensures.value c.write_level.ensures)
    (answered c.write_further.result c.is_err-3.result _ c.if-is_err-3.false c.is_err-3.ensures.value c.write_further.ensures.each))

pub returns-clause-levels : goal.returns-clause-levels
returns-clause-levels c =
    let first = c.write_level.new.set in
    let more = c.write_further.new.sets.items in
    let rows_is = c.as_slice-rows.ensures.value ∙ c.breaks.view_is in
    let long = answered c.write_further.result c.is_err-3.result _ c.if-is_err-3.false c.is_err-3.ensures.value c.write_further.ensures.long in
    begun_are c.args.way c.args.allowed.now c.args.breaks.now (first ∷ more) (returns-clause-exact c) (ap suc (long ∙ ap length rows_is)) c.requires.allowed
