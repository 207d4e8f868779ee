use Rattle.std.proofs.Common.{◌+◌, ap, sym, subst}
use Rattle.vr_strings.specs.Strings.{IsStringAt}
use Rattle.vr_strings.proofs.DrawnStrings.{string_fits}
use Rattle.vr_strings.proofs.drawing.draw_string.Goals as goal

pub returns-clause-there : goal.returns-clause-there
returns-clause-there c =
    let size = c.draw_size-size.result in
    let first = c.draw_first-first.result in
    subst (λ s. IsStringAt c.args.n c.args.p (record { first = first; width = size.out + size.kept; stays = s }))
    (sym (ap (λ r. r.0) c.draw_stay-stays.ensures))
    (string_fits c.args.n c.args.p first size c.draw_first-first.new.words c.draw_size-size.ensures.fits
    (record { from = c.draw_first-first.ensures.from; until = c.draw_first-first.ensures.until; to = c.draw_first-first.ensures.to }))
