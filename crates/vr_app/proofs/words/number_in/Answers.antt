use Rattle.std.proofs.Common.{◌∙◌, ap, sym}
use Rattle.vr_app.proofs.NumberLemmas.{as-option, parsed}
use Rattle.vr_app.proofs.words.number_in.Goals as goal

pub returns-in-Ok : goal.returns-in-Ok
returns-in-Ok c = ap as-option (sym c.in-Ok.is)
    ∙ parsed c.args.word.now (sym c.is_numeral.ensures ∙ c.if-not-is_numeral.false) c.parse.result c.parse.ensures.value.0

pub returns-in-Err : goal.returns-in-Err
returns-in-Err c = ap as-option (sym c.in-Err.is)
    ∙ parsed c.args.word.now (sym c.is_numeral.ensures ∙ c.if-not-is_numeral.false) c.parse.result c.parse.ensures.value.0
