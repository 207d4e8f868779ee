use Rattle.std.proofs.Common.{◌∙◌, Some, ap, subst, sym}
use Rattle.vr_app.specs.Statuses.{IsOfRequest}
use Rattle.vr_app.proofs.StatusLemmas.{demo_is_done}
use Rattle.vr_app.proofs.reply.respond.Goals as goal

pub returns-in_ok-demo-in-Some-Demo-clause-of_words : goal.returns-in_ok-demo-in-Some-Demo-clause-of_words
returns-in_ok-demo-in-Some-Demo-clause-of_words g c =
    let answer = c.in_ok-demo-in-Some-Demo.field-0 in
    subst (λ o. IsOfRequest o answer.status) (sym (ap Some c.in-Some-Demo.field-0-is) ∙ c.in-Some-Demo.ensures.request)
    (demo_is_done c.in-Some-Demo.number answer c.in_ok-demo-in-Some-Demo.ensures.reply)
