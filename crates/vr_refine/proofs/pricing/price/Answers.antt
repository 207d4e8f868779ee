use Rattle.std.proofs.Common.{◌∙◌, Option, ap, sym, subst}
use Rattle.std.specs.Prelude.{IfOk, is_none}
use Rattle.vr_app.specs.Answers.{AnswersReply}
use Rattle.vr_given.specs.declared.faults.ListFault.{ListFault}
use Rattle.vr_given.proofs.FaultLemmas.{faultless-valid}
use Rattle.vr_refine.specs.Reply.{reply_to_lists}
use Rattle.vr_refine.proofs.pricing.price.Goals as goal

pub answer_valid-requires : goal.answer_valid-requires
answer_valid-requires c =
    sym (faultless-valid c.args.lookups.now.closed.model.now c.args.lists.now c.requires) ∙ ap is_none (sym c.in_ok-fault.ensures ∙ c.in-None.is)

pub returns-in-Some-clause-reply : goal.returns-in-Some-clause-reply
returns-in-Some-clause-reply c =
    let model = c.args.lookups.now.closed.model.now in
    let P : Option ListFault → Type 0 = λ fault. IfOk c.answer_fault.result (AnswersReply (reply_to_lists model c.args.lists.now fault)) in
    subst P (sym c.in-Some.is ∙ c.in_ok-fault.ensures) (c.answer_fault.ensures.reply model c.args.lists.now)
