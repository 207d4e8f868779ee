use Rattle.std.proofs.Common.{subst}
use Rattle.std.specs.Prelude.{IfOk}
use Rattle.serde_json.specs.Data.{Data}
use Rattle.vr_app.specs.Answers.{AnswersReply}
use Rattle.vr_app.specs.Input.{model_of_value}
use Rattle.vr_app.specs.Reply.{reply_of_demo, summary_of_model}
use Rattle.vr_app.proofs.demo.demo.Goals as goal

pub returns-clause-reply : goal.returns-clause-reply
unfolding reply_of_demo
returns-clause-reply c =
    let P : Data → Type 0 = λ d. IfOk c.summary_of_tree.result (AnswersReply (summary_of_model c.args.number (model_of_value d))) in
    subst P c.in_ok-tree.ensures c.summary_of_tree.ensures.reply
