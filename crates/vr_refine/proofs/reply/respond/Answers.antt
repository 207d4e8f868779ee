use Rattle.std.proofs.Common.{sym}
use Rattle.std.proofs.lemmas.Result.{IfOk-weaker}
use Rattle.vr_app.specs.Runs.{bytes_of}
use Rattle.vr_refine.proofs.RunLemmas.{solution_asked}
use Rattle.vr_refine.proofs.reply.respond.Goals as goal

pub returns-in-Some-clause-none_found_only : goal.returns-in-Some-clause-none_found_only
returns-in-Some-clause-none_found_only g c =
    IfOk-weaker c.respond_to_input.result _ _
    (λ a other none. solution_asked (bytes_of c.args.words.now) c.in-Some.request (sym c.in-Some.ensures) (other none))
    c.respond_to_input.ensures.none_found_only
