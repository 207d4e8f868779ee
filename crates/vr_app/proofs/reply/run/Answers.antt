use Rattle.std.proofs.Common.{inl, inr}
use Rattle.vr_app.specs.Runs.{bytes_of}
use Rattle.vr_app.proofs.EndLemmas as ending
use Rattle.vr_app.proofs.RunLemmas as run
use Rattle.vr_app.proofs.StatusLemmas as asked
use Rattle.vr_app.proofs.reply.run.Goals as goal

pub returns-clause-reply : goal.returns-clause-reply
returns-clause-reply g c = let ran = c.run_lent.ensures.ran in record {
  read = ending.replies ran.by;
  unread = ending.unread ran.by;
  front = ending.front ran.by;
  unread_front = ending.unread_front ran.by;
}

pub returns-clause-complete : goal.returns-clause-complete
returns-clause-complete g c = let ran = c.run_lent.ensures.ran in record {
  read = λ reads bytes known short calm quiet. ending.complete ran.by bytes known calm quiet;
  unread = ending.complete_unread ran.by;
}

pub returns-clause-solving : goal.returns-clause-solving
returns-clause-solving g c = let ran = c.run_lent.ensures.ran in record {
  done = λ settled solves bytes known. (run.classifies-first ran settled solves bytes known).done;
  solution = run.solution ran;
  none_found = λ settled solves bytes known. (run.classifies-first ran settled solves bytes known).undone;
  none_found_only = asked.none_found_only (bytes_of c.args.words.now) _ ran.settles;
  refused = λ settled solves bytes known. (run.classifies-first ran settled solves bytes known).refused;
  refusal = run.refusal ran;
}

pub returns-clause-checking : goal.returns-clause-checking
returns-clause-checking g c = let ran = c.run_lent.ensures.ran in record {
  met = λ settled checks bytes known. (run.classifies-met ran settled checks bytes known).done;
  kept = run.kept ran;
  spans = run.spans ran;
  not_met = λ settled checks bytes known. (run.classifies-met ran settled checks bytes known).undone;
  broken = run.broken ran;
  not_met_only = ending.not_met_only ran.by;
  refused = λ settled checks bytes known. (run.classifies-met ran settled checks bytes known).refused;
  refusal = run.check_refusal ran;
}

pub returns-clause-importing : goal.returns-clause-importing
returns-clause-importing g c = let ran = c.run_lent.ensures.ran in record {
  imported = λ settled vehicles imports bytes known. (run.classifies-file ran settled vehicles imports bytes known).done;
  model = run.model ran;
  flawed = λ settled vehicles imports bytes known. (run.classifies-file ran settled vehicles imports bytes known).flawed;
  flaw = run.flaw ran;
}

pub returns-clause-cause : goal.returns-clause-cause
returns-clause-cause g c = let ran = c.run_lent.ensures.ran in record {
  too_long = λ settled reads bytes known. (run.classifies-text ran settled reads bytes known).too_long;
  not_json = λ settled reads bytes known. (run.classifies-text ran settled reads bytes known).not_json;
  too_long_only = asked.too_long_only (bytes_of c.args.words.now) _ ran.settles;
  not_json_only = asked.not_json_only (bytes_of c.args.words.now) _ ran.settles;
  refused_only = asked.refused_only (bytes_of c.args.words.now) _ ran.settles;
  usage = run.usage ran;
  usage_only = ending.usage_only ran.by;
  numbered = run.numbered ran;
}

pub returns-clause-failed : goal.returns-clause-failed
returns-clause-failed g c = let ran = c.run_lent.ensures.ran in record {
  read_fault = λ e. (ending.is_failed ran.by e).1.0;
  reads = λ e. (ending.is_failed ran.by e).1.1;
  write_fault = ending.write_fault ran.by;
  read_fault_only = ran.by.source_quiet;
  write_fault_only = ran.by.sink_quiet;
}

pub returns-clause-unwritten : goal.returns-clause-unwritten
returns-clause-unwritten g c (inl e) = (ending.is_failed c.run_lent.ensures.ran.by e).0.same
returns-clause-unwritten g c (inr e) = (ending.is_starved c.run_lent.ensures.ran.by e).same

pub returns-clause-emptied : goal.returns-clause-emptied
returns-clause-emptied g c = ending.emptied c.run_lent.ensures.ran.by
