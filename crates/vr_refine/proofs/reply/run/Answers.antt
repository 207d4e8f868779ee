use Rattle.std.proofs.Common.{inl, inr}
use Rattle.vr_app.proofs.EndLemmas as ending
use Rattle.vr_refine.proofs.RunLemmas as run
use Rattle.vr_refine.proofs.reply.run.Goals as goal

pub returns-clause-reply : goal.returns-clause-reply
returns-clause-reply g c = let ran = c.run_lent.ensures.ran in record {
  read = ending.replies ran.by;
  unread = ending.unread ran.by;
  front = ending.front ran.by;
  unread_front = ending.unread_front ran.by;
}

pub returns-clause-complete : goal.returns-clause-complete
returns-clause-complete g c = let ran = c.run_lent.ensures.ran in record {
  read = λ reads bytes known short calm quiet. ending.complete ran.by bytes known calm quiet;
  unread = ending.complete_unread ran.by;
}

pub returns-clause-pricing : goal.returns-clause-pricing
returns-clause-pricing g c = let ran = c.run_lent.ensures.ran in record {
  done = λ settled asks bytes known. (run.classifies-priced ran settled asks bytes known).done;
  price = run.price ran;
  not_met = λ settled asks bytes known. (run.classifies-priced ran settled asks bytes known).undone;
  broken = run.broken ran;
  not_met_only = ending.not_met_only ran.by;
  refused = λ settled asks bytes known. (run.classifies-priced ran settled asks bytes known).refused;
  refusal = run.refusal ran;
}

pub returns-clause-searching : goal.returns-clause-searching
returns-clause-searching g c = let ran = c.run_lent.ensures.ran in record {
  done = λ asked settled asks bytes known. (run.classifies-found ran asked settled asks bytes known).done;
  solution = run.solution ran;
  none_found = λ asked settled asks bytes known. (run.classifies-found ran asked settled asks bytes known).undone;
  none_found_only = ran.none_found_only;
  refused = λ asked settled asks bytes known. (run.classifies-found ran asked settled asks bytes known).refused;
  refusal = run.search_refusal ran;
}

pub returns-clause-cause : goal.returns-clause-cause
returns-clause-cause g c = let ran = c.run_lent.ensures.ran in record {
  too_long = λ settled reads bytes known. (run.classifies-text ran settled reads bytes known).too_long;
  not_json = λ settled reads bytes known. (run.classifies-text ran settled reads bytes known).not_json;
  too_long_only = run.too_long_only ran;
  not_json_only = run.not_json_only ran;
  refused_only = run.refused_only ran;
  usage = run.usage ran;
  usage_only = ending.usage_only ran.by;
}

pub returns-clause-failed : goal.returns-clause-failed
returns-clause-failed g c = let ran = c.run_lent.ensures.ran in record {
  read_fault = λ e. (ending.is_failed ran.by e).1.0;
  reads = λ e. (ending.is_failed ran.by e).1.1;
  write_fault = ending.write_fault ran.by;
  read_fault_only = ran.by.source_quiet;
  write_fault_only = ran.by.sink_quiet;
}

pub returns-clause-unwritten : goal.returns-clause-unwritten
returns-clause-unwritten g c (inl e) = (ending.is_failed c.run_lent.ensures.ran.by e).0.same
returns-clause-unwritten g c (inr e) = (ending.is_starved c.run_lent.ensures.ran.by e).same

pub returns-clause-emptied : goal.returns-clause-emptied
returns-clause-emptied g c = ending.emptied c.run_lent.ensures.ran.by
