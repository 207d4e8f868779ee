use Rattle.std.proofs.Common.{◌∙◌, sym}
use Rattle.vr_reach.proofs.RunLemmas.{none_of}
use Rattle.vr_reach.proofs.single.runs_between.Goals as goal

pub returns-clause-runs : goal.returns-clause-runs
returns-clause-runs c = record {
  no_breaks = sym c.requires ∙ none_of c.args.ends.now.breaks (sym c.has_no_breaks.ensures ∙ c.if-not-has_no_breaks.false);
  from = c.in_ok-from.ensures.run;
  to = c.in_ok-to.ensures.run;
}
