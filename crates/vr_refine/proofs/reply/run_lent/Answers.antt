use Rattle.std.proofs.Common.{◌∙◌, sym}
use Rattle.vr_app.specs.declared.status.Status.TheVariants as all
use Rattle.vr_app.proofs.EndLemmas.{delivered, end-written, of_err, of_ok, same_status, settled_6, settled_by}
use Rattle.vr_refine.proofs.reply.run_lent.Goals as goal

pub returns-clause-ran : goal.returns-clause-ran
returns-clause-ran g c =
    let is = c.respond-reply.ensures in
    record {
      by = record {
        ends = delivered g.K.Sink.written g.K.Sink.faults _ _ _ _ _ _ _ (λ answer e. record {
          replies = of_ok _ is.reply answer e;
          unread = of_ok _ is.unread answer e;
          usage_only = of_ok _ is.usage_only answer e;
          not_met_only = of_ok _ is.not_met_only answer e;
          emptied = of_ok _ is.emptied answer e;
          settled = of_ok _ is.status answer e;
        }) (λ e. (is.fault (of_err e), is.reads (of_err e))) c.deliver.ensures.ends;
        source_quiet = λ other. is.quiet (λ e. other (c.deliver.ensures.stopped e));
        sink_quiet = c.deliver.ensures.quiet;
      };
      none_found_only = λ e. let it = end-written g.K.Sink.written g.K.Sink.faults _ _ _ _ _ c.deliver.ensures.ends (settled_by settled_6 e) in
          of_ok _ is.none_found_only it.answer it.responds (same_status it.answer.status all.NoneFound (sym it.status_is ∙ e));
    }
