use Rattle.vr_app.specs.Runs.{bytes_of}
use Rattle.vr_app.proofs.EndLemmas.{delivered, end-written, of_err, of_ok}
use Rattle.vr_app.proofs.StatusLemmas.{not_met_of, usage_of}
use Rattle.vr_app.proofs.reply.run_lent.Goals as goal

pub returns-clause-ran : goal.returns-clause-ran
returns-clause-ran g c =
    let is = c.respond-reply.ensures in
    let words = bytes_of c.args.words.now in
    record {
      by = record {
        ends = delivered g.K.Sink.written g.K.Sink.faults _ _ _ _ _ _ _ (λ answer e. record {
          replies = of_ok _ is.reply answer e;
          unread = of_ok _ is.unread answer e;
          usage_only = usage_of words answer.status (of_ok _ is.of_words answer e);
          not_met_only = not_met_of words answer.status (of_ok _ is.of_words answer e);
          emptied = of_ok _ is.emptied answer e;
          settled = of_ok _ is.status answer e;
        }) (λ e. (is.fault (of_err e), is.reads (of_err e))) c.deliver.ensures.ends;
        source_quiet = λ other. is.quiet (λ e. other (c.deliver.ensures.stopped e));
        sink_quiet = c.deliver.ensures.quiet;
      };
      settles = λ settled. let it = end-written g.K.Sink.written g.K.Sink.faults _ _ _ _ _ c.deliver.ensures.ends settled in
          (it.answer.status, it.status_is, of_ok _ is.of_words it.answer it.responds);
    }
