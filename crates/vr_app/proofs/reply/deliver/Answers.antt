use Rattle.std.proofs.Common.{inl, inr, subst}
use Rattle.vr_io.specs.Edges.{Took}
use Rattle.vr_io.specs.Whole.{TookFront}
use Rattle.vr_app.proofs.reply.deliver.Goals as goal

pub returns-in-Ok-write_all-clause-ends : goal.returns-in-Ok-write_all-clause-ends
returns-in-Ok-write_all-clause-ends g c = inl (record {
  answer = c.in-Ok.answer;
  responds = c.in-Ok.is;
  status_is = c.number.ensures.number;
  took = subst (Took (g.K.Sink.written c.args.sink.now) (g.K.Sink.written c.write_all.new.sink)) c.as_slice.ensures c.in-Ok-write_all.ensures.ok;
})

pub returns-in-Ok-clause-ends : goal.returns-in-Ok-clause-ends
returns-in-Ok-clause-ends g c = inr (inl (record {
  answer = c.in-Ok.answer;
  responds = c.in-Ok.is;
  status_is = c.number-in-Err.ensures.number;
  took = subst (TookFront (g.K.Sink.written c.args.sink.now) (g.K.Sink.written c.write_all.new.sink)) c.as_slice.ensures c.in-Err.ensures.err;
  fault = c.in-Err.ensures.fault;
}))
