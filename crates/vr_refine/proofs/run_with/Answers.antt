use Rattle.vr_refine.specs.Logged.{IsLogged}
use Rattle.vr_refine.proofs.run_with.Goals as goal

pub returns : goal.returns
unfolding IsLogged
returns g c =
    let e = c.run.ensures in
    record {
      status = e.status;
      reply = e.reply;
      complete = e.complete;
      pricing = e.pricing;
      searching = e.searching;
      cause = e.cause;
      failed = e.failed;
      unwritten = e.unwritten;
      emptied = e.emptied;
      untouched = e.untouched;
    }
