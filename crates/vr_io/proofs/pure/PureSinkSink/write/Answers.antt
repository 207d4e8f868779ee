use Rattle.std.proofs.Math.Seq.{take-length}
use Rattle.vr_io.proofs.KeptLemmas.{Took-known}
use Rattle.vr_io.proofs.pure.PureSinkSink.write.Goals as goal

pub returns-clause-takes : goal.returns-clause-takes
returns-clause-takes c = rw (c.keep.ensures, take-length) (Took-known c.args.self.now c.args.piece.now)
