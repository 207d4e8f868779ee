use Rattle.std.proofs.Common.{arith}
use Rattle.vr_io.proofs.KeptLemmas.{kept_full}
use Rattle.vr_io.proofs.pure.PureSink.keep.Goals as goal

pub returns-then-n-piece : goal.returns-then-n-piece
returns-then-n-piece c = rw (← c.self.view_is) (kept_full c.self.inside.room.items c.put.new.room.items c.args.piece.now
    c.self.inside.taken c.min-n.result _ _ c.self.inside.full (omega arith) (omega arith) c.put.ensures.len (omega arith) c.put.ensures.bytes)
