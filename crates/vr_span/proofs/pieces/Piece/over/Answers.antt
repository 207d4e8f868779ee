use Rattle.vr_span.specs.Pieces.{moved_piece}
use Rattle.vr_span.proofs.PieceLemmas.{same_piece}
use Rattle.vr_span.proofs.ReadLemmas.{end_fits, end_read, least_read, moved_read, near_read}
use Rattle.vr_span.proofs.pieces.Piece.over.Goals as goal

pub overflow_add-result-2 : goal.overflow_add-result-2
overflow_add-result-2 c =
    let near = c.requires.near in
    let hop = c.requires.hop in
    let least = least_read c.min.result c.args.self.hi c.args.hop.slack c.args.until c.min.ensures.value near.hi hop.slack c.requires.until in
    end_fits c.min.result c.args.self.hi c.args.hop.slack c.args.until c.args.hop.transit least near.hi hop.slack c.requires.until hop.transit

pub returns : goal.returns
returns c =
    let near = c.requires.near in
    let hop = c.requires.hop in
    let least = least_read c.min.result c.args.self.hi c.args.hop.slack c.args.until c.min.ensures.value near.hi hop.slack c.requires.until in
    same_piece _ (moved_piece c.args.hop c.args.until c.args.self) (moved_read c.args.self.lo c.args.hop.transit near.lo hop.transit)
    (end_read c.min.result c.args.self.hi c.args.hop.slack c.args.until c.args.hop.transit least near.hi hop.slack c.requires.until hop.transit)
    (near_read c.args.self.first near.first) (near_read c.args.self.last near.last)
