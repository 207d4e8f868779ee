use Rattle.std.proofs.Common.{take, sym, subst}
use Rattle.vr_routes.specs.Changes.{IsPartBegun}
use Rattle.vr_routes.specs.Pieces.{ListAfter}
use Rattle.vr_routes.proofs.SpliceLemmas.{ended}
use Rattle.vr_routes.proofs.pieces.Part.end.Goals as goal

pub returns : goal.returns
returns c lists v front nodes low whole order before =
    let old : ListAfter = record {
      vehicle = c.self.inside.vehicle;
      pieces = take c.self.inside.used c.self.inside.pieces.items;
      front = c.self.inside.front;
      behind = c.self.inside.behind;
    } in
    let begun : IsPartBegun lists old v front nodes = subst (λ part. IsPartBegun lists part v front nodes) (sym c.self.view_is) before in
    ended lists old c.add.new.self v front c.args.behind c.args.n nodes c.add.ensures.vehicle
    c.add.ensures.front c.add.ensures.behind c.add.ensures.pieces low whole order c.requires.order begun
