use Rattle.std.proofs.Common.{subst}
use Rattle.vr_steps.specs.Levels.{AreLevels}
use Rattle.vr_reach.proofs.AlongLemmas.{crossing_by}
use Rattle.vr_reach.proofs.DrivenLemmas.{next_on}
use Rattle.vr_reach.proofs.standing.cross_arc.Goals as goal

pub cross_from-requires : goal.cross_from-requires
cross_from-requires c =
    let of = c.args.stops.now.of in
    crossing_by of.closed.model.now of.d of.v c.args.stops.now.ends.now c.args.stops.now.ends_are.breaks_are c.args.from.now
    c.requires.from.form c.hop_from-hop.result c.hop_from-hop.ensures.sound c.set_at-next.result.now c.set_at-next.ensures.cumuls

pub returns : goal.returns
returns c =
    let same = c.args.stops.now.ends_are.breaks_are.same in record {
      form = subst (λ breaks. AreLevels breaks c.cross_from.new.self) same c.in_ok-cross_from.ensures.levels;
      reached =
          next_on c.args.stops.now.of c.args.stops.now.ends.now.breaks same c.args.k c.requires.stop c.hop_from-hop.result c.hop_from-hop.ensures.exact
          c.set_at-next.result.now c.set_at-next.ensures c.args.from.now c.cross_from.new.self c.requires.from.reached c.in_ok-cross_from.ensures.exact;
    }
