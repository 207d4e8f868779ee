use Rattle.std.proofs.Common.{◌∙◌, ap}
use Rattle.std.proofs.lemmas.Result.{on_ok_weaker}
use Rattle.vr_steps.specs.Lines.{hop_between}
use Rattle.vr_rules.proofs.FrontLemmas.{behind_visit, tail_is, to_visit, visit_set_at}
use Rattle.vr_rules.proofs.fronts.Front.leave.Goals as goal

pub cross_from-requires : goal.cross_from-requires
cross_from-requires c =
    to_visit c.args.closed.model.now c.args.list.now c.args.self.now c.requires.front c.args.self.now.here c.hop-arc.result
    c.args.node c.index-next.result.now c.requires.front.form c.hop-arc.ensures.sound c.index-next.ensures c.requires.visit

pub returns-clause-reached : goal.returns-clause-reached
returns-clause-reached c =
    let model = c.args.closed.model.now in
    let d = c.args.self.now.dimension in
    let v = c.args.self.now.vehicle in
    let list = c.args.list.now in
    let front = c.requires.front in
    let set = visit_set_at model d v _ front.visits c.args.node c.index-next.result.now c.index-next.ensures c.requires.visit in
    let arc = c.hop-arc.ensures.exact ∙ ap (λ origin. hop_between model d v origin c.args.node) (c.last_stop-origin.ensures ∙ tail_is model v list) in
    on_ok_weaker _
    (λ exact. behind_visit model c.args.closed.well_formed d v front.dimension front.vehicle
    list c.args.self.now.here c.cross_from.new.self c.hop-arc.result c.index-next.result.now
    c.args.self.now.breaks front.reached front.breaks exact c.args.node arc set) c.cross_from.ensures.exact
