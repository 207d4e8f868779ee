use Rattle.std.proofs.Common.{◌∙◌, ap, cond}
use Rattle.std.specs.Prelude.{◌&&◌}
use Rattle.vr_model.specs.routes.Routes.{holds}
use Rattle.vr_tabu.specs.Parts.{changes}
use Rattle.vr_tabu.specs.Tabus.{until_at}
use Rattle.vr_tabu.proofs.ChangedLemmas.{changed_stands}
use Rattle.vr_tabu.proofs.ForbidLemmas.{both_lists}
use Rattle.vr_tabu.proofs.tabu_list.TabuList.forbid.Goals as goal

pub returns-clause-until : goal.returns-clause-until
returns-clause-until c = λ visit.
    let list = c.args.list.now in
    c.forbid_some-2.ensures.until visit
    ∙ (ap (λ xs. cond (holds xs visit && changes list visit) c.args.until (until_at c.forbid_some.new.self visit)) c.old_visits.ensures
    ∙ (ap (λ now. cond (holds list.old visit && changes list visit) c.args.until now) (c.forbid_some.ensures.until visit)
    ∙ (ap (λ xs. cond (holds list.old visit && changes list visit) c.args.until
    (cond (holds xs visit && changes list visit) c.args.until (until_at c.args.self.now visit))) c.new_visits.ensures
    ∙ both_lists (holds list.new visit) (holds list.old visit) (changes list visit) c.args.until (until_at c.args.self.now visit) (changed_stands list visit))))
