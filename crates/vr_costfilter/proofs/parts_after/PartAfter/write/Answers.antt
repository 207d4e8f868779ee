use Rattle.std.proofs.Common.{◌∙◌, ◌≤◌, length, ap, sym, subst}
use Rattle.std.specs.Prelude.{IsTrue}
use Rattle.std.specs.List.{list_all}
use Rattle.vr_model.specs.routes.Routes.{is_distinct}
use Rattle.vr_model.specs.tables.Tables.{is_visit}
use Rattle.vr_routes.specs.Pieces.{joined}
use Rattle.vr_costfilter.proofs.PartLemmas.{list-of-part}
use Rattle.vr_costfilter.proofs.parts_after.PartAfter.write.Goals as goal

pub join_into-requires-clause-room : goal.join_into-requires-clause-room
join_into-requires-clause-room c =
    let part = c.args.self.now in
    subst (λ ps. length (joined part.routes.now.lists ps) ≤ 1000) (sym c.pieces.ensures.value) (list-of-part part).few

pub returns-clause-list : goal.returns-clause-list
returns-clause-list c = c.join_into.ensures ∙ ap (joined c.args.self.now.routes.now.lists) c.pieces.ensures.value

pub returns-clause-visits : goal.returns-clause-visits
returns-clause-visits c =
    let part = c.args.self.now in
    subst (λ l. IsTrue (list_all (is_visit part.model.now) l)) (sym (returns-clause-list c)) (list-of-part part).tour.visits

pub returns-clause-distinct : goal.returns-clause-distinct
returns-clause-distinct c =
    let part = c.args.self.now in
    subst (λ l. IsTrue (is_distinct l)) (sym (returns-clause-list c)) (list-of-part part).tour.distinct

pub returns-clause-few : goal.returns-clause-few
returns-clause-few c =
    let part = c.args.self.now in
    subst (λ l. length l ≤ 1000) (sym (returns-clause-list c)) (list-of-part part).few
