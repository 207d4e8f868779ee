use Rattle.std.proofs.Common.{sym, ap, ◌∙◌}
use Rattle.std.specs.Prelude.{◌&&◌}
use Rattle.vr_routes.specs.Changes.{after}
use Rattle.vr_pathfilters.proofs.AfterChanges.{tours_after}
use Rattle.vr_pathfilters.specs.Groups.{allows_pieces}
use Rattle.vr_pathfilters.proofs.GroupLemmas.{whole}
use Rattle.vr_pathfilters.proofs.groups.all_allow.Goals as goal

pub returns-then-pieces_allow : goal.returns-then-pieces_allow
returns-then-pieces_allow c parts made balance =
    let f = c.args.filter.now in
    let tours = c.args.routes.now in
    let rule = allows_pieces f.model.now f.numbers tours.lists f.balance in
    let all = whole f.model.now f.numbers tours c.requires.stands (after tours parts)
    (tours_after f.model.now tours c.requires.stands.tours_are parts made) f.balance balance in
    let first = sym (c.pieces_allow.ensures ∙ ap rule c.come.ensures.value) ∙ c.if-pieces_allow.true in
    c.pieces_allow-then-pieces_allow.ensures ∙ (ap rule c.gone.ensures.value ∙ (sym (ap (λ b. b && rule f.balance.gone) first) ∙ all))

pub returns-else-pieces_allow : goal.returns-else-pieces_allow
returns-else-pieces_allow c parts made balance =
    let f = c.args.filter.now in
    let tours = c.args.routes.now in
    let rule = allows_pieces f.model.now f.numbers tours.lists f.balance in
    let all = whole f.model.now f.numbers tours c.requires.stands (after tours parts)
    (tours_after f.model.now tours c.requires.stands.tours_are parts made) f.balance balance in
    let first = sym (c.pieces_allow.ensures ∙ ap rule c.come.ensures.value) ∙ c.if-pieces_allow.false in
    c.if-pieces_allow.false ∙ (sym (ap (λ b. b && rule f.balance.gone) first) ∙ all)
