use Rattle.std.proofs.Common.{◌≡◌, ◌∙◌, ap, sym, length}
use Rattle.std.specs.Prelude.{nat_lt}
use Rattle.vr_model.specs.declared.records.Group.{Group}
use Rattle.vr_model.specs.declared.records.Model.{Model}
use Rattle.vr_model.specs.routes.Routes.{holds}
use Rattle.vr_lists.proofs.NodeLemmas.{any_number}
use Rattle.vr_lists.proofs.nodes.NodeTables.is_grouped.Goals as goal

pub returns : goal.returns
returns c =
    let groups = c.args.self.now.groups in
    let many : c.len.result ≡ length groups = c.len.ensures ∙ ap (λ (model : Model). length model.groups) c.self.view_is in
    (λ t. nat_lt (c.group_number.ensures t) (many t)) ∙ sym (any_number (λ (group : Group). holds group.nodes c.args.node) groups)
