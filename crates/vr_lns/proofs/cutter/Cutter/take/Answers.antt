use Rattle.std.proofs.Common.{◌∙◌, sym}
use Rattle.vr_model.proofs.routes.Lists.{are-lists, are_lists-count}
use Rattle.vr_rules.proofs.PlacingLemmas.{built-count}
use Rattle.vr_lns.proofs.cutter.Cutter.take.Goals as goal

pub assign-requires-clause-many : goal.assign-requires-clause-many
assign-requires-clause-many c =
    let model = c.args.self.now.model in
    let lists = c.args.routes.now.lists in
    are_lists-count model lists (are-lists model lists c.requires.holds.valid) ∙ sym (built-count model c.args.after.now.lists c.requires.built)
