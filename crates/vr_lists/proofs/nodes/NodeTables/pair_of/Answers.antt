use Rattle.std.proofs.Common.{◌≡◌, ◌∙◌, ◌≤◌, ap, sym, arith, length}
use Rattle.std.specs.Prelude.{◌==◌, ◌||◌, slice_get}
use Rattle.std.proofs.lemmas.List.Folds.{find_at}
use Rattle.std.proofs.lemmas.Option.{slice_get_past}
use Rattle.vr_model.specs.declared.records.Model.{Model}
use Rattle.vr_model.specs.declared.records.Pair.{Pair}
use Rattle.vr_lists.specs.Nodes.{pair_number}
use Rattle.vr_lists.proofs.nodes.NodeTables.pair_of.Goals as goal

pub returns-then-k-len : goal.returns-then-k-len
returns-then-k-len c =
    let model = c.args.self.now in
    let node = c.args.node in
    sym c.get.ensures.some ∙ ap (λ (m : Model). slice_get m.pairs c.pair_number-k.result) c.self.view_is ∙ ap (slice_get model.pairs) c.pair_number-k.ensures
    ∙ sym (find_at (λ (pair : Pair). (pair.pickup == node) || (pair.delivery == node)) model.pairs)

pub returns : goal.returns
returns c =
    let model = c.args.self.now in
    let node = c.args.node in
    let many : c.len.result ≡ length model.pairs = c.len.ensures ∙ ap (λ (m : Model). length m.pairs) c.self.view_is in
    let past : length model.pairs ≤ pair_number model node = omega (arith, c.if-k-len.false, many, c.pair_number-k.ensures) in
    sym (find_at (λ (pair : Pair). (pair.pickup == node) || (pair.delivery == node)) model.pairs ∙ slice_get_past model.pairs (pair_number model node) past)
