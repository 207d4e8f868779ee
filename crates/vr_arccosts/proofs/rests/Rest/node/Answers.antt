use Rattle.std.proofs.Common.{◌∙◌, ap, sym}
use Rattle.std.specs.Prelude.{slice_index_or}
use Rattle.vr_arccosts.proofs.RestLemmas.{rest-at}
use Rattle.vr_arccosts.proofs.rests.Rest.node.Goals as goal

pub returns-clause-value : goal.returns-clause-value
returns-clause-value c =
    let rest = c.args.self.now in
    ap (λ n. slice_index_or rest.list.now n 0) c.place_of.ensures ∙ sym (rest-at rest.list.now rest.lo rest.hi rest.sound.order rest.sound.place c.args.place)
