use Rattle.std.proofs.Common.{◌∙◌, ◌+◌, ap}
use Rattle.std.specs.List.{swap}
use Rattle.vr_first_insert.proofs.MovedLemmas.{moved-on}
use Rattle.vr_first_insert.proofs.place.move_on.Goals as goal

pub returns : goal.returns
returns c = λ list node low is. c.swap.ensures ∙ ap (λ l. swap l c.args.t (c.args.t + 1)) is ∙ moved-on list c.args.t node low
