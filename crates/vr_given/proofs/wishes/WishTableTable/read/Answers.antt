use Rattle.std.proofs.Common.{rules}
use Rattle.vr_json.proofs.Steps.{then, gives}
use Rattle.vr_given.specs.Givens.{wish}
use Rattle.vr_given.proofs.wishes.WishTableTable.read.Goals as goal

pub returns : goal.returns
unfolding wish
returns c = then _ c.in_ok-seed.ensures
    (then _ c.in_ok-removed.ensures (then _ c.in_ok-string.ensures (then _ c.in_ok-heat.ensures (then _ c.in_ok-known.ensures (gives (search rules))))))
