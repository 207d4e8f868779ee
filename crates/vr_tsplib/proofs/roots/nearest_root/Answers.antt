use Rattle.std.proofs.Common.{◌∙◌}
use Rattle.vr_tsplib.proofs.RootLemmas.{rounded_same, rounded_is_nearest}
use Rattle.vr_tsplib.proofs.roots.nearest_root.Goals as goal

pub returns-clause-root : goal.returns-clause-root
returns-clause-root c = λ r low high. c.rounded.ensures
    ∙ rounded_same c.args.n c.floor_root.result r c.floor_root.ensures (record { square_low = low; next_high = high })

pub returns-clause-value : goal.returns-clause-value
returns-clause-value c = c.rounded.ensures ∙ rounded_is_nearest c.args.n c.floor_root.result c.floor_root.ensures
